-- What the items of an answer have to mean by the rules of a drawing.
use Rattle.std.proofs.Common.{◌≡◌, ℕ, zero, suc, ◌+◌, ◌*◌, List, [], ◌∷◌, ◌++◌, length, map, drop, refl, sym, subst, ap, ◌∙◌, arith, append_assoc}
use Rattle.std.proofs.lemmas.List.{append-nil, length_push}
use Rattle.std.proofs.Math.ListN.{drop_of_length-le}
use Rattle.std.proofs.Math.Seq.{drop-cons}
use Rattle.xn_model.specs.Graph.{Graph, ends_at}
use Rattle.xn_kinds.specs.declared.drawings.Drawing.{Drawing}
use Rattle.xn_proof.specs.Forms.{drawing_items}
use Rattle.xn_proof.specs.Fronts.{next_of}
use Rattle.xn_proof.specs.Spelling.{turns_of}
use Rattle.xn_proof.specs.declared.item.Item.{Item}
use Rattle.xn_proof.specs.declared.item.Item.TheVariants as item
use Rattle.xn_check.specs.FrontSaid.{FrontSaid, front_said}
use Rattle.xn_check.specs.Meaning.{DrawAgrees}
use Rattle.xn_check.specs.Verdict.{draw_rules}
use Rattle.xn_check.proofs.ItemKinds.{Each, Passes}
use Rattle.xn_check.proofs.Items.{AllAgree, agree_join, all_said, said_join}

module _ (g : Graph) (loops : ℕ) where
  passed : (x : Item) (f : FrontSaid) → Passes x → DrawAgrees g loops f x × (front_said f x ≡ f)
  passed (item.Header n) f p = (tt, refl)
  passed (item.Graph nodes edges) f p = absurd p
  passed (item.Loops l) f p = absurd p
  passed (item.Edge u v) f p = absurd p
  passed (item.Bounds lower upper) f p = absurd p
  passed (item.Effort spent budget) f p = (tt, refl)
  passed (item.Along list) f p = absurd p
  passed (item.Turn a b) f p = absurd p
  passed item.Drawn f p = absurd p
  passed (item.Rows n) f p = (tt, refl)
  passed (item.Row n) f p = (tt, refl)
  passed (item.Over e list) f p = (tt, refl)
  passed (item.Branch branch) f p = (tt, refl)
  passed (item.Path path) f p = (tt, refl)
  passed (item.Extension list) f p = (tt, refl)
  passed item.Tree f p = (tt, refl)
  passed (item.Step node) f p = (tt, refl)
  passed item.End f p = (tt, refl)

  -- such items change nothing
  pub all_passed : (xs : List Item) (f : FrontSaid) → Each Passes xs →
      AllAgree (draw_rules g loops) f xs × (all_said (draw_rules g loops) f xs ≡ f)
  all_passed [] f p = (tt, refl)
  all_passed (x ∷ xs) f p =
      let one = passed x f p.0 in
      let rest = all_passed xs f p.1 in
      subst (λ (h : FrontSaid). (DrawAgrees g loops f x × AllAgree (draw_rules g loops) h xs) × (all_said (draw_rules g loops) h xs ≡ f)) (sym one.1)
      ((one.0, rest.0), rest.1)

  -- ---- edges

  abbrev pub edge_items : List (ℕ × ℕ) → List Item
  edge_items es = map (λ e. item.Edge e.0 e.1) es

  pub edges_said : (es : List (ℕ × ℕ)) (f : FrontSaid) → all_said (draw_rules g loops) f (edge_items es) ≡ record f { ends = f.ends ++ es }
  edges_said [] f = ap (λ (es : List (ℕ × ℕ)). record f { ends = es }) (sym (append-nil f.ends))
  edges_said (e ∷ es) f =
      edges_said es (record f { ends = f.ends ++ e ∷ [] }) ∙ ap (λ (es : List (ℕ × ℕ)). record f { ends = es }) (append_assoc f.ends (e ∷ []) es)

  -- the edges that are said are those from the next one on
  pub edges_are : (es : List (ℕ × ℕ)) (f : FrontSaid) → length f.ends + length es ≡ length g.ends →
      AllAgree (draw_rules g loops) f (edge_items es) → es ≡ drop (length f.ends) g.ends
  edges_are [] f fits agree = sym (drop_of_length-le g.ends (omega (arith, fits)))
  edges_are (e ∷ es) f fits agree =
      let longer : length (f.ends ++ e ∷ []) ≡ suc (length f.ends) = omega (arith, length_push f.ends e) in
      let rest = edges_are es (record f { ends = f.ends ++ e ∷ [] }) (omega (arith, fits, longer)) agree.1 in
      ap (λ (x : ℕ × ℕ). x ∷ es) agree.0
      ∙ ap (λ (xs : List (ℕ × ℕ)). ends_at g.ends (length f.ends) ∷ xs) (rest ∙ ap (λ (n : ℕ). drop n g.ends) longer)
      ∙ sym (drop-cons g.ends (length f.ends) (0, 0) (omega (arith, fits)))

  pub edges_agree : (es : List (ℕ × ℕ)) (f : FrontSaid) → length f.ends + length es ≡ length g.ends → es ≡ drop (length f.ends) g.ends →
      AllAgree (draw_rules g loops) f (edge_items es)
  edges_agree [] f fits same = tt
  edges_agree (e ∷ es) f fits same =
      let split = same ∙ drop-cons g.ends (length f.ends) (0, 0) (omega (arith, fits)) in
      let first : e ≡ ends_at g.ends (length f.ends) = cc in
      let others : es ≡ drop (suc (length f.ends)) g.ends = cc in
      let longer : length (f.ends ++ e ∷ []) ≡ suc (length f.ends) = omega (arith, length_push f.ends e) in
      (first, edges_agree es (record f { ends = f.ends ++ e ∷ [] }) (omega (arith, fits, longer)) (others ∙ ap (λ (n : ℕ). drop n g.ends) (sym longer)))

  -- ---- order lists and turns

  alongs_said : (ls : List (List ℕ)) (f : FrontSaid) → let say = map (λ l. item.Along l) ls in
      AllAgree (draw_rules g loops) f say × (all_said (draw_rules g loops) f say ≡ record f { lists = f.lists ++ ls })
  alongs_said [] f = (tt, ap (λ (ls : List (List ℕ)). record f { lists = ls }) (sym (append-nil f.lists)))
  alongs_said (l ∷ ls) f =
      let rest = alongs_said ls (record f { lists = f.lists ++ l ∷ [] }) in
      ((tt, rest.0), rest.1 ∙ ap (λ (ls : List (List ℕ)). record f { lists = ls }) (append_assoc f.lists (l ∷ []) ls))

  turns_said : (ts : List (ℕ × ℕ)) (f : FrontSaid) → let say = map (λ t. item.Turn t.0 t.1) ts in
      AllAgree (draw_rules g loops) f say × (all_said (draw_rules g loops) f say ≡ record f { next = f.next ++ next_of ts })
  turns_said [] f = (tt, ap (λ (ns : List ℕ). record f { next = ns }) (sym (append-nil f.next)))
  turns_said (t ∷ ts) f =
      let rest = turns_said ts (record f { next = f.next ++ t.0 ∷ t.1 ∷ [] }) in
      ((tt, rest.0), rest.1 ∙ ap (λ (ns : List ℕ). record f { next = ns }) (append_assoc f.next (t.0 ∷ t.1 ∷ []) (next_of ts)))

next_is : (next : List ℕ) (k : ℕ) → length next ≡ 2 * k → next_of (turns_of next) ≡ next
next_is [] k long = refl
next_is (a ∷ []) zero long = absurd (omega arith)
next_is (a ∷ []) (suc k) long = absurd (omega arith)
next_is (a ∷ b ∷ next) zero long = absurd (omega arith)
next_is (a ∷ b ∷ next) (suc k) long = ap (λ (ns : List ℕ). a ∷ b ∷ ns) (next_is next k (omega (arith, long)))

module _ (g : Graph) (loops : ℕ) where
  -- the lists and the turns of a drawing
  pub drawing_said : (d : Drawing) (k : ℕ) (f : FrontSaid) → length d.next ≡ 2 * k →
      AllAgree (draw_rules g loops) f (drawing_items d)
      × (all_said (draw_rules g loops) f (drawing_items d) ≡ record f { lists = f.lists ++ d.orders; next = f.next ++ d.next })
  drawing_said d k f long =
      let R = draw_rules g loops in
      let alongs = map (λ l. item.Along l) d.orders in
      let turns = map (λ t. item.Turn t.0 t.1) (turns_of d.next) in
      let first = alongs_said g loops d.orders f in
      let h : FrontSaid = record f { lists = f.lists ++ d.orders } in
      let second = turns_said g loops (turns_of d.next) h in (
        agree_join R f alongs turns first.0 (subst (λ (s : FrontSaid). AllAgree R s turns) (sym first.1) second.0),
        said_join R f alongs turns
            ∙ ap (λ (s : FrontSaid). all_said R s turns) first.1
            ∙ second.1
            ∙ ap (λ (ns : List ℕ). record h { next = f.next ++ ns }) (next_is d.next k long),
      )
