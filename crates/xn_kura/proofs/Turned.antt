-- Paths turned round, and some of the paths in another order.
use Rattle.std.proofs.Common.{◌≡◌, ◌≢◌, ℕ, zero, suc, ◌<◌, inl, inr, true, false, eqb, List, [], ◌∷◌, ◌++◌, length, reverse, refl, sym, ◌∙◌, ap, subst, arith}
use Rattle.std.specs.Prelude.{slice_index}
use Rattle.std.specs.List.{AllByRecursion, IsDistinct, concat}
use Rattle.std.proofs.lemmas.Bool.{cases_eq, cases_Bool, both_ways, cond-false, cond-true, eqb-true, eq-eqb, false_from_ne_true, ne_eqb, or_cases, or_left, or_right}
use Rattle.std.proofs.lemmas.List.{length-reverse, reverse-append}
use Rattle.xn_model.specs.Evidence.{IsPathSystem, LeadAll, LeadsTo, all_inner, far_end, inner_nodes}
use Rattle.xn_model.specs.Graph.{Graph, ends_at, touches}
use Rattle.xn_model.specs.Lists.{has}
use Rattle.xn_model.proofs.Has.{all_not, has-append, has-left, has-right}
use Rattle.xn_kura.proofs.Branches.{place_of}
use Rattle.xn_kura.proofs.Distinct.{distinct-apart, distinct-right}
use Rattle.xn_kura.proofs.MarkedPaths.{All-from_has}
use Rattle.xn_kura.proofs.Marking.{distinct-push}
use Rattle.xn_kura.proofs.Stages.{lead_all}
use Rattle.xn_kura.proofs.UsedPaths.{inner_at, lead_at, one_path, path_distinct}
use Rattle.xn_kura.specs.Flaws.{begins_at, goes_to, path_at}
use Rattle.xn_kura.specs.Laws.{AreSomePaths}

-- ---- lists turned round

pub reverse-cons : (x : ℕ) (xs : List ℕ) → reverse (x ∷ xs) ≡ reverse xs ++ x ∷ []
reverse-cons x xs = reverse-append (x ∷ []) xs

pub has-reverse : (xs : List ℕ) (y : ℕ) → has (reverse xs) y ≡ true → has xs y ≡ true
has-reverse [] y h = h
has-reverse (x ∷ xs) y h = elim (has-append (reverse xs) (x ∷ []) y (ap (λ zs. has zs y) (sym (reverse-cons x xs)) ∙ h)) [
  | inl earlier ↦ or_right (eqb x y) (has xs y) (has-reverse xs y earlier)
  | inr last ↦ elim (or_cases (eqb x y) false last) [
    | inl here ↦ or_left (eqb x y) (has xs y) here
    | inr none ↦ absurd (both_ways false refl none)
  ]
]

-- and the other way round
pub has-reversed : (xs : List ℕ) (y : ℕ) → has xs y ≡ true → has (reverse xs) y ≡ true
has-reversed [] y h = h
has-reversed (x ∷ xs) y h = ap (λ zs. has zs y) (reverse-cons x xs) ∙ elim (or_cases (eqb x y) (has xs y) h) [
  | inl here ↦ has-right (reverse xs) (x ∷ []) y (or_left (eqb x y) false here)
  | inr later ↦ has-left (reverse xs) (x ∷ []) y (has-reversed xs y later)
]

pub distinct-reverse : (xs : List ℕ) → IsDistinct eqb xs → IsDistinct eqb (reverse xs)
unfolding IsDistinct
distinct-reverse [] d = tt
distinct-reverse (x ∷ xs) d =
    let P : List ℕ → Type 0 = λ zs. IsDistinct eqb zs in
    subst P (sym (reverse-cons x xs)) (distinct-push (reverse xs) x (distinct-reverse xs d.1) (false_from_ne_true _ (λ h. all_not x xs d.0 x (has-reverse xs x h) refl)))

pub distinct-append : (xs ys : List ℕ) → IsDistinct eqb xs → IsDistinct eqb ys → ((x : ℕ) → has xs x ≡ true → has ys x ≡ true → ⊥) → IsDistinct eqb (xs ++ ys)
unfolding IsDistinct
distinct-append [] ys one two apart = two
distinct-append (x ∷ xs) ys one two apart =
    (others xs one.0, distinct-append xs ys one.1 two (λ y a b. apart y (or_right (eqb x y) (has xs y) a) b))
  where
    not_in : (zs : List ℕ) → (has zs x ≡ true → ⊥) → AllByRecursion (λ z. eqb x z ≡ false) zs
    not_in [] out = tt
    not_in (z ∷ zs) out = (
      ne_eqb x z (λ e. out (or_left (eqb z x) (has zs x) (eq-eqb z x (sym e)))),
      not_in zs (λ h. out (or_right (eqb z x) (has zs x) h)),
    )

    others : (zs : List ℕ) → AllByRecursion (λ z. eqb x z ≡ false) zs → AllByRecursion (λ z. eqb x z ≡ false) (zs ++ ys)
    others [] all = not_in ys (apart x (or_left (eqb x x) (has xs x) (eq-eqb x x refl)))
    others (z ∷ zs) all = (all.0, others zs all.1)

-- what stands in the joined lists stands in one of them
pub in_concat : (lists : List (List ℕ)) (x : ℕ) → has (concat lists) x ≡ true → (q : ℕ) × (q < length lists) × (has (path_at lists q) x ≡ true)
in_concat [] x h = absurd (both_ways false refl h)
in_concat (list ∷ lists) x h = elim (has-append list (concat lists) x h) [
  | inl here ↦ (0, omega arith, here)
  | inr later ↦ let found = in_concat lists x later in (suc found.0, omega (arith, found.1), found.2)
]

-- lists that are apart from each other, each without repeats, have none together
distinct-concat : (lists : List (List ℕ)) → ((q : ℕ) → q < length lists → IsDistinct eqb (path_at lists q)) →
    ((q r x : ℕ) → q < length lists → r < length lists → has (path_at lists q) x ≡ true → has (path_at lists r) x ≡ true → q ≡ r) → IsDistinct eqb (concat lists)
unfolding IsDistinct
distinct-concat [] each apart = tt
distinct-concat (list ∷ lists) each apart =
    distinct-append list (concat lists) (each 0 (omega arith))
    (distinct-concat lists (λ q q_in. each (suc q) (omega (arith, q_in))) (λ q r x q_in r_in a b.
    let same : suc q ≡ suc r = apart (suc q) (suc r) x (omega (arith, q_in)) (omega (arith, r_in)) a b in omega (arith, same)))
    (λ x a b.
    let found = in_concat lists x b in
    let same : 0 ≡ suc found.0 = apart 0 (suc found.0) x (omega arith) (omega (arith, found.1)) a found.2 in
    omega (arith, same))

-- ---- walks turned round

module _ (ends : List (ℕ × ℕ)) where
  leads-append : (u w v : ℕ) (xs ys : List ℕ) → LeadsTo ends u xs w → LeadsTo ends w ys v → LeadsTo ends u (xs ++ ys) v
  leads-append u w v [] ys one two = let P : ℕ → Type 0 = λ z. LeadsTo ends z ys v in subst P (sym one) two
  leads-append u w v (s ∷ xs) ys one two = (one.0, one.1, leads-append (far_end (ends_at ends s) u) w v xs ys one.2 two)

  -- the segment leads back
  back : (p : ℕ × ℕ) (u : ℕ) → touches p u ≡ true → (touches p (far_end p u) ≡ true) × (far_end p (far_end p u) ≡ u)
  back p u t = elim (cases_Bool (eqb p.0 u)) [
    | inl first ↦
        let is : far_end p u ≡ p.1 = cond-true _ _ _ first in
        let at : p.0 ≡ u = eqb-true p.0 u first in (
          ap (touches p) is ∙ or_right (eqb p.0 p.1) (eqb p.1 p.1) (eq-eqb p.1 p.1 refl),
          ap (far_end p) is ∙ elim (cases_eq p.0 p.1) [
            | inl same ↦ cond-true _ _ _ (eq-eqb p.0 p.1 same) ∙ sym same ∙ at
            | inr other ↦ cond-false _ _ _ (ne_eqb p.0 p.1 other) ∙ at
          ],
        )
    | inr second ↦
        let is : far_end p u ≡ p.0 = cond-false _ _ _ second in
        let at : p.1 ≡ u = elim (or_cases (eqb p.0 u) (eqb p.1 u) t) [ inl h ↦ absurd (both_ways _ second h) | inr h ↦ eqb-true p.1 u h ] in (
          ap (touches p) is ∙ or_left (eqb p.0 p.0) (eqb p.1 p.0) (eq-eqb p.0 p.0 refl),
          ap (far_end p) is ∙ cond-true _ _ _ (eq-eqb p.0 p.0 refl) ∙ at,
        )
  ]

  pub turned : (u v : ℕ) (path : List ℕ) → LeadsTo ends u path v → LeadsTo ends v (reverse path) u
  turned u v [] leads = sym leads
  turned u v (s ∷ path) leads =
      let w = far_end (ends_at ends s) u in
      let b = back (ends_at ends s) u leads.1 in
      let P : List ℕ → Type 0 = λ zs. LeadsTo ends v zs u in
      subst P (sym (reverse-cons s path)) (leads-append v w u (reverse path) (s ∷ []) (turned w v path leads.2) (leads.0, b.0, b.1))

  inner-push : (u w s : ℕ) (t : ℕ) (path : List ℕ) → LeadsTo ends u (t ∷ path) w → inner_nodes ends u ((t ∷ path) ++ s ∷ []) ≡ inner_nodes ends u (t ∷ path) ++ w ∷ []
  inner-push u w s t [] leads = ap (λ x. x ∷ []) leads.2
  inner-push u w s t (r ∷ path) leads = let x = far_end (ends_at ends t) u in ap (λ zs. x ∷ zs) (inner-push x w s r path leads.2)

  pub inner-turned : (u v : ℕ) (path : List ℕ) → LeadsTo ends u path v → inner_nodes ends v (reverse path) ≡ reverse (inner_nodes ends u path)
  inner-turned u v [] leads = refl
  inner-turned u v (s ∷ []) leads = refl
  inner-turned u v (s ∷ t ∷ path) leads =
      let w = far_end (ends_at ends s) u in
      let rest = turned w v (t ∷ path) leads.2 in
      ap (inner_nodes ends v) (reverse-cons s (t ∷ path)) ∙ pushed (reverse (t ∷ path)) (λ e. not_empty t path e) rest
      ∙ ap (λ zs. zs ++ w ∷ []) (inner-turned w v (t ∷ path) leads.2) ∙ sym (reverse-cons w (inner_nodes ends w (t ∷ path)))
    where
      not_empty : (t : ℕ) (path : List ℕ) → reverse (t ∷ path) ≢ []
      not_empty t path e =
          let long = ap length e in
          omega (arith, long, length-reverse (t ∷ path))

      pushed : (xs : List ℕ) → xs ≢ [] → LeadsTo ends v xs (far_end (ends_at ends s) u) →
          inner_nodes ends v (xs ++ s ∷ []) ≡ inner_nodes ends v xs ++ far_end (ends_at ends s) u ∷ []
      pushed [] some walk = absurd (some refl)
      pushed (x ∷ xs) some walk = inner-push v (far_end (ends_at ends s) u) s x xs walk

-- ---- some of the paths

-- the inner nodes of each path
inners : List (ℕ × ℕ) → List ℕ → List (ℕ × ℕ) → List (List ℕ) → List (List ℕ)
inners ends branch [] paths = []
inners ends branch (p ∷ pairs) [] = []
inners ends branch (p ∷ pairs) (path ∷ paths) = inner_nodes ends (slice_index branch p.0) path ∷ inners ends branch pairs paths

inners-concat : (ends : List (ℕ × ℕ)) (branch : List ℕ) (pairs : List (ℕ × ℕ)) (paths : List (List ℕ)) → concat (inners ends branch pairs paths) ≡ all_inner ends branch pairs paths
unfolding inners
inners-concat ends branch [] paths = refl
inners-concat ends branch (p ∷ pairs) [] = refl
inners-concat ends branch (p ∷ pairs) (path ∷ paths) = ap (λ xs. inner_nodes ends (slice_index branch p.0) path ++ xs) (inners-concat ends branch pairs paths)

inners_at : (ends : List (ℕ × ℕ)) (branch : List ℕ) (pairs : List (ℕ × ℕ)) (paths : List (List ℕ)) → length paths ≡ length pairs → (q : ℕ) → q < length pairs →
    path_at (inners ends branch pairs paths) q ≡ inner_nodes ends (begins_at pairs branch q) (path_at paths q)
unfolding inners
inners_at ends branch [] paths same q q_in = absurd (omega (arith, q_in))
inners_at ends branch (p ∷ pairs) [] same q q_in = absurd (omega (arith, same))
inners_at ends branch (p ∷ pairs) (path ∷ paths) same zero q_in = refl
inners_at ends branch (p ∷ pairs) (path ∷ paths) same (suc q) q_in = inners_at ends branch pairs paths (omega (arith, same)) q (omega (arith, q_in))

length-inners : (ends : List (ℕ × ℕ)) (branch : List ℕ) (pairs : List (ℕ × ℕ)) (paths : List (List ℕ)) → length paths ≡ length pairs → length (inners ends branch pairs paths) ≡ length pairs
unfolding inners
length-inners ends branch [] paths same = refl
length-inners ends branch (p ∷ pairs) [] same = absurd (omega (arith, same))
length-inners ends branch (p ∷ pairs) (path ∷ paths) same = ap suc (length-inners ends branch pairs paths (omega (arith, same)))

pub length-lead : (ends : List (ℕ × ℕ)) (branch : List ℕ) (pairs : List (ℕ × ℕ)) (paths : List (List ℕ)) → LeadAll ends branch pairs paths → length paths ≡ length pairs
length-lead ends branch [] [] lead = refl
length-lead ends branch [] (path ∷ paths) lead = absurd lead
length-lead ends branch (p ∷ pairs) [] lead = absurd lead
length-lead ends branch (p ∷ pairs) (path ∷ paths) lead = ap suc (length-lead ends branch pairs paths lead.1)

module _ (web : Graph) (pairs chosen : List (ℕ × ℕ)) (branch nodes : List ℕ) (paths turns : List (List ℕ)) (from : ℕ → ℕ)
    (is : IsPathSystem web pairs branch paths) (some : AreSomePaths pairs branch paths chosen nodes turns from) where
  abbrev ends : List (ℕ × ℕ)
  ends = web.ends

  abbrev inner_of : ℕ → List ℕ
  inner_of q = inner_nodes ends (begins_at pairs branch q) (path_at paths q)

  leads : (q : ℕ) → q < length pairs → LeadsTo ends (begins_at pairs branch q) (path_at paths q) (goes_to pairs branch q)
  leads q q_in = lead_at ends branch pairs paths is.lead q q_in

  as_long : length paths ≡ length pairs
  as_long = length-lead ends branch pairs paths is.lead

  -- in a chosen path, what is in the path that it is from
  record Follows (q : ℕ) : Type 0 where
    lead : LeadsTo ends (begins_at chosen nodes q) (path_at turns q) (goes_to chosen nodes q)
    segment : (s : ℕ) → has (path_at turns q) s ≡ true → has (path_at paths (from q)) s ≡ true
    once : IsDistinct eqb (path_at turns q)
    inner : (w : ℕ) → has (inner_nodes ends (begins_at chosen nodes q) (path_at turns q)) w ≡ true → has (inner_of (from q)) w ≡ true
    inner_once : IsDistinct eqb (inner_nodes ends (begins_at chosen nodes q) (path_at turns q))

  inner_distinct : (q : ℕ) → q < length pairs → IsDistinct eqb (inner_of q)
  inner_distinct q q_in =
      let P : List ℕ → Type 0 = λ xs. IsDistinct eqb xs in
      subst P (inners_at ends branch pairs paths as_long q q_in)
      (path_distinct (inners ends branch pairs paths) (subst P (sym (inners-concat ends branch pairs paths)) (distinct-right branch _ is.no_node_twice)) q)

  follows : (q : ℕ) → q < length chosen → Follows q
  follows q q_in =
      let r = from q in
      let r_in = some.below q q_in in
      let walk = leads r r_in in
      let once = path_distinct paths is.once r in
      let inner = inner_distinct r r_in in
      elim (some.same q q_in) [
        | inl h ↦ follow (begins_at pairs branch r) (goes_to pairs branch r) (path_at paths r) (sym h.0) (sym h.1) (sym h.2) walk (λ s t. t) once (λ w t. t) inner
        | inr h ↦ follow (goes_to pairs branch r) (begins_at pairs branch r) (reverse (path_at paths r)) (sym h.0) (sym h.1) (sym h.2)
            (turned ends (begins_at pairs branch r) (goes_to pairs branch r) (path_at paths r) walk) (λ s t. has-reverse (path_at paths r) s t)
            (distinct-reverse (path_at paths r) once)
            (λ w t. has-reverse (inner_of r) w (ap (λ xs. has xs w) (sym (inner-turned ends (begins_at pairs branch r) (goes_to pairs branch r) (path_at paths r) walk)) ∙ t))
            (let P : List ℕ → Type 0 = λ xs. IsDistinct eqb xs in
            subst P (sym (inner-turned ends (begins_at pairs branch r) (goes_to pairs branch r) (path_at paths r) walk)) (distinct-reverse (inner_of r) inner))
      ]
    where
      follow : (u v : ℕ) (path : List ℕ) → u ≡ begins_at chosen nodes q → v ≡ goes_to chosen nodes q → path ≡ path_at turns q →
          LeadsTo ends u path v → ((s : ℕ) → has path s ≡ true → has (path_at paths (from q)) s ≡ true) → IsDistinct eqb path →
          ((w : ℕ) → has (inner_nodes ends u path) w ≡ true → has (inner_of (from q)) w ≡ true) → IsDistinct eqb (inner_nodes ends u path) → Follows q
      follow u v path at_u at_v at_path lead segment once inner inner_once =
          let L : ℕ → List ℕ → ℕ → Type 0 = λ x xs y. LeadsTo ends x xs y in
          let I = ap (λ x. inner_nodes ends x path) at_u ∙ ap (inner_nodes ends (begins_at chosen nodes q)) at_path in
          let P : List ℕ → Type 0 = λ xs. IsDistinct eqb xs in
          let A : ℕ → Type 0 = λ x. L x path v in
          let B : List ℕ → Type 0 = λ xs. L (begins_at chosen nodes q) xs v in
          let C : ℕ → Type 0 = λ y. L (begins_at chosen nodes q) (path_at turns q) y in
          record {
            lead = subst C at_v (subst B at_path (subst A at_u lead));
            segment = λ s t. segment s (ap (λ xs. has xs s) at_path ∙ t);
            once = subst P at_path once;
            inner = λ w t. inner w (ap (λ xs. has xs w) I ∙ t);
            inner_once = subst P I inner_once;
          }

  one_inner : (q r w : ℕ) → q < length pairs → r < length pairs → has (inner_of q) w ≡ true → has (inner_of r) w ≡ true → q ≡ r
  one_inner q r w q_in r_in a b =
      let P : List ℕ → Type 0 = λ xs. IsDistinct eqb xs in
      one_path (inners ends branch pairs paths) (subst P (sym (inners-concat ends branch pairs paths)) (distinct-right branch _ is.no_node_twice)) q r w
      (ap (λ xs. has xs w) (inners_at ends branch pairs paths as_long q q_in) ∙ a) (ap (λ xs. has xs w) (inners_at ends branch pairs paths as_long r r_in) ∙ b)

  pub subdivision_of_some : IsPathSystem web chosen nodes turns
  subdivision_of_some =
      let P : List ℕ → Type 0 = λ xs. IsDistinct eqb xs in
      let long = length-inners ends nodes chosen turns some.as_many in
      let at : (q : ℕ) → q < length chosen → path_at (inners ends nodes chosen turns) q ≡ inner_nodes ends (begins_at chosen nodes q) (path_at turns q) = inners_at ends nodes chosen turns some.as_many in
      let inner_once : IsDistinct eqb (concat (inners ends nodes chosen turns)) = distinct-concat (inners ends nodes chosen turns)
      (λ q q_in. let q_in' : q < length chosen = omega (arith, q_in, long) in subst P (sym (at q q_in')) (follows q q_in').inner_once)
      (λ q r w q_in r_in a b.
      let q_in' : q < length chosen = omega (arith, q_in, long) in
      let r_in' : r < length chosen = omega (arith, r_in, long) in
      some.apart q r q_in' r_in' (one_inner (from q) (from r) w (some.below q q_in') (some.below r r_in')
      ((follows q q_in').inner w (ap (λ xs. has xs w) (sym (at q q_in')) ∙ a)) ((follows r r_in').inner w (ap (λ xs. has xs w) (sym (at r r_in')) ∙ b)))) in
      record {
        below = All-from_has (λ v. v < web.nodes) nodes (λ v v_has.
            let found = place_of branch v (some.among v v_has) in
            let low : slice_index branch found.0 < web.nodes = is.below found.0 0 found.1 in
            omega (arith, low, found.2));
        lead = lead_all ends nodes chosen turns some.as_many (λ q q_in. (follows q q_in).lead);
        once = distinct-concat turns
            (λ q q_in. (follows q (omega (arith, q_in, some.as_many))).once)
            (λ q r s q_in r_in a b.
            let q_in' : q < length chosen = omega (arith, q_in, some.as_many) in
            let r_in' : r < length chosen = omega (arith, r_in, some.as_many) in
            some.apart q r q_in' r_in' (one_path paths is.once (from q) (from r) s ((follows q q_in').segment s a) ((follows r r_in').segment s b)));
        no_node_twice = distinct-append nodes (all_inner ends nodes chosen turns) some.nodes_once (subst P (inners-concat ends nodes chosen turns) inner_once) (λ v a b.
            let inside : has (concat (inners ends nodes chosen turns)) v ≡ true = ap (λ xs. has xs v) (inners-concat ends nodes chosen turns) ∙ b in
            let found = in_concat (inners ends nodes chosen turns) v inside in
            let q_in : found.0 < length chosen = omega (arith, found.1, long) in
            distinct-apart branch _ is.no_node_twice v (some.among v a)
            (inner_at ends branch pairs paths is.lead (from found.0) (some.below found.0 q_in) v ((follows found.0 q_in).inner v (ap (λ xs. has xs v) (sym (at found.0 q_in)) ∙ found.2))));
      }
