-- The verdict in the words of the answer.
use Rattle.std.proofs.Common.{◌≡◌, ℕ, List, [], ◌∷◌, ◌++◌, length, map, Ok, sym, subst, ap, ◌∙◌, append_assoc}
use Rattle.std.specs.List.{flat_map}
use Rattle.xn_model.specs.Graph.{Graph}
use Rattle.xn_kinds.specs.Tree.{Accepts}
use Rattle.xn_kinds.specs.declared.answers.Answer.{Answer}
use Rattle.xn_kinds.specs.declared.drawings.Drawing.{Drawing}
use Rattle.xn_proof.specs.Forms.{bounds_items, drawing_items, graph_items, items_of, row_items, rows_items, tree_items}
use Rattle.xn_proof.specs.Spelling.{turns_of}
use Rattle.xn_proof.specs.WellFormed.{WellFormed}
use Rattle.xn_proof.specs.declared.item.Item.{Item}
use Rattle.xn_proof.specs.declared.item.Item.TheVariants as item
use Rattle.xn_check.specs.FrontSaid.{FrontSaid, no_front}
use Rattle.xn_check.specs.Judging.{Rules}
use Rattle.xn_check.specs.Laws.{AcceptedWhereSpelled, SpellsProof}
use Rattle.xn_proof.specs.RowsSaid.{RowsSaid, no_rows}
use Rattle.xn_check.specs.Said.{Said, nothing_said}
use Rattle.xn_check.specs.Verdict.{Verdict, check_rules, draw_rules}
use Rattle.xn_check.proofs.CheckItems.{all_front, all_of_rows, front_of_agree, front_of_said, tree_kept, tree_shows}
use Rattle.xn_check.proofs.DrawItems.{all_passed}
use Rattle.xn_check.proofs.DrawLaw.{IsFor, after_drawing, all_agree, is_for, said_last}
use Rattle.xn_check.proofs.ItemKinds.{Each, IsFront, each_join, each_map, proof_passes, rows_each}
use Rattle.xn_check.proofs.Items.{AllAgree, agree_first, agree_join, agree_rest, agree_tail, all_said, said_join}
use Rattle.xn_check.proofs.RowItems.{row_rules, rows_mean, whole_rows}
use Rattle.xn_check.proofs.Spelled.{said_so, says}

regroup : (x y z w : List Item) (d : Item) → x ++ (y ++ (z ++ (d ∷ w))) ≡ (x ++ (y ++ (z ++ d ∷ []))) ++ w
regroup x y z w d =
    ap (λ (l : List Item). x ++ (y ++ l)) (sym (append_assoc z (d ∷ []) w))
    ∙ ap (λ (l : List Item). x ++ l) (sym (append_assoc y (z ++ d ∷ []) w))
    ∙ sym (append_assoc x (y ++ (z ++ d ∷ [])) w)

module _ (g : Graph) (loops : ℕ) (a : Answer) (fine : WellFormed a) where
  abbrev R : Rules Said (ℕ × ℕ)
  R = check_rules g loops

  abbrev D : Rules FrontSaid Drawing
  D = draw_rules g loops

  -- the items up to `drawn`, and those after it
  abbrev front_items : List Item
  front_items = graph_items a.graph a.loops ++ (bounds_items a.lower a.upper a.spent a.budget ++ (drawing_items a.drawing ++ item.Drawn ∷ []))

  abbrev proof_items : List Item
  proof_items = rows_items a.rows ++ tree_items a.tree

  apart : items_of a ≡ front_items ++ proof_items
  apart = regroup (graph_items a.graph a.loops) (bounds_items a.lower a.upper a.spent a.budget) (drawing_items a.drawing) proof_items item.Drawn

  all_are_front : Each IsFront front_items
  all_are_front =
      each_join IsFront (graph_items a.graph a.loops) (bounds_items a.lower a.upper a.spent a.budget ++ (drawing_items a.drawing ++ item.Drawn ∷ []))
      (tt, (tt, (tt, each_map IsFront (λ e. item.Edge e.0 e.1) (λ e. tt) a.graph.ends))) (
        tt,
        (
          tt,
          each_join IsFront (drawing_items a.drawing) (item.Drawn ∷ [])
              (each_join IsFront (map (λ l. item.Along l) a.drawing.orders) (map (λ t. item.Turn t.0 t.1) (turns_of a.drawing.next))
              (each_map IsFront (λ l. item.Along l) (λ l. tt) a.drawing.orders) (each_map IsFront (λ t. item.Turn t.0 t.1) (λ t. tt) (turns_of a.drawing.next)))
              (tt, tt),
        ),
      )

  -- what is said up to `drawn`
  pub front_last : all_said D no_front front_items ≡ after_drawing g loops a
  front_last =
      sym (all_passed g loops proof_items (all_said D no_front front_items) (proof_passes a.rows a.tree)).1
      ∙ sym (said_join D no_front front_items proof_items)
      ∙ sym (ap (all_said D no_front) apart)
      ∙ said_last g loops a fine

  abbrev after_front : Said
  after_front = record nothing_said { front = after_drawing g loops a }

  abbrev after_rows : Said
  after_rows = record after_front { rows = whole_rows a.rows }

  front_all : all_said R nothing_said front_items ≡ after_front
  front_all =
      (all_front g loops front_items nothing_said all_are_front).1
      ∙ ap (λ (f : FrontSaid). record nothing_said { front = f }) front_last

  rows_all : all_said R after_front (rows_items a.rows) ≡ after_rows
  rows_all =
      (all_of_rows g loops (rows_items a.rows) after_front (rows_each a.rows)).2
      ∙ ap (λ (r : RowsSaid). record after_front { rows = r }) (rows_mean g (length a.graph.ends) a.rows [] fine.rows).said_is

  pub bounds_are : R.answer (all_said R nothing_said (items_of a)) ≡ (a.lower, a.upper)
  bounds_are = ap (λ (f : FrontSaid). (f.lower, f.upper)) (front_of_said g loops (items_of a) nothing_said ∙ said_last g loops a fine)

  pub accepts : AllAgree R nothing_said (items_of a) → Accepts g a.lower a.rows a.tree
  accepts all =
      let rows = rows_items a.rows in
      let tree = tree_items a.tree in
      let steps = map (λ n. item.Step n) a.tree ++ item.End ∷ [] in
      let after = agree_rest R nothing_said front_items proof_items (subst (AllAgree R nothing_said) apart all) in
      let proof = subst (λ (s : Said). AllAgree R s proof_items) front_all after in
      let of_rows = (all_of_rows g loops rows after_front (rows_each a.rows)).0 (agree_first R after_front rows tree proof) in
      let listed = agree_tail (row_rules g) no_rows (item.Rows (length a.rows)) (flat_map row_items a.rows) of_rows in
      let last = subst (λ (s : Said). AllAgree R s tree) rows_all (agree_rest R after_front rows tree proof) in
      record {
        rows_hold = (rows_mean g (length a.graph.ends) a.rows [] fine.rows).shows listed;
        tree = tree_shows g loops a.tree after_rows (agree_tail R after_rows item.Tree steps last);
      }

  pub all_kept : IsFor g loops a → Accepts g a.lower a.rows a.tree → AllAgree R nothing_said (items_of a)
  all_kept is accepted =
      let rows = rows_items a.rows in
      let tree = tree_items a.tree in
      let drawn = agree_first D no_front front_items proof_items (subst (AllAgree D no_front) apart (all_agree g loops a fine is)) in
      let front = (all_front g loops front_items nothing_said all_are_front).0 drawn in
      let held : AllAgree (row_rules g) no_rows rows = (tt, (rows_mean g (length a.graph.ends) a.rows [] fine.rows).kept accepted.rows_hold) in
      let of_rows = (all_of_rows g loops rows after_front (rows_each a.rows)).1 held in
      let last : AllAgree R after_rows tree = (tt, tree_kept g loops a.tree after_rows accepted.tree) in
      let proof = agree_join R after_front rows tree of_rows (subst (λ (s : Said). AllAgree R s tree) (sym rows_all) last) in
      let after = subst (λ (s : Said). AllAgree R s proof_items) (sym front_all) proof in
      subst (AllAgree R nothing_said) (sym apart) (agree_join R nothing_said front_items proof_items front after)

accepted_is_spelled : (g : Graph) (loops : ℕ) (text : List ℕ) (lower upper : ℕ) → Verdict g loops text (Ok (lower, upper)) →
    SpellsProof g loops text lower upper
accepted_is_spelled g loops text lower upper verdict =
    let h = says (check_rules g loops) text (lower, upper) verdict in
    let a = h.answer in
    let fine = h.well_formed in
    let is = is_for g loops a fine (front_of_agree g loops (items_of a) nothing_said h.agree) in
    let bounds : (a.lower, a.upper) ≡ (lower, upper) = sym (h.out_is ∙ bounds_are g loops a fine) in
    let low : a.lower ≡ lower = ap (λ (p : ℕ × ℕ). p.0) bounds in (
      a,
      record {
        well_formed = fine;
        text_is = h.text_is;
        same_graph = is.same_graph;
        same_loops = is.same_loops;
        drawing = is.drawing;
        crossings = is.crossings;
      },
      low,
      ap (λ (p : ℕ × ℕ). p.1) bounds,
      subst (λ (k : ℕ). Accepts g k a.rows a.tree) low (accepts g loops a fine h.agree),
    )

spelled_is_accepted : (g : Graph) (loops : ℕ) (text : List ℕ) (lower upper : ℕ) → SpellsProof g loops text lower upper →
    Verdict g loops text (Ok (lower, upper))
spelled_is_accepted g loops text lower upper h =
    let a = h.0 in
    let s = h.1 in
    let is : IsFor g loops a = record { same_graph = s.same_graph; same_loops = s.same_loops; drawing = s.drawing; crossings = s.crossings } in
    let accepted = subst (λ (k : ℕ). Accepts g k a.rows a.tree) (sym h.2) h.4 in
    let bounds : (lower, upper) ≡ (a.lower, a.upper) = sym (ap (λ (k : ℕ). (k, a.upper)) h.2 ∙ ap (λ (k : ℕ). (lower, k)) h.3) in
    said_so (check_rules g loops) text (lower, upper) (record {
      answer = a;
      well_formed = s.well_formed;
      text_is = s.text_is;
      agree = all_kept g loops a s.well_formed is accepted;
      out_is = bounds ∙ sym (bounds_are g loops a s.well_formed);
    })

pub accepted_where_spelled : AcceptedWhereSpelled
accepted_where_spelled g loops text lower upper = (accepted_is_spelled g loops text lower upper, spelled_is_accepted g loops text lower upper)
