-- The front verdict in the words of the answer.
use Rattle.std.proofs.Common.{◌≡◌, ℕ, List, [], ◌∷◌, ◌++◌, length, map, Ok, refl, sym, subst, ap, ◌∙◌, append_assoc}
use Rattle.xn_draw.specs.Seen.{seen_of}
use Rattle.xn_draw.specs.declared.results.Seen.{Seen}
use Rattle.xn_kinds.specs.declared.answers.Answer.{Answer}
use Rattle.xn_kinds.specs.declared.drawings.Drawing.{Drawing}
use Rattle.xn_proof.specs.Forms.{bounds_items, drawing_items, graph_items, items_of, rows_items, tree_items}
use Rattle.xn_proof.specs.Spelling.{turns_of}
use Rattle.xn_proof.specs.WellFormed.{WellFormed}
use Rattle.xn_proof.specs.declared.item.Item.{Item}
use Rattle.xn_proof.specs.declared.item.Item.TheVariants as item
use Rattle.xn_check.specs.FrontSaid.{FrontSaid, FrontSeen, front_seen, graph_said, no_front, no_seen}
use Rattle.xn_check.specs.Judging.{Rules}
use Rattle.xn_check.specs.Laws.{SeenWhereSpelled, SpellsFront}
use Rattle.xn_check.specs.Meaning.{FrontAgrees, IsDrawn}
use Rattle.xn_check.specs.Verdict.{FrontVerdict, draw_rules, front_rules}
use Rattle.xn_check.proofs.CheckLaw.{front_last}
use Rattle.xn_check.proofs.DrawLaw.{after_drawing}
use Rattle.xn_check.proofs.ItemKinds.{Each, Passes, each_join, each_map, proof_passes}
use Rattle.xn_check.proofs.Items.{AllAgree, agree_head, agree_join, agree_rest, all_said, said_join}
use Rattle.xn_check.proofs.Spelled.{said_so, says}

-- ---- items but `drawn`

abbrev IsOther : Item → Type 0
IsOther item.Drawn = ⊥
IsOther line = Unit {0}

other : (x : Item) (s : FrontSeen) → IsOther x → FrontAgrees s.front x × ((front_seen s x).seen ≡ s.seen)
other item.Drawn s p = absurd p
other (item.Header n) s p = (tt, refl)
other (item.Graph n m) s p = (tt, refl)
other (item.Loops l) s p = (tt, refl)
other (item.Edge u v) s p = (tt, refl)
other (item.Bounds l u) s p = (tt, refl)
other (item.Effort n m) s p = (tt, refl)
other (item.Along l) s p = (tt, refl)
other (item.Turn n m) s p = (tt, refl)
other (item.Rows n) s p = (tt, refl)
other (item.Row n) s p = (tt, refl)
other (item.Over e l) s p = (tt, refl)
other (item.Branch b) s p = (tt, refl)
other (item.Path q) s p = (tt, refl)
other (item.Extension l) s p = (tt, refl)
other item.Tree s p = (tt, refl)
other (item.Step n) s p = (tt, refl)
other item.End s p = (tt, refl)

-- they may mean anything, and change nothing that is seen
all_other : (xs : List Item) (s : FrontSeen) → Each IsOther xs → AllAgree front_rules s xs × ((all_said front_rules s xs).seen ≡ s.seen)
all_other [] s p = (tt, refl)
all_other (x ∷ xs) s p =
    let one = other x s p.0 in
    let rest = all_other xs (front_seen s x) p.1 in
    ((one.0, rest.0), rest.1 ∙ one.1)

passes_other : (x : Item) → Passes x → IsOther x
passes_other item.Drawn p = absurd p
passes_other (item.Header n) p = tt
passes_other (item.Graph n m) p = tt
passes_other (item.Loops l) p = tt
passes_other (item.Edge u v) p = tt
passes_other (item.Bounds l u) p = tt
passes_other (item.Effort n m) p = tt
passes_other (item.Along l) p = tt
passes_other (item.Turn n m) p = tt
passes_other (item.Rows n) p = tt
passes_other (item.Row n) p = tt
passes_other (item.Over e l) p = tt
passes_other (item.Branch b) p = tt
passes_other (item.Path q) p = tt
passes_other (item.Extension l) p = tt
passes_other item.Tree p = tt
passes_other (item.Step n) p = tt
passes_other item.End p = tt

each_other : (xs : List Item) → Each Passes xs → Each IsOther xs
each_other [] all = tt
each_other (x ∷ xs) all = (passes_other x all.0, each_other xs all.1)

-- ---- what is said, as by the rules for some graph

module _ (a : Answer) (fine : WellFormed a) where
  abbrev D : Rules FrontSaid Drawing
  D = draw_rules a.graph a.loops

  said_of_front : (xs : List Item) (s : FrontSeen) → (all_said front_rules s xs).front ≡ all_said D s.front xs
  said_of_front [] s = refl
  said_of_front (x ∷ xs) s = said_of_front xs (front_seen s x)

  abbrev start : FrontSeen
  start = record { front = no_front; seen = no_seen }

  abbrev before : List Item
  before = graph_items a.graph a.loops ++ (bounds_items a.lower a.upper a.spent a.budget ++ drawing_items a.drawing)

  abbrev after : List Item
  after = rows_items a.rows ++ tree_items a.tree

  apart : items_of a ≡ before ++ (item.Drawn ∷ after)
  apart =
      ap (λ (l : List Item). graph_items a.graph a.loops ++ l) (sym (append_assoc (bounds_items a.lower a.upper a.spent a.budget) (drawing_items a.drawing) (item.Drawn ∷ after)))
      ∙ sym (append_assoc (graph_items a.graph a.loops) (bounds_items a.lower a.upper a.spent a.budget ++ drawing_items a.drawing) (item.Drawn ∷ after))

  with_drawn : before ++ (item.Drawn ∷ []) ≡ graph_items a.graph a.loops ++ (bounds_items a.lower a.upper a.spent a.budget ++ (drawing_items a.drawing ++ item.Drawn ∷ []))
  with_drawn =
      append_assoc (graph_items a.graph a.loops) (bounds_items a.lower a.upper a.spent a.budget ++ drawing_items a.drawing) (item.Drawn ∷ [])
      ∙ ap (λ (l : List Item). graph_items a.graph a.loops ++ l) (append_assoc (bounds_items a.lower a.upper a.spent a.budget) (drawing_items a.drawing) (item.Drawn ∷ []))

  before_other : Each IsOther before
  before_other =
      each_join IsOther (graph_items a.graph a.loops) (bounds_items a.lower a.upper a.spent a.budget ++ drawing_items a.drawing)
      (tt, (tt, (tt, each_map IsOther (λ e. item.Edge e.0 e.1) (λ e. tt) a.graph.ends))) (
        tt,
        (
          tt,
          each_join IsOther (map (λ l. item.Along l) a.drawing.orders) (map (λ t. item.Turn t.0 t.1) (turns_of a.drawing.next))
              (each_map IsOther (λ l. item.Along l) (λ l. tt) a.drawing.orders) (each_map IsOther (λ t. item.Turn t.0 t.1) (λ t. tt) (turns_of a.drawing.next)),
        ),
      )

  after_other : Each IsOther after
  after_other = each_other after (proof_passes a.rows a.tree)

  -- before the line `drawn` the graph and the drawing of the answer are said
  abbrev drawn : FrontSaid
  drawn = after_drawing a.graph a.loops a

  before_said : (all_said front_rules start before).front ≡ drawn
  before_said =
      said_of_front before start
      ∙ sym (said_join D no_front before (item.Drawn ∷ []))
      ∙ ap (all_said D no_front) with_drawn
      ∙ front_last a.graph a.loops a fine

  seen_last : (all_said front_rules start (items_of a)).seen ≡ seen_of a.graph a.drawing.orders a.drawing.next
  seen_last =
      ap (λ (xs : List Item). (all_said front_rules start xs).seen) apart
      ∙ ap (λ (s : FrontSeen). s.seen) (said_join front_rules start before (item.Drawn ∷ after))
      ∙ (all_other after (front_seen (all_said front_rules start before) item.Drawn) after_other).1
      ∙ ap (λ (f : FrontSaid). seen_of (graph_said f) f.lists f.next) before_said

  is_drawn : AllAgree front_rules start (items_of a) → IsDrawn a.graph drawn
  is_drawn all =
      let rest = agree_rest front_rules start before (item.Drawn ∷ after) (subst (AllAgree front_rules start) apart all) in
      let here = agree_head front_rules (all_said front_rules start before) item.Drawn after rest in
      subst (λ (f : FrontSaid). IsDrawn (graph_said f) f) before_said here

  all_seen : IsDrawn a.graph drawn → AllAgree front_rules start (items_of a)
  all_seen is =
      let here = subst (λ (f : FrontSaid). IsDrawn (graph_said f) f) (sym before_said) is in
      let s = all_said front_rules start before in
      let rest = (all_other after (front_seen s item.Drawn) after_other).0 in
      subst (AllAgree front_rules start) (sym apart) (agree_join front_rules start before (item.Drawn ∷ after) (all_other before start before_other).0 (here, rest))

seen_is_spelled : (text : List ℕ) (seen : Seen) → FrontVerdict text (Ok seen) → SpellsFront text seen
seen_is_spelled text seen verdict =
    let h = says front_rules text seen verdict in
    let a = h.answer in
    let is = is_drawn a h.well_formed h.agree in
    let seen_is = h.out_is ∙ seen_last a h.well_formed in
    record {
      answer = a;
      well_formed = h.well_formed;
      text_is = h.text_is;
      is_seen = (is.0, seen_is);
      crossings = is.1 ∙ sym (ap (λ (s : Seen). s.crossings) seen_is);
    }

spelled_is_seen : (text : List ℕ) (seen : Seen) → SpellsFront text seen → FrontVerdict text (Ok seen)
spelled_is_seen text seen h =
    let a = h.answer in
    let count = h.crossings ∙ ap (λ (s : Seen). s.crossings) h.is_seen.1 in
    said_so front_rules text seen (record {
      answer = a;
      well_formed = h.well_formed;
      text_is = h.text_is;
      agree = all_seen a h.well_formed (h.is_seen.0, count);
      out_is = h.is_seen.1 ∙ sym (seen_last a h.well_formed);
    })

pub seen_where_spelled : SeenWhereSpelled
seen_where_spelled text seen = (seen_is_spelled text seen, spelled_is_seen text seen)
