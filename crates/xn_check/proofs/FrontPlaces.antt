-- By its place a line fits what was said of the graph so far.
use Rattle.std.proofs.Common.{◌≡◌, ℕ, zero, suc, ◌+◌, ◌≤◌, List, [], ◌∷◌, Ok, length, codes, refl, sym, subst, ap, arith}
use Rattle.std.proofs.lemmas.List.{length_push}
use Rattle.std.specs.Prelude.{Option, Some, None}
use Rattle.xn_graph.specs.Limits.{IsEdge}
use Rattle.xn_kinds.specs.declared.trees.Node.{Node}
use Rattle.xn_text.specs.Pieces.{words_of}
use Rattle.xn_proof.specs.Forms.{Line, Reached, alongs_from, edges_from, next_at, node_item, overs_from, paths_from, rows_from, start_item, start_paths, turns_from, words_at}
use Rattle.xn_proof.specs.Ranges.{edge_form, two_form}
use Rattle.xn_proof.specs.Reading.{◌>>=◌, keyed_form}
use Rattle.xn_proof.specs.declared.evidence.Start.{Start}
use Rattle.xn_proof.specs.declared.evidence.Start.TheVariants as start
use Rattle.xn_proof.specs.declared.item.Item.{Item}
use Rattle.xn_proof.specs.declared.item.Item.TheVariants as item
use Rattle.xn_proof.specs.declared.places.Block.{Block}
use Rattle.xn_proof.specs.declared.places.Place.{Place}
use Rattle.xn_proof.specs.declared.places.Place.TheVariants as place
use Rattle.xn_proof.proofs.Shapes.{keyed_form_takes}
use Rattle.xn_proof.proofs.Steps.{bind_ok, ok_is}
use Rattle.xn_proof.proofs.Values.{edge_is, two_is}
use Rattle.xn_check.specs.FrontFits.{FrontFits, FrontStands}
use Rattle.xn_check.specs.FrontSaid.{FrontSaid, front_said}
use Rattle.xn_check.proofs.Taken.{given, taken}

module _ (f : FrontSaid) where
  edges_stand : (nodes e count : ℕ) → f.nodes ≡ nodes → nodes ≤ 1000 → length f.ends ≡ e → e + count ≤ 1000 → FrontStands (edges_from nodes e count) f
  edges_stand nodes e zero same few said fits = tt
  edges_stand nodes e (suc more) same few said fits = (same, few, omega (arith, fits), said)

  turns_stand : (m count : ℕ) → FrontStands (turns_from m count) f
  turns_stand m zero = tt
  turns_stand m (suc more) = tt

  alongs_stand : (m segments count : ℕ) → FrontStands (alongs_from m segments count) f
  alongs_stand m segments zero = turns_stand m segments
  alongs_stand m segments (suc more) = tt

  rows_stand : (m rows count : ℕ) → FrontStands (rows_from m rows count) f
  rows_stand m rows zero = tt
  rows_stand m rows (suc more) = tt

  overs_stand : (b : Block) (count : ℕ) → FrontStands (overs_from b count) f
  overs_stand b zero = tt
  overs_stand b (suc more) = tt

  paths_stand : (b : Block) (count : ℕ) → FrontStands (paths_from b count) f
  paths_stand b zero = rows_stand b.edges b.rows b.more
  paths_stand b (suc more) = tt

-- ---- one line more

module _ (f : FrontSaid) where
  -- the line fits, and the next place does after it
  abbrev pub Ready : Item × Place → Type 0
  Ready y = FrontFits f y.0 × FrontStands y.1 (front_said f y.0)

  size_ready : (i : ℕ) (words : List (List ℕ)) (y : Item × Place) → words_at place.Graph i words ≡ Ok y → f.ends ≡ [] → Ready y
  size_ready i words y e none =
      let k = bind_ok (keyed_form (codes "graph") (two_form 1000 1000) i words) (λ x. Ok (item.Graph x.0 x.1, place.Loops x.0 x.1)) y e in
      let small =
      (keyed_form_takes (codes "graph") (two_form 1000 1000) (λ p. p.0 ∷ p.1 ∷ []) (λ p. (p.0 ≤ 1000) × (p.1 ≤ 1000)) (two_is 1000 1000 (omega arith) (omega arith)) i words k.0 k.1).1 in
      subst Ready (ok_is (item.Graph k.0.0 k.0.1, place.Loops k.0.0 k.0.1) y k.2) ((small.0, none), (refl, small.0, small.1, none))

  edge_ready : (nodes e more i : ℕ) (words : List (List ℕ)) (y : Item × Place) → words_at (place.Edge nodes e more) i words ≡ Ok y →
      FrontStands (place.Edge nodes e more) f → Ready y
  edge_ready nodes e more i words y eq stands =
      let same = stands.0 in
      let few = stands.1 in
      let k = bind_ok (keyed_form (codes "edge") (edge_form nodes e) i words) (λ x. Ok (item.Edge x.0 x.1, edges_from nodes (e + 1) more)) y eq in
      let edge = (keyed_form_takes (codes "edge") (edge_form nodes e) (λ p. p.0 ∷ p.1 ∷ []) (IsEdge nodes) (edge_is nodes e (omega (arith, few))) i words k.0 k.1).1 in
      let longer = length_push f.ends (k.0.0, k.0.1) in
      subst Ready (ok_is (item.Edge k.0.0 k.0.1, edges_from nodes (e + 1) more) y k.2) (
        (omega (arith, stands.2, stands.3), subst (λ (n : ℕ). IsEdge n (k.0.0, k.0.1)) (sym same) edge),
        edges_stand (front_said f (item.Edge k.0.0 k.0.1)) nodes (e + 1) more same few (omega (arith, longer, stands.3)) (omega (arith, stands.2)),
      )

  evidence_ready : (b : Block) (st : Start) → Ready (start_item st, paths_from b (start_paths st))
  evidence_ready b (start.Five branch) = (tt, paths_stand f b 10)
  evidence_ready b (start.ThreeThree branch) = (tt, paths_stand f b 9)
  evidence_ready b (start.Extension list) = (tt, paths_stand f b 0)

  node_ready : (m rows : ℕ) (o : Option Node) → Ready (node_item m rows o)
  node_ready m rows (Some node) = (tt, tt)
  node_ready m rows None = (tt, tt)

  words_ready : (p : Place) (i : ℕ) (words : List (List ℕ)) (y : Item × Place) → words_at p i words ≡ Ok y → FrontStands p f → Ready y
  words_ready place.Header i words y e stands = let r = given _ _ y e in subst Ready r.1 (tt, stands)
  words_ready place.Graph i words y e stands = size_ready i words y e stands
  words_ready (place.Loops nodes m) i words y e stands =
      let r = given _ _ y e in
      subst Ready r.1 (tt, edges_stand f nodes 0 m stands.0 stands.1 (ap (λ (es : List (ℕ × ℕ)). length es) stands.3) (omega (arith, stands.2)))
  words_ready (place.Edge nodes e more) i words y eq stands = edge_ready nodes e more i words y eq stands
  words_ready (place.Bounds m) i words y e stands = let r = given _ _ y e in subst Ready r.1 (tt, tt)
  words_ready (place.Effort m) i words y e stands = let r = given _ _ y e in subst Ready r.1 (tt, alongs_stand f m m m)
  words_ready (place.Along m segments more) i words y e stands =
      let r = given _ _ y e in subst Ready r.1 (tt, alongs_stand (front_said f (item.Along r.0)) m _ more)
  words_ready (place.Turn m more) i words y e stands =
      let r = given _ _ y e in subst Ready r.1 (tt, turns_stand (front_said f (item.Turn r.0.0 r.0.1)) m more)
  words_ready (place.Drawn m) i words y e stands = let r = given _ _ y e in subst Ready r.1 (tt, tt)
  words_ready (place.Rows m) i words y e stands = let r = given _ _ y e in subst Ready r.1 (tt, rows_stand f m r.0 r.0)
  words_ready (place.Row b) i words y e stands = let r = given _ _ y e in subst Ready r.1 (tt, overs_stand f b r.0)
  words_ready (place.Over b more) i words y e stands = let r = given _ _ y e in subst Ready r.1 (tt, overs_stand f b more)
  words_ready (place.Evidence b) i words y e stands = let r = given _ _ y e in subst Ready r.1 (evidence_ready b r.0)
  words_ready (place.Path b more) i words y e stands = let r = given _ _ y e in subst Ready r.1 (tt, paths_stand f b more)
  words_ready (place.Tree m rows) i words y e stands = let r = given _ _ y e in subst Ready r.1 (tt, tt)
  words_ready (place.Node m rows) i words y e stands = let r = given _ _ y e in subst Ready r.1 (node_ready m rows r.0)
  words_ready place.Nothing i words y e stands = absurd cc

  pub line_ready : (at : Reached) (line : Line) (next : Item × Reached) → next_at at line ≡ Ok next → FrontStands at.1 f → Ready (next.0, next.1.1)
  line_ready at line next is stands = words_ready at.1 at.0 (words_of line.0) (next.0, next.1.1) (taken at line next is) stands
