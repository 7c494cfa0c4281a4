-- A text has at most one outcome.
use Rattle.std.proofs.Common.{◌≡◌, ℕ, inl, inr, Bool, true, false, List, [], ◌∷◌, Result, Ok, Err, sym, subst, ap, ◌∙◌, arith}
use Rattle.std.proofs.lemmas.Int.{ints}
use Rattle.std.specs.Prelude.{IfSome, Option, Some, None, ℤ, ◌≤ℤ◌, ◌<ℤ◌}
use Rattle.xn_draw.proofs.Excluded.{no_flaw, one_flaw}
use Rattle.xn_model.specs.Graph.{Graph}
use Rattle.xn_kinds.specs.Bound.{IsBound}
use Rattle.xn_kinds.specs.Row.{RowHolds}
use Rattle.xn_kinds.specs.State.{State}
use Rattle.xn_kinds.specs.declared.flaws.DrawFlaw.{DrawFlaw}
use Rattle.xn_kinds.specs.declared.flaws.Flaw.{Flaw}
use Rattle.xn_kinds.specs.declared.flaws.FlawKind.{FlawKind}
use Rattle.xn_kinds.specs.declared.flaws.FlawKind.TheVariants as kinds
use Rattle.xn_kinds.specs.declared.flaws.RowFlaw.{RowFlaw}
use Rattle.xn_kinds.specs.declared.rows.Row.{Row}
use Rattle.xn_kinds.specs.declared.trees.Node.{Node}
use Rattle.xn_kinds.specs.declared.trees.Node.TheVariants.{Pair, Place, Leaf}
use Rattle.xn_proof.specs.Forms.{Line, is_end, next_at, start_state, text_lines}
use Rattle.xn_proof.specs.Forms.{Reached as LineState}
use Rattle.xn_proof.specs.declared.item.Item.{Item}
use Rattle.xn_proof.specs.declared.item.Item.TheVariants as item
use Rattle.xn_rows.proofs.Excluded.{no_row_flaw, one_row_flaw}
use Rattle.xn_check.specs.FrontSaid.{FrontSaid, FrontSeen, graph_said}
use Rattle.xn_check.specs.Judging.{AtEnd, Judges, OnLine, Rules}
use Rattle.xn_check.specs.Laws.{OneDrawVerdict, OneFrontVerdict, OneVerdict}
use Rattle.xn_check.specs.Meaning.{Agrees, DrawnFails, Breaks, DrawAgrees, DrawBreaks, FrontAgrees, FrontBreaks, MayOpenFirst, NodeFails, PathFails, RowFails, StepFails, need_of}
use Rattle.xn_proof.specs.RowsSaid.{row_by_list, row_by_path}
use Rattle.xn_check.specs.Said.{Said}
use Rattle.xn_check.specs.Verdict.{check_rules, draw_rules, front_rules}

-- ---- any rules

-- no line both means what it must and fails, and it fails in one way
pub record AreClear {S A : Type 0} (rules : Rules S A) : Type 0 where
  pub apart : (s : S) (x : Item) (kind : FlawKind) → rules.agrees s x → rules.fails s x kind → ⊥
  pub one : (s : S) (x : Item) (k l : FlawKind) → rules.fails s x k → rules.fails s x l → k ≡ l

module _ {S A : Type 0} (rules : Rules S A) (clear : AreClear rules) where
  one_end : (b : Bool) (number : ℕ) (s : S) (o p : Result A Flaw) → AtEnd rules b number s o → AtEnd rules b number s p → o ≡ p
  one_end true number s o p first second = first ∙ sym second
  one_end false number s o p first second = first ∙ sym second

  one_on_line : (s : S) (number : ℕ) (r : Result (Item × LineState) Flaw) (Rest More : LineState → S → Type 0) (o p : Result A Flaw) →
      OnLine rules s number r Rest o → OnLine rules s number r More p → ((later : LineState) (t : S) → Rest later t → More later t → o ≡ p) → o ≡ p
  one_on_line s number (Err flaw) Rest More o p first second rest = first ∙ sym second
  one_on_line s number (Ok next) Rest More o p first second rest = elim first [
    | inl a ↦ elim second [
      | inl b ↦ rest next.1 (rules.more s next.0) a.1 b.1
      | inr b ↦ absurd (clear.apart s next.0 b.0 a.0 b.1)
    ]
    | inr a ↦ elim second [
      | inl b ↦ absurd (clear.apart s next.0 a.0 b.0 a.1)
      | inr b ↦
          a.2
          ∙ ap (λ (k : FlawKind). Err (record { line = number; kind = k })) (clear.one s next.0 a.0 b.0 a.1 b.1)
          ∙ sym b.2
    ]
  ]

  one_outcome : (lines : List Line) (at : LineState) (s : S) (o p : Result A Flaw) → Judges rules at s lines o → Judges rules at s lines p → o ≡ p
  one_outcome [] at s o p first second = one_end (is_end at.1) at.0 s o p first second
  one_outcome (line ∷ lines) at s o p first second =
      one_on_line s at.0 (next_at at line) (λ later said. Judges rules later said lines o) (λ later said. Judges rules later said lines p) o p first second
      (λ later t a b. one_outcome lines later t o p a b)

-- ---- lines up to `drawn`

module _ (g : Graph) (loops : ℕ) where
  drawn_apart : (f : FrontSaid) (kind : FlawKind) → DrawAgrees g loops f item.Drawn → DrawnFails g f kind → ⊥
  drawn_apart f kind agrees fails = elim fails [
    | inl flaw ↦ no_flaw g f.lists f.next agrees.0 flaw.0 flaw.1
    | inr count ↦ count.1 agrees.1
  ]

  front_apart : (f : FrontSaid) (x : Item) (kind : FlawKind) → DrawAgrees g loops f x → DrawBreaks g loops f x kind → ⊥
  front_apart f (item.Header n) kind agrees fails = fails
  front_apart f (item.Graph n m) kind agrees fails = fails.0 agrees
  front_apart f (item.Loops l) kind agrees fails = fails.0 agrees
  front_apart f (item.Edge u v) kind agrees fails = fails.0 agrees
  front_apart f (item.Bounds l u) kind agrees fails = fails
  front_apart f (item.Effort n m) kind agrees fails = fails
  front_apart f (item.Along l) kind agrees fails = fails
  front_apart f (item.Turn n m) kind agrees fails = fails
  front_apart f item.Drawn kind agrees fails = drawn_apart f kind agrees fails
  front_apart f (item.Rows n) kind agrees fails = fails
  front_apart f (item.Row n) kind agrees fails = fails
  front_apart f (item.Over e l) kind agrees fails = fails
  front_apart f (item.Branch b) kind agrees fails = fails
  front_apart f (item.Path p) kind agrees fails = fails
  front_apart f (item.Extension l) kind agrees fails = fails
  front_apart f item.Tree kind agrees fails = fails
  front_apart f (item.Step n) kind agrees fails = fails
  front_apart f item.End kind agrees fails = fails

  drawn_one : (f : FrontSaid) (k l : FlawKind) → DrawnFails g f k → DrawnFails g f l → k ≡ l
  drawn_one f k l first second = elim first [
    | inl a ↦ elim second [
      | inl b ↦ a.2 ∙ ap (λ (flaw : DrawFlaw). kinds.Draw flaw) (one_flaw g f.lists f.next a.0 b.0 a.1 b.1) ∙ sym b.2
      | inr b ↦ absurd (no_flaw g f.lists f.next b.0 a.0 a.1)
    ]
    | inr a ↦ elim second [
      | inl b ↦ absurd (no_flaw g f.lists f.next a.0 b.0 b.1)
      | inr b ↦ a.2 ∙ sym b.2
    ]
  ]

  front_one : (f : FrontSaid) (x : Item) (k l : FlawKind) → DrawBreaks g loops f x k → DrawBreaks g loops f x l → k ≡ l
  front_one f (item.Header n) k l first second = absurd first
  front_one f (item.Graph n m) k l first second = first.1 ∙ sym second.1
  front_one f (item.Loops n) k l first second = first.1 ∙ sym second.1
  front_one f (item.Edge u v) k l first second = first.1 ∙ sym second.1
  front_one f (item.Bounds n m) k l first second = absurd first
  front_one f (item.Effort n m) k l first second = absurd first
  front_one f (item.Along n) k l first second = absurd first
  front_one f (item.Turn n m) k l first second = absurd first
  front_one f item.Drawn k l first second = drawn_one f k l first second
  front_one f (item.Rows n) k l first second = absurd first
  front_one f (item.Row n) k l first second = absurd first
  front_one f (item.Over e n) k l first second = absurd first
  front_one f (item.Branch b) k l first second = absurd first
  front_one f (item.Path p) k l first second = absurd first
  front_one f (item.Extension n) k l first second = absurd first
  front_one f item.Tree k l first second = absurd first
  front_one f (item.Step n) k l first second = absurd first
  front_one f item.End k l first second = absurd first

  -- ---- rows

  row_one : (i : ℕ) (row : Row) (k l : FlawKind) → RowFails g i row k → RowFails g i row l → k ≡ l
  row_one i row k l first second =
      first.2 ∙ ap (λ (flaw : RowFlaw). kinds.Row i flaw) (one_row_flaw g row first.0 second.0 first.1 second.1) ∙ sym second.2

  path_apart : (i : ℕ) (o : Option Row) (kind : FlawKind) → IfSome o (RowHolds g) → PathFails g i o kind → ⊥
  path_apart i None kind holds fails = fails
  path_apart i (Some row) kind holds fails = no_row_flaw g row holds fails.0 fails.1

  path_one : (i : ℕ) (o : Option Row) (k l : FlawKind) → PathFails g i o k → PathFails g i o l → k ≡ l
  path_one i None k l first second = absurd first
  path_one i (Some row) k l first second = row_one i row k l first second

  -- ---- the tree

  bounds_meet : (a b : ℤ) → a ≤ℤ b → b ≤ℤ a → a ≡ b
  bounds_meet a b low high = omega (arith, ints, low, high)

  one_bound : (rows : List Row) (t : State) (d : ℕ) (parts : List (ℕ × ℕ)) (a b : ℤ) → IsBound g rows t d parts a → IsBound g rows t d parts b → a ≡ b
  one_bound rows t d parts a b first second =
      bounds_meet a b
      (subst (λ (v : ℤ). a ≤ℤ v) second.met.2 (first.below_all second.met.0 second.met.1))
      (subst (λ (v : ℤ). b ≤ℤ v) first.met.2 (second.below_all first.met.0 first.met.1))

  step_apart : (k : ℕ) (rows : List Row) (pending : List State) (n : ℕ) (node : Node) (kind : FlawKind) → MayOpenFirst g k rows pending node →
      StepFails g k rows pending n node kind → ⊥
  step_apart k rows [] n node kind keeps fails = keeps
  step_apart k rows (t ∷ pending) n (Pair e f) kind keeps fails = fails.0 keeps
  step_apart k rows (t ∷ pending) n (Place e f) kind keeps fails = fails.0 keeps
  step_apart k rows (t ∷ pending) n (Leaf d parts) kind keeps fails = elim fails [
    | inl shape ↦ shape.0 keeps.2.rise
    | inr weak ↦
        let strong = keeps.3 in
        let is_weak = weak.1 in
        is_weak.2 (subst (λ (b : ℤ). need_of k d <ℤ b) (one_bound rows t d parts strong.0 is_weak.0 strong.1 is_weak.1) strong.2)
  ]

  leaf_one : (k : ℕ) (rows : List Row) (t : State) (n d : ℕ) (parts : List (ℕ × ℕ)) (x y : FlawKind) →
      NodeFails g k rows t n (Leaf d parts) x → NodeFails g k rows t n (Leaf d parts) y → x ≡ y
  leaf_one k rows t n d parts x y first second = elim first [
    | inl a ↦ elim second [
      | inl b ↦ a.1 ∙ sym b.1
      | inr b ↦ absurd (a.0 b.0)
    ]
    | inr a ↦ elim second [
      | inl b ↦ absurd (b.0 a.0)
      | inr b ↦
          let v = a.1 in
          let w = b.1 in
          v.3 ∙ ap (λ (c : ℤ). kinds.Weak c (need_of k d)) (one_bound rows t d parts v.0 w.0 v.1 w.1) ∙ sym w.3
    ]
  ]

  step_one : (k : ℕ) (rows : List Row) (pending : List State) (n : ℕ) (node : Node) (x y : FlawKind) → StepFails g k rows pending n node x →
      StepFails g k rows pending n node y → x ≡ y
  step_one k rows [] n node x y first second = first ∙ sym second
  step_one k rows (t ∷ pending) n (Pair e f) x y first second = first.1 ∙ sym second.1
  step_one k rows (t ∷ pending) n (Place e f) x y first second = first.1 ∙ sym second.1
  step_one k rows (t ∷ pending) n (Leaf d parts) x y first second = leaf_one k rows t n d parts x y first second

  -- ---- all lines

  pub all_apart : (s : Said) (x : Item) (kind : FlawKind) → Agrees g loops s x → Breaks g loops s x kind → ⊥
  all_apart s (item.Path p) kind agrees fails = path_apart _ (row_by_path s.rows p) kind agrees fails
  all_apart s (item.Extension l) kind agrees fails = no_row_flaw g (row_by_list s.rows l) agrees fails.0 fails.1
  all_apart s (item.Step n) kind agrees fails = step_apart s.front.lower s.rows.whole s.tree.pending s.tree.nodes n kind agrees fails
  all_apart s item.End kind agrees fails = fails.0 agrees
  all_apart s (item.Header n) kind agrees fails = fails
  all_apart s (item.Graph n m) kind agrees fails = fails.0 agrees
  all_apart s (item.Loops l) kind agrees fails = fails.0 agrees
  all_apart s (item.Edge u v) kind agrees fails = fails.0 agrees
  all_apart s (item.Bounds l u) kind agrees fails = fails
  all_apart s (item.Effort n m) kind agrees fails = fails
  all_apart s (item.Along l) kind agrees fails = fails
  all_apart s (item.Turn n m) kind agrees fails = fails
  all_apart s item.Drawn kind agrees fails = drawn_apart s.front kind agrees fails
  all_apart s (item.Rows n) kind agrees fails = fails
  all_apart s (item.Row n) kind agrees fails = fails
  all_apart s (item.Over e l) kind agrees fails = fails
  all_apart s (item.Branch b) kind agrees fails = fails
  all_apart s item.Tree kind agrees fails = fails

  all_one : (s : Said) (x : Item) (k l : FlawKind) → Breaks g loops s x k → Breaks g loops s x l → k ≡ l
  all_one s (item.Path p) k l first second = path_one _ (row_by_path s.rows p) k l first second
  all_one s (item.Extension n) k l first second = row_one _ (row_by_list s.rows n) k l first second
  all_one s (item.Step n) k l first second = step_one s.front.lower s.rows.whole s.tree.pending s.tree.nodes n k l first second
  all_one s item.End k l first second = first.1 ∙ sym second.1
  all_one s (item.Header n) k l first second = absurd first
  all_one s (item.Graph n m) k l first second = first.1 ∙ sym second.1
  all_one s (item.Loops n) k l first second = first.1 ∙ sym second.1
  all_one s (item.Edge u v) k l first second = first.1 ∙ sym second.1
  all_one s (item.Bounds n m) k l first second = absurd first
  all_one s (item.Effort n m) k l first second = absurd first
  all_one s (item.Along n) k l first second = absurd first
  all_one s (item.Turn n m) k l first second = absurd first
  all_one s item.Drawn k l first second = drawn_one s.front k l first second
  all_one s (item.Rows n) k l first second = absurd first
  all_one s (item.Row n) k l first second = absurd first
  all_one s (item.Over e n) k l first second = absurd first
  all_one s (item.Branch b) k l first second = absurd first
  all_one s item.Tree k l first second = absurd first

pub one_verdict : OneVerdict
one_verdict g loops text o p first second =
    one_outcome (check_rules g loops) (record { apart = all_apart g loops; one = all_one g loops }) (text_lines text) start_state _ o p first second

pub one_draw_verdict : OneDrawVerdict
one_draw_verdict g loops text o p first second =
    one_outcome (draw_rules g loops) (record { apart = front_apart g loops; one = front_one g loops }) (text_lines text) start_state _ o p first second

-- ---- whatever the graph

seen_apart : (s : FrontSeen) (x : Item) (kind : FlawKind) → FrontAgrees s.front x → FrontBreaks s.front x kind → ⊥
seen_apart s item.Drawn kind agrees fails = drawn_apart (graph_said s.front) 0 s.front kind agrees fails
seen_apart s (item.Header n) kind agrees fails = fails
seen_apart s (item.Graph n m) kind agrees fails = fails
seen_apart s (item.Loops l) kind agrees fails = fails
seen_apart s (item.Edge u v) kind agrees fails = fails
seen_apart s (item.Bounds l u) kind agrees fails = fails
seen_apart s (item.Effort n m) kind agrees fails = fails
seen_apart s (item.Along l) kind agrees fails = fails
seen_apart s (item.Turn n m) kind agrees fails = fails
seen_apart s (item.Rows n) kind agrees fails = fails
seen_apart s (item.Row n) kind agrees fails = fails
seen_apart s (item.Over e l) kind agrees fails = fails
seen_apart s (item.Branch b) kind agrees fails = fails
seen_apart s (item.Path p) kind agrees fails = fails
seen_apart s (item.Extension l) kind agrees fails = fails
seen_apart s item.Tree kind agrees fails = fails
seen_apart s (item.Step n) kind agrees fails = fails
seen_apart s item.End kind agrees fails = fails

seen_one : (s : FrontSeen) (x : Item) (k l : FlawKind) → FrontBreaks s.front x k → FrontBreaks s.front x l → k ≡ l
seen_one s item.Drawn k l first second = drawn_one (graph_said s.front) 0 s.front k l first second
seen_one s (item.Header n) k l first second = absurd first
seen_one s (item.Graph n m) k l first second = absurd first
seen_one s (item.Loops n) k l first second = absurd first
seen_one s (item.Edge u v) k l first second = absurd first
seen_one s (item.Bounds n m) k l first second = absurd first
seen_one s (item.Effort n m) k l first second = absurd first
seen_one s (item.Along n) k l first second = absurd first
seen_one s (item.Turn n m) k l first second = absurd first
seen_one s (item.Rows n) k l first second = absurd first
seen_one s (item.Row n) k l first second = absurd first
seen_one s (item.Over e n) k l first second = absurd first
seen_one s (item.Branch b) k l first second = absurd first
seen_one s (item.Path p) k l first second = absurd first
seen_one s (item.Extension n) k l first second = absurd first
seen_one s item.Tree k l first second = absurd first
seen_one s (item.Step n) k l first second = absurd first
seen_one s item.End k l first second = absurd first

pub one_front_verdict : OneFrontVerdict
one_front_verdict text o p first second =
    one_outcome front_rules (record { apart = seen_apart; one = seen_one }) (text_lines text) start_state _ o p first second
