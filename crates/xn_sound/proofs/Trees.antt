-- A drawing lies in a child's state, so trees prove their bound.
use Rattle.std.proofs.Common.{◌≡◌, ℕ, zero, suc, ◌+◌, ◌<◌, ◌≤◌, ◌⊎◌, inl, inr, Bool, true, false, ◌&&◌, eqb, List, [], ◌∷◌, ◌++◌, length, map, refl, sym, ◌∙◌, ap, subst, arith}
use Rattle.std.specs.List.{range_with_len}
use Rattle.std.specs.Prelude.{Some, filter, insert, slice_index_or}
use Rattle.std.proofs.lemmas.Bool.{cases_Bool, cond-true, cond-false, eqb-true, and_parts}
use Rattle.xn_model.specs.Drawing.{IsSimpleDrawing}
use Rattle.xn_model.specs.Graph.{Graph}
use Rattle.xn_model.specs.Lists.{has}
use Rattle.xn_model.specs.Orders.{crossing_count}
use Rattle.xn_kinds.specs.Laws.{ValuesAreInTheBox}
use Rattle.xn_kinds.specs.State.{State, LiesIn, decide, empty_state, place}
use Rattle.xn_kinds.specs.Tree.{AreTrees, MayOpen, children}
use Rattle.xn_kinds.specs.declared.rows.Row.{Row}
use Rattle.xn_kinds.specs.declared.trees.Node.{Node}
use Rattle.xn_kinds.specs.declared.trees.Node.TheVariants.{Pair, Place, Leaf}
use Rattle.std.specs.Prelude.{All}
use Rattle.xn_sound.specs.Laws.{DrawingsLieInChildren, IsMet, TreesProve}
use Rattle.xn_sound.proofs.Leaves.{leaves_have_crossings}
use Rattle.xn_fewer.proofs.Placed.{placed_more}

-- ---- a child's state

lies_in_decided : (ord : ℕ → List ℕ) (s : State) (e f : ℕ) (x : Bool) → has (ord e) f ≡ x → LiesIn ord s → LiesIn ord (decide s e f x)
lies_in_decided ord s e f x is lies = record {
  decided = λ a b y told. elim (cases_Bool (eqb a e && eqb b f)) [
    | inl here ↦
        let parts : (eqb a e ≡ true) × (eqb b f ≡ true) = and_parts _ _ here in
        let value : Some x ≡ Some y = sym (cond-true _ _ _ here) ∙ told in
        let same : x ≡ y = cc in
        ap (λ z. has (ord z) b) (eqb-true a e parts.0) ∙ ap (has (ord e)) (eqb-true b f parts.1) ∙ is ∙ same
    | inr other ↦ lies.decided a b y (sym (cond-false _ _ _ other) ∙ told)
  ];
  placed = lies.placed;
}

lies_in_placed : (ord : ℕ → List ℕ) (s : State) (e f i : ℕ) → filter (has (insert (s.placed e) i f)) (ord e) ≡ insert (s.placed e) i f → LiesIn ord s →
    LiesIn ord (place s e f i)
lies_in_placed ord s e f i picks lies = record {
  decided = lies.decided;
  placed = λ a. elim (cases_Bool (eqb a e)) [
    | inl here ↦
        let P : ℕ → Type 0 = λ z. filter (has (insert (s.placed e) i f)) (ord z) ≡ insert (s.placed e) i f in
        rw here (subst P (sym (eqb-true a e here)) picks)
    | inr other ↦ rw other (lies.placed a)
  ];
}

-- the state at place i of a range's states
at_range : (h : ℕ → State) (a n i : ℕ) → i < n → slice_index_or (map h (range_with_len a n)) i empty_state ≡ h (a + i)
at_range h a zero i i_in = absurd (omega arith)
at_range h a (suc n) zero i_in = ap h (omega arith)
at_range h a (suc n) (suc i) i_in = at_range h (a + 1) n i (omega arith) ∙ ap h (omega arith)

length-range : (h : ℕ → State) (a n : ℕ) → length (map h (range_with_len a n)) ≡ n
length-range h a zero = refl
length-range h a (suc n) = ap suc (length-range h (a + 1) n)

pub drawings_lie_in_children : DrawingsLieInChildren
drawings_lie_in_children g k rows s (Pair e f) keeps inner ord next drawing lies = elim (cases_Bool (has (ord e) f)) [
  | inl crosses ↦ (1, omega arith, lies_in_decided ord s e f true crosses lies)
  | inr misses ↦ (0, omega arith, lies_in_decided ord s e f false misses lies)
]
drawings_lie_in_children g k rows s (Place e f) keeps inner ord next drawing lies =
    let crosses : has (ord e) f ≡ true = elim keeps.0 [
      | inl told ↦ lies.decided e f true told
      | inr told ↦ drawing.orders.both_ways f e (lies.decided f e true told)
    ] in
    let more = placed_more (s.placed e) (ord e) f (drawing.orders.no_repeats e) crosses keeps.1 (lies.placed e) in
    let h = place s e f in
    let count = suc (length (s.placed e)) in
    let is : slice_index_or (map h (range_with_len 0 count)) more.0 empty_state ≡ h more.0 = at_range h 0 count more.0 (omega (arith, more.1)) ∙ ap h (omega arith) in
    (more.0, omega (arith, more.1, length-range h 0 count), subst (LiesIn ord) (sym is) (lies_in_placed ord s e f more.0 more.2 lies))
drawings_lie_in_children g k rows s (Leaf d parts) keeps inner ord next drawing lies = absurd inner

-- ---- the whole tree

AnyLies : (ℕ → List ℕ) → List State → Type 0
AnyLies ord [] = ⊥
AnyLies ord (s ∷ states) = LiesIn ord s ⊎ AnyLies ord states

any_from_one : (ord : ℕ → List ℕ) (states : List State) (i : ℕ) → i < length states → LiesIn ord (slice_index_or states i empty_state) → AnyLies ord states
unfolding AnyLies
any_from_one ord [] i i_in lies = absurd (omega arith)
any_from_one ord (s ∷ states) zero i_in lies = inl lies
any_from_one ord (s ∷ states) (suc i) i_in lies = inr (any_from_one ord states i (omega arith) lies)

any_left : (ord : ℕ → List ℕ) (xs ys : List State) → AnyLies ord xs → AnyLies ord (xs ++ ys)
unfolding AnyLies
any_left ord [] ys h = absurd h
any_left ord (x ∷ xs) ys (inl h) = inl h
any_left ord (x ∷ xs) ys (inr h) = inr (any_left ord xs ys h)

any_right : (ord : ℕ → List ℕ) (xs ys : List State) → AnyLies ord ys → AnyLies ord (xs ++ ys)
unfolding AnyLies
any_right ord [] ys h = h
any_right ord (x ∷ xs) ys h = inr (any_right ord xs ys h)

module _ (boxed : ValuesAreInTheBox) (g : Graph) (k : ℕ) (rows : List Row) (met : All (IsMet g) rows) (ord : ℕ → List ℕ) (next : ℕ → ℕ) (drawing : IsSimpleDrawing g ord next) where
  -- it lies in a child's state or has k crossings
  node_shows : (s : State) (node : Node) → MayOpen g k rows s node → LiesIn ord s → AnyLies ord (children s node) ⊎ (k ≤ crossing_count g ord)
  node_shows s (Pair e f) keeps lies =
      let child = drawings_lie_in_children g k rows s (Pair e f) keeps tt ord next drawing lies in
      inl (any_from_one ord (children s (Pair e f)) child.0 child.1 child.2)
  node_shows s (Place e f) keeps lies =
      let child = drawings_lie_in_children g k rows s (Place e f) keeps tt ord next drawing lies in
      inl (any_from_one ord (children s (Place e f)) child.0 child.1 child.2)
  node_shows s (Leaf d parts) keeps lies = inr (leaves_have_crossings boxed g k rows s d parts met keeps ord next drawing lies)

  nodes_show : (nodes : List Node) (pending : List State) → AreTrees (MayOpen g k rows) children pending nodes → AnyLies ord pending → k ≤ crossing_count g ord
  unfolding AnyLies
  nodes_show [] [] tree lies = absurd lies
  nodes_show [] (s ∷ pending) tree lies = absurd tree
  nodes_show (node ∷ nodes) [] tree lies = absurd tree
  nodes_show (node ∷ nodes) (s ∷ pending) tree (inl here) = elim (node_shows s node tree.0 here) [
    | inl child ↦ nodes_show nodes (children s node ++ pending) tree.1 (any_left ord (children s node) pending child)
    | inr enough ↦ enough
  ]
  nodes_show (node ∷ nodes) (s ∷ pending) tree (inr later) =
      nodes_show nodes (children s node ++ pending) tree.1 (any_right ord (children s node) pending later)

pub trees_prove : ValuesAreInTheBox → TreesProve
unfolding AnyLies
trees_prove boxed g k rows s nodes met tree ord next drawing lies = nodes_show boxed g k rows met ord next drawing nodes (s ∷ []) tree (inl lies)
