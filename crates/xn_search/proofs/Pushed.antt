-- How many pairs are decided 1 in the states that a node opens.
use Rattle.std.proofs.Common.{◌≡◌, ◌≢◌, ℕ, suc, ◌+◌, ◌≤◌, ◌-◌, true, false, List, [], ◌∷◌, ◌++◌, length, map, get_or, take, refl, sym, ◌∙◌, ap, ap₂, subst, arith, length-append}
use Rattle.std.specs.Prelude.{IfOk, Result, Ok, Err}
use Rattle.std.specs.List.{range_with_len}
use Rattle.std.proofs.lemmas.List.FromFn.{length-range_with_len}
use Rattle.std.proofs.Math.Seq.{get_or-append_seam}
use Rattle.xn_model.specs.Graph.{Graph, edges_of, pairs_of}
use Rattle.xn_model.specs.Lists.{total}
use Rattle.xn_kinds.specs.State.{State, decide, empty_state, place}
use Rattle.xn_kinds.specs.Tree.{Fits, children}
use Rattle.xn_kinds.specs.declared.trees.Node.{Node}
use Rattle.xn_kinds.specs.declared.trees.Node.TheVariants.{Pair, Place, Leaf}
use Rattle.xn_effort.specs.Potential.{ones_in}
use Rattle.xn_effort.proofs.Changed.{ones-decide}
use Rattle.xn_search.specs.Ones.{EndsWith, ones_of, with_children, with_copies}

-- ---- the last number

-- there is one
pub some_number : (numbers : List ℕ) (n : ℕ) → EndsWith numbers n → 1 ≤ length numbers
some_number numbers n ends = omega (arith, ap (length {A = ℕ}) ends.1, length-append ends.0 (n ∷ []))

-- at the last place
pub last_number : (numbers : List ℕ) (n i d : ℕ) → EndsWith numbers n → i ≡ length numbers - 1 → get_or numbers i d ≡ n
last_number numbers n i d ends place_is =
    let here : i ≡ length ends.0 = omega (arith, place_is, ap (length {A = ℕ}) ends.1, length-append ends.0 (n ∷ [])) in
    ap₂ (λ (xs : List ℕ) (k : ℕ). get_or xs k d) ends.1 here ∙ get_or-append_seam ends.0 n [] d

take_front : (xs ys : List ℕ) → take (length xs) (xs ++ ys) ≡ xs
take_front [] ys = refl
take_front (x ∷ xs) ys = ap (λ zs. x ∷ zs) (take_front xs ys)

-- without it
pub others : (numbers rest : List ℕ) (n i : ℕ) → numbers ≡ rest ++ n ∷ [] → i ≡ length numbers - 1 → take i numbers ≡ rest
others numbers rest n i ends place_is =
    let here : i ≡ length rest = omega (arith, place_is, ap (length {A = ℕ}) ends, length-append rest (n ∷ [])) in
    ap₂ (λ (xs : List ℕ) (k : ℕ). take k xs) ends here ∙ take_front rest (n ∷ [])

-- ---- the children of a node

zeros : (ps : List (ℕ × ℕ)) → total (λ (p : ℕ × ℕ). 0) ps ≡ 0
zeros [] = refl
zeros (p ∷ ps) = omega (arith, zeros ps)

-- nothing is decided in the empty state
pub no_ones : (g : Graph) → ones_in g empty_state ≡ 0
no_ones g = zeros (pairs_of g.ends (edges_of g))

places_counted : (g : Graph) (s : State) (e f : ℕ) (left : List State) (places : List ℕ) →
    ones_of g (map (place s e f) places ++ left) ≡ with_copies (ones_of g left) (length places) (ones_in g s)
places_counted g s e f left [] = refl
places_counted g s e f left (i ∷ places) = ap (λ ns. ns ++ ones_in g s ∷ []) (places_counted g s e f left places)

pub children_counted : (g : Graph) (s : State) (node : Node) (left : List State) → Fits g s node →
    with_children (ones_of g left) (ones_in g s) s node ≡ ones_of g (children s node ++ left)
children_counted g s (Pair e f) left fits =
    let apart : ones_in g (decide s e f false) ≡ ones_in g s + 0 = ones-decide g s e f false fits.0 fits.1 fits.2 fits.3 in
    let crossed : ones_in g (decide s e f true) ≡ ones_in g s + 1 = ones-decide g s e f true fits.0 fits.1 fits.2 fits.3 in
    let same : ones_in g s ≡ ones_in g (decide s e f false) = omega (arith, apart) in
    let more : suc (ones_in g s) ≡ ones_in g (decide s e f true) = omega (arith, crossed) in
    ap₂ (λ (a b : ℕ). (ones_of g left ++ a ∷ []) ++ b ∷ []) more same
children_counted g s (Place e f) left fits =
    let count : suc (length (s.placed e)) ≡ length (range_with_len 0 (suc (length (s.placed e)))) = sym (length-range_with_len 0 (suc (length (s.placed e)))) in
    ap (λ n. with_copies (ones_of g left) n (ones_in g s)) count ∙ sym (places_counted g s e f left (range_with_len 0 (suc (length (s.placed e)))))
children_counted g s (Leaf d parts) left fits = refl

-- so are those of the states that are pending then
pub opened_counted : (g : Graph) (s : State) (node : Node) (old rest new : List ℕ) (first : ℕ) → Fits g s node → first ≡ ones_in g s → new ≡ with_children rest first s node →
    ((left : List State) → old ≡ ones_of g (s ∷ left) → rest ≡ ones_of g left) →
    (left : List State) → old ≡ ones_of g (s ∷ left) → new ≡ ones_of g (children s node ++ left)
opened_counted g s node old rest new first fits first_is pushed rest_is left told =
    pushed ∙ ap₂ (λ (ns : List ℕ) (n : ℕ). with_children ns n s node) (rest_is left told) first_is ∙ children_counted g s node left fits

-- the first of some pending states has the last number
pub first_counted : (g : Graph) (pending : List State) (s : State) (ones : List ℕ) → ones ≡ ones_of g pending → pending ≢ [] →
    ((x : State) (rest : List State) → pending ≡ x ∷ rest → s ≡ x) → EndsWith ones (ones_in g s)
first_counted g [] s ones counted some is = absurd (some refl)
first_counted g (x ∷ rest) s ones counted some is =
    (ones_of g rest, subst (λ y. ones ≡ ones_of g rest ++ ones_in g y ∷ []) (sym (is x rest refl)) counted)

-- what follows from what is said of a result that is Ok
pub ok_map : {A E : Type 0} (result : Result A E) (P Q : Type 0) → (P → Q) → IfOk result (λ _. P) → IfOk result (λ _. Q)
ok_map (Ok x) P Q follows holds = follows holds
ok_map (Err e) P Q follows holds = tt
