-- The runs of all walks, the ends of a web's segments, and nodes without darts that go.
use Rattle.std.proofs.Common.{◌≡◌, ◌≢◌, ℕ, zero, suc, ◌+◌, ◌*◌, ◌<◌, ◌≤◌, true, List, [], ◌∷◌, length, map, refl, sym, ◌∙◌, ap, subst, arith, length-append}
use Rattle.std.specs.List.{IsDistinct, flat_map, range_with_len}
use Rattle.std.specs.Prelude.{nat_eq}
use Rattle.std.proofs.lemmas.Bool.{cond-false, ne_eqb}
use Rattle.std.proofs.lemmas.List.FromFn.{length-range_with_len, get_or-range_with_len}
use Rattle.xn_model.specs.Graph.{EndsIn}
use Rattle.xn_model.specs.Lists.{at, has}
use Rattle.xn_model.specs.Map.{MeetsEuler, IsMap, tail_of}
use Rattle.xn_genus.specs.Renumbering.{IsNodeRemoval}
use Rattle.xn_genus.proofs.Compress.{tail_in}
use Rattle.xn_genus.proofs.Nodes.{components_fewer, faces_fewer, lone_from, map_fewer}
use Rattle.xn_model.proofs.Has.{all_not, has-at, has-first, has-later}
use Rattle.xn_track.proofs.Blocks.{place, place_here, place_past, size_of}
use Rattle.xn_track.proofs.Runs.{Chained, Match, chained-append, match-append}

pub chained_all : (P : ℕ → Type 0) (walks : ℕ → List ℕ) (f : ℕ → List (ℕ × ℕ)) (es : List ℕ) → IsDistinct nat_eq es → (o end : ℕ) → end ≡ o + length (flat_map walks es) →
    ((e : ℕ) → has es e ≡ true → Chained P (o + place (size_of walks) es e) (f e) (o + place (size_of walks) es e + length (walks e))) →
    Chained P o (flat_map f es) end
unfolding IsDistinct
chained_all P walks f [] distinct o end sum each = omega (arith, sum)
chained_all P walks f (x ∷ xs) distinct o end sum each =
    let size = length-append (walks x) (flat_map walks xs) in
    let here = place_here (size_of walks) x xs x refl in
    let from : o + place (size_of walks) (x ∷ xs) x ≡ o = omega (arith, here) in
    let mid = o + length (walks x) in
    let A : ℕ → Type 0 = λ z. Chained P z (f x) (z + length (walks x)) in
    let one : Chained P o (f x) mid = subst A from (each x (has-first x xs)) in
    let rest = chained_all P walks f xs distinct.1 mid end (omega (arith, sum, size)) (λ e e_in.
    let past = place_past (size_of walks) x xs e (all_not x xs distinct.0 e e_in) in
    let e_from : o + place (size_of walks) (x ∷ xs) e ≡ mid + place (size_of walks) xs e = omega (arith, past) in
    let B : ℕ → Type 0 = λ z. Chained P z (f e) (z + length (walks e)) in
    subst B e_from (each e (has-later x xs e e_in))) in
    chained-append P o mid end (f x) (flat_map f xs) one rest

pub match_all : (F G : ℕ → ℕ → Type 0) (f h : ℕ → List (ℕ × ℕ)) (es : List ℕ) → ((e : ℕ) → has es e ≡ true → Match F G (f e) (h e)) → Match F G (flat_map f es) (flat_map h es)
match_all F G f h [] each = tt
match_all F G f h (x ∷ xs) each = match-append F G (f x) (h x) (flat_map f xs) (flat_map h xs) (each x (has-first x xs)) (match_all F G f h xs (λ e e_in. each e (has-later x xs e e_in)))

pub map-map : (f h : ℕ → ℕ) (xs : List ℕ) → map f (map h xs) ≡ map (λ x. f (h x)) xs
map-map f h [] = refl
map-map f h (x ∷ xs) = ap (λ ys. f (h x) ∷ ys) (map-map f h xs)

-- ---- ends of segments

pub ends-more : (n m : ℕ) (ps : List (ℕ × ℕ)) → n ≤ m → EndsIn n ps → EndsIn m ps
ends-more n m [] low h = tt
ends-more n m (p ∷ ps) low h = (omega (arith, h.0, low), omega (arith, h.1, low), ends-more n m ps low h.2)

-- ---- nodes past those that are used

pub used_alone : (used k : ℕ) (ends : List (ℕ × ℕ)) (next : ℕ → ℕ) → EndsIn used ends → IsMap (used + k) ends next → MeetsEuler (used + k) ends next →
    IsMap used ends next × MeetsEuler used ends next
used_alone used zero ends next ends_in map flat =
    let same : used + 0 ≡ used = omega arith in
    (subst (λ n. IsMap n ends next) same map, subst (λ n. MeetsEuler n ends next) same flat)
used_alone used (suc k) ends next ends_in map flat =
    let rest = used + k in
    let one : used + suc k ≡ suc rest = omega arith in
    let wide : IsMap (suc rest) ends next = subst (λ n. IsMap n ends next) one map in
    let wide_flat : MeetsEuler (suc rest) ends next = subst (λ n. MeetsEuler n ends next) one flat in
    let not_last : (d : ℕ) → d < 2 * length ends → tail_of ends d ≢ rest = λ d d_in at. let low = tail_in used ends ends_in d d_in in omega (arith, low, at) in
    let goes : IsNodeRemoval rest rest ends ends = record {
      is_there = omega arith;
      lone = lone_from ends rest not_last;
      all = refl;
      tails = λ d d_in. sym (cond-false _ _ _ (ne_eqb (tail_of ends d) rest (not_last d d_in)));
    } in
    let faces = faces_fewer rest rest ends ends next wide goes in
    let components = components_fewer rest rest ends ends next wide goes in
    used_alone used k ends next ends_in (map_fewer rest rest ends ends next wide goes) (omega (arith, wide_flat, faces, components))

-- ---- positions

pub has-range : (n v : ℕ) → v < n → has (range_with_len 0 n) v ≡ true
has-range n v v_in =
    let long = length-range_with_len 0 n in
    let here : at (range_with_len 0 n) v ≡ v = get_or-range_with_len 0 n v 0 v_in ∙ omega arith in
    subst (λ x. has (range_with_len 0 n) x ≡ true) here (has-at (range_with_len 0 n) v (omega (arith, v_in, long)))
