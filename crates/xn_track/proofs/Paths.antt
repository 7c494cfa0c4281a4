-- Walks as paths from dart to dart: parts, joins, and the way back.
use Rattle.std.proofs.Common.{◌≡◌, ℕ, zero, suc, ◌+◌, ◌*◌, ◌/◌, ◌<◌, Bool, true, false, eqb, List, [], ◌∷◌, ◌++◌, length, take, drop, refl, sym, ◌∙◌, ap, subst, arith, length-append}
use Rattle.std.proofs.lemmas.List.{get_or_append_left, get_or_at}
use Rattle.xn_model.specs.Graph.{Graph}
use Rattle.xn_model.specs.Lists.{at, one_if}
use Rattle.xn_model.specs.Loose.{times_walked}
use Rattle.xn_model.specs.Map.{WalksTo, reverse_of, tail_of}
use Rattle.xn_model.proofs.Darts.{reverse-reverse, reverse_below}
use Rattle.xn_genus.proofs.Compress.{half_reverse}
use Rattle.xn_track.specs.Relinking.{PassesTo}
use Rattle.xn_track.specs.Steps.{reverse_walk, turned_walk}
use Rattle.xn_track.specs.Track.{GoesOn, straight_on}

-- the walk begins with the dart a and comes by z at last; L of each seam
abbrev pub Path : ℕ → (ℕ → ℕ → Type 0) → ℕ → List ℕ → ℕ → Type 0
Path count L a [] z = ⊥
Path count L a (d ∷ []) z = (d < 2 * count) × (d ≡ a) × (reverse_of d ≡ z)
Path count L a (d ∷ e ∷ ds) z = (d < 2 * count) × (d ≡ a) × L (reverse_of d) e × Path count L e (e ∷ ds) z

pub path_append : (count : ℕ) (L : ℕ → ℕ → Type 0) (a w b z : ℕ) (ds es : List ℕ) → Path count L a ds w → L w b → Path count L b es z → Path count L a (ds ++ es) z
path_append count L a w b z [] es p l q = absurd p
path_append count L a w b z (d ∷ []) [] p l q = absurd q
path_append count L a w b z (d ∷ []) (e ∷ []) p l q =
    let P : ℕ → Type 0 = λ x. L x e in
    let K : ℕ → Type 0 = λ x. L w x in
    (p.0, p.1, subst P (sym p.2) (subst K (sym q.1) l), (q.0, refl, q.2))
path_append count L a w b z (d ∷ []) (e ∷ f ∷ es) p l q =
    let P : ℕ → Type 0 = λ x. L x e in
    let K : ℕ → Type 0 = λ x. L w x in
    (p.0, p.1, subst P (sym p.2) (subst K (sym q.1) l), (q.0, refl, q.2, q.3))
path_append count L a w b z (d ∷ d' ∷ ds) es p l q = (p.0, p.1, p.2, path_append count L d' w b z (d' ∷ ds) es p.3 l q)

pub path_take : (count : ℕ) (L : ℕ → ℕ → Type 0) (a z : ℕ) (ds : List ℕ) → Path count L a ds z → (i : ℕ) → suc i < length ds → Path count L a (take (suc i) ds) (reverse_of (at ds i))
path_take count L a z [] p i i_in = absurd p
path_take count L a z (d ∷ []) p i i_in = absurd (omega arith)
path_take count L a z (d ∷ e ∷ ds) p zero i_in = (p.0, p.1, refl)
path_take count L a z (d ∷ e ∷ ds) p (suc i) i_in = (p.0, p.1, p.2, path_take count L e z (e ∷ ds) p.3 i (omega arith))

pub path_drop : (count : ℕ) (L : ℕ → ℕ → Type 0) (a z : ℕ) (ds : List ℕ) → Path count L a ds z → (i : ℕ) → suc i < length ds → Path count L (at ds (suc i)) (drop (suc i) ds) z
path_drop count L a z [] p i i_in = absurd p
path_drop count L a z (d ∷ []) p i i_in = absurd (omega arith)
path_drop count L a z (d ∷ e ∷ ds) p zero i_in = p.3
path_drop count L a z (d ∷ e ∷ ds) p (suc i) i_in = path_drop count L e z (e ∷ ds) p.3 i (omega arith)

pub path_seam : (count : ℕ) (L : ℕ → ℕ → Type 0) (a z : ℕ) (ds : List ℕ) → Path count L a ds z → (i : ℕ) → suc i < length ds → L (reverse_of (at ds i)) (at ds (suc i))
path_seam count L a z [] p i i_in = absurd p
path_seam count L a z (d ∷ []) p i i_in = absurd (omega arith)
path_seam count L a z (d ∷ e ∷ ds) p zero i_in = p.2
path_seam count L a z (d ∷ e ∷ ds) p (suc i) i_in = path_seam count L e z (e ∷ ds) p.3 i (omega arith)

pub path_in : (count : ℕ) (L : ℕ → ℕ → Type 0) (a z : ℕ) (ds : List ℕ) → Path count L a ds z → (i : ℕ) → i < length ds → at ds i < 2 * count
path_in count L a z [] p i i_in = absurd p
path_in count L a z (d ∷ []) p zero i_in = p.0
path_in count L a z (d ∷ []) p (suc i) i_in = absurd (omega arith)
path_in count L a z (d ∷ e ∷ ds) p zero i_in = p.0
path_in count L a z (d ∷ e ∷ ds) p (suc i) i_in = path_in count L e z (e ∷ ds) p.3 i (omega arith)

pub path_ends_in : (count : ℕ) (L : ℕ → ℕ → Type 0) (a z : ℕ) (ds : List ℕ) → Path count L a ds z → (a < 2 * count) × (z < 2 * count)
path_ends_in count L a z [] p = absurd p
path_ends_in count L a z (d ∷ []) p = let low = reverse_below count d p.0 in (omega (arith, p.0, p.1), omega (arith, p.2, low))
path_ends_in count L a z (d ∷ e ∷ ds) p = let rest = path_ends_in count L e z (e ∷ ds) p.3 in (omega (arith, p.0, p.1), rest.1)

-- other seams, where each is one too
pub path_map : (count more : ℕ) (L K : ℕ → ℕ → Type 0) (a z : ℕ) (ds : List ℕ) → more ≡ count → Path count L a ds z →
    ((i : ℕ) → suc i < length ds → L (reverse_of (at ds i)) (at ds (suc i)) → K (reverse_of (at ds i)) (at ds (suc i))) → Path more K a ds z
path_map count more L K a z [] same p each = absurd p
path_map count more L K a z (d ∷ []) same p each = (omega (arith, p.0, same), p.1, p.2)
path_map count more L K a z (d ∷ e ∷ ds) same p each =
    (omega (arith, p.0, same), p.1, each 0 (omega arith) p.2, path_map count more L K e z (e ∷ ds) same p.3 (λ i i_in. each (suc i) (omega (arith, i_in))))

pub path_reverse : (count : ℕ) (L : ℕ → ℕ → Type 0) → ((x y : ℕ) → L x y → L y x) → (a z : ℕ) (ds : List ℕ) → Path count L a ds z → Path count L z (reverse_walk ds) a
path_reverse count L back a z [] p = absurd p
path_reverse count L back a z (d ∷ []) p = (reverse_below count d p.0, p.2, reverse-reverse d ∙ p.1)
path_reverse count L back a z (d ∷ e ∷ ds) p =
    path_append count L z e (reverse_of d) a (reverse_walk (e ∷ ds)) (reverse_of d ∷ []) (path_reverse count L back e z (e ∷ ds) p.3) (back (reverse_of d) e p.2)
    (reverse_below count d p.0, refl, reverse-reverse d ∙ p.1)

pub length-reverse_walk : (ds : List ℕ) → length (reverse_walk ds) ≡ length ds
length-reverse_walk [] = refl
length-reverse_walk (d ∷ ds) = let rest = length-reverse_walk ds in let sum = length-append (reverse_walk ds) (reverse_of d ∷ []) in omega (arith, rest, sum)

pub at-reverse_walk : (ds : List ℕ) (i k : ℕ) → i + suc k ≡ length ds → at (reverse_walk ds) i ≡ reverse_of (at ds k)
at-reverse_walk [] i k sum = absurd (omega arith)
at-reverse_walk (d ∷ ds) i zero sum =
    let long = length-reverse_walk ds in
    get_or_at (reverse_walk ds) (reverse_of d) [] 0 i (omega (arith, sum, long))
at-reverse_walk (d ∷ ds) i (suc k) sum =
    let long = length-reverse_walk ds in
    get_or_append_left (reverse_walk ds) (reverse_of d ∷ []) 0 i (omega (arith, sum, long)) ∙ at-reverse_walk ds i k (omega (arith, sum))

-- ---- how often segments are walked

pub times-append : (s : ℕ) (ds es : List ℕ) → times_walked s (ds ++ es) ≡ times_walked s ds + times_walked s es
times-append s [] es = omega arith
times-append s (d ∷ ds) es = let rest = times-append s ds es in omega (arith, rest)

pub times-reverse : (s : ℕ) (ds : List ℕ) → times_walked s (reverse_walk ds) ≡ times_walked s ds
times-reverse s [] = refl
times-reverse s (d ∷ ds) =
    let rest = times-reverse s ds in
    let sum = times-append s (reverse_walk ds) (reverse_of d ∷ []) in
    let here : one_if (eqb (reverse_of d / 2) s) ≡ one_if (eqb (d / 2) s) = ap (λ x. one_if (eqb x s)) (half_reverse d) in
    omega (arith, rest, sum, here)

pub times-turned : (s : ℕ) (t : Bool) (ds : List ℕ) → times_walked s (turned_walk t ds) ≡ times_walked s ds
times-turned s true ds = times-reverse s ds
times-turned s false ds = refl

pub times-take-drop : (s i : ℕ) (ds : List ℕ) → times_walked s (take i ds) + times_walked s (drop i ds) ≡ times_walked s ds
times-take-drop s zero ds = omega arith
times-take-drop s (suc i) [] = refl
times-take-drop s (suc i) (d ∷ ds) = let rest = times-take-drop s i ds in omega (arith, rest)

-- ---- and the walks of the definitions

pub to_path : (nodes : ℕ) (web : Graph) (next : ℕ → ℕ) (four : ℕ → Bool) (u v : ℕ) (ds : List ℕ) → WalksTo web.ends u ds v → GoesOn nodes web.ends (straight_on web.ends four next) ds →
    0 < length ds → (z : ℕ) × Path (length web.ends) (PassesTo nodes web next four) (at ds 0) ds z × (tail_of web.ends (at ds 0) ≡ u) × (tail_of web.ends z ≡ v)
to_path nodes web next four u v [] walk goes some = absurd (omega arith)
to_path nodes web next four u v (d ∷ []) walk goes some = (reverse_of d, (walk.0, refl, refl), walk.1, walk.2)
to_path nodes web next four u v (d ∷ e ∷ ds) walk goes some =
    let rest = to_path nodes web next four (tail_of web.ends (reverse_of d)) v (e ∷ ds) walk.2 goes.2 (omega arith) in
    let seam : PassesTo nodes web next four (reverse_of d) e = record {
      x_in = reverse_below (length web.ends) d walk.0;
      y_in = walk.2.0;
      high = omega (arith, goes.0, rest.2);
      one_node = rest.2;
      goes = goes.1;
    } in
    (rest.0, (walk.0, refl, seam, rest.1), walk.1, rest.3)

pub from_path : (nodes : ℕ) (web : Graph) (next : ℕ → ℕ) (four : ℕ → Bool) (a z : ℕ) (ds : List ℕ) → Path (length web.ends) (PassesTo nodes web next four) a ds z →
    WalksTo web.ends (tail_of web.ends a) ds (tail_of web.ends z) × GoesOn nodes web.ends (straight_on web.ends four next) ds
from_path nodes web next four a z [] p = absurd p
from_path nodes web next four a z (d ∷ []) p = ((p.0, ap (tail_of web.ends) p.1, ap (tail_of web.ends) p.2), tt)
from_path nodes web next four a z (d ∷ e ∷ ds) p =
    let rest = from_path nodes web next four e z (e ∷ ds) p.3 in
    let seam = p.2 in
    let P : ℕ → Type 0 = λ u. WalksTo web.ends u (e ∷ ds) (tail_of web.ends z) in (
      (p.0, ap (tail_of web.ends) p.1, subst P seam.one_node rest.0),
      (omega (arith, seam.high, seam.one_node), seam.goes, rest.1),
    )
