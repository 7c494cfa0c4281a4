-- A loop that copies a list, element by element.
use Rattle.std.proofs.Common.{◌≡◌, ℕ, ◌+◌, ◌<◌, List, [], ◌∷◌, ◌++◌, length, map, take, ap, sym, ◌∙◌, get_or}
use Rattle.std.proofs.lemmas.List.{map-append, take_more}

-- one more element whose copy shows as it does
pub copied_more : {X Y : Type 0} (f : X → Y) (done xs : List X) (i : ℕ) (x y : X) → i < length xs → y ≡ get_or xs i y →
    map f done ≡ map f (take i xs) → f x ≡ f y → map f (done ++ x ∷ []) ≡ map f (take (i + 1) xs)
copied_more f done xs i x y below here so_far same =
    map-append f done (x ∷ [])
    ∙ ap (λ ys. ys ++ f x ∷ []) so_far
    ∙ ap (λ z. map f (take i xs) ++ z ∷ []) (same ∙ ap f here)
    ∙ sym (map-append f (take i xs) (get_or xs i y ∷ []))
    ∙ ap (map f) (sym (take_more xs i y below))
