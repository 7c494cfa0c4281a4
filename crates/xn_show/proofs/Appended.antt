-- A text that grows at its end.
use Rattle.std.proofs.Common.{◌≡◌, ℕ, zero, suc, ◌+◌, List, [], ◌∷◌, ◌++◌, length, decimal, refl, sym, ap, ◌∙◌, append_assoc, arith}
use Rattle.std.specs.List.{flat_map, range_with_len}
use Rattle.std.proofs.lemmas.List.{append-nil}
use Rattle.std.proofs.lemmas.List.Concat.{flat_map-append}
use Rattle.xn_model.proofs.Ranges.{range-push}
use Rattle.xn_show.specs.Darts.{dart_text}
use Rattle.xn_show.specs.Text.{spaced}

-- one piece more
pub then : {X : Type 0} (old a mid b new : List X) → mid ≡ old ++ a → new ≡ mid ++ b → new ≡ old ++ (a ++ b)
then old a mid b new p q = q ∙ ap (λ t. t ++ b) p ∙ append_assoc old a b

-- three pieces more
pub then_three : (old a one b two c new : List ℕ) → one ≡ old ++ a → two ≡ one ++ b → new ≡ two ++ c → new ≡ old ++ (a ++ (b ++ c))
then_three old a one b two c new p q r = then old a one (b ++ c) new p (then one b two c new q r)

last : (a n j : ℕ) → a + n ≡ j → range_with_len a (suc n) ≡ range_with_len a n ++ j ∷ []
last a zero j e = let same : a ≡ j = omega arith in ap (λ k. k ∷ []) same
last a (suc n) j e = ap (λ l. a ∷ l) (last (a + 1) n j (omega arith))

-- what is said of one number more
pub each_more : {X : Type 0} (f : ℕ → List X) (n : ℕ) (old mid new : List X) → mid ≡ old ++ flat_map f (range_with_len 0 n) → new ≡ mid ++ f n →
    new ≡ old ++ flat_map f (range_with_len 0 (n + 1))
each_more f n old mid new so_far more =
    then old (flat_map f (range_with_len 0 n)) mid (f n) new so_far more
    ∙ ap (λ t. old ++ t) (sym (ap (flat_map f) (range-push n) ∙ flat_map-append f (range_with_len 0 n) (n ∷ []) ∙ ap (λ t. flat_map f (range_with_len 0 n) ++ t) (append-nil (f n))))

-- one dart more
spaced_push : (ds : List ℕ) (d : ℕ) → spaced (ds ++ d ∷ []) ≡ spaced ds ++ dart_text (length ds) d
spaced_push [] d = refl
spaced_push (a ∷ []) d = refl
spaced_push (a ∷ b ∷ ds) d =
    ap (λ (t : List ℕ). decimal a ++ 32 ∷ t) (spaced_push (b ∷ ds) d) ∙ sym (append_assoc (decimal a) (32 ∷ spaced (b ∷ ds)) (32 ∷ decimal d))

pub spaced_more : (ds : List ℕ) (i d : ℕ) (old mid new : List ℕ) → length ds ≡ i → mid ≡ old ++ spaced ds → new ≡ mid ++ dart_text i d → new ≡ old ++ spaced (ds ++ d ∷ [])
spaced_more ds i d old mid new long so_far more =
    then old (spaced ds) mid (dart_text i d) new so_far more
    ∙ ap (λ (t : List ℕ). old ++ t) (ap (λ (n : ℕ). spaced ds ++ dart_text n d) (sym long) ∙ sym (spaced_push ds d))
