-- A text that grows at its end.
use Rattle.std.proofs.Common.{◌≡◌, ℕ, zero, suc, ◌+◌, ◌*◌, ◌<◌, ◌≤◌, List, [], ◌∷◌, ◌++◌, length, map, take, get_or, decimal, refl, sym, ap, ◌∙◌, append_assoc, arith}
use Rattle.std.proofs.lemmas.List.{append-nil, take_more}
use Rattle.std.specs.List.{join_with_byte}
use Rattle.xn_proof.specs.Spelling.{each, line, numbers_of, overs_of, spaced, turns_of}

pub spaced-append : (ms ns : List ℕ) → spaced (ms ++ ns) ≡ spaced ms ++ spaced ns
spaced-append [] ns = refl
spaced-append (m ∷ ms) ns = ap (λ (t : List ℕ). 32 ∷ (decimal m ++ t)) (spaced-append ms ns) ∙ ap (λ (t : List ℕ). 32 ∷ t) (sym (append_assoc (decimal m) (spaced ms) (spaced ns)))

-- words that are joined by spaces are the first word and the others behind a space each
joined_spaced : (key : List ℕ) (ns : List ℕ) → join_with_byte 32 (key ∷ map decimal ns) ≡ key ++ spaced ns
joined_spaced key [] = sym (append-nil key)
joined_spaced key (n ∷ ns) = ap (λ (t : List ℕ). key ++ 32 ∷ t) (joined_spaced (decimal n) ns)

pub line_is_spaced : (key : List ℕ) (ns : List ℕ) → line key ns ≡ key ++ (spaced ns ++ 10 ∷ [])
unfolding line
line_is_spaced key ns = ap (λ (t : List ℕ). t ++ 10 ∷ []) (joined_spaced key ns) ∙ append_assoc key (spaced ns) (10 ∷ [])

-- one step more
pub then : (old a mid b new : List ℕ) → mid ≡ old ++ a → new ≡ mid ++ b → new ≡ old ++ (a ++ b)
then old a mid b new p q = q ∙ ap (λ (t : List ℕ). t ++ b) p ∙ append_assoc old a b

-- what is spelled of the elements before place i, and of the one there
each_push : {X : Type 0} (spell : X → List ℕ) (xs : List X) (x : X) → each spell (xs ++ x ∷ []) ≡ each spell xs ++ spell x
each_push spell [] x = append-nil (spell x)
each_push spell (y ∷ ys) x = ap (λ (t : List ℕ). spell y ++ t) (each_push spell ys x) ∙ sym (append_assoc (spell y) (each spell ys) (spell x))

pub each_more : {X : Type 0} (spell : X → List ℕ) (xs : List X) (i : ℕ) (d : X) (old mid new : List ℕ) → i < length xs → mid ≡ old ++ each spell (take i xs) → new ≡ mid ++ spell (get_or xs i d) →
    new ≡ old ++ each spell (take (i + 1) xs)
each_more spell xs i d old mid new low so_far more =
    then old (each spell (take i xs)) mid (spell (get_or xs i d)) new so_far more
    ∙ ap (λ (t : List ℕ). old ++ t) (sym (each_push spell (take i xs) (get_or xs i d)) ∙ ap (each spell) (sym (take_more xs i d low)))

-- one number more
pub spaced_more : (ns : List ℕ) (i : ℕ) (old mid new : List ℕ) → i < length ns → mid ≡ old ++ spaced (take i ns) → new ≡ mid ++ spaced (get_or ns i 0 ∷ []) → new ≡ old ++ spaced (take (i + 1) ns)
spaced_more ns i old mid new low so_far more =
    then old (spaced (take i ns)) mid (spaced (get_or ns i 0 ∷ [])) new so_far more
    ∙ ap (λ (t : List ℕ). old ++ t) (sym (spaced-append (take i ns) (get_or ns i 0 ∷ [])) ∙ ap spaced (sym (take_more ns i 0 low)))

-- one pair more
numbers_of-append : (ps qs : List (ℕ × ℕ)) → numbers_of (ps ++ qs) ≡ numbers_of ps ++ numbers_of qs
numbers_of-append [] qs = refl
numbers_of-append (p ∷ ps) qs = ap (λ (ns : List ℕ). p.0 ∷ p.1 ∷ ns) (numbers_of-append ps qs)

pub pairs_more : (ps : List (ℕ × ℕ)) (i : ℕ) (old mid between new : List ℕ) → i < length ps → mid ≡ old ++ spaced (numbers_of (take i ps)) →
    between ≡ mid ++ spaced ((get_or ps i (0, 0)).0 ∷ []) → new ≡ between ++ spaced ((get_or ps i (0, 0)).1 ∷ []) → new ≡ old ++ spaced (numbers_of (take (i + 1) ps))
pairs_more ps i old mid between new low so_far first second =
    let p : ℕ × ℕ = get_or ps i (0, 0) in
    let both : new ≡ mid ++ spaced (p.0 ∷ p.1 ∷ []) = then mid (spaced (p.0 ∷ [])) between (spaced (p.1 ∷ [])) new first second ∙ ap (λ (t : List ℕ). mid ++ t) (sym (spaced-append (p.0 ∷ []) (p.1 ∷ []))) in
    then old (spaced (numbers_of (take i ps))) mid (spaced (p.0 ∷ p.1 ∷ [])) new so_far both
    ∙ ap (λ (t : List ℕ). old ++ t) (sym (spaced-append (numbers_of (take i ps)) (p.0 ∷ p.1 ∷ [])) ∙ ap spaced (sym (numbers_of-append (take i ps) (p ∷ [])) ∙ ap numbers_of (sym (take_more ps i (0, 0) low))))

-- a line is its key, its numbers and the byte 10
pub line_put : (key ns old keyed numbered new : List ℕ) → keyed ≡ old ++ key → numbered ≡ keyed ++ spaced ns → new ≡ numbered ++ 10 ∷ [] → new ≡ old ++ line key ns
line_put key ns old keyed numbered new p q r =
    then old (key ++ spaced ns) numbered (10 ∷ []) new (then old key keyed (spaced ns) numbered p q) r
    ∙ ap (λ (t : List ℕ). old ++ t) (append_assoc key (spaced ns) (10 ∷ []) ∙ sym (line_is_spaced key ns))

pub line_put_two : (key ms ns old keyed numbered listed new : List ℕ) → keyed ≡ old ++ key → numbered ≡ keyed ++ spaced ms → listed ≡ numbered ++ spaced ns → new ≡ listed ++ 10 ∷ [] → new ≡ old ++ line key (ms ++ ns)
line_put_two key ms ns old keyed numbered listed new p q r s =
    line_put key (ms ++ ns) old keyed listed new p (then keyed (spaced ms) numbered (spaced ns) listed q r ∙ ap (λ (t : List ℕ). keyed ++ t) (sym (spaced-append ms ns))) s

-- the element at place i, whatever stands for none
pub each_put : {X : Type 0} (spell : X → List ℕ) (xs : List X) (i : ℕ) (x : X) (old mid new : List ℕ) → i < length xs → x ≡ get_or xs i x → mid ≡ old ++ each spell (take i xs) → new ≡ mid ++ spell x →
    new ≡ old ++ each spell (take (i + 1) xs)
each_put spell xs i x old mid new low here so_far more = each_more spell xs i x old mid new low so_far (more ∙ ap (λ y. mid ++ spell y) here)

take_past : {X : Type 0} (xs : List X) (i : ℕ) → length xs ≤ i → take i xs ≡ xs
take_past [] zero past = refl
take_past [] (suc i) past = refl
take_past (x ∷ xs) zero past = absurd (omega arith)
take_past (x ∷ xs) (suc i) past = ap (λ ys. x ∷ ys) (take_past xs i (omega (arith, past)))

pub each_all : {X : Type 0} (spell : X → List ℕ) (xs : List X) (i : ℕ) (old new : List ℕ) → length xs ≤ i → new ≡ old ++ each spell (take i xs) → new ≡ old ++ each spell xs
each_all spell xs i old new past so_far = so_far ∙ ap (λ ys. old ++ each spell ys) (take_past xs i past)

-- ---- turns and overs by their places

turns_long : (next : List ℕ) → (2 * length (turns_of next) ≤ length next) × (length next < 2 * length (turns_of next) + 2)
turns_long [] = (omega arith, omega arith)
turns_long (a ∷ []) = (omega arith, omega arith)
turns_long (a ∷ b ∷ next) = let rest = turns_long next in let low = rest.0 in let high = rest.1 in (omega (arith, low), omega (arith, high))

pub turns_below : (next : List ℕ) (s : ℕ) → 2 * s + 1 < length next → s < length (turns_of next)
turns_below next s low = let long = turns_long next in let high = long.1 in omega (arith, low, high)

pub turns_past : (next : List ℕ) (s : ℕ) → length next < 2 * s + 2 → length (turns_of next) ≤ s
turns_past next s past = let long = turns_long next in let low = long.0 in omega (arith, past, low)

pub turns_at : (next : List ℕ) (s : ℕ) → 2 * s + 1 < length next → get_or (turns_of next) s (0, 0) ≡ (get_or next (2 * s) 0, get_or next (2 * s + 1) 0)
turns_at [] s low = absurd (omega (arith, low))
turns_at (a ∷ []) zero low = absurd (omega (arith, low))
turns_at (a ∷ []) (suc s) low = absurd (omega (arith, low))
turns_at (a ∷ b ∷ next) zero low = refl
turns_at (a ∷ b ∷ next) (suc s) low =
    let first : 2 * suc s ≡ suc (suc (2 * s)) = omega arith in
    let second : 2 * suc s + 1 ≡ suc (suc (2 * s + 1)) = omega arith in
    turns_at next s (omega (arith, low)) ∙ sym (ap (λ k. (get_or (a ∷ b ∷ next) k 0, get_or (a ∷ b ∷ next) (2 * suc s + 1) 0)) first ∙ ap (λ k. (get_or next (2 * s) 0, get_or (a ∷ b ∷ next) k 0)) second)

pub overs_long : (edges : List ℕ) (lists : List (List ℕ)) → length lists ≡ length edges → length (overs_of edges lists) ≡ length edges
overs_long [] lists fit = refl
overs_long (e ∷ es) [] fit = absurd (omega (arith, fit))
overs_long (e ∷ es) (l ∷ ls) fit = ap suc (overs_long es ls (omega (arith, fit)))

pub overs_at : (edges : List ℕ) (lists : List (List ℕ)) (i : ℕ) → length lists ≡ length edges → i < length edges → get_or (overs_of edges lists) i (0, []) ≡ (get_or edges i 0, get_or lists i [])
overs_at [] lists i fit low = absurd (omega (arith, low))
overs_at (e ∷ es) [] i fit low = absurd (omega (arith, fit))
overs_at (e ∷ es) (l ∷ ls) zero fit low = refl
overs_at (e ∷ es) (l ∷ ls) (suc i) fit low = overs_at es ls i (omega (arith, fit)) (omega (arith, low))
