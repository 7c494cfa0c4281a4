-- The darts of a node one after another.
use Rattle.std.specs.Prelude.{◌≡◌, ℕ, zero, suc, ◌<◌, List, ◌∷◌, length, decimal}
use Rattle.xn_model.specs.Lists.{at}

-- next lists so many darts, and leads to none but them
pub record LeadsInside (next : List ℕ) (n : ℕ) : Type 0 where
  pub long : length next ≡ n
  pub inside : (d : ℕ) → d < n → at next d < n

-- the least dart is listed, if there is one, and so is what next leads to
pub record StaysIn (next star : List ℕ) : Type 0 where
  pub least : 0 < length star → at star 0 < length next
  pub inside : (d : ℕ) → d < length next → at next d < length next

-- a dart behind so many others
abbrev pub dart_text : ℕ → ℕ → List ℕ
dart_text zero d = decimal d
dart_text (suc i) d = 32 ∷ decimal d
