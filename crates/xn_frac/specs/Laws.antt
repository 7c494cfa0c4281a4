use Rattle.std.specs.Prelude.{◌≡◌, ◌≢◌, ◌⊎◌, ◌<◌, pos}
use Rattle.xn_frac.specs.Ratio.{Ratio, plus, times, over, Same, IsLess, IsNoMore, IsFrac}

-- two lowest forms of one number are equal
abbrev pub OneLowestForm : Type 0
OneLowestForm = (p q : Ratio) → IsFrac p → IsFrac q → Same p q → p ≡ q

-- being one number is passed on
abbrev pub SameChains : Type 0
SameChains = (p q r : Ratio) → 0 < q.den → Same p q → Same q r → Same p r

-- p + q is q + p
abbrev pub SumsCommute : Type 0
SumsCommute = (p q : Ratio) → Same (plus p q) (plus q p)

-- (p + q) + r is p + (q + r)
abbrev pub SumsAssociate : Type 0
SumsAssociate = (p q r : Ratio) → Same (plus (plus p q) r) (plus p (plus q r))

-- p * q is q * p
abbrev pub ProductsCommute : Type 0
ProductsCommute = (p q : Ratio) → Same (times p q) (times q p)

-- (p * q) * r is p * (q * r)
abbrev pub ProductsAssociate : Type 0
ProductsAssociate = (p q r : Ratio) → Same (times (times p q) r) (times p (times q r))

-- p * (q + r) is p * q + p * r
abbrev pub ProductsSpread : Type 0
ProductsSpread = (p q r : Ratio) → Same (times p (plus q r)) (plus (times p q) (times p r))

-- (p / q) * q is p
abbrev pub QuotientsUndoProducts : Type 0
QuotientsUndoProducts = (p q : Ratio) → q.num ≢ pos 0 → Same (times (over p q) q) p

-- p is below q, or q is at most p
abbrev pub OrderIsTotal : Type 0
OrderIsTotal = (p q : Ratio) → IsLess p q ⊎ IsNoMore q p

-- p at most q keeps its order beside r
abbrev pub SumsKeepOrder : Type 0
SumsKeepOrder = (p q r : Ratio) → IsNoMore p q → IsNoMore (plus p r) (plus q r)
