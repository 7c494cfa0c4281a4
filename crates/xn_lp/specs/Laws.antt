use Rattle.std.specs.Prelude.{ℕ, ◌<◌, length, ◌↔◌}
use Rattle.xn_frac.specs.Ratio.{Ratio, plus, times, IsNoMore}
use Rattle.xn_lp.specs.Box.{sum_to, IsLeast, low_of}
use Rattle.xn_lp.specs.Program.{NamesColumns, IsPoint, AreMultipliers, priced_cost, cost_of, IsRay, AnswerHolds, IsNothing, HasNoPoint}
use Rattle.xn_lp.specs.declared.program.Lp.{Lp}
use Rattle.xn_lp.specs.declared.program.LpAnswer.{LpAnswer}

-- the least value over the box of k + c 0 * x 0 + .. is k and those of the coefficients that are below 0
abbrev pub LeastOfForm : Type 0
LeastOfForm = (n : ℕ) (k : Ratio) (c : ℕ → Ratio) → 0 < k.den → ((j : ℕ) → j < n → 0 < (c j).den) →
    IsLeast n (λ x. plus k (sum_to n (λ j. times (c j) (x j)))) (plus k (sum_to n (λ j. low_of (c j))))

-- no point costs less than the least value under any multipliers
abbrev pub WeakDuality : Type 0
WeakDuality = (lp : Lp) (x y : ℕ → Ratio) (v : Ratio) → NamesColumns lp → IsPoint lp x → AreMultipliers lp y →
    IsLeast (length lp.cost) (priced_cost lp y) v → IsNoMore v (cost_of lp x)

-- a program with a ray has no point
abbrev pub RayExcludesPoints : Type 0
RayExcludesPoints = (lp : Lp) (y : ℕ → Ratio) → NamesColumns lp → IsRay lp y → HasNoPoint lp

-- an answer that holds is Nothing exactly where there is no point
abbrev pub AnswerDecides : Type 0
AnswerDecides = (lp : Lp) (a : LpAnswer) → NamesColumns lp → AnswerHolds lp a → IsNothing a ↔ HasNoPoint lp
