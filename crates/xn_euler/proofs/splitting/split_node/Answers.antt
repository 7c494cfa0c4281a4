use Rattle.std.proofs.Common.{◌≡◌, ℕ, suc, Result, Ok, Err, OnErr, OnOk, arith, subst, sym}
use Rattle.std.specs.declared.alloc.AllocError.{AllocError}
use Rattle.xn_model.specs.Lists.{at}
use Rattle.xn_model.specs.Map.{MeetsEuler}
use Rattle.xn_map.specs.Changes.{StaysFlat}
use Rattle.xn_map.specs.Cutting.{Splits}
use Rattle.xn_map.specs.Listed.{IsListedMap, ListedMap}
use Rattle.xn_surgery.proofs.Split.{flat_split}
use Rattle.xn_euler.proofs.splitting.split_node.Goals as goal

split_flat : (old new : ListedMap) (a b : ℕ) → IsListedMap old → Splits old a b new → StaysFlat old new
split_flat old new a b listed splits flat =
    let P : ℕ → Type 0 = λ k. MeetsEuler k new.web.ends (at new.next) in
    let more : suc old.web.nodes ≡ new.web.nodes = omega (arith, splits.0) in
    subst P more (flat_split old.web.nodes a b old.web.ends new.web.ends (at old.next) (at new.next) listed.is_map splits.1 flat)

either_flat : (old new : ListedMap) (a b : ℕ) → IsListedMap old → (result : Result ℕ AllocError) → OnOk result (Splits old a b new) → OnErr result (new ≡ old) → StaysFlat old new
either_flat old new a b listed (Ok v) ok err = split_flat old new a b listed ok
either_flat old new a b listed (Err e) ok err = let P : ListedMap → Type 0 = λ m. StaysFlat old m in subst P (sym err) (λ flat. flat)

pub returns-clause-flat : goal.returns-clause-flat
returns-clause-flat c =
    let cut = c.cut_node in
    either_flat c.args.map.now cut.new.self c.args.a c.args.b cut.ensures.map cut.result cut.ensures.ok cut.ensures.err
