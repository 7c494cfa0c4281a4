use Rattle.std.proofs.Common.{◌≡◌, ◌*◌, ◌/◌, Result, Ok, Err, length, refl, sym, ◌∙◌, subst, arith}
use Rattle.std.specs.Result.{IsOk, OkIff}
use Rattle.std.proofs.lemmas.Result.{IfOk-weaker}
use Rattle.xn_insert.specs.Routed.{IsDual}
use Rattle.xn_insert.proofs.FacesAround.{dual_limited, is_dual}
use Rattle.xn_insert.proofs.faces.dual_stars.Goals as goal

is_made : {T E : Type 0} (r : Result T E) (P : Type 0) (v : T) → OkIff r P v → P → IsOk r
is_made (Ok x) P v made holds = refl
is_made (Err e) P v refused holds = absurd (refused holds)

made_as : {T E : Type 0} (r : Result T E) (P : Type 0) (v x : T) → OkIff r P v → r ≡ Ok x → x ≡ v
made_as (Ok y) P v x made same = cc (made.1, same)
made_as (Err e) P v x refused same = absurd (cc)

pub unwrap-web-requires : goal.unwrap-web-requires
unwrap-web-requires c =
    let names = c.args.names.now in
    let ends = c.in_ok-ends.ends.items in
    let half : 2 * (length names / 2) ≡ length names = omega (arith, c.requires.even) in
    is_made c.make.result _ _ c.make.ensures.ok (dual_limited names (length names / 2) half c.requires.few c.requires.below ends c.in_ok-ends.ensures)

pub returns : goal.returns
returns c =
    let names = c.args.names.now in
    let ends = c.in_ok-ends.ends.items in
    let half : 2 * (length names / 2) ≡ length names = omega (arith, c.requires.even) in
    let dual = is_dual names (length names / 2) half c.requires.few c.requires.below ends c.in_ok-ends.ensures in
    let web = made_as c.make.result _ _ c.unwrap-web.result c.make.ensures.ok c.unwrap-web.ensures in
    IfOk-weaker c.of.result _ _ (λ stars same. subst (IsDual names) (sym (same ∙ web)) dual) c.of.ensures
