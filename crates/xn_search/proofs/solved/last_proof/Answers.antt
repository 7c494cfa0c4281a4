use Rattle.std.proofs.Common.{◌≡◌, ◌-◌, ◌<◌, List, ℕ, [], length, arith, subst, sym, ap, ◌∙◌}
use Rattle.std.specs.Prelude.{slice_index_or}
use Rattle.std.proofs.lemmas.List.{get_or_default}
use Rattle.xn_kinds.specs.declared.rows.Row.{Row}
use Rattle.xn_kinds.specs.declared.trees.Node.{Node}
use Rattle.xn_tidy.specs.FirstUse.{IsSomeProof, IsTidied}
use Rattle.xn_search.specs.Solved.{IsLastProof}
use Rattle.xn_search.proofs.Answered.{ok_each}
use Rattle.xn_search.proofs.solved.last_proof.Goals as goal

pub tidy-requires-clause-proof : goal.tidy-requires-clause-proof
tidy-requires-clause-proof c =
    let rounds = c.args.rounds.now in
    let i = c.len-count.result - 1 in
    let small : i < length rounds = omega (arith, c.len-count.ensures, c.if-count-eq0.false) in
    let is : slice_index_or rounds i [] ≡ c.at.result.now = get_or_default rounds i [] c.at.result.now small ∙ sym c.at.ensures in
    subst (λ (rows : List Row). IsSomeProof rows c.at.result.now) (sym c.as_slice.ensures) (subst (λ (nodes : List Node). IsSomeProof c.args.rows.now nodes) is (c.requires.proofs i small))

pub tidy-requires-clause-few : goal.tidy-requires-clause-few
tidy-requires-clause-few c = omega (arith, ap (length {A = Row}) c.as_slice.ensures, c.requires.few)

pub returns : goal.returns
returns c =
    let rounds = c.args.rounds.now in
    let i = c.len-count.result - 1 in
    let small : i < length rounds = omega (arith, c.len-count.ensures, c.if-count-eq0.false) in
    let is : c.at.result.now ≡ slice_index_or rounds (length rounds - 1) [] =
    c.at.ensures ∙ get_or_default rounds i c.at.result.now [] small ∙ ap (λ (n : ℕ). slice_index_or rounds (n - 1) []) c.len-count.ensures in
    ok_each c.tidy.result (IsTidied c.as_slice.result.now c.at.result.now) (IsLastProof c.args.rows.now rounds)
    (λ p tidied. record {
      none = λ none. absurd (omega (arith, none, small));
      last = λ some. subst (λ (nodes : List Node). IsTidied c.args.rows.now nodes p) is (subst (λ (rows : List Row). IsTidied rows c.at.result.now p) c.as_slice.ensures tidied);
    })
    c.tidy.ensures
