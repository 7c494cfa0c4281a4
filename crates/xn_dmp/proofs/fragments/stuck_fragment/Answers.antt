use Rattle.std.proofs.Common.{◌≡◌, ℕ, ◌<◌, ◌≤◌, inl, inr, List, length, sym, subst, ◌∙◌, arith}
use Rattle.std.proofs.lemmas.Bool.{both_ways, cases_lt, eq-eqb}
use Rattle.xn_model.specs.Lists.{at}
use Rattle.xn_dmp.specs.Sharing.{NoFaceFrom}
use Rattle.xn_dmp.proofs.Stuck.{stuck_found}
use Rattle.xn_dmp.proofs.fragments.stuck_fragment.Goals as goal

pub returns : goal.returns
returns c =
    let g = c.args.growth.now in
    let nodes = c.as_slice-nodes.result.now in
    let found = c.in_ok-segments.field-0 in
    let some : 0 < length nodes = elim (cases_lt 0 (length nodes)) [
      | inl low ↦ low
      | inr none ↦ absurd (both_ways _ (sym c.is_empty.ensures ∙ c.if-is_empty.false) (eq-eqb _ _ (omega (arith, none))))
    ] in
    let P : List ℕ → Type 0 = λ xs. (0 < length xs) × NoFaceFrom g.map (at xs 0) xs in
    let both = subst P c.as_slice-nodes.ensures (some, c.may_share_face.ensures c.if-may_share_face.false) in
    stuck_found g c.segments-s-end.ensures.grown c.requires.rises found.segments.items found.contacts.items c.in_ok-segments.ensures both.0 both.1
