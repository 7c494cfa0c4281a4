use Rattle.std.proofs.Common.{ℕ, subst}
use Rattle.xn_model.specs.Lists.{at}
use Rattle.xn_dmp.specs.Growing.{Grown}
use Rattle.xn_dmp.specs.Sharing.{NoFaceFrom}
use Rattle.xn_dmp.proofs.growing.Growth.may_share_face.Goals as goal

pub returns-in-None-common_face : goal.returns-in-None-common_face
returns-in-None-common_face c = λ none.
    let nodes = c.args.nodes.now in
    let P : ℕ → Type 0 = λ v. NoFaceFrom c.self.inside.map v nodes in
    let Q : Grown → Type 0 = λ x. NoFaceFrom x.map (at nodes 0) nodes in
    subst Q c.self.view_is (subst P c.in-Some.ensures.some.1 c.in-None-common_face.ensures.none)
