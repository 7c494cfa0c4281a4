use Rattle.std.proofs.Common.{ℕ, ◌≤◌, length, ap, subst, arith}
use Rattle.xn_model.specs.Graph.{ends_at}
use Rattle.xn_map.specs.Listed.{IsListedMap}
use Rattle.xn_insert.specs.ListedLoose.{ListedLoose}
use Rattle.xn_insert.specs.Routed.{HasNoRoute, IsLeastRoute}
use Rattle.xn_insert.proofs.Coming.{segments_few}
use Rattle.xn_insert.proofs.loose.Loose.insert.Goals as goal

pub least_route-requires : goal.least_route-requires
least_route-requires c =
    let l = c.args.self.now in
    let same = c.self.view_is in
    let listed : IsListedMap l.map = subst (λ v. IsListedMap v.map) same c.web-web.ensures.is_map in
    let walks : length l.walks ≤ 1000 = subst (λ v. length v.walks ≤ 1000) same c.self.invariant.1 in
    let first = segments_few c.args.graph.now l c.requires.loose walks c.requires.few in
    let fits = listed.fits in
    let here = ap (λ v. length v.map.next) same in
    omega (arith, first, fits, here)

pub come_in-requires-clause-route : goal.come_in-requires-clause-route
come_in-requires-clause-route c =
    let p = ends_at c.args.graph.now.ends c.args.e in
    let r = c.in-Some.route in
    let found = rw c.in-Some.is at c.in_ok-route.ensures.some in
    let P : ℕ × ℕ → Type 0 = λ q. IsLeastRoute c.self.inside.map q.0 q.1 r.from r.darts.items r.to in
    let M : ListedLoose → Type 0 = λ v. IsLeastRoute v.map p.0 p.1 r.from r.darts.items r.to in
    subst M c.self.view_is (subst P c.end-u.ensures.value found)

pub join-requires-clause-apart : goal.join-requires-clause-apart
join-requires-clause-apart c =
    let p = ends_at c.args.graph.now.ends c.args.e in
    let found = rw c.in-None.is at c.in_ok-route.ensures.none in
    let P : ℕ × ℕ → Type 0 = λ q. HasNoRoute c.self.inside.map q.0 q.1 in
    let M : ListedLoose → Type 0 = λ v. HasNoRoute v.map p.0 p.1 in
    subst M c.self.view_is (subst P c.end-u.ensures.value found)
