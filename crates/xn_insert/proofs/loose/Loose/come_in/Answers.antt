use Rattle.std.proofs.Common.{◌≡◌, ℕ, ◌*◌, ◌^◌, ◌<◌, ◌≤◌, List, [], ◌∷◌, ◌++◌, inl, length, replicate, refl, sym, ◌∙◌, ap, subst, rules, arith}
use Rattle.xn_model.specs.Lists.{at}
use Rattle.xn_map.specs.Listed.{IsListedMap, ListedMap}
use Rattle.xn_insert.specs.Calls.{IsInserted}
use Rattle.xn_insert.specs.Cuts.{AreCut}
use Rattle.xn_insert.specs.ListedLoose.{AreWithin, loose_of}
use Rattle.xn_insert.proofs.Coming.{MayCome, begun, ended, may_end, may_step, stepped, walks_within}
use Rattle.xn_insert.proofs.Grown.{GrownTo}
use Rattle.xn_insert.proofs.loose.Loose.come_in.Goals as goal

pub loop-d-init : goal.loop-d-init
loop-d-init c =
    let g = c.args.graph.now in
    let l = c.args.self.now in
    let e = c.args.e in
    let r = c.args.route.now in
    let copy = c.in_ok-map.map in
    let cuts = c.in_ok-cuts.cuts.items in
    let same : copy ≡ l.map = c.in_ok-map.ensures ∙ ap (λ v. v.map) c.self.view_is in
    let may : MayCome g l e r.from r.darts.items r.to = record {
      is = c.requires.loose;
      low = c.requires.edge;
      new = c.requires.new;
      limited = c.nodes-nodes.ensures.limited;
      walks = subst (λ v. length v.walks ≤ 1000) c.self.view_is c.self.invariant.1;
      few = c.requires.few;
      listed = subst IsListedMap same c.web.ensures.is_map;
      route = c.requires.route;
    } in
    let number : c.segments.result ≡ length l.map.web.ends = c.segments.ensures.value ∙ ap (λ w. length w.ends) c.web.ensures.value ∙ ap (λ m. length m.web.ends) same in
    let made : cuts ≡ replicate c.segments.result 0 = c.in_ok-cuts.ensures.items_if_clones_equal (search rules) in
    let none = begun g l e r.from r.darts.items r.to may cuts (made ∙ ap (λ k. replicate k 0) number) in
    let M : ListedMap → Type 0 = λ m. GrownTo g l e m r.from r.to cuts [] r.darts.items 0 in
    let O : List ℕ → Type 0 = λ own. GrownTo g l e copy r.from r.to cuts own r.darts.items 0 in
    record { may = may; grown = subst O (sym c.new-own.ensures.items) (subst M (sym same) none) }

pub step_over-requires : goal.step_over-requires
step_over-requires c =
    let r = c.args.route.now in
    let now = c.loop-d.invariant in
    let step =
    may_step c.args.graph.now c.args.self.now c.args.e r.from r.darts.items r.to now.may c.loop-d.map c.loop-d.from c.loop-d.to c.loop-d.cuts.items c.loop-d.own.items c.loop-d.d-index now.grown
    c.deref-d-items.result.now c.deref-d-items.ensures.value c.loop-d-test.true in
    record {
      map = c.web-in-loop-d.ensures.is_map;
      c_in = now.grown.from_in;
      d_in = step.d_in;
      one_face = step.one_face;
      flat = step.flat;
      few_nodes = step.few_nodes;
      few_segments = step.few_segments;
    }

pub index_mut-requires : goal.index_mut-requires
index_mut-requires c =
    let r = c.args.route.now in
    let now = c.loop-d.invariant in
    let step =
    may_step c.args.graph.now c.args.self.now c.args.e r.from r.darts.items r.to now.may c.loop-d.map c.loop-d.from c.loop-d.to c.loop-d.cuts.items c.loop-d.own.items c.loop-d.d-index now.grown
    c.deref-d-items.result.now c.deref-d-items.ensures.value c.loop-d-test.true in
    omega (arith, step.cut_in, c.loop-d.cuts.ok.0)

pub moved-to-requires-clause-last : goal.moved-to-requires-clause-last
moved-to-requires-clause-last c =
    let r = c.args.route.now in
    let now = c.loop-d.invariant in
    let step =
    may_step c.args.graph.now c.args.self.now c.args.e r.from r.darts.items r.to now.may c.loop-d.map c.loop-d.from c.loop-d.to c.loop-d.cuts.items c.loop-d.own.items c.loop-d.d-index now.grown
    c.deref-d-items.result.now c.deref-d-items.ensures.value c.loop-d-test.true in
    let last = c.segments-last.ensures.value ∙ ap (λ w. length w.ends) c.web-in-loop-d.ensures.value in
    omega (arith, step.few_segments, last)

pub on_of-from-requires : goal.on_of-from-requires
on_of-from-requires c =
    let r = c.args.route.now in
    let now = c.loop-d.invariant in
    let step =
    may_step c.args.graph.now c.args.self.now c.args.e r.from r.darts.items r.to now.may c.loop-d.map c.loop-d.from c.loop-d.to c.loop-d.cuts.items c.loop-d.own.items c.loop-d.d-index now.grown
    c.deref-d-items.result.now c.deref-d-items.ensures.value c.loop-d-test.true in
    let last = c.segments-last.ensures.value ∙ ap (λ w. length w.ends) c.web-in-loop-d.ensures.value in
    omega (arith, step.few_segments, last)

pub loop-d-preserved : goal.loop-d-preserved
loop-d-preserved c =
    let r = c.args.route.now in
    let now = c.loop-d.invariant in
    let last = c.segments-last.ensures.value ∙ ap (λ w. length w.ends) c.web-in-loop-d.ensures.value in
    record {
      may = now.may;
      grown =
          stepped c.args.graph.now c.args.self.now c.args.e r.from r.darts.items r.to now.may c.loop-d.map c.loop-d.from c.loop-d.to c.loop-d.cuts.items c.loop-d.own.items c.loop-d.d-index now.grown
          c.deref-d-items.result.now c.deref-d-items.ensures.value c.loop-d-test.true _ c.in_ok-step_over.ensures c.segments-last.result last _ _ _ _ c.on_of-from.ensures c.moved-to.ensures refl
          c.in_ok-push.ensures.items;
    }

pub add_edge-requires : goal.add_edge-requires
add_edge-requires c =
    let r = c.args.route.now in
    let now = c.loop-d.invariant in
    let all : c.loop-d.d-index ≡ length r.darts.items = omega (arith, ap length c.deref-d-items.ensures.value) in
    let last =
    may_end c.args.graph.now c.args.self.now c.args.e r.from r.darts.items r.to now.may c.loop-d.map c.loop-d.from c.loop-d.to c.loop-d.cuts.items c.loop-d.own.items c.loop-d.d-index now.grown
    all c.web-2.ensures.is_map in
    record {
      few = last.few_segments;
      a_in = last.from_in;
      b_in = last.to_in;
      two_nodes = last.two_nodes;
      one_face = inl last.one_face;
    }

pub cut_walks-requires-clause-within : goal.cut_walks-requires-clause-within
cut_walks-requires-clause-within c =
    let r = c.args.route.now in
    let now = c.loop-d.invariant in
    let cuts = c.loop-d.cuts.items in
    let within =
    walks_within c.args.graph.now c.args.self.now c.args.e r.from r.darts.items r.to now.may c.loop-d.map c.loop-d.from c.loop-d.to cuts c.loop-d.own.items c.loop-d.d-index now.grown in
    let W : List (List ℕ) → Type 0 = λ ws. AreWithin ws (2 * length cuts) in
    let V : List ℕ → Type 0 = λ cs. AreWithin c.self.inside.walks (2 * length cs) in
    subst V (sym c.deref.ensures.value) (subst W (sym (ap (λ v. v.walks) c.self.view_is)) within)

pub cut_walks-requires-clause-few : goal.cut_walks-requires-clause-few
cut_walks-requires-clause-few c =
    let r = c.args.route.now in
    let now = c.loop-d.invariant in
    let all : c.loop-d.d-index ≡ length r.darts.items = omega (arith, ap length c.deref-d-items.ensures.value) in
    let last =
    may_end c.args.graph.now c.args.self.now c.args.e r.from r.darts.items r.to now.may c.loop-d.map c.loop-d.from c.loop-d.to c.loop-d.cuts.items c.loop-d.own.items c.loop-d.d-index now.grown
    all c.web-2.ensures.is_map in
    let P : List ℕ → Type 0 = λ cs. (s : ℕ) → at cs s < 2 ^ 30 in
    subst P (sym c.deref.ensures.value) last.cuts_few

pub invariant_of-self : goal.invariant_of-self
invariant_of-self c =
    let grown = c.loop-d.invariant.grown in
    let here = ap (λ v. v.map.web.nodes) c.self.view_is in
    let kept = c.in_ok-add_edge.ensures.ok.0 in
    let size = c.in_ok-walks.ensures.size in
    let low = c.self.invariant.0 in
    let few = c.self.invariant.1 in
    let more = grown.nodes in
    (omega (arith, here, kept, low, more), omega (arith, size, few))

pub returns-clause-ok : goal.returns-clause-ok
returns-clause-ok c =
    let g = c.args.graph.now in
    let l = c.args.self.now in
    let e = c.args.e in
    let r = c.args.route.now in
    let now = c.loop-d.invariant in
    let m = c.loop-d.map in
    let own = c.loop-d.own.items in
    let cuts = c.loop-d.cuts.items in
    let walks = c.in_ok-walks.walks in
    let all : c.loop-d.d-index ≡ length r.darts.items = omega (arith, ap length c.deref-d-items.ensures.value) in
    let last : c.segments-2.result ≡ length m.web.ends = c.segments-2.ensures.value ∙ ap (λ w. length w.ends) c.web-2.ensures.value in
    let C : List ℕ → Type 0 = λ cs. AreCut cs e c.push-2.new.self.items c.self.inside.walks walks in
    let O : List ℕ → Type 0 = λ xs. AreCut cuts e xs c.self.inside.walks walks in
    let W : List (List ℕ) → Type 0 = λ ws. AreCut cuts e (own ++ (2 * length m.web.ends) ∷ []) ws walks in
    let are = subst W (ap (λ v. v.walks) c.self.view_is) (subst O (c.in_ok-push-2.ensures.items ∙ ap (λ k. own ++ (2 * k) ∷ []) last) (subst C c.deref.ensures.value c.in_ok-walks.ensures)) in
    let in_it = ended g l e r.from r.darts.items r.to now.may m c.loop-d.from c.loop-d.to cuts own c.loop-d.d-index now.grown all c.add_edge.new.self c.in_ok-add_edge.ensures.ok walks are in
    subst (λ n. IsInserted g e l (loose_of n c.add_edge.new.self walks)) (sym (ap (λ v. v.nodes) c.self.view_is)) in_it
