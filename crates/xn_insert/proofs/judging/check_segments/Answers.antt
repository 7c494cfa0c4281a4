use Rattle.std.proofs.Common.{◌≡◌, ℕ, ◌*◌, ◌<◌, List, length, sym, ◌∙◌, ap, subst, arith}
use Rattle.xn_model.specs.Graph.{Graph}
use Rattle.xn_model.specs.Lists.{at}
use Rattle.xn_map.specs.Listed.{ListedMap}
use Rattle.xn_insert.specs.Judged.{AreTimes, IsFirstFailing, darts_walked}
use Rattle.xn_insert.proofs.JudgedSteps.{all_once, darts_low, not_once}
use Rattle.xn_insert.proofs.judging.check_segments.Goals as goal

pub times_of-requires : goal.times_of-requires
times_of-requires c =
    let g = c.args.graph.now in
    let m = c.args.map.now in
    let walks = c.args.walks.now in
    let size : c.segments.result ≡ length m.web.ends = c.segments.ensures.value ∙ ap (λ (w : Graph). length w.ends) c.web.ensures.value in
    subst (λ ds. (i : ℕ) → i < length ds → at ds i < 2 * c.segments.result) (sym (c.deref.ensures.value ∙ c.in_ok-darts.ensures))
    (λ i i_in. let low = darts_low g m walks c.requires i i_in in omega (arith, low, size))

counts_in : (m : ListedMap) (walks : List (List ℕ)) (segments : ℕ) (darts times : List ℕ) → segments ≡ length m.web.ends → darts ≡ darts_walked walks → AreTimes segments darts times →
    AreTimes (length m.web.ends) (darts_walked walks) times
counts_in m walks segments darts times size same are =
    subst (λ n. AreTimes n (darts_walked walks) times) size (subst (λ ds. AreTimes segments ds times) same are)

pub returns-in-None : goal.returns-in-None
returns-in-None c =
    let m = c.args.map.now in
    let walks = c.args.walks.now in
    let times = c.in_ok-times.times.items in
    let size : c.segments.result ≡ length m.web.ends = c.segments.ensures.value ∙ ap (λ (w : Graph). length w.ends) c.web.ensures.value in
    let counts = counts_in m walks c.segments.result c.deref.result.now times size (c.deref.ensures.value ∙ c.in_ok-darts.ensures) c.in_ok-times.ensures in
    all_once c.args.graph.now m walks c.requires times counts
    (subst (λ ts. (s : ℕ) → s < length ts → at ts s ≡ 1) c.deref-2.ensures.value c.in-None.ensures)

pub returns : goal.returns
returns c =
    let m = c.args.map.now in
    let walks = c.args.walks.now in
    let times = c.in_ok-times.times.items in
    let s = c.in-Some.s in
    let size : c.segments.result ≡ length m.web.ends = c.segments.ensures.value ∙ ap (λ (w : Graph). length w.ends) c.web.ensures.value in
    let counts = counts_in m walks c.segments.result c.deref.result.now times size (c.deref.ensures.value ∙ c.in_ok-darts.ensures) c.in_ok-times.ensures in
    let first : (s < length times) × IsFirstFailing 0 (λ t. at times t ≡ 1) s =
    subst (λ ts. (s < length ts) × IsFirstFailing 0 (λ t. at ts t ≡ 1) s) c.deref-2.ensures.value c.in-Some.ensures in
    let is = not_once c.args.graph.now m walks c.requires times counts s first.0 first.1 in
    (c.requires, is.0, is.1)
