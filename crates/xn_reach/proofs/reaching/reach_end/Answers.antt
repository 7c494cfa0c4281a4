use Rattle.std.proofs.Common.{sym, subst}
use Rattle.xn_model.specs.Graph.{EndsIn, Graph, HasNoLoop}
use Rattle.xn_components.specs.Listing.{IsFlatMapOf}
use Rattle.xn_components.proofs.LaidBelow.{no_loop_listed}
use Rattle.xn_planar.specs.Planar.{HasNoFlatMap, IsPlanarity}
use Rattle.xn_extend.proofs.Ending.{apart_from_grows}
use Rattle.xn_reach.proofs.Reached.{end_of, no_end}
use Rattle.xn_reach.proofs.reaching.reach_end.Goals as goal

pub listed_web-requires : goal.listed_web-requires
listed_web-requires c = apart_from_grows c.args.web.now.ends c.args.list.now c.requires.grows

pub planar-requires : goal.planar-requires
planar-requires c =
    let web = c.args.web.now in
    let list = c.args.list.now in
    let P : Graph → Type 0 = λ w. HasNoLoop w.ends in
    subst P (sym c.in_ok-listed.ensures.web) (no_loop_listed web list c.requires.no_loop (apart_from_grows web.ends list c.requires.grows))

pub returns-in-Flat : goal.returns-in-Flat
returns-in-Flat c =
    let web = c.args.web.now in
    let list = c.args.list.now in
    let is = subst (IsPlanarity c.in_ok-listed.listed) c.in-Flat.is c.in_ok-map.ensures in
    end_of web list c.in_ok-listed.ensures.limited.ends_in c.requires.no_loop c.requires.grows c.in-Flat.map
    (subst (λ w. IsFlatMapOf w c.in-Flat.map) c.in_ok-listed.ensures.web is)

pub returns : goal.returns
returns c =
    let web = c.args.web.now in
    let list = c.args.list.now in
    let is = subst (IsPlanarity c.in_ok-listed.listed) c.in-Not.is c.in_ok-map.ensures in
    no_end web list c.in_ok-listed.ensures.limited.ends_in c.requires.no_loop c.requires.grows (subst HasNoFlatMap c.in_ok-listed.ensures.web is.none)
