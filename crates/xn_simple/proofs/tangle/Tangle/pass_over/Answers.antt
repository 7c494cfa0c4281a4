use Rattle.std.proofs.Common.{◌≡◌, ◌/◌, ◌<◌, List, ℕ, Some, None, length, refl, ◌∙◌, subst, arith}
use Rattle.std.specs.Prelude.{vec_items}
use Rattle.std.specs.Global.{Global}
use Rattle.std.proofs.lemmas.List.{get_or_read, length-map}
use Rattle.xn_simple.specs.Tangle.{IsPassIn, lists_in, walk_in}
use Rattle.xn_simple.proofs.Within.{darts_below, note_in, over_none, over_past, over_some, vec_read}
use Rattle.xn_simple.proofs.tangle.Tangle.pass_over.Goals as goal

pub index-requires : goal.index-requires
index-requires c =
    let low = note_in (lists_in c.args.self.now) c.requires.tangle c.args.d c.requires.dart in
    omega (arith, low.0, c.args.self.now.notes.owners.ok.0)

pub index-requires-2 : goal.index-requires-2
index-requires-2 c =
    let low = note_in (lists_in c.args.self.now) c.requires.tangle c.args.d c.requires.dart in
    omega (arith, low.1, c.args.self.now.notes.places.ok.0)

pub returns-then-edge-len : goal.returns-then-edge-len
returns-then-edge-len c =
    let t = lists_in c.args.self.now in
    let low = note_in t c.requires.tangle c.args.d c.requires.dart in
    let owner = get_or_read t.owners (c.args.d / 2) c.index.result.now low.0 c.index.ensures 0 in
    let size = length-map c.args.self.now.walks.items (vec_items {Z = Global}) in
    over_past t c.requires.tangle c.args.d (omega (arith, owner, size, c.if-edge-len.true, c.len.ensures, c.args.self.now.walks.ok.0))

pub pass_in-requires-clause-darts : goal.pass_in-requires-clause-darts
pass_in-requires-clause-darts c =
    let t = lists_in c.args.self.now in
    let vecs = c.args.self.now.walks.items in
    let edge = c.index.result.now in
    let edge_in : edge < length vecs = omega (arith, c.if-edge-len.false, c.len.ensures, c.args.self.now.walks.ok.0) in
    darts_below t c.requires.tangle edge c.deref.result.now (c.deref.ensures.value ∙ vec_read vecs edge c.index-3.result.now edge_in c.index-3.ensures)

pub returns-in-Some : goal.returns-in-Some
returns-in-Some c =
    let t = lists_in c.args.self.now in
    let vecs = c.args.self.now.walks.items in
    let d = c.args.d in
    let edge = c.index.result.now in
    let place = c.index-2.result.now in
    let low = note_in t c.requires.tangle d c.requires.dart in
    let owner = get_or_read t.owners (d / 2) edge low.0 c.index.ensures 0 in
    let noted = get_or_read t.places (d / 2) place low.1 c.index-2.ensures 0 in
    let edge_in : edge < length vecs = omega (arith, c.if-edge-len.false, c.len.ensures, c.args.self.now.walks.ok.0) in
    let is : c.deref.result.now ≡ walk_in t edge = c.deref.ensures.value ∙ vec_read vecs edge c.index-3.result.now edge_in c.index-3.ensures in
    let P : List ℕ → Type 0 = λ w. IsPassIn t.map.web.ends w place d (Some c.in-Some.place) in
    over_some t c.requires.tangle d edge place owner noted (Some c.in-Some.place) (subst P is c.in-Some.ensures) c.in-Some.place refl

pub returns-in-None : goal.returns-in-None
returns-in-None c =
    let t = lists_in c.args.self.now in
    let vecs = c.args.self.now.walks.items in
    let d = c.args.d in
    let edge = c.index.result.now in
    let place = c.index-2.result.now in
    let low = note_in t c.requires.tangle d c.requires.dart in
    let owner = get_or_read t.owners (d / 2) edge low.0 c.index.ensures 0 in
    let noted = get_or_read t.places (d / 2) place low.1 c.index-2.ensures 0 in
    let edge_in : edge < length vecs = omega (arith, c.if-edge-len.false, c.len.ensures, c.args.self.now.walks.ok.0) in
    let is : c.deref.result.now ≡ walk_in t edge = c.deref.ensures.value ∙ vec_read vecs edge c.index-3.result.now edge_in c.index-3.ensures in
    let P : List ℕ → Type 0 = λ w. IsPassIn t.map.web.ends w place d None in
    over_none t c.requires.tangle d edge place owner noted None (subst P is c.in-None.ensures) refl
