-- The lines after `drawn` are read exactly where they are spelled.
use Rattle.std.proofs.Common.{◌≡◌, ℕ, suc, ◌+◌, ◌^◌, ◌<◌, ◌≤◌, Bool, true, false, cond, inl, inr, ◌⊎◌, List, [], ◌∷◌, ◌++◌, length, map, decimal, Result, Ok, refl, sym, ap, ◌∙◌, subst, arith}
use Rattle.std.specs.Prelude.{codes}
use Rattle.std.specs.List.{All}
use Rattle.xn_text.specs.Pieces.{words_of}
use Rattle.xn_kinds.specs.declared.flaws.Flaw.{Flaw}
use Rattle.xn_kinds.specs.declared.rows.Evidence.{Evidence}
use Rattle.xn_kinds.specs.declared.rows.Evidence.TheVariants.{Five, ThreeThree, Extension}
use Rattle.xn_kinds.specs.declared.rows.Row.{Row}
use Rattle.xn_proof.specs.declared.evidence.Start.{Start}
use Rattle.xn_proof.specs.declared.evidence.Start.TheVariants as start
use Rattle.xn_proof.specs.Proofs.{evidence_at, extension_of, five_of, over_at, overs_at, path_at, paths_of, row_at, start_of, three_of}
use Rattle.xn_proof.specs.Ranges.{list_form, nodes_form, one_form}
use Rattle.xn_proof.specs.Reading.{◌>>=◌, Left, form_at, has_key, keyed_form, line_at, many_at}
use Rattle.xn_proof.specs.Spelling.{each, evidence_key, evidence_numbers, evidence_paths, evidence_text, line, over_line, overs_of, path_line, row_text}
use Rattle.xn_proof.specs.WellFormed.{AreNodes, IsEvidenceText, IsList, IsRowText}
use Rattle.xn_proof.proofs.FrontTexts.{regroup_three, regroup_two, three_pieces, two_pieces}
use Rattle.xn_proof.proofs.Keyed.{AreSmall, IsKey, lacks_tested, line_is_taken, line_spelled, line_takes}
use Rattle.xn_proof.proofs.Shapes.{IsItem, form_item, keyed_form_again, keyed_form_takes, many_again, many_takes}
use Rattle.xn_proof.proofs.Steps.{bind_ok, ok_is, all_cons, all_first, all_none, all_rest}
use Rattle.xn_proof.proofs.Values.{IsOver, list_is, nodes_is, one_is, over_is, over_numbers}

-- the branch that was taken
pub choose : {A : Type 0} (b : Bool) (x y z : A) → cond b x y ≡ z → (x ≡ z) ⊎ (y ≡ z)
choose true x y z e = inl e
choose false x y z e = inr e

-- ---- the evidence

-- a start as the first line of an evidence
abbrev start_key : Start → List ℕ
start_key (start.Five branch) = codes "five"
start_key (start.ThreeThree branch) = codes "three"
start_key (start.Extension list) = codes "extension"

abbrev start_numbers : Start → List ℕ
start_numbers (start.Five branch) = branch
start_numbers (start.ThreeThree branch) = branch
start_numbers (start.Extension list) = length list ∷ list

abbrev IsStart : Start → Type 0
IsStart (start.Five branch) = AreNodes 5 branch
IsStart (start.ThreeThree branch) = AreNodes 6 branch
IsStart (start.Extension list) = IsList 1000000 list

abbrev start_words : Start → List (List ℕ)
start_words st = start_key st ∷ map decimal (start_numbers st)

abbrev StartRead : List (List ℕ) → Start → Type 0
StartRead words st = (words ≡ start_words st) × IsStart st

five_takes : (i : ℕ) (words : List (List ℕ)) (st : Start) → five_of i words ≡ Ok st → StartRead words st
five_takes i words st e =
    let k = bind_ok (keyed_form (codes "five") (nodes_form 5) i words) (λ branch. Ok (start.Five branch)) st e in
    subst (StartRead words) (ok_is (start.Five k.0) st k.2) (keyed_form_takes (codes "five") (nodes_form 5) (λ ns. ns) (AreNodes 5) (nodes_is 5) i words k.0 k.1)

three_takes : (i : ℕ) (words : List (List ℕ)) (st : Start) → three_of i words ≡ Ok st → StartRead words st
three_takes i words st e =
    let k = bind_ok (keyed_form (codes "three") (nodes_form 6) i words) (λ branch. Ok (start.ThreeThree branch)) st e in
    subst (StartRead words) (ok_is (start.ThreeThree k.0) st k.2) (keyed_form_takes (codes "three") (nodes_form 6) (λ ns. ns) (AreNodes 6) (nodes_is 6) i words k.0 k.1)

extension_takes : (i : ℕ) (words : List (List ℕ)) (st : Start) → extension_of i words ≡ Ok st → StartRead words st
extension_takes i words st e =
    let k = bind_ok (keyed_form (codes "extension") (list_form 1000000) i words) (λ list. Ok (start.Extension list)) st e in
    subst (StartRead words) (ok_is (start.Extension k.0) st k.2) (keyed_form_takes (codes "extension") (list_form 1000000) (λ ns. length ns ∷ ns) (IsList 1000000) (list_is 1000000 (omega arith)) i words k.0 k.1)

start_takes : (i : ℕ) (words : List (List ℕ)) (st : Start) → start_of i words ≡ Ok st → StartRead words st
unfolding start_of
start_takes i words st e = elim (choose (has_key (codes "five") words) (five_of i words) (cond (has_key (codes "three") words) (three_of i words) (extension_of i words)) (Ok st) e) [
  | inl five ↦ five_takes i words st five
  | inr other ↦ elim (choose (has_key (codes "three") words) (three_of i words) (extension_of i words) (Ok st) other) [
    | inl three ↦ three_takes i words st three
    | inr extension ↦ extension_takes i words st extension
  ]
]

start_again : (i : ℕ) (st : Start) → IsStart st → start_of i (start_words st) ≡ Ok st
unfolding start_of
start_again i (start.Five branch) fits = rw (keyed_form_again (codes "five") (nodes_form 5) (λ ns. ns) (AreNodes 5) (nodes_is 5) i branch fits) refl
start_again i (start.ThreeThree branch) fits = rw (keyed_form_again (codes "three") (nodes_form 6) (λ ns. ns) (AreNodes 6) (nodes_is 6) i branch fits) refl
start_again i (start.Extension list) fits = rw (keyed_form_again (codes "extension") (list_form 1000000) (λ ns. length ns ∷ ns) (IsList 1000000) (list_is 1000000 (omega arith)) i list fits) refl

start_small : (st : Start) → IsStart st → AreSmall (start_numbers st)
start_small (start.Five branch) fits = (nodes_is 5).small branch fits
start_small (start.ThreeThree branch) fits = (nodes_is 6).small branch fits
start_small (start.Extension list) fits = (list_is 1000000 (omega arith)).small list fits

start_is_key : (st : Start) → IsKey (start_key st)
start_is_key (start.Five branch) = record { no_end = lacks_tested 10 (codes "five") refl; no_space = lacks_tested 32 (codes "five") refl }
start_is_key (start.ThreeThree branch) = record { no_end = lacks_tested 10 (codes "three") refl; no_space = lacks_tested 32 (codes "three") refl }
start_is_key (start.Extension list) = record { no_end = lacks_tested 10 (codes "extension") refl; no_space = lacks_tested 32 (codes "extension") refl }

path_item : (j : ℕ) → IsItem (path_at j) path_line (IsList 1000000)
path_item j = form_item (codes "path") _ (λ ns. length ns ∷ ns) (IsList 1000000) (record { no_end = lacks_tested 10 (codes "path") refl; no_space = lacks_tested 32 (codes "path") refl }) (list_is 1000000 (omega arith))

-- an evidence with its start
record HasStart (st : Start) (s : Left) (ev : Evidence) (after : Left) : Type 0 where
  key : start_key st ≡ evidence_key ev
  numbers : start_numbers st ≡ evidence_numbers ev
  text_is : s.1 ≡ each path_line (evidence_paths ev) ++ after.1
  fits : IsEvidenceText ev

paths_take : (st : Start) (s : Left) (ev : Evidence) (after : Left) → IsStart st → paths_of st s ≡ Ok (ev, after) → HasStart st s ev after
paths_take (start.Five branch) s ev after fits e =
    let m = bind_ok (many_at path_at 0 10 s) (λ paths. Ok (Five branch paths.0, paths.1)) (ev, after) e in
    let paths = many_takes path_at path_line (IsList 1000000) path_item 0 10 s m.0 m.1 in
    subst (λ (r : Evidence × Left). HasStart (start.Five branch) s r.0 r.1) (ok_is (Five branch m.0.0, m.0.1) (ev, after) m.2)
    (record { key = refl; numbers = refl; text_is = paths.text_is; fits = (fits, paths.count, paths.all) })
paths_take (start.ThreeThree branch) s ev after fits e =
    let m = bind_ok (many_at path_at 0 9 s) (λ paths. Ok (ThreeThree branch paths.0, paths.1)) (ev, after) e in
    let paths = many_takes path_at path_line (IsList 1000000) path_item 0 9 s m.0 m.1 in
    subst (λ (r : Evidence × Left). HasStart (start.ThreeThree branch) s r.0 r.1) (ok_is (ThreeThree branch m.0.0, m.0.1) (ev, after) m.2)
    (record { key = refl; numbers = refl; text_is = paths.text_is; fits = (fits, paths.count, paths.all) })
paths_take (start.Extension list) s ev after fits e =
    subst (λ (r : Evidence × Left). HasStart (start.Extension list) s r.0 r.1) (ok_is (Extension list, s) (ev, after) e)
    (record { key = refl; numbers = refl; text_is = refl; fits = fits })

evidence_takes : (s : Left) (ev : Evidence) (after : Left) → evidence_at s ≡ Ok (ev, after) → (s.1 ≡ evidence_text ev ++ after.1) × IsEvidenceText ev
unfolding evidence_at
evidence_takes s ev after e =
    let l = bind_ok (line_at s) (λ l. start_of l.0.0 (words_of l.0.1) >>= λ st. paths_of st l.1) (ev, after) e in
    let t = bind_ok (start_of l.0.0.0 (words_of l.0.0.1)) (λ st. paths_of st l.0.1) (ev, after) l.2 in
    let began = start_takes l.0.0.0 (words_of l.0.0.1) t.0 t.1 in
    let paths = paths_take t.0 l.0.1 ev after began.1 t.2 in
    let words : words_of l.0.0.1 ≡ evidence_key ev ∷ map decimal (evidence_numbers ev) = began.0 ∙ ap (λ k. k ∷ map decimal (start_numbers t.0)) paths.key ∙ ap (λ ns. evidence_key ev ∷ map decimal ns) paths.numbers in
    let first = line_takes s l.0.0 l.0.1 l.1 ∙ line_spelled (evidence_key ev) l.0.0.1 (evidence_numbers ev) l.0.1.1 words in
    (two_pieces s.1 (line (evidence_key ev) (evidence_numbers ev)) l.0.1.1 (each path_line (evidence_paths ev)) after.1 first paths.text_is, paths.fits)

-- how an evidence starts
abbrev start_of_evidence : Evidence → Start
start_of_evidence (Five branch paths) = start.Five branch
start_of_evidence (ThreeThree branch paths) = start.ThreeThree branch
start_of_evidence (Extension list) = start.Extension list

record Began (ev : Evidence) : Type 0 where
  key : start_key (start_of_evidence ev) ≡ evidence_key ev
  numbers : start_numbers (start_of_evidence ev) ≡ evidence_numbers ev
  fits : IsStart (start_of_evidence ev)

began : (ev : Evidence) → IsEvidenceText ev → Began ev
began (Five branch paths) fits = record { key = refl; numbers = refl; fits = fits.0 }
began (ThreeThree branch paths) fits = record { key = refl; numbers = refl; fits = fits.0 }
began (Extension list) fits = record { key = refl; numbers = refl; fits = fits }

paths_again : (ev : Evidence) (i : ℕ) (rest : List ℕ) → IsEvidenceText ev → (j : ℕ) × (paths_of (start_of_evidence ev) (i, each path_line (evidence_paths ev) ++ rest) ≡ Ok (ev, (j, rest)))
paths_again (Five branch paths) i rest fits =
    let m = many_again path_at path_line (IsList 1000000) path_item paths 0 i rest fits.2 in
    let read : many_at path_at 0 10 (i, each path_line paths ++ rest) ≡ Ok (paths, (m.0, rest)) = subst (λ k. many_at path_at 0 k (i, each path_line paths ++ rest) ≡ Ok (paths, (m.0, rest))) fits.1 m.1 in
    (m.0, rw read refl)
paths_again (ThreeThree branch paths) i rest fits =
    let m = many_again path_at path_line (IsList 1000000) path_item paths 0 i rest fits.2 in
    let read : many_at path_at 0 9 (i, each path_line paths ++ rest) ≡ Ok (paths, (m.0, rest)) = subst (λ k. many_at path_at 0 k (i, each path_line paths ++ rest) ≡ Ok (paths, (m.0, rest))) fits.1 m.1 in
    (m.0, rw read refl)
paths_again (Extension list) i rest fits = (i, refl)

evidence_again : (i : ℕ) (ev : Evidence) (rest : List ℕ) → IsEvidenceText ev → (j : ℕ) × (evidence_at (i, evidence_text ev ++ rest) ≡ Ok (ev, (j, rest)))
unfolding evidence_at
evidence_again i ev rest fits =
    let b = began ev fits in
    let st = start_of_evidence ev in
    let paths_text : List ℕ = each path_line (evidence_paths ev) in
    let small : AreSmall (evidence_numbers ev) = subst AreSmall b.numbers (start_small st b.fits) in
    let is_key : IsKey (evidence_key ev) = subst IsKey b.key (start_is_key st) in
    let first = line_is_taken (evidence_key ev) (evidence_numbers ev) i (paths_text ++ rest) is_key small in
    let words : words_of first.bytes ≡ start_words st = first.words ∙ sym (ap (λ k. k ∷ map decimal (start_numbers st)) b.key ∙ ap (λ ns. evidence_key ev ∷ map decimal ns) b.numbers) in
    let paths = paths_again ev (i + 1) rest fits in
    (paths.0, rw (regroup_two (line (evidence_key ev) (evidence_numbers ev)) paths_text rest, first.taken, words, start_again i st b.fits) paths.1)

-- ---- rows

over_item : (j : ℕ) → IsItem (over_at j) over_line IsOver
over_item j = form_item (codes "over") _ over_numbers IsOver (record { no_end = lacks_tested 10 (codes "over") refl; no_space = lacks_tested 32 (codes "over") refl }) over_is

overs_of-parts : (os : List (ℕ × List ℕ)) → overs_of (map (λ o. o.0) os) (map (λ o. o.1) os) ≡ os
overs_of-parts [] = refl
overs_of-parts (o ∷ os) = ap (λ ps. o ∷ ps) (overs_of-parts os)

record AreOvers (os : List (ℕ × List ℕ)) : Type 0 where
  edges : All (λ e. e < 2 ^ 32) (map (λ o. o.0) os)
  lists : All (IsList 999) (map (λ o. o.1) os)
  same_length : length (map (λ o. o.1) os) ≡ length (map (λ o. o.0) os)
  long : length (map (λ o. o.0) os) ≡ length os

are_overs : (os : List (ℕ × List ℕ)) → All IsOver os → AreOvers os
are_overs [] all = record { edges = all_none (λ e. e < 2 ^ 32); lists = all_none (IsList 999); same_length = refl; long = refl }
are_overs (o ∷ os) all =
    let rest = are_overs os (all_rest IsOver o os all) in
    let first : IsOver o = all_first IsOver o os all in
    record {
      edges = all_cons (λ e. e < 2 ^ 32) o.0 (map (λ p. p.0) os) first.0 rest.edges;
      lists = all_cons (IsList 999) o.1 (map (λ p. p.1) os) first.1 rest.lists;
      same_length = ap suc rest.same_length;
      long = ap suc rest.long;
    }

record HasOvers (edges : List ℕ) (lists : List (List ℕ)) : Type 0 where
  all : All IsOver (overs_of edges lists)
  firsts : map (λ o. o.0) (overs_of edges lists) ≡ edges
  seconds : map (λ o. o.1) (overs_of edges lists) ≡ lists
  count : length (overs_of edges lists) ≡ length edges

has_overs : (edges : List ℕ) (lists : List (List ℕ)) → length lists ≡ length edges → All (λ e. e < 2 ^ 32) edges → All (IsList 999) lists → HasOvers edges lists
has_overs [] [] fit low small = record { all = all_none IsOver; firsts = refl; seconds = refl; count = refl }
has_overs [] (l ∷ ls) fit low small = absurd (omega arith)
has_overs (e ∷ es) [] fit low small = absurd (omega arith)
has_overs (e ∷ es) (l ∷ ls) fit low small =
    let rest = has_overs es ls (omega arith) (all_rest (λ e. e < 2 ^ 32) e es low) (all_rest (IsList 999) l ls small) in
    record {
      all = all_cons IsOver (e, l) (overs_of es ls) (all_first (λ e. e < 2 ^ 32) e es low, all_first (IsList 999) l ls small) rest.all;
      firsts = ap (λ xs. e ∷ xs) rest.firsts;
      seconds = ap (λ xs. l ∷ xs) rest.seconds;
      count = ap suc rest.count;
    }

row_line_item : (m : ℕ) → m < 2 ^ 64 → IsItem (form_at (codes "row") (one_form m)) (λ n. line (codes "row") (n ∷ [])) (λ n. n ≤ m)
row_line_item m low = form_item (codes "row") (one_form m) (λ n. n ∷ []) (λ n. n ≤ m) (record { no_end = lacks_tested 10 (codes "row") refl; no_space = lacks_tested 32 (codes "row") refl }) (one_is m low)

-- the edges and lists of a row
record OversAre (count : ℕ) (text : List ℕ) (o : List ℕ × List (List ℕ)) (after : Left) : Type 0 where
  text_is : text ≡ each over_line (overs_of o.0 o.1) ++ after.1
  long : length o.0 ≡ count
  edges : All (λ e. e < 2 ^ 32) o.0
  lists_fit : length o.1 ≡ length o.0
  lists : All (IsList 999) o.1

overs_take : (count : ℕ) (s : Left) (o : List ℕ × List (List ℕ)) (after : Left) → overs_at count s ≡ Ok (o, after) → OversAre count s.1 o after
unfolding overs_at
overs_take count s o after e =
    let m = bind_ok (many_at over_at 0 count s) (λ over. Ok ((map (λ o. o.0) over.0, map (λ o. o.1) over.0), over.1)) (o, after) e in
    let many = many_takes over_at over_line IsOver over_item 0 count s m.0 m.1 in
    let are = are_overs m.0.0 many.all in
    subst (λ (r : (List ℕ × List (List ℕ)) × Left). OversAre count s.1 r.0 r.1) (ok_is ((map (λ o. o.0) m.0.0, map (λ o. o.1) m.0.0), m.0.1) (o, after) m.2) (record {
      text_is = subst (λ os. s.1 ≡ each over_line os ++ m.0.1.1) (sym (overs_of-parts m.0.0)) many.text_is;
      long = are.long ∙ many.count;
      edges = are.edges;
      lists_fit = are.same_length;
      lists = are.lists;
    })

row_takes : (m j : ℕ) → m < 2 ^ 64 → (s : Left) (row : Row) (after : Left) → row_at m j s ≡ Ok (row, after) → (s.1 ≡ row_text row ++ after.1) × IsRowText m row
unfolding row_at
row_takes m j low s row after e =
    let made : List ℕ × List (List ℕ) → Evidence × Left → Result (Row × Left) Flaw = λ o v. Ok (record { edges = o.0; orders = o.1; evidence = v.0 }, v.1) in
    let c = bind_ok (form_at (codes "row") (one_form m) s) (λ c. overs_at c.0 c.1 >>= λ o. evidence_at o.1 >>= made o.0) (row, after) e in
    let o = bind_ok (overs_at c.0.0 c.0.1) (λ o. evidence_at o.1 >>= made o.0) (row, after) c.2 in
    let v = bind_ok (evidence_at o.0.1) (made o.0.0) (row, after) o.2 in
    let count = (row_line_item m low).takes s c.0.0 c.0.1 c.1 in
    let overs = overs_take c.0.0 c.0.1 o.0.0 o.0.1 o.1 in
    let evidence = evidence_takes o.0.1 v.0.0 v.0.1 v.1 in
    let few = count.1 in
    let long = overs.long in
    let first : s.1 ≡ line (codes "row") (length o.0.0.0 ∷ []) ++ c.0.1.1 = subst (λ k. s.1 ≡ line (codes "row") (k ∷ []) ++ c.0.1.1) (sym long) count.0 in
    let found : Row = record { edges = o.0.0.0; orders = o.0.0.1; evidence = v.0.0 } in
    subst (λ (r : Row × Left). (s.1 ≡ row_text r.0 ++ r.1.1) × IsRowText m r.0) (ok_is (found, v.0.1) (row, after) v.2) (
      three_pieces s.1 (line (codes "row") (length o.0.0.0 ∷ [])) c.0.1.1 (each over_line (overs_of o.0.0.0 o.0.0.1)) o.0.1.1 (evidence_text v.0.0) v.0.1.1 first overs.text_is evidence.0,
      record { few = omega (arith, few, long); edges = overs.edges; lists_fit = overs.lists_fit; lists = overs.lists; evidence = evidence.1 },
    )

row_again : (m j : ℕ) → m < 2 ^ 64 → (i : ℕ) (row : Row) (rest : List ℕ) → IsRowText m row → (n : ℕ) × (row_at m j (i, row_text row ++ rest) ≡ Ok (row, (n, rest)))
unfolding row_at overs_at
row_again m j low i row rest fits =
    let overs_text : List ℕ = each over_line (overs_of row.edges row.orders) in
    let has = has_overs row.edges row.orders fits.lists_fit fits.edges fits.lists in
    let count = (row_line_item m low).again i (length row.edges) (overs_text ++ (evidence_text row.evidence ++ rest)) fits.few in
    let many = many_again over_at over_line IsOver over_item (overs_of row.edges row.orders) 0 count.0 (evidence_text row.evidence ++ rest) has.all in
    let read : many_at over_at 0 (length row.edges) (count.0, overs_text ++ (evidence_text row.evidence ++ rest)) ≡ Ok (overs_of row.edges row.orders, (many.0, evidence_text row.evidence ++ rest)) =
    subst (λ k. many_at over_at 0 k (count.0, overs_text ++ (evidence_text row.evidence ++ rest)) ≡ Ok (overs_of row.edges row.orders, (many.0, evidence_text row.evidence ++ rest))) has.count many.1 in
    let evidence = evidence_again many.0 row.evidence rest fits.evidence in
    let with_parts : List ℕ → List (List ℕ) → Result (Row × Left) Flaw = λ edges lists. Ok (record { edges = edges; orders = lists; evidence = row.evidence }, (evidence.0, rest)) in (
      evidence.0,
      rw (regroup_three (line (codes "row") (length row.edges ∷ [])) overs_text (evidence_text row.evidence) rest, count.1, read, evidence.1)
          (ap (λ edges. with_parts edges (map (λ o. o.1) (overs_of row.edges row.orders))) has.firsts ∙ ap (λ lists. with_parts row.edges lists) has.seconds),
    )

pub row_item : (m : ℕ) → m < 2 ^ 64 → (j : ℕ) → IsItem (row_at m j) row_text (IsRowText m)
row_item m low j = record { takes = row_takes m j low; again = row_again m j low }
