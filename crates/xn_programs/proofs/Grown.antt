-- Rows that came behind the known ones, step by step.
use Rattle.std.proofs.Common.{◌≡◌, ◌<◌, ◌∙◌, List, [], ◌∷◌, ◌++◌, length, true, false, refl, sym, ap, subst, arith, append_assoc, append-nil, length-append}
use Rattle.std.specs.Prelude.{All}
use Rattle.std.proofs.lemmas.Bool.{both_ways}
use Rattle.std.proofs.lemmas.List.Elements.{All-push}
use Rattle.xn_model.specs.Evidence.{five_pairs, three_pairs}
use Rattle.xn_model.specs.Graph.{Graph}
use Rattle.xn_kinds.specs.Row.{EvidenceHolds, RowHolds}
use Rattle.xn_kinds.specs.declared.rows.Evidence.{Evidence}
use Rattle.xn_kinds.specs.declared.rows.Evidence.TheVariants.{Five, ThreeThree, Extension}
use Rattle.xn_kinds.specs.declared.rows.Row.{Row}
use Rattle.xn_kura.specs.Flaws.{HasAKind}
use Rattle.xn_kura.proofs.Turned.{length-lead}
use Rattle.xn_search.specs.Choice.{GrowsTo, HaveKinds}
use Rattle.xn_programs.specs.Turns.{IsGrown, is_extension}

-- evidence that holds and is no extension has a kind
pub kind_of_held : (web : Graph) (evidence : Evidence) → EvidenceHolds web evidence → is_extension evidence ≡ false → HasAKind evidence
kind_of_held web (Five branch paths) held other = (held.0, length-lead web.ends branch five_pairs paths held.1.lead)
kind_of_held web (ThreeThree branch paths) held other = (held.0, length-lead web.ends branch three_pairs paths held.1.lead)
kind_of_held web (Extension list) held other = absurd (both_ways true other refl)

-- none
pub grown_none : (g : Graph) (rows : List Row) → All (RowHolds g) rows → IsGrown g rows rows
grown_none g rows hold = record { more = ([], sym (append-nil rows)); hold = hold; kinds = λ kinds. kinds; few = omega arith }

-- one
pub grown_one : (g : Graph) (rows longer : List Row) (row : Row) → All (RowHolds g) rows → RowHolds g row → HasAKind row.evidence → length rows < 800000 →
    longer ≡ rows ++ row ∷ [] → IsGrown g rows longer
grown_one g rows longer row hold holds kind few is = record {
  more = (row ∷ [], is);
  hold = subst (All (RowHolds g)) (sym is) (All-push (RowHolds g) rows row hold holds);
  kinds = λ kinds. subst HaveKinds (sym is) (All-push (λ (r : Row). HasAKind r.evidence) rows row kinds kind);
  few = omega (arith, few, ap (length {A = Row}) is, length-append rows (row ∷ []));
}

-- some, and some more
pub extends_more : (first rows longer : List Row) → GrowsTo first rows → GrowsTo rows longer → GrowsTo first longer
extends_more first rows longer one two = (one.0 ++ two.0, two.1 ∙ ap (λ xs. xs ++ two.0) one.1 ∙ append_assoc first one.0 two.0)

pub grown_more : (g : Graph) (first rows longer : List Row) → IsGrown g first rows → IsGrown g rows longer → IsGrown g first longer
grown_more g first rows longer one two = record {
  more = extends_more first rows longer one.more two.more;
  hold = two.hold;
  kinds = λ kinds. two.kinds (one.kinds kinds);
  few = omega (arith, one.few, two.few);
}
