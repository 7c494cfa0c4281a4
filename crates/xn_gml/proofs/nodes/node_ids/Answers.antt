use Rattle.std.proofs.Common.{◌≡◌, ℕ, ℤ, List, [], ◌∷◌, ◌++◌, to_z-of_z, length, ap, sym, ◌∙◌, arith, rules, length-append, FitsSigned, w64}
use Rattle.std.proofs.lemmas.Result.{err_from_is_err_and}
use Rattle.std.specs.Ordering.{int_eq}
use Rattle.indexmap.proofs.CallerLemmas.{insert_entry-new}
use Rattle.xn_gml.specs.declared.token.Key.TheVariants.{Node}
use Rattle.xn_gml.specs.Lists.{lists_of}
use Rattle.xn_gml.specs.Meaning.{ids_from}
use Rattle.xn_gml.proofs.BlockSteps.{fails_is, ids_full, ids_stop, ids_more, ids_done, numbered_push}
use Rattle.xn_gml.proofs.nodes.node_ids.Goals as goal

pub returns-then-len-ge1000-clause-read : goal.returns-then-len-ge1000-clause-read
returns-then-len-ge1000-clause-read c =
    sym c.loop-block.invariant.read ∙ ap (ids_from 1000 c.loop-block.ids.entries) c.in-Some.ensures.some ∙ ids_full c.loop-block.ids.entries c.in-Some.block _ (omega arith)

pub returns-in_err-id-clause-read : goal.returns-in_err-id-clause-read
returns-in_err-id-clause-read c =
    let p = err_from_is_err_and c.from_residual.result c.from_residual.ensures.1 in
    rw (p.1, p.2) (fails_is c.in_err-id.field-0.0 _
    (sym c.loop-block.invariant.read ∙ ap (ids_from 1000 c.loop-block.ids.entries) c.in-Some.ensures.some
    ∙ ids_stop c.loop-block.ids.entries c.in-Some.block _ c.in_err-id.field-0.0 (omega arith) (sym c.in_err-id.ensures.value)))

pub loop-block-preserved : goal.loop-block-preserved
loop-block-preserved c =
    let ids = c.loop-block.ids.entries in
    let id = c.in_ok-id.id in
    let fits : FitsSigned w64 id = search rules in
    let pushed : c.insert.new.self.entries ≡ ids ++ (id, c.len-number.result) ∷ [] =
    rw (to_z-of_z fits) at c.in_ok-insert.ensures.entries ∙ insert_entry-new int_eq c.loop-block.ids id c.len-number.result c.in_ok-id.ensures.new in
    record {
      read = ap (λ (es : List (ℤ × ℕ)). ids_from 1000 es (lists_of Node c.next_list.new.tokens))
          (pushed ∙ ap (λ (n : ℕ). ids ++ (id, n) ∷ []) c.len-number.ensures.len)
          ∙ sym (sym c.loop-block.invariant.read ∙ ap (ids_from 1000 ids) c.in-Some.ensures.some
          ∙ ids_more ids c.in-Some.block _ id (omega arith) (sym c.in_ok-id.ensures.value));
      few = omega (arith, length-append {A = ℤ × ℕ}, ap length pushed);
      numbered = numbered_push ids c.insert.new.self.entries id c.len-number.result c.len-number.ensures.len pushed c.loop-block.invariant.numbered;
    }

pub returns-clause-read : goal.returns-clause-read
returns-clause-read c =
    sym c.loop-block.invariant.read ∙ ap (ids_from 1000 c.loop-block.ids.entries) c.in_default.ensures.none ∙ ids_done c.loop-block.ids.entries
