use Rattle.std.proofs.Common.{List, ◌∷◌, sym, ap, ◌∙◌}
use Rattle.xn_gml.specs.declared.token.Token.{Token}
use Rattle.xn_gml.specs.Lists.{listed_pairs_from}
use Rattle.xn_gml.proofs.PairSteps.{pair_list, pair_plain}
use Rattle.xn_gml.proofs.lists.next_pair.Goals as goal
use Rattle.xn_gml.proofs.lists.next_pair.Goals.{then-is_open, else-is_open}

pub returns-clause-some : goal.returns-clause-some
returns-clause-some c =
    let value_is = c.in_ok-value.ensures.some ∙ ap (λ (ts : List Token). c.in_ok-value.value ∷ ts) (sym c.again-list.ensures) in
    elim c.if-is_open.branch [
      | then-is_open w ↦ pair_list c.args.tokens.now c.next.new.self c.again-list.result c.in_ok-key.key c.in_ok-value.value c.in-Word.word
          c.in_ok-key.ensures.some value_is c.in-Word.is c.if-is_open.tokens (sym c.is_open.ensures ∙ w.if-is_open.true)
          (ap (listed_pairs_from 0) w.tokens-is ∙ w.skip_list.ensures.skipped ∙ ap (listed_pairs_from 1) (sym c.again-list.ensures))
      | else-is_open w ↦ pair_plain c.args.tokens.now c.next.new.self c.again-list.result c.in_ok-key.key c.in_ok-value.value c.in-Word.word
          c.in_ok-key.ensures.some value_is c.in-Word.is (sym c.is_open.ensures ∙ w.if-is_open.false)
          ∙ ap (λ (ts : List Token). record { key = c.in-Word.word; at = c.in_ok-key.key.at; value = c.in_ok-value.value; list = c.again-list.result } ∷ listed_pairs_from 0 ts)
          (c.again-list.ensures ∙ sym w.tokens-is)
    ]
