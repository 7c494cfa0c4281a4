use Rattle.std.proofs.Common.{inl, refl}
use Rattle.xn_blocks.proofs.CycleRounds.{in_one_block_sym, in_one_block_trans}
use Rattle.xn_blocks.proofs.laws.blocks.Goals as goal

pub returns-clause-classes : goal.returns-clause-classes
returns-clause-classes c = λ ends no_loop. record {
  reflexive = λ s. inl refl;
  symmetric = in_one_block_sym ends;
  transitive = in_one_block_trans ends no_loop;
}

pub returns-clause-part : goal.returns-clause-part
returns-clause-part c = λ web blocks are s s_in.
    let found = are.parts.each s s_in in
    record { list = found.0; there = found.1; only = λ i there. (are.parts.together i found.0 s s there found.1).1 (inl refl) }
