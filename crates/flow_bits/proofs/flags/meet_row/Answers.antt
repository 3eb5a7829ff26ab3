use Rattle.std.proofs.Common.{inl}
use Rattle.flow_bits.proofs.Bits.{and_bits}
use Rattle.flow_bits.proofs.Changed.{met}
use Rattle.flow_bits.proofs.Clean.{clean_each, each_for}
use Rattle.flow_bits.proofs.flags.meet_row.Goals as goal

pub returns-clause-clean : goal.returns-clause-clean
returns-clause-clean c =
    clean_each _ _ _ _ _ _ _ (λ x y i s. inl ((and_bits x y i).0 s).0) c.requires.clean c.requires.clean_from (each_for _ _ _ _ _ _ _ _ c.words_for.ensures c.meet_words.ensures)

pub returns-clause-set : goal.returns-clause-set
returns-clause-set c = met _ _ _ _ _ _ (each_for _ _ _ _ _ _ _ _ c.words_for.ensures c.meet_words.ensures)
