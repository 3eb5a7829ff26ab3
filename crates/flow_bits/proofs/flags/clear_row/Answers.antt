use Rattle.flow_bits.proofs.Bits.{no_bit}
use Rattle.flow_bits.proofs.Changed.{cleared}
use Rattle.flow_bits.proofs.Clean.{clean_each, each_for}
use Rattle.flow_bits.proofs.flags.clear_row.Goals as goal

pub returns-clause-clean : goal.returns-clause-clean
returns-clause-clean c =
    clean_each (λ x y. 0) _ _ _ _ _ _ (λ x y i s. absurd (no_bit 0 i (λ j. 0) s)) c.requires.clean c.requires.clean (each_for _ _ _ _ _ _ _ _ c.words_for.ensures c.clear_words.ensures)

pub returns-clause-set : goal.returns-clause-set
returns-clause-set c = cleared _ _ _ _ _ _ (each_for _ _ _ _ _ _ _ _ c.words_for.ensures c.clear_words.ensures)
