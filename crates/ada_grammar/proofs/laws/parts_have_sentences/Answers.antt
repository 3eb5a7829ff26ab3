use Rattle.ada_grammar.proofs.Begins.{sample, sample_phrase}
use Rattle.ada_grammar.proofs.laws.parts_have_sentences.Goals as goal

pub returns : goal.returns
returns c = λ part. (sample_phrase part, (sample part).0, (sample part).1)
