use Rattle.body_summaries.proofs.Words.{are_rows, followed_bits}
use Rattle.body_summaries.proofs.bodies.BodiesRowEquations.row_words.Goals as goal

pub row_words-requires-clause-rows : goal.row_words-requires-clause-rows
row_words-requires-clause-rows c =
    are_rows c.args.self.now.program.now c.args.self.now.layout.now c.requires.fit.layout c.args.rows.now c.requires.layout c.requires.rows

pub returns-clause-bits : goal.returns-clause-bits
returns-clause-bits c n =
    followed_bits c.args.self.now.program.now c.args.self.now.layout.now c.args.rows.now c.requires.layout c.args.b.0 c.requires.in_range
    c.in_ok-words.words n (c.in_ok-words.ensures.bits n)
