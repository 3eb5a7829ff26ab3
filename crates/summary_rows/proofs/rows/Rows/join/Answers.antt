use Rattle.summary_rows.proofs.Joined.{join_told, join_tidy, join_gains}
use Rattle.summary_rows.proofs.rows.Rows.join.Goals as goal

pub returns-clause-set : goal.returns-clause-set
returns-clause-set c =
    join_told c.args.self.now.layout c.requires.rows.layout c.args.b.0 c.requires.in_range c.args.self.now.words c.join.new.self c.args.words.now
    c.requires.size c.first-first.result c.first-first.ensures.first c.join.ensures.set

pub returns-clause-tidy : goal.returns-clause-tidy
returns-clause-tidy c =
    join_tidy c.args.self.now.layout c.requires.rows.layout c.args.b.0 c.requires.in_range c.args.self.now.words c.join.new.self c.args.words.now
    c.requires.size c.first-first.result c.first-first.ensures.first c.join.ensures.set

pub returns-clause-grew : goal.returns-clause-grew
returns-clause-grew c g row =
    join_gains c.args.self.now.layout c.requires.rows.layout c.args.b.0 c.requires.in_range c.args.self.now.words c.join.new.self c.args.words.now
    c.requires.size c.first-first.result c.first-first.ensures.first c.join.ensures.set row (λ w. (c.type_inv.words w).fits) (c.join.ensures.grew g)
