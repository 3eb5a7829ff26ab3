use Rattle.ada_stmts.proofs.declarations.literal.Goals as goal

pub returns-clause-builds : goal.returns-clause-builds
returns-clause-builds c = λ ds hd. c.in_ok-declare.ensures.builds _ _ (c.new.ensures _ hd.ordered) hd
