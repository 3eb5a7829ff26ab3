use Rattle.expression_tests.proofs.outline_tests.+edges_of.Given as goal

abbrev pub decreases-edges_of : goal.decreases-edges_of
decreases-edges_of l = l.e.0
