use Rattle.row_equations.proofs.Following as laws
use Rattle.row_equations.proofs.laws.least_is_closed.Goals as goal

pub returns : goal.returns
returns c p l f h = laws.least_closed p l f h
