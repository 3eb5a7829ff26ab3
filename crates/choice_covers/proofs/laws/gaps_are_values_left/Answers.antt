use Rattle.choice_covers.proofs.Gaps.{gap_is_left, left_is_gap}
use Rattle.choice_covers.proofs.laws.gaps_are_values_left.Goals as goal

pub returns : goal.returns
returns c = λ parts low high. (gap_is_left parts low high, left_is_gap parts low high)
