use Rattle.elaboration_laws.proofs.Covered.{all_elaborated}
use Rattle.elaboration_laws.proofs.moments_cover.Goals as goal

pub returns : goal.returns
returns c p items proper plain endings starts = all_elaborated p items proper plain endings starts
