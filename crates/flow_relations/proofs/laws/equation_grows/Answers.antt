use Rattle.std.proofs.Common.{subst}
use Rattle.summary_rows.specs.declared.layout.Layout.{Layout}
use Rattle.summary_rows.specs.Layout.{told}
use Rattle.call_flow.specs.Calls.{IsLess}
use Rattle.flow_relations.specs.Summaries.{equation_over}
use Rattle.callee_view.specs.Seen.{of_body}
use Rattle.flow_relations.proofs.Seeing.{equation_sees}
use Rattle.flow_relations.proofs.laws.equation_grows.Goals as goal

pub returns : goal.returns
returns c p less more e h b =
    subst (λ (l : Layout). IsLess (equation_over p less.layout (told less) b) (equation_over p l (told more) b)) e
    (equation_sees p less.layout (told less) (told more) b (λ d k x t. h (of_body d x) t))
