use Rattle.std.proofs.Common.{subst}
use Rattle.summary_rows.specs.declared.layout.Layout.{Layout}
use Rattle.summary_rows.specs.Layout.{told}
use Rattle.call_flow.specs.Calls.{IsAlike}
use Rattle.flow_relations.specs.Summaries.{equation_over}
use Rattle.callee_view.specs.Seen.{of_body}
use Rattle.flow_relations.proofs.Seeing.{equation_sees}
use Rattle.flow_relations.proofs.laws.equation_sees_callees.Goals as goal

pub returns : goal.returns
returns c p one other e b h =
    subst (λ (l : Layout). IsAlike (equation_over p one.layout (told one) b) (equation_over p l (told other) b)) e
    (record {
      less = equation_sees p one.layout (told one) (told other) b (λ d k x t. (h (of_body d x) k).0 t);
      more = equation_sees p one.layout (told other) (told one) b (λ d k x t. (h (of_body d x) k).1 t);
    })
