use Rattle.std.proofs.Common.{◌∙◌, List, [], ◌∷◌, ◌++◌, refl, ap}
use Rattle.spark_base.specs.declared.numbers.StmtNo.{StmtNo}
use Rattle.core_form.specs.Code.{Skip, code_of}
use Rattle.first_lower.specs.Steps.{codes_before}
use Rattle.first_lower.proofs.Levels.{reaches_end}
use Rattle.first_lower.proofs.code.close.Goals as goal

pub returns : goal.returns
returns c =
    reaches_end c.args.nodes.now c.add_sequence.new.nodes c.add_branch.new.nodes c.args.unfinished.now _ c.in-Some.open c.pop_front.new.self.items
    c.in_ok-side.side c.in_ok-branch.branch c.in_ok-side.ensures.adds c.in_ok-branch.ensures.adds c.requires.within
    c.in-Some.ensures.items (c.in_ok-push.ensures.ok ∙ ap (λ (l : List StmtNo). l ++ c.in_ok-branch.branch ∷ []) c.replace-list.ensures.after)
    refl c.in_ok-branch.ensures.within
    (c.in_ok-side.ensures.code ∙ ap (λ (l : List StmtNo). codes_before (code_of c.args.nodes.now.exprs c.args.nodes.now.stmts) l Skip) c.replace-list.ensures.value)
    c.in_ok-branch.ensures.code
