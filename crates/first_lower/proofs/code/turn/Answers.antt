use Rattle.std.proofs.Common.{◌∙◌, List, Some, refl, ap, sym}
use Rattle.spark_base.specs.declared.numbers.StmtNo.{StmtNo}
use Rattle.core_form.specs.Code.{Skip, code_of}
use Rattle.first_lower.specs.Steps.{codes_before}
use Rattle.first_lower.specs.declared.code.Open.{Open}
use Rattle.first_lower.proofs.Levels.{reaches_else}
use Rattle.first_lower.proofs.code.turn.Goals as goal

pub returns-in_ok-push_front : goal.returns-in_ok-push_front
returns-in_ok-push_front c =
    let turned : Open = record { before = c.in-Some.open.before; test = c.in-Some.open.test; main = Some c.in_ok-side.side } in
    reaches_else c.args.nodes.now c.add_sequence.new.nodes c.args.unfinished.now _ c.in-Some.open turned c.pop_front.new.self.items c.in_ok-side.side
    c.in_ok-side.ensures.adds c.requires.within (sym c.take_list-list.ensures.ifs ∙ c.in-Some.ensures.items) c.take_list-list.ensures.new
    c.in_ok-push_front.ensures.items refl refl refl c.in_ok-side.ensures.within
    (c.in_ok-side.ensures.code ∙ ap (λ (l : List StmtNo). codes_before (code_of c.args.nodes.now.exprs c.args.nodes.now.stmts) l Skip) c.take_list-list.ensures.list)
