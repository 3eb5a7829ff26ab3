use Rattle.std.proofs.Common.{◌≡◌, ◌∙◌, [], ap, drop, sym}
use Rattle.std.proofs.lemmas.List.{drop_all}
use Rattle.core_form.specs.Code.{code_of}
use Rattle.first_lower.specs.Levels.{codes_of, ends, levels_of}
use Rattle.first_lower.proofs.Levels.{chain_whole}
use Rattle.first_lower.proofs.code.add_lines.Goals as goal

pub returns-clause-code : goal.returns-clause-code
returns-clause-code c =
    let none_left : drop c.loop-line.line-index c.args.lines.now ≡ [] = drop_all c.loop-line.line-index c.args.lines.now c.loop-line-test.false in
    c.in_ok-sequence.ensures.code ∙ chain_whole (code_of c.loop-line.nodes.exprs c.loop-line.nodes.stmts) c.loop-line.unfinished.list
    ∙ ap (ends c.args.table.now (levels_of c.loop-line.nodes c.loop-line.unfinished.ifs.items) (codes_of c.loop-line.nodes c.loop-line.unfinished.list)) (sym none_left)
    ∙ c.loop-line.invariant.code
