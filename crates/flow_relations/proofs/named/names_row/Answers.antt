use Rattle.std.proofs.Common.{arith}
use Rattle.core_form.specs.Code.{code_of}
use Rattle.flow_relations.specs.Equation.{clock_among}
use Rattle.flow_relations.specs.Framing.{place_at}
use Rattle.flow_relations.proofs.Own.{own_names}
use Rattle.flow_relations.proofs.named.names_row.Goals as goal

pub returns-clause-set : goal.returns-clause-set
returns-clause-set c = λ v.
    let p = c.args.program.now in
    let same = own_names (place_at c.own-own.result) c.own-own.ensures.own (clock_among p.vars) (code_of p.exprs p.stmts c.at.result.now.code) v in
    let added = rw same at (c.add_names.ensures.set v) in
    rw c.at.ensures (grind (arith, c.in_ok-row.ensures.empty v, added))
