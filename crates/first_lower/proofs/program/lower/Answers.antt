use Rattle.std.proofs.Common.{◌≡◌, ℕ, List, length, ap, ◌∙◌, arith}
use Rattle.std.proofs.lemmas.List.{length-map}
use Rattle.first_conditions.specs.Conditions.{key, variable_keys}
use Rattle.first_path.specs.declared.source.Source.{Source}
use Rattle.first_lower.proofs.Knowing.{body_known, global_known}
use Rattle.first_lower.proofs.Lowering.{lowered}
use Rattle.first_lower.proofs.Proper.{proper}
use Rattle.first_lower.proofs.WellFormed.{well_formed}
use Rattle.first_lower.proofs.program.lower.Goals as goal

-- there is a key for each variable
as_many : (s : Source) (keys : List (List ℕ)) → keys ≡ variable_keys s.spec.variables → length keys ≡ length s.spec.variables
as_many s keys table = ap length table ∙ length-map s.spec.variables (λ v. key v.name)

pub add_code-requires-clause-known : goal.add_code-requires-clause-known
add_code-requires-clause-known c = body_known c.args.source.now c.args.table.now c.requires.conditions c.requires.table

pub assemble-requires-clause-known : goal.assemble-requires-clause-known
assemble-requires-clause-known c = global_known c.args.source.now c.args.table.now c.requires.conditions c.requires.table

pub returns-clause-lowered : goal.returns-clause-lowered
returns-clause-lowered c = lowered _ _ _ _ _ c.in_ok-program.ensures c.in_ok-roots.ensures.roots c.requires.nested c.requires.table

pub returns-clause-fine : goal.returns-clause-fine
returns-clause-fine c =
    let same = as_many c.args.source.now c.args.table.now c.requires.table in
    well_formed _ _ _ _ _ c.in_ok-program.ensures c.in_ok-roots.ensures.roots same
    c.in_ok-roots.ensures.adds.fine (omega (arith, c.in_ok-roots.ensures.adds.leaves)) c.requires.nested
    (body_known c.args.source.now c.args.table.now c.requires.conditions c.requires.table)
    (global_known c.args.source.now c.args.table.now c.requires.conditions c.requires.table)

pub returns-clause-proper : goal.returns-clause-proper
returns-clause-proper c =
    let same = as_many c.args.source.now c.args.table.now c.requires.table in
    proper _ _ _ _ _ c.in_ok-program.ensures c.in_ok-roots.ensures.roots same c.requires.nested
    (body_known c.args.source.now c.args.table.now c.requires.conditions c.requires.table)
