use Rattle.std.proofs.Common.{refl, rules}
use Rattle.first_conditions.specs.Conditions.{IsFree, key, variable_keys}
use Rattle.first_path.specs.declared.source.Variable.{Variable}
use Rattle.first_conditions.proofs.Alls.{all_of, all_map}
use Rattle.first_conditions.proofs.fit.declares_free.Goals as goal

pub returns-then-is_free : goal.returns-then-is_free
returns-then-is_free c = all_of (IsFree (key c.args.spec.now.package)) (key c.args.spec.now.procedure.name)
    (variable_keys c.args.spec.now.variables) (variable_keys c.args.spec.now.variables) _ _ refl refl (search rules)
    (all_map (IsFree (key c.args.spec.now.package)) (λ (v : Variable). key v.name) c.args.spec.now.variables _ _ c.as_slice.ensures c.are_free.ensures)
