-- An assembled program is the lowered source.
use Rattle.std.proofs.Common.{◌≡◌, ℕ, List, [], ap, ◌∙◌}
use Rattle.core_form.specs.declared.build.Nodes.{Nodes}
use Rattle.core_form.specs.declared.program.Program.{Program}
use Rattle.first_conditions.specs.Conditions.{variable_keys}
use Rattle.first_path.specs.Nested.{AreNested}
use Rattle.first_path.specs.declared.source.Source.{Source}
use Rattle.first_lower.specs.Assembled.{HasRoots, IsAssembled, bodies_of}
use Rattle.first_lower.specs.Levels.{ends}
use Rattle.first_lower.specs.Lowered.{IsLowered, low_statements}
use Rattle.first_lower.specs.declared.program.Roots.{Roots}
use Rattle.first_lower.proofs.Lines.{ends_code}

pub lowered : (s : Source) (keys : List (List ℕ)) (nodes : Nodes) (r : Roots) (p : Program)
    → IsAssembled s keys nodes r p → HasRoots s keys nodes r → AreNested s.body.procedure.lines → keys ≡ variable_keys s.spec.variables → IsLowered s p
lowered s keys nodes r p a roots nested table = record {
  leaves = a.leaves;
  vars = a.vars;
  items = a.items;
  packages = a.packages;
  states = a.states;
  objects = a.objects;
  tasks = a.tasks;
  order = a.order;
  main = a.main;
  part_of = a.part_of;
  constituents = a.constituents;
  assignments = a.assignments;
  first = r.spec;
  second = r.body;
  third = r.procedure;
  bodies = a.bodies ∙ ap (λ k. bodies_of s k r) table;
  spec_code = rw (a.exprs, a.stmts) roots.spec_code;
  body_code = rw (a.exprs, a.stmts) roots.body_code;
  statements = nested.statements;
  written = nested.written;
  procedure_code = rw (a.exprs, a.stmts) (roots.procedure_code ∙ ap (ends keys [] []) nested.written ∙ ends_code keys nested.statements
      ∙ ap (λ k. low_statements k nested.statements) table);
}
