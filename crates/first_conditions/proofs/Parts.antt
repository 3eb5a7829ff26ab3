-- The conditions of a source, and what is looked at.
use Rattle.std.proofs.Common.{◌≡◌, true, [], map, arith}
use Rattle.std.proofs.lemmas.List.Sums.{AllPass-from_list_all, list_all-from_AllPass}
use Rattle.first_path.specs.declared.source.Source.{Source}
use Rattle.first_conditions.specs.Checks.{IsFitBody, IsFitSpec, are_items, are_known, are_new}
use Rattle.first_conditions.specs.Conditions.{AreDistinct, MeetsConditions, declared_keys, is_known, item_words, key, lines_words, variable_keys}
use Rattle.first_conditions.proofs.Distinct.{distinct_when_new, new_when_distinct, items_parts}

pub fit_spec : (s : Source) → MeetsConditions s → IsFitSpec s.spec
fit_spec s m = record { marks = m.marks; aspect = m.aspect; modes = m.modes; free = m.free; end = m.spec_end }

pub fit_body : (s : Source) → MeetsConditions s → IsFitBody s.spec s.body
fit_body s m = record {
  «package» = m.same_package;
  procedure = m.same_procedure;
  procedure_end = m.procedure_end;
  package_end = m.package_end;
  short = m.short;
}

pub known_names : (s : Source) → MeetsConditions s → are_known (variable_keys s.spec.variables) (lines_words s.body.procedure.lines) ≡ true
known_names s m = list_all-from_AllPass (λ w. is_known (variable_keys s.spec.variables) (key w)) (lines_words s.body.procedure.lines) m.names

pub fit_items : (s : Source) → MeetsConditions s → are_items (variable_keys s.spec.variables) [] (item_words s.spec.procedure.global) ≡ true
fit_items s m =
    let known = list_all-from_AllPass (λ w. is_known (variable_keys s.spec.variables) (key w)) (item_words s.spec.procedure.global) m.items in
    let new = new_when_distinct (map key (item_words s.spec.procedure.global)) m.once in
    grind (arith, items_parts (variable_keys s.spec.variables) [] (item_words s.spec.procedure.global), known, new)

pub meets : (s : Source) → IsFitSpec s.spec → IsFitBody s.spec s.body → AreDistinct (declared_keys s.spec)
    → are_items (variable_keys s.spec.variables) [] (item_words s.spec.procedure.global) ≡ true
    → are_known (variable_keys s.spec.variables) (lines_words s.body.procedure.lines) ≡ true → MeetsConditions s
meets s spec body distinct items names =
    let parts = items_parts (variable_keys s.spec.variables) [] (item_words s.spec.procedure.global) in
    let known : are_known (variable_keys s.spec.variables) (item_words s.spec.procedure.global) ≡ true = grind (arith, parts, items) in
    let new : are_new [] (map key (item_words s.spec.procedure.global)) ≡ true = grind (arith, parts, items) in
    record {
      marks = spec.marks;
      aspect = spec.aspect;
      modes = spec.modes;
      free = spec.free;
      distinct = distinct;
      same_package = body.«package»;
      same_procedure = body.procedure;
      spec_end = spec.end;
      procedure_end = body.procedure_end;
      package_end = body.package_end;
      items = AllPass-from_list_all (λ w. is_known (variable_keys s.spec.variables) (key w)) (item_words s.spec.procedure.global) known;
      once = distinct_when_new (map key (item_words s.spec.procedure.global)) new;
      names = AllPass-from_list_all (λ w. is_known (variable_keys s.spec.variables) (key w)) (lines_words s.body.procedure.lines) names;
      short = body.short;
    }
