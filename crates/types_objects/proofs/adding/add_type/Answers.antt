use Rattle.std.proofs.Common.{ap, ◌∙◌, subst}
use Rattle.std.specs.Prelude.{slice_get}
use Rattle.ada_forms.specs.Declarations.{decl_of}
use Rattle.types_objects.specs.Adding.{IsAdded, file_of_decl}
use Rattle.types_objects.specs.Made.{made_by}
use Rattle.types_objects.proofs.Fine.{added_kept}
use Rattle.types_objects.proofs.adding.add_type.Goals as goal

pub returns-in-Ok-clause-added : goal.returns-in-Ok-clause-added
returns-in-Ok-clause-added c =
    let t = c.args.types.now in let u = c.args.units.now in let k = c.args.known.now in let d = c.args.d in
    let made = c.in-Ok.ensures ∙ ap (λ n. made_by t u k n (decl_of u d)) c.len-count.ensures in
    subst (λ m. IsAdded d (file_of_decl (slice_get u.decls d.0)) m t c.add_made.new.types c.add_made.result) made
    (subst (λ f. IsAdded d f c.in-Ok.made t c.add_made.new.types c.add_made.result) c.file_of.ensures c.add_made.ensures)

pub returns-in-Ok-clause-table : goal.returns-in-Ok-clause-table
returns-in-Ok-clause-table c =
    let t = c.args.types.now in let u = c.args.units.now in let d = c.args.d in
    added_kept t c.add_made.new.types u c.args.known.now d (file_of_decl (slice_get u.decls d.0)) (decl_of u d) c.add_made.result c.requires.table
    (returns-in-Ok-clause-added c)
