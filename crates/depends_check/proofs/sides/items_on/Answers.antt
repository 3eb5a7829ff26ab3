use Rattle.std.proofs.Common.{◌≡◌, ◌⊎◌, [], subst}
use Rattle.core_form.specs.declared.program.Item.{Item}
use Rattle.used_modes.specs.Added.{Adds, SomeOf}
use Rattle.used_modes.proofs.Adding.{adds_both}
use Rattle.global_check.proofs.Gathered.{only}
use Rattle.depends_check.specs.DependsCheck.{IsFormalOn, IsGlobalOn, IsOn, IsOwn, IsResult}
use Rattle.depends_check.proofs.Grown.{noted}
use Rattle.depends_check.proofs.sides.items_on.Goals as goal

pub returns : goal.returns
returns c =
    let p = c.args.program.now in
    let body = c.args.body.now in
    let side = c.args.side in
    let globals = λ (i : Item). SomeOf (λ g. IsGlobalOn p side g i) c.args.contract.now.globals in
    let formals = λ (i : Item). SomeOf (λ f. IsFormalOn side f i) body.formals in
    let results = λ (i : Item). SomeOf (λ j. IsResult p c.args.number.0 side j × (i ≡ j)) p.items in
    let g : Adds [] c.note_globals.new.items globals =
    subst (λ xs. Adds xs c.note_globals.new.items globals) c.new-items.ensures
    (subst (λ gs. Adds c.new-items.result c.note_globals.new.items (λ i. SomeOf (λ g. IsGlobalOn p side g i) gs)) c.as_slice.ensures
    c.in_ok-note_globals.ensures) in
    let f : Adds c.note_globals.new.items c.note_formals.new.items formals =
    subst (λ fs. Adds c.note_globals.new.items c.note_formals.new.items (λ i. SomeOf (λ f. IsFormalOn side f i) fs)) c.as_slice-2.ensures
    c.in_ok-note_formals.ensures in
    let o = noted c.own_on.result (IsOwn body side) c.own_on.ensures c.note_results.new.items c.note_some.new.self
    c.in_ok-note_some.ensures in
    only c.note_some.new.self (IsOn p c.args.number.0 body c.args.contract.now side)
    (adds_both [] c.note_globals.new.items c.note_some.new.self globals (λ i. formals i ⊎ (results i ⊎ IsOwn body side i)) g
    (adds_both c.note_globals.new.items c.note_formals.new.items c.note_some.new.self formals (λ i. results i ⊎ IsOwn body side i) f
    (adds_both c.note_formals.new.items c.note_results.new.items c.note_some.new.self results (IsOwn body side)
    c.in_ok-note_results.ensures o)))
