use Rattle.std.proofs.Common.{◌≡◌, ◌∙◌, ℕ, ◌<◌, ◌⊎◌, Bool, List, [], length, ap, subst, arith}
use Rattle.std.specs.Prelude.{IsSomeAnd, slice_get, slice_index_or}
use Rattle.std.proofs.lemmas.List.{get_or_default}
use Rattle.std.proofs.lemmas.Result.{on_ok_weaker}
use Rattle.flow_bits.specs.Sets.{Has}
use Rattle.spark_messages.specs.declared.messages.Message.{Message}
use Rattle.used_modes.specs.Added.{Adds, SomeOf}
use Rattle.used_modes.specs.UsedModes.{row_of}
use Rattle.used_modes.proofs.Adding.{adds_both}
use Rattle.initializes_check.specs.InitializesCheck.{IsOfElaboration, IsOfMain, IsOfPackage, IsOfTask, loose_by, reads_outside}
use Rattle.initializes_check.proofs.messages.append_initial_messages.Goals as goal

pub returns : goal.returns
returns c =
    let p = c.args.program.now in
    let outside = reads_outside p c.args.rows.now in
    let loose = loose_by c.args.moments.now in
    let first : Message → Type 0 = λ m. (k : ℕ) × IsSomeAnd (slice_get p.packages k) (λ x. IsOfPackage p loose k x m) in
    let second : Message → Type 0 = λ m. (n : ℕ) × IsSomeAnd (slice_get p.order n) (λ b. IsOfElaboration p (row_of c.args.rows.now) outside (loose n) b m) in
    let third : Message → Type 0 = λ m. IsSomeAnd p.main (λ b. IsOfMain p outside (loose (length p.order)) b m) in
    let fourth : Message → Type 0 = λ m. SomeOf (λ t. IsOfTask p outside (loose (length p.order)) t m) p.tasks in
    let within : c.len.result < length c.args.moments.now = omega (arith, c.requires.moments, c.len.ensures) in
    let set : c.index-moments-len.result ≡ slice_index_or c.args.moments.now (length p.order) [] = c.index-moments-len.is ∙ get_or_default
    c.args.moments.now c.len.result c.index-moments-len.result [] within ∙ ap (λ n. slice_index_or c.args.moments.now n []) c.len.ensures in
    let main : Adds c.append_elaborations.new.list c.append_main.new.list third = subst (λ (r : List Bool). Adds
    c.append_elaborations.new.list c.append_main.new.list (λ m. IsSomeAnd p.main (λ b. IsOfMain p outside (Has r) b m))) set
    c.in_ok-append_main.ensures in
    on_ok_weaker c.append_tasks.result
    (λ a. adds_both c.args.list.now c.append_of_packages.new.list c.append_tasks.new.list first (λ m. second m ⊎ (third m ⊎ fourth m))
    c.in_ok-append_of_packages.ensures
    (adds_both c.append_of_packages.new.list c.append_elaborations.new.list c.append_tasks.new.list second (λ m. third m ⊎ fourth m)
    c.in_ok-append_elaborations.ensures
    (adds_both c.append_elaborations.new.list c.append_main.new.list c.append_tasks.new.list third fourth main
    (subst (λ (r : List Bool). Adds c.append_main.new.list c.append_tasks.new.list (λ m. SomeOf (λ t. IsOfTask p outside (Has r) t m) p.tasks))
    set (subst (λ (ts : _). Adds c.append_main.new.list c.append_tasks.new.list (λ m. SomeOf (λ t. IsOfTask p outside (Has c.index-moments-len.result) t m) ts)) c.as_slice.ensures a)))))
    c.append_tasks.ensures
