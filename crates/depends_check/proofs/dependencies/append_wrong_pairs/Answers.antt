use Rattle.std.proofs.Common.{subst}
use Rattle.std.specs.List.{Contains}
use Rattle.std.proofs.lemmas.Result.{on_ok_weaker}
use Rattle.used_modes.specs.Added.{Adds, SomeOf}
use Rattle.used_modes.proofs.Adding.{adds_both}
use Rattle.depends_check.specs.DependsCheck.{IsUnsaid, IsUnused, TellsMissing}
use Rattle.depends_check.proofs.Wrong.{unsaid_added}
use Rattle.depends_check.proofs.dependencies.append_wrong_pairs.Goals as goal

pub returns : goal.returns
returns c =
    let p = c.args.program.now in
    let body = c.args.body.now in
    let pairs = c.args.pairs.now in
    let o = c.args.output in
    let used = c.args.used.now in
    let said = c.in_ok-said.said in
    let place = c.first_place-place.result in
    on_ok_weaker c.append_unused.result
    (λ a. adds_both c.args.list.now c.append_unsaid_items.new.list c.append_unused.new.list (IsUnsaid p body c.args.aspect pairs o
    (Contains used))
    (λ m. SomeOf (λ pair. IsUnused p body o (Contains used) pair m) pairs)
    (unsaid_added p body c.args.aspect pairs o used said place c.first_place-place.ensures c.in_ok-said.ensures c.args.list.now
    c.append_unsaid_items.new.list
    (subst (λ xs. Adds c.args.list.now c.append_unsaid_items.new.list (λ m. SomeOf (λ i. (Contains said i → ⊥) × TellsMissing p body
    place o i m) xs)) c.as_slice.ensures
    c.in_ok-append_unsaid_items.ensures))
    a)
    c.append_unused.ensures
