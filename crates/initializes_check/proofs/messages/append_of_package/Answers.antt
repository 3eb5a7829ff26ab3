use Rattle.std.proofs.lemmas.Result.{on_ok_weaker}
use Rattle.std.proofs.Common.{subst}
use Rattle.flow_bits.specs.Sets.{Has}
use Rattle.used_modes.specs.Added.{Adds}
use Rattle.initializes_check.specs.InitializesCheck.{IsLooseAfter, IsOfInitializes, loose_by}
use Rattle.initializes_check.proofs.Joined.{initializes_same, of_some}
use Rattle.initializes_check.proofs.messages.append_of_package.Goals as goal

pub returns-in_ok-unset-in-Some : goal.returns-in_ok-unset-in-Some
returns-in_ok-unset-in-Some c =
    let p = c.args.program.now in
    let k = c.args.number.0 in
    let written = c.args.«package».now.initial_place in
    let after = IsLooseAfter p (loose_by c.args.moments.now) k in
    on_ok_weaker c.append_of_initializes.result
    (λ a. of_some (λ items m. IsOfInitializes p after k written items m) c.args.«package».now.initial c.in-Some.initial c.in-Some.is
    c.args.list.now c.append_of_initializes.new.list
    (initializes_same p (Has c.in_ok-unset-in-Some.unset) after c.in_ok-unset-in-Some.ensures.set k written c.in-Some.initial c.args.list.now
    c.append_of_initializes.new.list
    (subst (λ (xs : _). Adds c.args.list.now c.append_of_initializes.new.list (IsOfInitializes p (Has c.in_ok-unset-in-Some.unset) k written xs))
    c.as_slice.ensures a)))
    c.append_of_initializes.ensures
