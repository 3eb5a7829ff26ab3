use Rattle.std.proofs.Common.{ℕ, ◌≤◌, length, refl, arith}
use Rattle.std.specs.Prelude.{IsSomeAnd, slice_get}
use Rattle.core_form.specs.declared.program.Package.{Package}
use Rattle.spark_messages.specs.declared.messages.Message.{Message}
use Rattle.initializes_check.specs.InitializesCheck.{IsOfPackage, loose_by}
use Rattle.initializes_check.proofs.Counted.{all_below, one_below}
use Rattle.initializes_check.proofs.Joined.{of_some, some_within}
use Rattle.initializes_check.proofs.messages.append_of_packages.Goals as goal

pub loop-k-preserved : goal.loop-k-preserved
loop-k-preserved c = one_below (λ (n : ℕ) (m : Message). IsSomeAnd (slice_get c.args.program.now.packages n) (λ k. IsOfPackage c.args.program.now (loose_by
    c.args.moments.now) n k m))
    c.args.list.now c.loop-k.list c.append_of_package.new.list c.loop-k.k c.loop-k.invariant
    (of_some (λ (k : Package) (m : Message). IsOfPackage c.args.program.now (loose_by c.args.moments.now) c.loop-k.k k m)
    (slice_get c.args.program.now.packages c.loop-k.k) c.at-package.result.now c.at-package.ensures c.loop-k.list
    c.append_of_package.new.list c.in_ok-append_of_package.ensures)

pub returns : goal.returns
returns c =
    let l : length c.args.program.now.packages ≤ c.loop-k.k = omega (arith, c.in_ok-count.ensures, c.loop-k-test.false) in
    all_below (λ (n : ℕ) (m : Message). IsSomeAnd (slice_get c.args.program.now.packages n) (λ k. IsOfPackage c.args.program.now (loose_by
    c.args.moments.now) n k m))
    c.args.list.now c.loop-k.list c.loop-k.k (length c.args.program.now.packages) l
    (λ n m t. some_within (λ (k : Package). IsOfPackage c.args.program.now (loose_by c.args.moments.now) n k m) c.args.program.now.packages
    n (slice_get c.args.program.now.packages n) refl t) c.loop-k.invariant
