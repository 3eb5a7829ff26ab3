use Rattle.std.proofs.Common.{◌≡◌, ◌∙◌, ℕ, ◌<◌, ◌≤◌, Bool, List, [], length, refl, subst, arith}
use Rattle.std.specs.Prelude.{IsSomeAnd, slice_get, slice_index_or}
use Rattle.std.proofs.lemmas.List.{get_or_default}
use Rattle.spark_base.specs.declared.numbers.BodyNo.{BodyNo}
use Rattle.flow_bits.specs.Sets.{Has}
use Rattle.spark_messages.specs.declared.messages.Message.{Message}
use Rattle.used_modes.specs.Added.{Adds}
use Rattle.used_modes.specs.UsedModes.{row_of}
use Rattle.initializes_check.specs.InitializesCheck.{IsOfElaboration, loose_by, reads_outside}
use Rattle.initializes_check.proofs.Counted.{all_below, one_below}
use Rattle.initializes_check.proofs.Joined.{of_some, some_within}
use Rattle.initializes_check.proofs.messages.append_elaborations.Goals as goal

pub loop-n-preserved : goal.loop-n-preserved
loop-n-preserved c =
    let within : c.loop-n.n < length c.args.moments.now = omega (arith, c.requires.moments, c.len-n-end.ensures, c.loop-n-test.true) in
    let set : c.index-moments-n.result ≡ slice_index_or c.args.moments.now c.loop-n.n [] = c.index-moments-n.is ∙ get_or_default c.args.moments.now c.loop-n.n
    c.index-moments-n.result [] within in
    one_below (λ (n : ℕ) (m : Message). IsSomeAnd (slice_get c.args.program.now.order n) (λ b. IsOfElaboration c.args.program.now (row_of
    c.args.rows.now) (reads_outside c.args.program.now c.args.rows.now) (loose_by c.args.moments.now n) b m))
    c.args.list.now c.loop-n.list c.append_elaboration.new.list c.loop-n.n c.loop-n.invariant
    (of_some (λ (b : BodyNo) (m : Message). IsOfElaboration c.args.program.now (row_of c.args.rows.now) (reads_outside c.args.program.now
    c.args.rows.now) (loose_by c.args.moments.now c.loop-n.n) b m)
    (slice_get c.args.program.now.order c.loop-n.n) c.at-number.result.now c.at-number.ensures c.loop-n.list
    c.append_elaboration.new.list
    (subst (λ (r : List Bool). Adds c.loop-n.list c.append_elaboration.new.list (IsOfElaboration c.args.program.now (row_of c.args.rows.now)
    (reads_outside c.args.program.now c.args.rows.now) (Has r) c.at-number.result.now)) set c.in_ok-append_elaboration.ensures))

pub returns : goal.returns
returns c =
    let l : length c.args.program.now.order ≤ c.loop-n.n = omega (arith, c.len-n-end.ensures, c.loop-n-test.false) in
    all_below (λ (n : ℕ) (m : Message). IsSomeAnd (slice_get c.args.program.now.order n) (λ b. IsOfElaboration c.args.program.now (row_of
    c.args.rows.now) (reads_outside c.args.program.now c.args.rows.now) (loose_by c.args.moments.now n) b m))
    c.args.list.now c.loop-n.list c.loop-n.n (length c.args.program.now.order) l
    (λ n m t. some_within (λ (b : BodyNo). IsOfElaboration c.args.program.now (row_of c.args.rows.now) (reads_outside c.args.program.now
    c.args.rows.now) (loose_by c.args.moments.now n) b m) c.args.program.now.order n (slice_get c.args.program.now.order n) refl t)
    c.loop-n.invariant
