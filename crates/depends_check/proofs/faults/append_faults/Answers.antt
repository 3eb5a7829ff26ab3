use Rattle.std.proofs.Common.{ℕ, ◌⊎◌, subst}
use Rattle.std.proofs.lemmas.Result.{on_ok_weaker}
use Rattle.spark_messages.specs.declared.messages.Message.{Message}
use Rattle.used_modes.specs.Added.{Adds}
use Rattle.used_modes.proofs.Adding.{adds_both}
use Rattle.depends_check.specs.DependsCheck.{IsDoubled, IsOn, IsWrongSide, aspect_of, pairs_of}
use Rattle.depends_check.specs.declared.sides.Side.{Side}
use Rattle.depends_check.proofs.faults.append_faults.Goals as goal

pub returns : goal.returns
returns c =
    let p = c.args.program.now in
    let body = c.args.body.now in
    let k = c.args.contract.now in
    let doubled = λ (m : Message). (n : ℕ) × IsDoubled p body (pairs_of k) n m in
    let inputs = IsWrongSide p body Side.Input (IsOn p c.args.number.0 body k Side.Input) (aspect_of k) (pairs_of k) in
    let outputs = IsWrongSide p body Side.Output (IsOn p c.args.number.0 body k Side.Output) (aspect_of k) (pairs_of k) in
    on_ok_weaker c.append_wrong_side-2.result
    (λ a. adds_both c.args.list.now c.append_doubled.new.list c.append_wrong_side-2.new.list doubled (λ m. inputs m ⊎ outputs m)
    (subst (λ ps. Adds c.args.list.now c.append_doubled.new.list (λ m. (n : ℕ) × IsDoubled p body ps n m)) c.pairs_of.ensures
    c.in_ok-append_doubled.ensures)
    (adds_both c.append_doubled.new.list c.append_wrong_side.new.list c.append_wrong_side-2.new.list inputs outputs
    c.in_ok-append_wrong_side.ensures a))
    c.append_wrong_side-2.ensures
