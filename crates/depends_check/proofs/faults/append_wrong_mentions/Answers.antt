use Rattle.std.proofs.Common.{subst}
use Rattle.std.specs.List.{Contains}
use Rattle.std.proofs.lemmas.Result.{on_ok_weaker}
use Rattle.used_modes.specs.Added.{Adds, SomeOf}
use Rattle.used_modes.proofs.Adding.{adds_both}
use Rattle.depends_check.specs.DependsCheck.{IsAbsent, IsStranger, TellsFault}
use Rattle.depends_check.specs.declared.faults.Fault.{Fault}
use Rattle.depends_check.proofs.Wrong.{absent_added}
use Rattle.depends_check.proofs.faults.append_wrong_mentions.Goals as goal

pub returns : goal.returns
returns c =
    let p = c.args.program.now in
    let body = c.args.body.now in
    let side = c.args.side in
    let aspect = c.args.aspect in
    let pairs = c.args.pairs.now in
    let items = c.args.items.now in
    let mentioned = c.in_ok-mentioned.mentioned in
    on_ok_weaker c.append_absent.result
    (λ a. adds_both c.args.list.now c.append_strangers.new.list c.append_absent.new.list (λ m. SomeOf (λ pair. IsStranger p body side
    (Contains items) pair m) pairs)
    (IsAbsent p body side (Contains items) aspect pairs) c.in_ok-append_strangers.ensures
    (absent_added p body side aspect pairs items mentioned c.in_ok-mentioned.ensures c.append_strangers.new.list c.append_absent.new.list
    (subst (λ xs. Adds c.append_strangers.new.list c.append_absent.new.list (λ m. SomeOf (λ i. (Contains mentioned i → ⊥) × TellsFault p
    body (Fault.Absent side) aspect i m) xs)) c.as_slice.ensures a)))
    c.append_absent.ensures
