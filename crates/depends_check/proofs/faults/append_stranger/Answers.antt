use Rattle.std.proofs.Common.{rules, ◌≡◌, ◌∙◌, false, sym}
use Rattle.std.specs.List.{Contains}
use Rattle.std.proofs.lemmas.Bool.{both_ways}
use Rattle.std.proofs.lemmas.Result.{on_ok_weaker}
use Rattle.core_form.specs.declared.program.Item.{Item}
use Rattle.spark_messages.specs.declared.messages.Message.{Message}
use Rattle.global_check.proofs.Gathered.{of_some}
use Rattle.depends_check.specs.DependsCheck.{TellsFault, mention}
use Rattle.depends_check.specs.declared.faults.Fault.{Fault}
use Rattle.depends_check.proofs.Fine.{mention_fine}
use Rattle.depends_check.proofs.Grown.{with_fact}
use Rattle.depends_check.proofs.faults.append_stranger.Goals as goal

pub append_fault-requires-clause-item : goal.append_fault-requires-clause-item
append_fault-requires-clause-item c = mention_fine c.args.program.now c.requires.fine c.args.side c.args.pair c.in-Some.item (sym
    c.mention.ensures ∙ c.in-Some.is)

pub returns-in-Some : goal.returns-in-Some
returns-in-Some c =
    let p = c.args.program.now in
    let body = c.args.body.now in
    let no : c.has.result ≡ false = search (rules, c.if-not-has.true) in
    let none : Contains c.args.items.now c.in-Some.item → ⊥ = λ h. both_ways c.has.result no (c.has.ensures.1 h) in
    on_ok_weaker c.append_fault.result
    (λ a. of_some (λ (i : Item) (m : Message). (Contains c.args.items.now i → ⊥) × TellsFault p body (Fault.Stranger c.args.side)
    c.args.pair.place i m) (mention p c.args.side c.args.pair) c.in-Some.item
    (sym c.mention.ensures ∙ c.in-Some.is) c.args.list.now c.append_fault.new.list
    (with_fact c.args.list.now c.append_fault.new.list (Contains c.args.items.now c.in-Some.item → ⊥) (TellsFault p body (Fault.Stranger
    c.args.side) c.args.pair.place c.in-Some.item) none a))
    c.append_fault.ensures
