use Rattle.std.proofs.Common.{rules, ◌≡◌, ◌∙◌, Some, None, Option, false, sym, subst}
use Rattle.std.specs.List.{Contains}
use Rattle.std.proofs.lemmas.Bool.{both_ways}
use Rattle.std.proofs.lemmas.Result.{on_ok_weaker}
use Rattle.core_form.specs.declared.program.Item.{Item}
use Rattle.global_check.proofs.Gathered.{same_item}
use Rattle.depends_check.proofs.Fine.{item_at_fine}
use Rattle.depends_check.proofs.Wrong.{unused_added, unused_none}
use Rattle.depends_check.proofs.dependencies.append_unused_pair.Goals as goal

pub append_unused_item-requires-clause-item : goal.append_unused_item-requires-clause-item
append_unused_item-requires-clause-item c = item_at_fine c.args.program.now c.requires.fine c.args.pair.input c.in-Some.item
    ((c.said_input.ensures c.in-Some.item).0 c.in-Some.is).1

pub returns-in-Some : goal.returns-in-Some
returns-in-Some c =
    let no : c.has.result ≡ false = search (rules, c.if-not-has.true) in
    on_ok_weaker c.append_unused_item.result
    (λ a. unused_added c.args.program.now c.args.body.now c.args.output c.args.pair c.args.used.now c.said_input.result
    c.said_input.ensures c.args.list.now c.in-Some.item c.in-Some.is
    (λ h. both_ways c.has.result no (c.has.ensures.1 h)) c.append_unused_item.new.list a)
    c.append_unused_item.ensures

pub returns-in_default : goal.returns-in_default
returns-in_default c = unused_none c.args.program.now c.args.body.now c.args.output c.args.pair c.args.used.now c.said_input.result
    c.said_input.ensures c.args.list.now
    (λ i e. subst (λ j. Contains c.args.used.now j) (same_item c.in-Some.item i (sym c.in-Some.is ∙ e)) (c.has.ensures.0 (search (
      rules,
      c.if-not-has.false,
    ))))

pub returns-in_default-2 : goal.returns-in_default-2
returns-in_default-2 c = unused_none c.args.program.now c.args.body.now c.args.output c.args.pair c.args.used.now c.said_input.result
    c.said_input.ensures c.args.list.now
    (λ i e. let n : Option Item = None in let z : n ≡ Some i = sym c.in_default.is ∙ e in absurd cc)
