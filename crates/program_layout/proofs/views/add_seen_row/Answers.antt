use Rattle.std.proofs.Common.{◌≡◌, ℕ, ◌<◌, ◌⊎◌, ◌↔◌, Option, None, length, [], get_or, arith, sym, subst}
use Rattle.std.proofs.lemmas.Option.{slice_get-get_or}
use Rattle.std.specs.Prelude.{IsSomeAnd, slice_get}
use Rattle.core_form.specs.declared.program.Body.{Body}
use Rattle.callee_view.specs.Seen.{contract_seen}
use Rattle.call_lists.specs.Lists.{Names, NamesBelow}
use Rattle.call_lists.proofs.Names.{callee_step}
use Rattle.program_layout.specs.Made.{SeesNoContract}
use Rattle.program_layout.proofs.Steps.{alike}
use Rattle.program_layout.proofs.views.add_seen_row.Goals as goal

pub loop-caller-preserved : goal.loop-caller-preserved
loop-caller-preserved c =
    let is = c.loop-caller.invariant in
    let own = c.in_ok-add_if_row.ensures in
    let p = c.args.program.now in
    let item = get_or c.args.callers.now c.loop-caller.caller-index (record { 0 = 0 }) in
    record {
      lists = own.lists;
      names = λ b k.
          let P : Body → Type 0 = λ body. contract_seen (slice_get p.bodies b) body ≡ None in
          callee_step c.args.callers.now c.loop-caller.caller-index item
          (slice_get-get_or c.args.callers.now c.loop-caller.caller-index (record { 0 = 0 }) c.loop-caller-test.true) b (is.names b k)
          (alike (own.names b k)
          (λ t. ((t.0.0, subst (λ (o : Option Body). IsSomeAnd o P) (sym c.at-node.ensures) t.0.1), t.1))
          (λ t. ((t.0.0, subst (λ (o : Option Body). IsSomeAnd o P) c.at-node.ensures t.0.1), t.1)));
    }

pub returns-clause-names : goal.returns-clause-names
returns-clause-names c = λ b k.
    let p = c.args.program.now in
    let last : c.loop-caller.caller-index ≡ length c.args.callers.now =
    (let l = c.loop-caller-test.false in let m = c.loop-caller.auto.caller-index-end in omega (arith, l, m)) in
    subst (λ (n : ℕ). Names (get_or c.loop-caller.sees.items b []) k ↔ (Names (get_or c.args.sees.now.items b []) k
    ⊎ (((k ≡ c.args.body.0) × SeesNoContract p (slice_get p.bodies b) c.args.body.0) × NamesBelow n c.args.callers.now b)))
    last (c.loop-caller.invariant.names b k)
