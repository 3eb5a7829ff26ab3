use Rattle.std.proofs.Common.{◌≡◌, ◌+◌, ◌-◌, ◌<◌, length, ◌++◌, Some, arith, ap, sym, ◌∙◌}
use Rattle.std.specs.Prelude.{slice_get, IsSome}
use Rattle.std.specs.Option.{option_to_list}
use Rattle.std.proofs.lemmas.List.Elements.{All-pop}
use Rattle.std.proofs.lemmas.Option.{slice_get_within}
use Rattle.core_form.specs.Code.{code_of, codes_at, expr_of}
use Rattle.run_model.specs.declared.state.Rest.TheVariants as rest
use Rattle.run_model.specs.Held.{IsRest, next_do, rest_weight, size, weight, held_left}
use Rattle.run_model.specs.Machine.{push}
use Rattle.run_model.proofs.Lists.{do_is, taken_last, codes_weigh, held_more, plain_node, weight_more}
use Rattle.run_model.proofs.frames.open_rest.Goals as goal

pub returns-in_default-stmt : goal.returns-in_default-stmt
returns-in_default-stmt c =
    let p = c.args.program.now in
    let got : next_do c.loop-last.rest.items ≡ Some c.in-Some.last = sym (rw c.as_slice.ensures.value at c.next_stmt.ensures) ∙ c.in-Some.is in
    record {
      rest = c.loop-last.invariant.are_rests;
      held = c.loop-last.invariant.holds;
      opened = λ s e.
          let last : Some c.in-Some.last ≡ Some s = sym got ∙ e in
          let is : c.in-Some.last ≡ s = cc in
          rw (← is) (rw c.stmt.ensures.tree (plain_node (expr_of p.exprs) (code_of p.exprs p.stmts) c.stmt.result.now c.in_default-stmt.not-Seq));
    }

pub push_all-requires-clause-rest : goal.push_all-requires-clause-rest
push_all-requires-clause-rest c =
    let items = c.in_ok-reserve.ensures.items in
    (All-pop (IsRest c.args.program.now) c.reserve.new.self.items c.pop.new.self.items c.pop.result c.pop.ensures.items (rw items c.loop-last.invariant.are_rests)).0

pub loop-last-smaller : goal.loop-last-smaller
loop-last-smaller c =
    let p = c.args.program.now in
    let s = c.in-Some.last in
    let next : next_do c.loop-last.rest.items ≡ Some s = sym (rw c.as_slice.ensures.value at c.next_stmt.ensures) ∙ c.in-Some.is in
    let got = do_is (slice_get c.loop-last.rest.items (length c.loop-last.rest.items - 1)) s next in
    let within = slice_get_within c.loop-last.rest.items (length c.loop-last.rest.items - 1) (rest.Do s) got in
    let some : IsSome c.pop.result = c.pop.ensures.variant.1 (omega arith) in
    let items : c.loop-last.rest.items ≡ c.pop.new.self.items ++ option_to_list c.pop.result = sym c.in_ok-reserve.ensures.items ∙ c.pop.ensures.items in
    let split = taken_last c.loop-last.rest.items c.pop.new.self.items c.pop.result (rest.Do s) items some got in
    let more = weight_more p c.pop.new.self.items (rest.Do s) in
    let less = codes_weigh p c.as_slice-in-Some.result.now in
    let tree : code_of p.exprs p.stmts s ≡ codes_at (code_of p.exprs p.stmts) c.as_slice-in-Some.result.now = rw c.as_slice-in-Some.ensures (rw c.in-Seq.is at c.stmt.ensures.tree) in
    let was : rest_weight p c.loop-last.rest.items ≡ rest_weight p c.pop.new.self.items + size (code_of p.exprs p.stmts s) = ap (rest_weight p) split ∙ more in
    let small : weight p c.as_slice-in-Some.result.now < size (code_of p.exprs p.stmts s) = rw tree less in
    let now = c.push_all.ensures.weight in
    let done : rest_weight p c.push_all.new.rest.items < rest_weight p c.loop-last.rest.items = omega arith in
    done

pub loop-last-preserved : goal.loop-last-preserved
loop-last-preserved c =
    let p = c.args.program.now in
    let s = c.in-Some.last in
    let next : next_do c.loop-last.rest.items ≡ Some s = sym (rw c.as_slice.ensures.value at c.next_stmt.ensures) ∙ c.in-Some.is in
    let got = do_is (slice_get c.loop-last.rest.items (length c.loop-last.rest.items - 1)) s next in
    let within = slice_get_within c.loop-last.rest.items (length c.loop-last.rest.items - 1) (rest.Do s) got in
    let some : IsSome c.pop.result = c.pop.ensures.variant.1 (omega arith) in
    let items : c.loop-last.rest.items ≡ c.pop.new.self.items ++ option_to_list c.pop.result = sym c.in_ok-reserve.ensures.items ∙ c.pop.ensures.items in
    let split = taken_last c.loop-last.rest.items c.pop.new.self.items c.pop.result (rest.Do s) items some got in
    record {
      are_rests = c.push_all.ensures.rest;
      holds = λ k.
          let tree : code_of p.exprs p.stmts s ≡ codes_at (code_of p.exprs p.stmts) c.as_slice-in-Some.result.now = rw c.as_slice-in-Some.ensures (rw c.in-Seq.is at c.stmt.ensures.tree) in
          c.push_all.ensures.held k
          ∙ (ap (λ a. push a (held_left p c.pop.new.self.items k)) (sym tree)
          ∙ (sym (held_more p c.pop.new.self.items (rest.Do s) k)
          ∙ (sym (ap (λ r. held_left p r k) split) ∙ c.loop-last.invariant.holds k)));
    }
