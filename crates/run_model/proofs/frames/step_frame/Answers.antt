use Rattle.std.proofs.Common.{◌≡◌, ◌-◌, [], ◌∷◌, ◌+◌, Some, length, set, take, ℕ, ℤ, List, Option, sym, ap, ◌∙◌, arith, refl}
use Rattle.std.specs.Prelude.{slice_get, IsSome}
use Rattle.std.proofs.lemmas.List.{length_push}
use Rattle.std.proofs.lemmas.Option.{slice_get_within}
use Rattle.core_form.specs.Code.{Leaves, Returns, code_of}
use Rattle.run_model.specs.declared.state.Rest.{Rest}
use Rattle.run_model.specs.declared.state.Rest.TheVariants as rest
use Rattle.run_model.specs.Held.{FrameStep, GoesOn, IsRest, do_of, held_left, plain_frame_of}
use Rattle.run_model.specs.Machine.{Again, CheckFails, Does, Remaining, change_own, changes, goes_to, push, resume}
use Rattle.run_model.proofs.HeldFrames.{again_is, step_is}
use Rattle.std.proofs.lemmas.List.Elements.{All-pop, All-set}
use Rattle.run_model.proofs.Lists.{held_more, resume_back, round_left, set_last, split_last, taken_last}
use Rattle.run_model.proofs.frames.step_frame.Goals as goal

abbrev goes_with : List (List (Option ℤ)) → ℕ → List Remaining → List (List (Option ℤ)) → FrameStep
goes_with library body left own = GoesOn library (plain_frame_of body left own)

pub put_cells-requires-clause-leaf : goal.put_cells-requires-clause-leaf
put_cells-requires-clause-leaf c = (rw (c.in-Some-Changed.is, c.in-Some-Changed.field-0-is) at c.in_ok-branch.ensures.held).0

pub put_cells-requires-clause-cells : goal.put_cells-requires-clause-cells
put_cells-requires-clause-cells c = (rw (c.in-Some-Changed.is, c.in-Some-Changed.field-0-is) at c.in_ok-branch.ensures.held).1

pub returns-in-Again-clause-step : goal.returns-in-Again-clause-step
returns-in-Again-clause-step c word =
    let f = c.args.frame.now in
    let p = c.args.program.now in
    let body = c.in-Again.body in
    let got : slice_get f.rest.items (length f.rest.items - 1) ≡ Some (rest.Again body) = sym (rw c.deref.ensures.value at c.in-Some.ensures.value) ∙ ap (λ (r : Rest). Some r) c.in-Again.is in
    let split = split_last f.rest.items (rest.Again body) got in
    let front = take (length f.rest.items - 1) f.rest.items in
    let left : held_left p c.push.new.self.items [] ≡ push (code_of p.exprs p.stmts body) (Again (code_of p.exprs p.stmts body) ∷ held_left p front []) =
    ap (λ r. held_left p r []) c.in_ok-push-in-Again.ensures.items
    ∙ (held_more p f.rest.items (rest.Do body) []
    ∙ ap (push (code_of p.exprs p.stmts body)) (ap (λ r. held_left p r []) split ∙ held_more p front (rest.Again body) [])) in
    again_is p c.args.library.now.items word f front body split
    ∙ sym (ap (λ l. goes_with c.args.library.now.items f.body.0 l f.own.items) left)

pub returns-in-None-clause-step : goal.returns-in-None-clause-step
returns-in-None-clause-step c word =
    let f = c.args.frame.now in
    let s = c.in-Do.s in
    let got : slice_get f.rest.items (length f.rest.items - 1) ≡ Some (rest.Do s) = sym (rw c.deref.ensures.value at c.in-Some.ensures.value) ∙ ap (λ (r : Rest). Some r) c.in-Do.is in
    let split = split_last f.rest.items (rest.Do s) got in
    let front = take (length f.rest.items - 1) f.rest.items in
    let told = rw c.in-None.is at c.in_ok-branch.ensures.told in
    let effect = rw (c.as_slice.ensures.value, c.as_slice-2.ensures.value) at told word (held_left c.args.program.now front []) in
    (step_is c.args.program.now c.args.library.now.items word f front s split (c.requires.opened s (ap do_of got)) CheckFails effect, refl, refl)

pub leave_loops-requires : goal.leave_loops-requires
leave_loops-requires c = (All-pop (IsRest c.args.program.now) c.args.frame.now.rest.items c.pop.new.self.items c.pop.result c.pop.ensures.items c.requires.frame.rest).0

pub returns-in-Some-Chosen-clause-frame : goal.returns-in-Some-Chosen-clause-frame
returns-in-Some-Chosen-clause-frame c = record {
  rest = All-set (IsRest c.args.program.now) c.args.frame.now.rest.items (c.len-at.result - 1) (rest.Do c.in-Some-Chosen.branch) (rw (c.in-Some-Chosen.is, c.in-Some-Chosen.field-0-is) at c.in_ok-branch.ensures.held) c.requires.frame.rest;
  own = c.requires.frame.own;
}

pub returns-in-Some-Chosen-clause-step : goal.returns-in-Some-Chosen-clause-step
returns-in-Some-Chosen-clause-step c word =
    let f = c.args.frame.now in
    let p = c.args.program.now in
    let s = c.in-Do.s in
    let got : slice_get f.rest.items (length f.rest.items - 1) ≡ Some (rest.Do s) = sym (rw c.deref.ensures.value at c.in-Some.ensures.value) ∙ ap (λ (r : Rest). Some r) c.in-Do.is in
    let split = split_last f.rest.items (rest.Do s) got in
    let front = take (length f.rest.items - 1) f.rest.items in
    let told = rw (c.in-Some-Chosen.is, c.in-Some-Chosen.field-0-is) at c.in_ok-branch.ensures.told in
    let effect = rw (c.as_slice.ensures.value, c.as_slice-2.ensures.value) at told word (held_left p front []) in
    let at : c.len-at.result ≡ length f.rest.items = omega arith in
    let now = set_last f.rest.items (rest.Do s) (rest.Do c.in-Some-Chosen.branch) got in
    let left : held_left p (set f.rest.items (c.len-at.result - 1) (rest.Do c.in-Some-Chosen.branch)) [] ≡ push (code_of p.exprs p.stmts c.in-Some-Chosen.branch) (held_left p front []) =
    ap (λ n. held_left p (set f.rest.items (n - 1) (rest.Do c.in-Some-Chosen.branch)) []) at ∙ (ap (λ r. held_left p r []) now ∙ held_more p front (rest.Do c.in-Some-Chosen.branch) []) in
    step_is p c.args.library.now.items word f front s split (c.requires.opened s (ap do_of got)) (Does (goes_to (push (code_of p.exprs p.stmts c.in-Some-Chosen.branch) (held_left p front [])))) effect
    ∙ sym (ap (λ l. goes_with c.args.library.now.items f.body.0 l f.own.items) left)

pub returns-in-Some-Left-clause-step : goal.returns-in-Some-Left-clause-step
returns-in-Some-Left-clause-step c word =
    let f = c.args.frame.now in
    let p = c.args.program.now in
    let s = c.in-Do.s in
    let got : slice_get f.rest.items (length f.rest.items - 1) ≡ Some (rest.Do s) = sym (rw c.deref.ensures.value at c.in-Some.ensures.value) ∙ ap (λ (r : Rest). Some r) c.in-Do.is in
    let within = slice_get_within f.rest.items (length f.rest.items - 1) (rest.Do s) got in
    let some : IsSome c.pop.result = c.pop.ensures.variant.1 (omega arith) in
    let split = taken_last f.rest.items c.pop.new.self.items c.pop.result (rest.Do s) c.pop.ensures.items some got in
    let told = rw (c.in-Some-Left.is, c.in-Some-Left.field-0-is) at c.in_ok-branch.ensures.told in
    let effect = rw (c.as_slice.ensures.value, c.as_slice-2.ensures.value) at told word (held_left p c.pop.new.self.items []) in
    step_is p c.args.library.now.items word f c.pop.new.self.items s split (c.requires.opened s (ap do_of got)) (Does (goes_to (resume (held_left p c.pop.new.self.items []) (Leaves c.in-Some-Left.loops)))) effect
    ∙ sym (ap (λ l. goes_with c.args.library.now.items f.body.0 l f.own.items) c.leave_loops.ensures.held)

pub returns-in-Some-Returned-clause-step : goal.returns-in-Some-Returned-clause-step
returns-in-Some-Returned-clause-step c word =
    let f = c.args.frame.now in
    let p = c.args.program.now in
    let s = c.in-Do.s in
    let got : slice_get f.rest.items (length f.rest.items - 1) ≡ Some (rest.Do s) = sym (rw c.deref.ensures.value at c.in-Some.ensures.value) ∙ ap (λ (r : Rest). Some r) c.in-Do.is in
    let split = split_last f.rest.items (rest.Do s) got in
    let front = take (length f.rest.items - 1) f.rest.items in
    let told = rw (c.in-Some-Returned.is, c.in-Some-Returned.field-0-is) at c.in_ok-branch.ensures.told in
    let effect = rw (c.as_slice.ensures.value, c.as_slice-2.ensures.value) at told word (held_left p front []) in
    let left : held_left p c.clear.new.self.items [] ≡ resume (held_left p front []) Returns = ap (λ r. held_left p r []) c.clear.ensures.items ∙ sym (resume_back (held_left p front [])) in
    step_is p c.args.library.now.items word f front s split (c.requires.opened s (ap do_of got)) (Does (goes_to (resume (held_left p front []) Returns))) effect
    ∙ sym (ap (λ l. goes_with c.args.library.now.items f.body.0 l f.own.items) left)

pub returns-in-Some-Changed-clause-frame : goal.returns-in-Some-Changed-clause-frame
returns-in-Some-Changed-clause-frame c = record {
  rest = (All-pop (IsRest c.args.program.now) c.args.frame.now.rest.items c.pop-in-Some-Changed.new.self.items c.pop-in-Some-Changed.result c.pop-in-Some-Changed.ensures.items c.requires.frame.rest).0;
  own = c.put_cells.ensures.own_sized;
}

pub returns-in-Some-Changed-clause-step : goal.returns-in-Some-Changed-clause-step
returns-in-Some-Changed-clause-step c word =
    let f = c.args.frame.now in
    let p = c.args.program.now in
    let s = c.in-Do.s in
    let front = c.pop-in-Some-Changed.new.self.items in
    let got : slice_get f.rest.items (length f.rest.items - 1) ≡ Some (rest.Do s) = sym (rw c.deref.ensures.value at c.in-Some.ensures.value) ∙ ap (λ (r : Rest). Some r) c.in-Do.is in
    let within = slice_get_within f.rest.items (length f.rest.items - 1) (rest.Do s) got in
    let some : IsSome c.pop-in-Some-Changed.result = c.pop-in-Some-Changed.ensures.variant.1 (omega arith) in
    let split = taken_last f.rest.items front c.pop-in-Some-Changed.result (rest.Do s) c.pop-in-Some-Changed.ensures.items some got in
    let told = rw (c.in-Some-Changed.is, c.in-Some-Changed.field-0-is) at c.in_ok-branch.ensures.told in
    let effect = rw (c.as_slice.ensures.value, c.as_slice-2.ensures.value) at told word (held_left p front []) in
    step_is p c.args.library.now.items word f front s split (c.requires.opened s (ap do_of got)) (Does (changes c.in-Some-Changed.leaf.0 c.in-Some-Changed.cells (held_left p front []))) effect
    ∙ (sym (ap (λ l. goes_with l f.body.0 (held_left p front []) (change_own p (Some (record { leaf = c.in-Some-Changed.leaf.0; cells = c.in-Some-Changed.cells })) f.own.items)) c.put_cells.ensures.library)
    ∙ sym (ap (λ o. goes_with c.put_cells.new.library.items f.body.0 (held_left p front []) o) c.put_cells.ensures.own))

pub returns-in_ok-push-in-Some-Round-clause-step : goal.returns-in_ok-push-in-Some-Round-clause-step
returns-in_ok-push-in-Some-Round-clause-step c word =
    let f = c.args.frame.now in
    let p = c.args.program.now in
    let s = c.in-Do.s in
    let body = c.in-Some-Round.body in
    let got : slice_get f.rest.items (length f.rest.items - 1) ≡ Some (rest.Do s) = sym (rw c.deref.ensures.value at c.in-Some.ensures.value) ∙ ap (λ (r : Rest). Some r) c.in-Do.is in
    let split = split_last f.rest.items (rest.Do s) got in
    let front = take (length f.rest.items - 1) f.rest.items in
    let told = rw (c.in-Some-Round.is, c.in-Some-Round.field-0-is) at c.in_ok-branch.ensures.told in
    let effect = rw (c.as_slice.ensures.value, c.as_slice-2.ensures.value) at told word (held_left p front []) in
    let size : length f.rest.items ≡ length front + 1 = ap length split ∙ length_push front (rest.Do s) in
    let len : c.len-at.result ≡ length f.rest.items = omega arith in
    let at : c.len-at.result - 1 ≡ length front = omega (arith, size, len) in
    let left : held_left p (set c.push-in-Some-Round.new.self.items (c.len-at.result - 1) (rest.Again body)) [] ≡ push (code_of p.exprs p.stmts body) (Again (code_of p.exprs p.stmts body) ∷ held_left p front []) =
    round_left p f.rest.items front c.push-in-Some-Round.new.self.items s body (c.len-at.result - 1) split c.in_ok-push-in-Some-Round.ensures.items at in
    step_is p c.args.library.now.items word f front s split (c.requires.opened s (ap do_of got)) (Does (goes_to (push (code_of p.exprs p.stmts body) (Again (code_of p.exprs p.stmts body) ∷ held_left p front [])))) effect
    ∙ sym (ap (λ l. goes_with c.args.library.now.items f.body.0 l f.own.items) left)
