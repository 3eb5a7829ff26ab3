use Rattle.std.proofs.Common.{rules, ◌≡◌}
use Rattle.std.specs.Prelude.{IsTrue, slice_get, Some}
use Rattle.std.proofs.lemmas.Result.{on_ok_weaker}
use Rattle.global_check.specs.GlobalCheck.{passes}
use Rattle.global_check.specs.declared.listing.Listing.{Listing}
use Rattle.global_check.proofs.Gathered.{noted_there}
use Rattle.global_check.proofs.functions.note_output.Goals as goal

pub returns-in-Some : goal.returns-in-Some
returns-in-Some c =
    let p : IsTrue (passes Listing.AsOutput c.args.global.mode) = search (rules, c.passes.ensures, c.if-passes.true) in
    let is : slice_get c.args.program.now.items c.args.global.item.0 ≡ Some c.in-Some.item.now = cc (c.in-Some.ensures.value) in
    on_ok_weaker c.note_new.result (λ a. noted_there (IsTrue (passes Listing.AsOutput c.args.global.mode)) (slice_get
    c.args.program.now.items c.args.global.item.0) c.args.items.now c.note_new.new.list c.in-Some.item.now p is a) c.note_new.ensures
