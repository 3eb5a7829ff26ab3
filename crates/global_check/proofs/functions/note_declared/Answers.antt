use Rattle.std.proofs.Common.{subst}
use Rattle.std.proofs.lemmas.Result.{on_ok_weaker}
use Rattle.used_modes.specs.Added.{Adds}
use Rattle.global_check.specs.GlobalCheck.{IsListed}
use Rattle.global_check.specs.declared.listing.Listing.{Listing}
use Rattle.global_check.proofs.Gathered.{declared}
use Rattle.global_check.proofs.functions.note_declared.Goals as goal

pub returns-in-Some : goal.returns-in-Some
returns-in-Some c = on_ok_weaker c.note_outputs.result
    (λ a. declared c.args.program.now c.args.body.now.outer c.in-Some.contract c.in-Some.is c.if-not-contract.true c.args.items.now
    c.note_outputs.new.items
    (subst (λ gs. Adds c.args.items.now c.note_outputs.new.items (IsListed c.args.program.now Listing.AsOutput gs)) c.as_slice.ensures a))
    c.note_outputs.ensures
