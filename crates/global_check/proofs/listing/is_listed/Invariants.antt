use Rattle.std.proofs.Common.{◌↔◌, drop}
use Rattle.global_check.specs.GlobalCheck.{IsListed}
use Rattle.global_check.proofs.listing.is_listed.Given as goal

-- those that are left decide
abbrev pub invariant-loop-global : goal.invariant-loop-global
invariant-loop-global l = IsListed l.program l.listing (drop l.global-index l.globals) l.item ↔ IsListed l.program l.listing l.globals
    l.item
