use Rattle.std.proofs.Common.{◌≡◌, ◌++◌, drop, length}
use Rattle.callee_view.specs.Signatures.{passed_of, passings_of}
use Rattle.callee_view.proofs.signatures.push_formals.Given as goal

-- the leaves so far, and those that are left, are all
abbrev pub invariant-loop-formal : goal.invariant-loop-formal
invariant-loop-formal l = record {
  leaves : l.signature.leaves ++ passed_of l.program l.body.0 (drop l.formal-index l.formals) ≡ l.initial.signature.leaves ++ passed_of l.program l.body.0 l.formals;
  passings : l.signature.passings ++ passings_of l.program l.body.0 (length l.signature.leaves) (drop l.formal-index l.formals)
      ≡ l.initial.signature.passings ++ passings_of l.program l.body.0 (length l.initial.signature.leaves) l.formals;
}
