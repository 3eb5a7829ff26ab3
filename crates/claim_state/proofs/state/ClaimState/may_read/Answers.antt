use Rattle.std.proofs.Common.{refl, arith}
use Rattle.claim_state.proofs.Found.{callee_is, row_below}
use Rattle.claim_state.proofs.state.ClaimState.may_read.Goals as goal

pub returns-clause-word : goal.returns-clause-word
returns-clause-word c =
    let s = c.args.self.now in
    let p = s.program.now in
    let l = s.layout.now in
    let is = c.requires.fit.layout.layout in
    let h = (callee_is p l is c.in_ok-held.held.0 c.args.word.0).0 (c.if-not-is_of_callee.ensures.0 refl) in
    let lt = row_below p l is h.0 c.args.word.0 h.1.1.0 h.1.1.1 in
    let n = c.requires.words in
    omega (arith, lt, n)
