use Rattle.std.proofs.Common.{ℕ, ◌≡◌, inl, inr, Some, refl, sym, subst, arith}
use Rattle.std.specs.Prelude.{IsTrue, slice_get, slice_index_or}
use Rattle.std.proofs.lemmas.Bool.{false≢true, cases_lt}
use Rattle.std.proofs.lemmas.Option.{slice_get-get_or, get_or_from_slice_get}
use Rattle.spark_base.specs.declared.numbers.BodyNo.{BodyNo}
use Rattle.claim_rows.specs.Placed.{is_in_row}
use Rattle.claim_state.proofs.Found.{in_bounds, by_bounds}
use Rattle.claim_state.proofs.state.ClaimState.has_read_callees.Goals as goal

pub returns-then-not-has_read : goal.returns-then-not-has_read
returns-then-not-has_read c =
    let l = c.args.self.now.layout.now in
    let d : BodyNo = slice_index_or c.args.callees.now c.loop-c.c-index (record { 0 = 0 }) in
    let f = c.first_word-first.ensures in
    let n = c.word_count.ensures.count in (
      (λ t. absurd (false≢true t)),
      (λ h. c.if-not-has_read.ensures.1 (λ w low high. h d.0 w
          (c.loop-c.c-index, (c.loop-c-test.true, (d, (slice_get-get_or c.args.callees.now c.loop-c.c-index (record { 0 = 0 }) c.loop-c-test.true, refl))))
          (by_bounds l d.0 w (omega (arith, low, f), omega (arith, high, f, n))))),
    )

pub loop-c-preserved : goal.loop-c-preserved
loop-c-preserved c = λ d w m row.
    (let l = c.args.self.now.layout.now in
    let f = c.first_word-first.ensures in
    let n = c.word_count.ensures.count in
    elim (cases_lt m.0 c.loop-c.c-index) [
      | inl lt ↦ c.loop-c.invariant d w (m.0, (lt, m.1.1)) row
      | inr ge ↦ (
          let i : m.0 ≡ c.loop-c.c-index = (let x = m.1.0 in omega (arith, x, ge)) in
          let here : slice_index_or c.args.callees.now c.loop-c.c-index (record { 0 = 0 }) ≡ m.1.1.0 =
          get_or_from_slice_get c.args.callees.now c.loop-c.c-index m.1.1.0 (record { 0 = 0 }) (subst (λ (k : ℕ). slice_get c.args.callees.now k ≡ Some m.1.1.0) i m.1.1.1.0) in
          let num : (slice_index_or c.args.callees.now c.loop-c.c-index (record { 0 = 0 })).0 ≡ d = subst (λ (x : BodyNo). x.0 ≡ d) (sym here) m.1.1.1.1 in
          let r = in_bounds l (slice_index_or c.args.callees.now c.loop-c.c-index (record { 0 = 0 })).0 w (subst (λ (k : ℕ). IsTrue (is_in_row l k w)) (sym num) row) in
          let low = r.0 in
          let high = r.1 in
          c.if-not-has_read.ensures.0 refl w (omega (arith, low, f)) (omega (arith, high, f, n)))
    ])
