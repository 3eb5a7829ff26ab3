use Rattle.std.proofs.Common.{ℕ, ◌≡◌, ◌+◌, ◌-◌, ◌<◌, ◌↔◌, length, sym, ◌∙◌, subst, arith}
use Rattle.std.specs.Prelude.{IsTrue, slice_index_or}
use Rattle.std.proofs.lemmas.Bool.{false≢true}
use Rattle.summary_rows.specs.Layout.{first_of}
use Rattle.flow_bits.specs.Words.{word}
use Rattle.claim_core.specs.Bits.{HasBit, IsSetIn}
use Rattle.claim_core.specs.System.{in_row}
use Rattle.claim_core.specs.Machine.{seen}
use Rattle.claim_core.proofs.Guards.{some_one}
use Rattle.claim_rows.specs.Placed.{is_in_row}
use Rattle.claim_state.specs.Solving.{solving}
use Rattle.claim_state.specs.State.{claims_of, workers_of}
use Rattle.claim_state.proofs.Found.{in_bounds, row_is, row_below}
use Rattle.claim_state.proofs.Guarded.{before_own, before_covered, join_allowed}
use Rattle.claim_state.proofs.Joined.{covers}
use Rattle.claim_state.proofs.state.ClaimState.may_join.Goals as goal

pub returns-then-not-has_word-clause-refused : goal.returns-then-not-has_word-clause-refused
returns-then-not-has_word-clause-refused c =
    let s = c.args.self.now in
    let p = s.program.now in
    let l = s.layout.now in
    let is = c.requires.fit.layout.layout in
    let held : ℕ = c.in_ok-held.held.0 in
    let body = c.in_ok-held.ensures.body in
    let holds = c.in_ok-held.ensures.holds in
    let lt = c.in_ok-held.ensures.worker in
    record {
      before = before_own (solving p l) (workers_of s) c.args.worker c.args.word.0 c.args.bits (claims_of s) held lt holds;
      false_of = λ h. (let same : h.0 ≡ held = some_one h.0 held (sym h.1 ∙ holds) in
          false≢true (c.if-not-has_word.ensures ∙ sym (row_is p l is held c.args.word.0 body) ∙ subst (λ (b : ℕ). IsTrue (in_row (solving p l) b c.args.word.0)) same h.2));
    }

pub returns-then-bits-own-clause-refused : goal.returns-then-bits-own-clause-refused
returns-then-bits-own-clause-refused c =
    let s = c.args.self.now in
    let p = s.program.now in
    let l = s.layout.now in
    let is = c.requires.fit.layout.layout in
    let held : ℕ = c.in_ok-held.held.0 in
    let body = c.in_ok-held.ensures.body in
    let holds = c.in_ok-held.ensures.holds in
    let lt = c.in_ok-held.ensures.worker in
    let inside : IsTrue (is_in_row l held c.args.word.0) = sym c.if-not-has_word.ensures in
    let own : IsTrue (in_row (solving p l) held c.args.word.0) = row_is p l is held c.args.word.0 body ∙ inside in
    let r = in_bounds l held c.args.word.0 inside in
    let j : ℕ = c.args.word.0 - first_of l held in
    let at : first_of l held + j ≡ c.args.word.0 = (let x = r.0 in omega (arith, x)) in
    let size = c.in-Ok.ensures.size in
    let below : j < length c.in-Ok.words = (let x = r.0 in let y = r.1 in omega (arith, x, y, size)) in
    let k = (claims_of s).workers c.args.worker in
    let E : ℕ → Type 0 = λ n. (solving p l).equation (IsSetIn (seen k)) (record { word = c.args.word.0; place = n }) in
    let v : ℕ = slice_index_or c.as_slice.result.now (c.args.word.0 - c.first_word.result) 0 in
    let same : v ≡ word c.in-Ok.words j = λ i. slice_index_or (c.as_slice.ensures i) (c.args.word.0 - c.first_word.ensures i) 0 in
    let are : (n : ℕ) → n < 64 → HasBit v n ↔ E n = λ n ln. subst (λ (x : ℕ). HasBit x n ↔ E n) (sym same)
    (subst (λ (u : ℕ). HasBit (word c.in-Ok.words j) n ↔ (solving p l).equation (IsSetIn (seen k)) (record { word = u; place = n })) at (c.in-Ok.ensures.bits j n below ln)) in
    let cover = covers c.args.bits v c.ranges.bits.fits E are in
    record {
      before = before_covered (solving p l) (workers_of s) c.args.worker c.args.word.0 c.args.bits (claims_of s) held lt holds own;
      false_of = λ h. c.if-bits-own.true (cover.1 h);
    }

pub returns-clause-accepted : goal.returns-clause-accepted
returns-clause-accepted c =
    let s = c.args.self.now in
    let p = s.program.now in
    let l = s.layout.now in
    let is = c.requires.fit.layout.layout in
    let held : ℕ = c.in_ok-held.held.0 in
    let body = c.in_ok-held.ensures.body in
    let holds = c.in_ok-held.ensures.holds in
    let lt = c.in_ok-held.ensures.worker in
    let inside : IsTrue (is_in_row l held c.args.word.0) = sym c.if-not-has_word.ensures in
    let own : IsTrue (in_row (solving p l) held c.args.word.0) = row_is p l is held c.args.word.0 body ∙ inside in
    let r = in_bounds l held c.args.word.0 inside in
    let j : ℕ = c.args.word.0 - first_of l held in
    let at : first_of l held + j ≡ c.args.word.0 = (let x = r.0 in omega (arith, x)) in
    let size = c.in-Ok.ensures.size in
    let below : j < length c.in-Ok.words = (let x = r.0 in let y = r.1 in omega (arith, x, y, size)) in
    let k = (claims_of s).workers c.args.worker in
    let E : ℕ → Type 0 = λ n. (solving p l).equation (IsSetIn (seen k)) (record { word = c.args.word.0; place = n }) in
    let v : ℕ = slice_index_or c.as_slice.result.now (c.args.word.0 - c.first_word.result) 0 in
    let same : v ≡ word c.in-Ok.words j = λ i. slice_index_or (c.as_slice.ensures i) (c.args.word.0 - c.first_word.ensures i) 0 in
    let are : (n : ℕ) → n < 64 → HasBit v n ↔ E n = λ n ln. subst (λ (x : ℕ). HasBit x n ↔ E n) (sym same)
    (subst (λ (u : ℕ). HasBit (word c.in-Ok.words j) n ↔ (solving p l).equation (IsSetIn (seen k)) (record { word = u; place = n })) at (c.in-Ok.ensures.bits j n below ln)) in
    let cover = covers c.args.bits v c.ranges.bits.fits E are in
    record {
      fits = c.ranges.bits.fits;
      allowed = join_allowed (solving p l) (workers_of s) c.args.worker c.args.word.0 c.args.bits (claims_of s) held lt holds own (cover.0 c.if-bits-own.false);
    }

pub returns-clause-word : goal.returns-clause-word
returns-clause-word c =
    let s = c.args.self.now in
    let p = s.program.now in
    let l = s.layout.now in
    let is = c.requires.fit.layout.layout in
    let held : ℕ = c.in_ok-held.held.0 in
    let body = c.in_ok-held.ensures.body in
    let holds = c.in_ok-held.ensures.holds in
    let lt = c.in_ok-held.ensures.worker in
    let at = row_below p l is held c.args.word.0 body (sym c.if-not-has_word.ensures) in
    let n = c.requires.words in
    omega (arith, at, n)
