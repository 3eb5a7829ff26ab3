use Rattle.std.proofs.Common.{ℕ, ◌+◌, ◌<◌, ◌↔◌, length, subst, arith}
use Rattle.std.specs.Prelude.{IsTrue, slice_index}
use Rattle.summary_rows.specs.Layout.{first_of}
use Rattle.summary_rows.proofs.Joined.{row_within}
use Rattle.claim_core.specs.Bits.{Within, Bit, IsSetIn}
use Rattle.claim_core.specs.Machine.{seen}
use Rattle.claim_state.specs.State.{claims_of, system_in}
use Rattle.claim_state.proofs.Joined.{all_joined, joined_all}
use Rattle.claim_state.proofs.state.ClaimState.has_joined.Goals as goal

pub has_joined-requires-clause-words : goal.has_joined-requires-clause-words
has_joined-requires-clause-words c =
    let l = c.args.self.now.layout.now in
    let h = row_within l c.requires.state.fit.layout.layout c.args.b.0 c.requires.body in
    let f = c.first_word.ensures in
    let n = c.requires.size in
    let w = c.requires.state.words in
    omega (arith, h, f, n, w)

pub returns : goal.returns
returns c =
    let s = c.args.self.now in
    let p = s.program.now in
    let l = s.layout.now in
    let is = c.requires.state.fit.layout.layout in
    let k = (claims_of s).workers c.args.worker in
    let E : Bit → Type 0 = λ x. (system_in s).equation (IsSetIn (seen k)) x in
    let low : (x : Bit) → E x → x.place < 64 = λ x e. (let q = e.1.0.1.1.1.1 in omega (arith, q)) in
    let h : IsTrue c.has_joined.result ↔ ((j : ℕ) → j < length c.args.words.now → Within (slice_index c.args.words.now j) (k.joined (first_of l c.args.b.0 + j))) =
    subst (λ (f : ℕ). IsTrue c.has_joined.result ↔ ((j : ℕ) → j < length c.args.words.now → Within (slice_index c.args.words.now j) (k.joined (f + j)))) c.first_word.ensures c.has_joined.ensures in (
      (λ t. all_joined p l is c.args.b.0 c.requires.body E low c.args.words.now c.requires.size (λ w. (c.type_inv.words w).fits) k.joined c.requires.bits (h.0 t)),
      (λ f. h.1 (joined_all p l is c.args.b.0 c.requires.body E low c.args.words.now c.requires.size (λ w. (c.type_inv.words w).fits) k.joined c.requires.bits f)),
    )
