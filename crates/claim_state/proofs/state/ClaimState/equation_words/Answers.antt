use Rattle.std.proofs.Common.{ℕ, ◌≡◌, ◌<◌, ◌↔◌, List, length, sym, ap, ◌∙◌, subst}
use Rattle.summary_rows.specs.declared.layout.Layout.{Layout}
use Rattle.summary_rows.specs.declared.rows.Rows.{Rows}
use Rattle.summary_rows.specs.Bits as bits
use Rattle.summary_rows.specs.Facts.{Part}
use Rattle.summary_rows.specs.Layout.{AreRows, IsLayout, Stands, row_size, outer_of, told}
use Rattle.flow_bits.specs.Words.{word}
use Rattle.row_equations.specs.Follow.{follows}
use Rattle.body_summaries.proofs.Words.{are_rows, followed_bits}
use Rattle.claim_core.specs.Machine.{seen}
use Rattle.claim_state.specs.State.{claims_of}
use Rattle.claim_state.proofs.Equation.{there, back}
use Rattle.claim_state.proofs.state.ClaimState.equation_words.Goals as goal

pub row_words-requires-clause-rows : goal.row_words-requires-clause-rows
row_words-requires-clause-rows c =
    let s = c.args.self.now in
    let l = s.layout.now in
    let rows : Rows = record { layout = c.in_ok-copy.field-0; words = c.from_vec.result } in
    let e : rows.layout ≡ l = c.in_ok-copy.ensures in
    let n : length rows.words ≡ rows.layout.words =
    ap (λ (ws : List ℕ). length ws) c.from_vec.ensures ∙ c.in_ok-seen.ensures.size ∙ c.requires.state.words ∙ sym (ap (λ (m : Layout). m.words) e) in
    let are : AreRows rows = record { layout = subst (λ (m : Layout). IsLayout m) (sym e) c.requires.state.fit.layout.layout; size = n } in
    are_rows s.program.now l c.requires.state.fit.layout rows e are

pub returns-clause-bits : goal.returns-clause-bits
returns-clause-bits c =
    let s = c.args.self.now in
    let p = s.program.now in
    let l = s.layout.now in
    let b : ℕ = c.args.b.0 in
    let is = c.requires.state.fit.layout.layout in
    let rows : Rows = record { layout = c.in_ok-copy.field-0; words = c.from_vec.result } in
    let e : rows.layout ≡ l = c.in_ok-copy.ensures in
    let saw : ℕ → ℕ = λ w. seen ((claims_of s).workers c.args.worker) w in
    let are : (w : ℕ) → word rows.words w ≡ saw w = λ w. ap (λ (ws : List ℕ). word ws w) c.from_vec.ensures ∙ c.in_ok-seen.ensures.words w in
    let own : List ℕ = c.in_ok-words.words in
    let own_bits : (n : ℕ) → bits.Bit own n ↔ ((x : Part) × (Stands (outer_of l b) x n × follows p l (told rows) (record { owner = b; part = x }))) =
    λ n. followed_bits p l rows e b c.requires.body own n (c.in_ok-words.ensures.bits n) in
    let size : length own ≡ row_size (length (outer_of l b)) = c.in_ok-words.ensures.size ∙ ap (λ (m : Layout). row_size (length (outer_of m b))) e in
    λ w k lw lk. (
      (λ h. there p l is rows e saw are b c.requires.body own own_bits w k (subst (λ (n : ℕ). w < n) size lw) lk h),
      (λ h. (back p l is rows e saw are b c.requires.body own own_bits w k (subst (λ (n : ℕ). w < n) size lw) h).1),
    )
