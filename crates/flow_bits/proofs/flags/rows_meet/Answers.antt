use Rattle.std.proofs.Common.{◌≢◌, ℕ, ◌+◌, ◌*◌, ◌<◌, ◌^◌, ◌↔◌, subst, IsTrue, bit_and, rules}
use Rattle.flow_bits.specs.Words.{word}
use Rattle.flow_bits.proofs.Clean.{meet_told}
use Rattle.flow_bits.proofs.flags.rows_meet.Goals as goal

pub returns : goal.returns
returns c =
    let fits : (w : ℕ) → word c.args.one.now w < 2 ^ 64 = search rules in
    let told = meet_told c.args.size c.args.a c.args.b c.args.one.now c.args.other.now fits c.requires.clean in
    let same = subst (λ (n : ℕ). IsTrue c.words_meet.result ↔ ((k : ℕ) × (k < n)
    × (bit_and (word c.args.one.now (c.args.a * n + k)) (word c.args.other.now (c.args.b * n + k)) ≢ 0))) c.words_for.ensures c.words_meet.ensures in
    (λ t. told.0 (same.0 t), λ s. same.1 (told.1 s))
