use Rattle.std.proofs.Common.{◌≡◌, ℕ, ◌+◌, ◌*◌, ◌/◌, ap, ◌∙◌, sym, arith}
use Rattle.std.proofs.lemmas.Bool.{eqb-true}
use Rattle.flow_bits.specs.Words.{word, words_for}
use Rattle.flow_bits.proofs.Bits.{no_bit}
use Rattle.flow_bits.proofs.Changed.{has_is}
use Rattle.flow_bits.proofs.flags.is_empty_word.Goals as goal

pub returns : goal.returns
returns c t n l m h =
    let o = (has_is c.args.size c.args.words.now c.args.a n).0 h in
    let d : c.args.k ≡ n / 64 = omega arith in
    let e = eqb-true (word c.args.words.now (c.args.a * c.words_for.result + c.args.k)) 0 t in
    let f = ap (λ (u : ℕ). word c.args.words.now (c.args.a * u + c.args.k)) (sym c.words_for.ensures) in
    let g = ap (λ (u : ℕ). word c.args.words.now (c.args.a * words_for c.args.size + u)) (sym d) in
    no_bit _ _ (g ∙ (f ∙ e)) o.1
