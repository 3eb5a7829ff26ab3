use Rattle.std.proofs.Common.{◌≡◌, ◌+◌, ◌*◌, true, if◌then◌else◌, sym, ◌∙◌, ap}
use Rattle.ada_lexer.specs.Classes.{is_digit, digit_of}
use Rattle.ada_lexer.proofs.Fitting.{sum_fits}
use Rattle.std.proofs.Math.Nat.{mul_comm}
use Rattle.ada_lexer.proofs.number.push_digit.Goals as goal

pub returns-in_ok-checked_mul : goal.returns-in_ok-checked_mul
returns-in_ok-checked_mul c =
    let t : is_digit c.args.base c.args.b ≡ true = sym c.is_digit.ensures ∙ c.if-is_digit.true in
    let e : c.args.value * c.from.result ≡ c.args.base * c.args.value = ap (λ x. c.args.value * x) c.from.ensures ∙ mul_comm c.args.value c.args.base in
    let f : c.in_ok-checked_mul.field-0 + c.from-then-is_digit.result ≡ c.args.base * c.args.value + digit_of c.args.b = ap (λ x. x + c.from-then-is_digit.result) (c.in_ok-checked_mul.ensures.1 ∙ e) ∙ ap (λ x. c.args.base * c.args.value + x) (c.from-then-is_digit.ensures ∙ c.digit_of.ensures) in
    sum_fits c.checked_add.result (c.in_ok-checked_mul.field-0 + c.from-then-is_digit.result) (if is_digit c.args.base c.args.b then c.args.base * c.args.value + digit_of c.args.b else c.args.value)
    (f ∙ ap (λ t. if t then c.args.base * c.args.value + digit_of c.args.b else c.args.value) (sym t)) c.checked_add.ensures
