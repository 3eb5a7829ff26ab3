use Rattle.std.proofs.Common.{rules, ◌≡◌, ℕ, ◌⊎◌, ◌↔◌, List, Option, length, drop, sym, ◌∙◌, subst}
use Rattle.std.proofs.lemmas.List.{take_all, take-append-le}
use Rattle.std.specs.Prelude.{replicate}
use Rattle.summary_rows.specs.Bits.{Bit}
use Rattle.summary_rows.proofs.Bits.{no_bit_of_zeros}
use Rattle.row_equations.specs.Packing.{AtRow}
use Rattle.row_equations.proofs.Packed.{packed}
use Rattle.row_equations.proofs.words.words_of_row.Goals as goal

pub returns-clause-bits : goal.returns-clause-bits
returns-clause-bits c n =
    let row = c.args.row.now in
    let outer = c.args.outer.now in
    let numbers = c.in_ok-numbers.numbers.items in
    let zeros = c.as_mut_slice.result.now in
    let new = c.add_facts.new.words in
    let len = c.in_ok-words.words.len in
    let e : new ≡ c.from_vec.result =
    sym (c.from_vec.ensures ∙ take-append-le len new (drop (length new) c.in_ok-words.words.items) (search rules) ∙ take_all len new (search rules)) in
    let m : c.as_slice.result.now ≡ numbers = search rules in
    let z : zeros ≡ replicate c.row_size.result 0 = search rules in
    packed row outer numbers c.requires.rows.frame c.in_ok-numbers.ensures.numbers n zeros c.from_vec.result
    (λ k b. no_bit_of_zeros c.row_size.result k (subst (λ (ws : List ℕ). Bit ws k) z b))
    (subst (λ (ms : List (Option ℕ)). Bit c.from_vec.result n ↔ (Bit zeros n ⊎ AtRow row outer ms n)) m
    (subst (λ (ws : List ℕ). Bit ws n ↔ (Bit zeros n ⊎ AtRow row outer c.as_slice.result.now n)) e (c.add_facts.ensures n)))
