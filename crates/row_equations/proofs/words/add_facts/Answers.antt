use Rattle.std.proofs.Common.{◌≡◌, ℕ, ◌+◌, ◌*◌, ◌⊎◌, ◌↔◌, length, subst, arith}
use Rattle.flow_bits.specs.Sets.{Has, Relates}
use Rattle.summary_rows.specs.Bits.{Bit}
use Rattle.summary_rows.specs.Layout.{writes_from, keeps_from, depends_from}
use Rattle.row_equations.specs.Packing.{AtLeaf, AtNumbers}
use Rattle.row_equations.proofs.Packed.{chained}
use Rattle.row_equations.proofs.words.add_facts.Goals as goal

pub returns : goal.returns
returns c n =
    let row = c.args.row.now in
    let outer = c.args.outer.now in
    let e = c.bits_for-part.ensures in
    let w : 64 + c.bits_for-part.result ≡ writes_from (length outer) = omega (arith, e) in
    let k : 64 + 2 * c.bits_for-part.result ≡ keeps_from (length outer) = omega (arith, e) in
    let d : 64 + 3 * c.bits_for-part.result ≡ depends_from (length outer) = omega (arith, e) in
    chained (c.add_return.ensures n) (c.add_leaves.ensures n)
    (subst (λ (first : ℕ). Bit c.add_leaves-2.new.words n ↔ (Bit c.add_leaves.new.words n ⊎ AtLeaf outer first (Has row.writes) n)) w (c.add_leaves-2.ensures n))
    (subst (λ (first : ℕ). Bit c.add_leaves-3.new.words n ↔ (Bit c.add_leaves-2.new.words n ⊎ AtLeaf outer first (Has row.keeps) n)) k (c.add_leaves-3.ensures n))
    (subst (λ (first : ℕ). Bit c.add_pairs.new.words n ↔ (Bit c.add_leaves-3.new.words n ⊎ AtNumbers c.args.numbers.now first (Relates row.depends) n)) d
    (c.add_pairs.ensures n))
