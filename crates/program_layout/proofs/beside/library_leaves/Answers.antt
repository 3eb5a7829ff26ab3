use Rattle.std.proofs.Common.{◌≡◌, false, get_or, arith, inl, inr, sym, ◌∙◌}
use Rattle.std.proofs.lemmas.Bool.{cases_lt, false≢true}
use Rattle.std.proofs.lemmas.List.{get_or_past}
use Rattle.program_layout.proofs.Belonging.{home_within}
use Rattle.program_layout.proofs.beside.library_leaves.Goals as goal

pub returns-clause-flags : goal.returns-clause-flags
returns-clause-flags c = λ v.
    let is = c.loop-leaf.invariant in
    let end = c.loop-leaf-test.false in
    let size = is.size in
    elim (cases_lt v c.loop-leaf.leaf) [
      | inl l ↦ is.flags v l
      | inr g ↦ (
          let past : get_or c.loop-leaf.flags v false ≡ false = get_or_past c.loop-leaf.flags v false (omega (arith, g, size)) in (
            λ t. absurd (false≢true (sym past ∙ t)),
            λ h. absurd (let l = home_within c.args.program.now v _ h in omega (arith, l, g, end)),
          ))
    ]
