use Rattle.std.proofs.Common.{◌≡◌, ℕ, sym, subst, List, Bool}
use Rattle.flow_bits.specs.Sets.{Has}
use Rattle.flow_bits.specs.Words.{flags}
use Rattle.flow_bits.proofs.Squares.{relates_is}
use Rattle.flow_bits.proofs.pairs.meets_at.Goals as goal

pub returns : goal.returns
returns c =
    let row = subst (λ (n : ℕ). flags n c.words.result.now 0 ≡ c.args.row.now) c.requires.row c.words.ensures.row in
    let told = relates_is c.args.size c.args.words.now c.requires.tidy.count c.args.a in (
      λ t. let s = c.rows_meet.ensures.0 t in (s.0, ((told s.0).1 s.1, subst (λ (r : List Bool). Has r s.0) row s.2)),
      λ s. c.rows_meet.ensures.1 (s.0, (told s.0).0 s.1.0, subst (λ (r : List Bool). Has r s.0) (sym row) s.1.1),
    )
