use Rattle.std.proofs.Common.{◌≡◌, ◌∙◌, List, ℕ, None, subst}
use Rattle.std.specs.Prelude.{position}
use Rattle.std.specs.Str.{bytes_eq}
use Rattle.first_conditions.specs.Conditions.{key}
use Rattle.first_lower.proofs.Found.{is_found}
use Rattle.first_lower.proofs.exprs.find_leaf.Goals as goal

pub unreachable-requires : goal.unreachable-requires
unreachable-requires c =
    let slice : c.as_slice.result.now ≡ key c.args.word.now = c.as_slice.ensures.value ∙ c.in_ok-key.ensures in
    is_found (bytes_eq (key c.args.word.now)) c.args.table.now c.requires.known
    (subst (λ (k : List ℕ). None ≡ position (bytes_eq k) c.args.table.now) slice c.in-None.ensures)
