use Rattle.std.proofs.Common.{ℕ, ◌<◌, Option, false, length, refl, sym, subst}
use Rattle.std.specs.Prelude.{◌≡◌, IfSome, slice_index_or}
use Rattle.std.proofs.Math.ListN.{set}
use Rattle.claim_core.specs.Bits.{put_at}
use Rattle.claim_board.proofs.Tells.{set_at}
use Rattle.claim_board.proofs.board.set_mark.Goals as goal

pub returns-in-Some-clause-set : goal.returns-in-Some-clause-set
returns-in-Some-clause-set c = λ a.
    (let marks = c.args.marks.now.items in
    let lt : c.in-Some.b < length marks = subst (λ (o : Option ℕ). IfSome o (λ x. x < length marks)) c.in-Some.is c.requires in
    subst (λ (o : Option ℕ). slice_index_or (set marks c.in-Some.b c.args.mark) a false ≡ put_at (λ x. slice_index_or marks x false) o c.args.mark a) (sym c.in-Some.is)
    (set_at marks c.in-Some.b c.args.mark false lt a))

pub returns-in_default-clause-set : goal.returns-in_default-clause-set
returns-in_default-clause-set c = λ a.
    subst (λ (o : Option ℕ). slice_index_or c.args.marks.now.items a false ≡ put_at (λ x. slice_index_or c.args.marks.now.items x false) o c.args.mark a)
    (sym c.in_default.is) refl
