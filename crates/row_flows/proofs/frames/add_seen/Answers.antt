use Rattle.std.proofs.Common.{◌<◌, get_or, sym, subst}
use Rattle.std.proofs.lemmas.Option.{slice_get-get_or}
use Rattle.summary_rows.specs.Layout.{IsAt}
use Rattle.row_flows.proofs.frames.add_seen.Goals as goal

pub seen_leaves-requires-clause-row : goal.seen_leaves-requires-clause-row
seen_leaves-requires-clause-row c = λ v i e. c.requires.rows.leaves c.args.callee.0 v (i, e)

pub add_leaves-requires-clause-leaves : goal.add_leaves-requires-clause-leaves
add_leaves-requires-clause-leaves c = λ k d l.
    let xs = c.as_slice-2.result.now in
    let at = subst (λ ys. IsAt ys (get_or xs k d).0 k) c.as_slice-2.ensures (slice_get-get_or xs k d l) in
    subst (λ n. (get_or xs k d).0 < n) (sym c.void_of-void.ensures) (c.in_ok-leaves.ensures.below (get_or xs k d).0 k at)
