use Rattle.std.proofs.Common.{◌≡◌, ◌+◌, ◌++◌, None, Some, slice_get, option_to_list, sym, ap, ◌∙◌}
use Rattle.use_table.specs.Uses.{shown_if, only}
use Rattle.use_table.proofs.Shown.{left, left_more, two, first_one}
use Rattle.use_table.proofs.members.only_shown.Goals as goal
use Rattle.use_table.proofs.members.only_shown.Goals.{in-None, in-Some+else-is_some}

pub returns-then-is_some : goal.returns-then-is_some
returns-then-is_some g c uses told =
    let ms = c.args.members.now in
    let i = c.loop-place.place in
    let s : shown_if uses (slice_get ms i) ≡ Some c.in-Some.shown = ap (shown_if uses) (sym c.at.ensures) ∙ sym (c.in-Some.ensures uses told) in
    sym (two c.loop-place.found c.in-Some.shown (left uses (i + 1) ms) (sym c.is_some.ensures ∙ c.if-is_some.true))
    ∙ ap (λ r. only (option_to_list c.loop-place.found ++ r)) (sym (left_more uses ms i ∙ ap (λ o. option_to_list o ++ left uses (i + 1) ms) s))
    ∙ c.loop-place.invariant uses told

pub loop-place-preserved : goal.loop-place-preserved
loop-place-preserved g c uses told =
    let ms = c.args.members.now in
    let i = c.loop-place.place in
    elim c.match-shown_if.branch [
      | in-None w ↦
          let s : shown_if uses (slice_get ms i) ≡ None = ap (shown_if uses) (sym c.at.ensures) ∙ sym (w.in-None.ensures uses told) in
          ap (λ f. only (option_to_list f ++ left uses (i + 1) ms)) w.found-is
          ∙ ap (λ r. only (option_to_list c.loop-place.found ++ r)) (sym (left_more uses ms i ∙ ap (λ o. option_to_list o ++ left uses (i + 1) ms) s))
          ∙ c.loop-place.invariant uses told
      | in-Some+else-is_some w ↦
          let s : shown_if uses (slice_get ms i) ≡ Some w.in-Some.shown = ap (shown_if uses) (sym c.at.ensures) ∙ sym (w.in-Some.ensures uses told) in
          ap (λ f. only (option_to_list f ++ left uses (i + 1) ms)) w.found-is
          ∙ sym (ap only (first_one c.loop-place.found w.in-Some.shown (left uses (i + 1) ms) (sym w.is_some.ensures ∙ w.if-is_some.false)))
          ∙ ap (λ r. only (option_to_list c.loop-place.found ++ r)) (sym (left_more uses ms i ∙ ap (λ o. option_to_list o ++ left uses (i + 1) ms) s))
          ∙ c.loop-place.invariant uses told
    ]
