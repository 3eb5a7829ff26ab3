use Rattle.std.proofs.Common.{◌≡◌, ℕ, List, [], ◌∷◌, sym, ◌∙◌, subst}
use Rattle.summary_table.specs.Views.{newcomer}
use Rattle.summary_table.specs.Kept.{Kept, first_words}
use Rattle.summary_table.proofs.Ends as ends
use Rattle.summary_table.proofs.table.SummaryTable.open.Goals as goal

pub of_words-requires : goal.of_words-requires
of_words-requires g c =
    let sys = g.E.Equations.system in
    let words : c.as_slice.result.now ≡ first_words sys.bodies sys.words =
    c.as_slice.ensures.value ∙ c.in_ok-row.ensures ∙ sym ((λ i. first_words (c.requires.bodies i) (c.requires.words i))) in
    subst (λ (ws : List ℕ). Kept sys c.args.seats ws (newcomer c.args.seats ∷ [])) (sym words)
    (ends.begins_kept sys g.E.Equations.lawful c.args.seats c.requires.seats)
