use Rattle.std.proofs.Common.{◌≡◌, ◌∙◌, ap, sym}
use Rattle.first_path.specs.Symbols.{symbols}
use Rattle.first_path.proofs.One.{one_source}
use Rattle.first_path.proofs.laws.sources_are_one.Goals as goal

pub returns : goal.returns
returns c file bytes s t h k =
    let ok = sym h.cut ∙ k.cut in
    let same : h.tokens ≡ k.tokens = cc in
    one_source s t (sym h.spell ∙ ap (symbols bytes) same ∙ k.spell)
