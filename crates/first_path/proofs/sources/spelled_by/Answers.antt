use Rattle.std.proofs.Common.{◌∙◌, List, sym, subst}
use Rattle.first_path.specs.Nested.{AreNested}
use Rattle.first_path.specs.declared.source.Line.{Line}
use Rattle.first_path.proofs.One.{unnested}
use Rattle.first_path.proofs.sources.spelled_by.Goals as goal

pub returns-else-branch-clause-none : goal.returns-else-branch-clause-none
returns-else-branch-clause-none c =
    unnested _ c.in-Ok.source (sym c.in_ok-symbols.ensures ∙ c.in-Ok.ensures.ok)
    (λ nested. c.in_ok-is_nested.ensures.no c.if-branch.false (subst (λ (ls : List Line). AreNested ls) (sym c.as_slice.ensures) nested))
