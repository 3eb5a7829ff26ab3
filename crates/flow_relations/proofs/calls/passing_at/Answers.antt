use Rattle.std.proofs.Common.{ap, ◌∙◌}
use Rattle.std.specs.Prelude.{unwrap_or}
use Rattle.std.proofs.lemmas.Option.{unwrap_or-slice_get}
use Rattle.flow_relations.proofs.calls.passing_at.Goals as goal

pub returns-in-None : goal.returns-in-None
returns-in-None c = ap (λ o. unwrap_or o (record { first = 0; ins = 0; backs = 0 })) c.in-None.ensures.value ∙ unwrap_or-slice_get c.args.signature.now.passings c.args.formal (record { first = 0; ins = 0; backs = 0 })
