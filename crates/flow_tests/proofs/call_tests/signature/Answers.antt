use Rattle.std.proofs.Common.{◌≡◌, sym, subst}
use Rattle.std.proofs.lemmas.Result.{IfOk-weaker}
use Rattle.callee_view.specs.Signatures.{signature_of}
use Rattle.flow_relations.specs.CallsTold.{AreWithin}
use Rattle.flow_relations.proofs.Signed.{signature_within}
use Rattle.flow_tests.proofs.call_tests.signature.Goals as goal

pub returns : goal.returns
returns c =
    let p = c.args.program.now in
    IfOk-weaker c.signature_of.result
    (λ s. s ≡ signature_of p 0)
    AreWithin
    (λ s e. subst AreWithin (sym e) (signature_within p 0))
    c.signature_of.ensures
