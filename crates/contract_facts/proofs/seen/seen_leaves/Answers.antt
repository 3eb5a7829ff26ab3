use Rattle.std.proofs.Common.{◌≡◌, ℕ, ◌<◌, [], List, None, Some, length, sym, ap, subst, ◌∙◌}
use Rattle.std.specs.Option.{option_copied}
use Rattle.std.specs.Prelude.{slice_get}
use Rattle.std.proofs.lemmas.Option.{get_or_from_slice_get}
use Rattle.std.proofs.lemmas.Result.{IfOk-weaker}
use Rattle.spark_base.specs.declared.numbers.LeafNo.{LeafNo}
use Rattle.summary_rows.specs.Layout.{IsAt, IsIncreasing, outer_of}
use Rattle.callee_view.specs.Seen.{contract_seen, contract_told}
use Rattle.callee_view.specs.Shown.{IsAbout}
use Rattle.contract_facts.specs.Seeing.{AreSeenLeaves}
use Rattle.contract_facts.proofs.Seeing.{contract_listed, row_listed}
use Rattle.contract_facts.proofs.seen.seen_leaves.Goals as goal

pub returns-in-Some-clause-leaves : goal.returns-in-Some-clause-leaves
returns-in-Some-clause-leaves c =
    let p = c.args.program.now in
    let l = c.args.layout.now in
    let b = c.args.callee in
    let caller = slice_get p.bodies c.args.caller.0 in
    let body = c.at-body.result.now in
    let contract = c.in-Some.contract.now in
    let is : contract_seen caller body ≡ Some contract = sym c.contract_seen.ensures ∙ ap option_copied c.in-Some.is in
    IfOk-weaker c.contract_leaves.result (λ leaves. IsAbout leaves (contract_told p b.0 body contract)) (λ leaves. AreSeenLeaves p l caller b leaves)
    (λ leaves about. contract_listed p l caller b body c.at-body.ensures contract is leaves about) c.contract_leaves.ensures.about

pub returns-in-None-clause-increasing : goal.returns-in-None-clause-increasing
returns-in-None-clause-increasing c =
    let l = c.args.layout.now in
    let b = c.args.callee.0 in
    let row : outer_of l b ≡ c.as_slice.result.now = get_or_from_slice_get l.outer b c.at.result.now [] c.at.ensures ∙ sym c.as_slice.ensures in
    IfOk-weaker c.copy_of.result (λ leaves. leaves ≡ c.as_slice.result.now) (λ leaves. IsIncreasing leaves)
    (λ leaves same. subst (λ (xs : List LeafNo). IsIncreasing xs) (row ∙ sym same) (c.requires.layout.increasing b)) c.copy_of.ensures

pub returns-in-None-clause-below : goal.returns-in-None-clause-below
returns-in-None-clause-below c =
    let p = c.args.program.now in
    let l = c.args.layout.now in
    let b = c.args.callee.0 in
    let row : outer_of l b ≡ c.as_slice.result.now = get_or_from_slice_get l.outer b c.at.result.now [] c.at.ensures ∙ sym c.as_slice.ensures in
    IfOk-weaker c.copy_of.result (λ leaves. leaves ≡ c.as_slice.result.now) (λ leaves. (v i : ℕ) → IsAt leaves v i → v < length p.leaves)
    (λ leaves same. subst (λ (xs : List LeafNo). (v i : ℕ) → IsAt xs v i → v < length p.leaves) (row ∙ sym same) c.requires.row) c.copy_of.ensures

pub returns-in-None-clause-leaves : goal.returns-in-None-clause-leaves
returns-in-None-clause-leaves c =
    let p = c.args.program.now in
    let l = c.args.layout.now in
    let b = c.args.callee in
    let caller = slice_get p.bodies c.args.caller.0 in
    let body = c.at-body.result.now in
    let is : contract_seen caller body ≡ None = sym c.contract_seen.ensures ∙ ap option_copied c.in-None.is in
    let row : outer_of l b.0 ≡ c.as_slice.result.now = get_or_from_slice_get l.outer b.0 c.at.result.now [] c.at.ensures ∙ sym c.as_slice.ensures in
    IfOk-weaker c.copy_of.result (λ leaves. leaves ≡ c.as_slice.result.now) (λ leaves. AreSeenLeaves p l caller b leaves)
    (λ leaves same. subst (λ (xs : List LeafNo). AreSeenLeaves p l caller b xs) (row ∙ sym same) (row_listed p l caller b body c.at-body.ensures is)) c.copy_of.ensures
