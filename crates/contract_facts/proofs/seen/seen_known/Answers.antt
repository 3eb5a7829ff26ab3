use Rattle.std.proofs.Common.{◌≡◌, None, Some, length, sym, ap, ◌∙◌}
use Rattle.std.specs.Option.{option_copied}
use Rattle.std.specs.Prelude.{slice_get}
use Rattle.std.proofs.lemmas.Result.{IfOk-weaker}
use Rattle.summary_rows.specs.Layout.{outer_of, told}
use Rattle.callee_view.specs.Seen.{contract_seen, contract_told, row_told, seen}
use Rattle.callee_view.specs.Shown.{IsAbout, Shows}
use Rattle.contract_facts.proofs.Seeing.{contract_about, contract_seen_about, contract_shown, row_is, row_seen_about, row_shown}
use Rattle.contract_facts.proofs.seen.seen_known.Goals as goal

pub contract_known-requires-clause-about : goal.contract_known-requires-clause-about
contract_known-requires-clause-about c =
    let p = c.args.program.now in
    let caller = slice_get p.bodies c.args.caller.0 in
    let body = c.at-body.result.now in
    let is : contract_seen caller body ≡ Some c.in-Some.contract.now = sym c.contract_seen.ensures ∙ ap option_copied c.in-Some.is in
    contract_about p c.args.rows.now.layout caller c.args.callee body c.at-body.ensures c.args.leaves.now c.requires.leaves c.in-Some.contract.now is

pub row_known-requires-clause-names : goal.row_known-requires-clause-names
row_known-requires-clause-names c =
    let p = c.args.program.now in
    let l = c.args.rows.now.layout in
    let b = c.args.callee in
    let caller = slice_get p.bodies c.args.caller.0 in
    let body = c.at-body.result.now in
    let is : contract_seen caller body ≡ None = sym c.contract_seen.ensures ∙ ap option_copied c.in-None.is in
    let row = row_is p l caller b body c.at-body.ensures c.args.leaves.now c.requires.leaves is c.requires.increasing (c.requires.rows.layout.increasing b.0) in
    c.requires.names ∙ ap length (sym row)

pub returns-in-Some-clause-shows : goal.returns-in-Some-clause-shows
returns-in-Some-clause-shows c =
    let p = c.args.program.now in
    let l = c.args.rows.now.layout in
    let b = c.args.callee in
    let leaves = c.args.leaves.now in
    let caller = slice_get p.bodies c.args.caller.0 in
    let body = c.at-body.result.now in
    let contract = c.in-Some.contract.now in
    let is : contract_seen caller body ≡ Some contract = sym c.contract_seen.ensures ∙ ap option_copied c.in-Some.is in
    IfOk-weaker c.contract_known.result (λ k. Shows leaves k (contract_told p b.0 body contract)) (λ k. Shows leaves k (seen p l (told c.args.rows.now) caller b))
    (λ k shows. contract_shown p l caller b body c.at-body.ensures leaves c.requires.leaves (told c.args.rows.now) contract is k shows) c.contract_known.ensures.shows

pub returns-in-Some-clause-about : goal.returns-in-Some-clause-about
returns-in-Some-clause-about c =
    let p = c.args.program.now in
    let l = c.args.rows.now.layout in
    let b = c.args.callee in
    let leaves = c.args.leaves.now in
    let caller = slice_get p.bodies c.args.caller.0 in
    let body = c.at-body.result.now in
    let contract = c.in-Some.contract.now in
    let is : contract_seen caller body ≡ Some contract = sym c.contract_seen.ensures ∙ ap option_copied c.in-Some.is in
    IfOk-weaker c.contract_known.result (λ k. Shows leaves k (contract_told p b.0 body contract)) (λ k. IsAbout leaves (seen p l (told c.args.rows.now) caller b))
    (λ k shows. contract_seen_about p l caller b body c.at-body.ensures leaves c.requires.leaves (told c.args.rows.now) contract is) c.contract_known.ensures.shows

pub returns-in-None-clause-shows : goal.returns-in-None-clause-shows
returns-in-None-clause-shows c =
    let p = c.args.program.now in
    let l = c.args.rows.now.layout in
    let b = c.args.callee in
    let leaves = c.args.leaves.now in
    let R = told c.args.rows.now in
    let caller = slice_get p.bodies c.args.caller.0 in
    let body = c.at-body.result.now in
    let is : contract_seen caller body ≡ None = sym c.contract_seen.ensures ∙ ap option_copied c.in-None.is in
    let row = row_is p l caller b body c.at-body.ensures leaves c.requires.leaves is c.requires.increasing (c.requires.rows.layout.increasing b.0) in
    IfOk-weaker c.row_known.result (λ k. Shows (outer_of l b.0) k (row_told l R b.0)) (λ k. Shows leaves k (seen p l R caller b))
    (λ k shows. row_shown p l caller b body c.at-body.ensures R is leaves row k shows) c.row_known.ensures.shows

pub returns-in-None-clause-about : goal.returns-in-None-clause-about
returns-in-None-clause-about c =
    let p = c.args.program.now in
    let l = c.args.rows.now.layout in
    let b = c.args.callee in
    let leaves = c.args.leaves.now in
    let R = told c.args.rows.now in
    let caller = slice_get p.bodies c.args.caller.0 in
    let body = c.at-body.result.now in
    let is : contract_seen caller body ≡ None = sym c.contract_seen.ensures ∙ ap option_copied c.in-None.is in
    let row = row_is p l caller b body c.at-body.ensures leaves c.requires.leaves is c.requires.increasing (c.requires.rows.layout.increasing b.0) in
    IfOk-weaker c.row_known.result (λ k. Shows (outer_of l b.0) k (row_told l R b.0)) (λ k. IsAbout leaves (seen p l R caller b))
    (λ k shows. row_seen_about p c.args.rows.now caller b body c.at-body.ensures is leaves row) c.row_known.ensures.shows
