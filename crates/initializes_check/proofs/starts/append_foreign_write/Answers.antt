use Rattle.std.proofs.Common.{rules, ◌≡◌, Some, sym, subst}
use Rattle.std.specs.Prelude.{IsSomeAnd, slice_get}
use Rattle.std.proofs.lemmas.Bool.{both_ways}
use Rattle.std.proofs.lemmas.Result.{on_ok_weaker}
use Rattle.spark_messages.specs.declared.messages.Code.TheVariants as code
use Rattle.spark_messages.specs.MessageTexts.{foreign_write_text}
use Rattle.used_modes.specs.Added.{error_at}
use Rattle.used_modes.specs.UsedModes.{IsLibrary, row_of}
use Rattle.initializes_check.proofs.Told.{foreign_told}
use Rattle.initializes_check.proofs.starts.append_foreign_write.Goals as goal

pub returns-in_ok-text-in-Some-Some : goal.returns-in_ok-text-in-Some-Some
returns-in_ok-text-in-Some-Some c =
    let p = c.args.program.now in
    let leaf = c.args.number_of_leaf.0 in
    let owner = c.in-Some-Some.«package».now in
    let same : c.error_at.result ≡ error_at c.args.body.now.place code.I03 (foreign_write_text owner.name c.in-Some-Some.leaf.now.name) = cc
    (c.in_ok-text-in-Some-Some.ensures, c.error_at.ensures, c.as_slice.ensures, c.as_slice-in-Some-Some.ensures) in
    let written : (row_of c.args.rows.now c.args.number.0).writes leaf = c.writes.ensures.0 (search (rules, c.if-not-writes.false)) in
    let library : IsLibrary p leaf = c.is_library.ensures.0 (search (rules, c.if-not-is_library.false)) in
    let there : slice_get p.packages c.in-Some.«package».0 ≡ Some owner = cc (c.in-Some-Some.ensures.value) in
    let has : slice_get p.leaves leaf ≡ Some c.in-Some-Some.leaf.now = cc (c.in-Some-Some.ensures'.value) in
    on_ok_weaker c.note.result (λ a. foreign_told p (row_of c.args.rows.now c.args.number.0) c.args.body.now leaf written library
    (λ h. both_ways c.is_own.result c.if-is_own.false (c.is_own.ensures.1 h)) c.in-Some-Some.leaf.now has owner
    (subst (λ o. IsSomeAnd o (λ k. slice_get p.packages k.0 ≡ Some owner)) (sym c.in-Some.is) there) c.error_at.result same
    c.args.list.now c.note.new.list a) c.note.ensures
