use Rattle.std.proofs.Common.{◌≡◌, ℕ, ◌⊎◌, ◌↔◌, inl, inr, length, get_or, arith, subst, sym}
use Rattle.std.proofs.lemmas.Bool.{false≢true}
use Rattle.std.proofs.lemmas.Option.{slice_get-get_or}
use Rattle.spark_base.specs.declared.numbers.BodyNo.{BodyNo}
use Rattle.summary_rows.specs.Facts.{Returning}
use Rattle.summary_rows.specs.Layout.{told}
use Rattle.call_lists.specs.Lists.{NamesBelow}
use Rattle.call_lists.proofs.Names.{names_step}
use Rattle.row_tests.proofs.solver_tests.any_returns.Goals as goal

pub loop-b-preserved : goal.loop-b-preserved
loop-b-preserved c = λ b m t.
    let list = c.args.list.now in
    let i = c.loop-b.b-index in
    let item : BodyNo = get_or list i (record { 0 = 0 }) in
    let before : NamesBelow i list b ↔ (⊥ ⊎ NamesBelow i list b) = (λ x. inr x, λ s. elim s [ inl z ↦ absurd z | inr x ↦ x ]) in
    let one : (NamesBelow i list b ⊎ (item.0 ≡ b)) ↔ (NamesBelow i list b ⊎ (item.0 ≡ b)) = (λ x. x, λ x. x) in
    elim ((names_step list i item (slice_get-get_or list i (record { 0 = 0 }) c.loop-b-test.true) b before one).1 (inr m)) [
      | inl x ↦ c.loop-b.invariant b x t
      | inr e ↦ absurd (false≢true (c.if-returns.ensures.1 (subst (λ (k : ℕ). told c.args.rows.now (record { owner = k; part = Returning })) (sym e) t)))
    ]

pub returns : goal.returns
returns c =
    let last : c.loop-b.b-index ≡ length c.args.list.now = (let l = c.loop-b-test.false in let m = c.loop-b.auto.b-index-end in omega (arith, l, m)) in (
      λ t. absurd (false≢true t),
      λ s. absurd (c.loop-b.invariant s.0 (subst (λ (n : ℕ). NamesBelow n c.args.list.now s.0) (sym last) s.1.0) s.1.1),
    )
