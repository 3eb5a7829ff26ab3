-- What a Depends speaks of are items of the program.
use Rattle.std.proofs.Common.{◌≡◌, ℕ, ◌<◌, ◌↔◌, inl, inr, List, Option, Some, None, All, length, sym, subst}
use Rattle.std.specs.Prelude.{IfSome, IsSomeAnd}
use Rattle.std.specs.List.{Contains}
use Rattle.std.proofs.lemmas.List.Elements.{All-get_or}
use Rattle.spark_base.specs.declared.numbers.ItemNo.{ItemNo}
use Rattle.spark_base.specs.declared.numbers.ObjectNo.{ObjectNo}
use Rattle.core_form.specs.declared.contract.Contract.{Contract}
use Rattle.core_form.specs.declared.contract.DependsPair.{DependsPair}
use Rattle.core_form.specs.declared.contract.GlobalItem.{GlobalItem}
use Rattle.core_form.specs.declared.program.Body.{Body}
use Rattle.core_form.specs.declared.program.Formal.{Formal}
use Rattle.core_form.specs.declared.program.Item.{Item}
use Rattle.core_form.specs.declared.program.Program.{Program}
use Rattle.core_form.specs.Fine.{IsFineBody, IsFineItem, IsWellFormed}
use Rattle.summary_rows.specs.declared.rows.Rows.{Rows}
use Rattle.used_modes.proofs.Adding.{some_contained}
use Rattle.global_check.proofs.Viewed.{All-slice_get, all_contained, body_view_fine}
use Rattle.depends_check.specs.DependsCheck.{IsFormalOn, IsGlobalOn, IsOn, IsResult, IsSource, IsUsed, depends_view, item_at, left_of, mention}
use Rattle.depends_check.specs.declared.sides.Side.{Side}

all_at : {X : Type 0} (P : X → Type 0) (xs : List X) (x : X) → All P xs → Contains xs x → P x
all_at P xs x all h = subst P h.2 (All-get_or P xs h.0 x h.1 all)

module _ (p : Program) (fine : IsWellFormed p) where
  own_fine : (o : Option ObjectNo) (i : Item) → IfSome o (λ k. k.0 < length p.objects) → IsSomeAnd o (λ k. i ≡ Item.Guard k) → IsFineItem
      p i
  own_fine None i l h = absurd h
  own_fine (Some k) i l h = subst (λ j. IsFineItem p j) (sym h) l

  pub on_fine : (b : ℕ) (body : Body) (c : Contract) (side : Side) → IsFineBody p body → (i : Item) → IsOn p b body c side i → IsFineItem
      p i
  on_fine b body c side fb i (inl g) =
      let s = some_contained (λ (g : GlobalItem). IsGlobalOn p side g i) c.globals g in
      All-slice_get (IsFineItem p) p.items s.0.item.0 i fine.items s.1.1.1
  on_fine b body c side fb i (inr (inl f)) =
      let s = some_contained (λ (f : Formal). IsFormalOn side f i) body.formals f in
      subst (λ j. IsFineItem p j) (sym s.1.1.1) (all_at (λ (f : Formal). f.var.0 < length p.vars) body.formals s.0 fb.formals s.1.0)
  on_fine b body c side fb i (inr (inr (inl r))) =
      let s = some_contained (λ (j : Item). IsResult p b side j × (i ≡ j)) p.items r in
      subst (λ j. IsFineItem p j) (sym s.1.1.1) (all_at (IsFineItem p) p.items s.0 fine.items s.1.0)
  on_fine b body c side fb i (inr (inr (inr o))) = own_fine body.object i fb.object o.1

  pub all_on_fine : (b : ℕ) (body : Body) (c : Contract) (side : Side) → IsFineBody p body → (items : List Item)
      → ((i : Item) → Contains items i ↔ IsOn p b body c side i) → All (IsFineItem p) items
  all_on_fine b body c side fb items set = all_contained (IsFineItem p) items (λ i there. on_fine b body c side fb i ((set i).0 there))

  pub item_at_fine : (n : Option ItemNo) (i : Item) → item_at p n ≡ Some i → IsFineItem p i
  item_at_fine None i e = let n : Option Item = None in let z : n ≡ Some i = e in absurd cc
  item_at_fine (Some n) i e = All-slice_get (IsFineItem p) p.items n.0 i fine.items e

  left_fine : (input output : Option ItemNo) (i : Item) → left_of p input output ≡ Some i → IsFineItem p i
  left_fine None output i e = item_at_fine output i e
  left_fine (Some n) output i e = let n : Option Item = None in let z : n ≡ Some i = e in absurd cc

  pub mention_fine : (side : Side) (pair : DependsPair) (i : Item) → mention p side pair ≡ Some i → IsFineItem p i
  mention_fine Side.Input pair i e = item_at_fine pair.input i e
  mention_fine Side.Output pair i e = left_fine pair.input pair.output i e

  module _ (rows : Rows) (b : ℕ) (body : Body) where
    source_fine : (leaf : ℕ) (i : Item) → IsSource p rows b body leaf i → IsFineItem p i
    source_fine leaf i (inl d) = body_view_fine p fine body.object (depends_view body) d.0 i d.1.1
    source_fine leaf i (inr u) = body_view_fine p fine body.object (depends_view body) leaf i u.1

    used_fine : (o : Item) → IsFineItem p o → (i : Item) → IsUsed p rows b body o i → IsFineItem p i
    used_fine o f i (inl s) = source_fine s.0 i s.1.1
    used_fine o f i (inr l) = subst (λ j. IsFineItem p j) (sym l.1) f

    pub all_used_fine : (o : Item) → IsFineItem p o → (items : List Item) → ((i : Item) → Contains items i ↔ IsUsed p rows b body o i) →
        All (IsFineItem p) items
    all_used_fine o f items set = all_contained (IsFineItem p) items (λ i there. used_fine o f i ((set i).0 there))
