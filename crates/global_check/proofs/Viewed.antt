-- The view of a leaf is an item of the program, and an item has one name.
use Rattle.std.proofs.Common.{◌≡◌, ◌∙◌, ℕ, ◌<◌, Bool, true, false, List, Option, Some, None, All, length, refl, sym, subst}
use Rattle.std.specs.Prelude.{IsSomeAnd, if◌then◌else◌, slice_get}
use Rattle.std.specs.List.{Contains}
use Rattle.std.proofs.lemmas.List.Elements.{All-get_or, Contains-get_or}
use Rattle.std.proofs.lemmas.Option.{get_or_from_slice_get, slice_get_within}
use Rattle.spark_base.specs.declared.numbers.ObjectNo.{ObjectNo}
use Rattle.spark_base.specs.declared.numbers.PackageNo.{PackageNo}
use Rattle.spark_base.specs.declared.numbers.VarNo.{VarNo}
use Rattle.core_form.specs.declared.program.Item.{Item}
use Rattle.core_form.specs.declared.program.Leaf.{Leaf}
use Rattle.core_form.specs.declared.program.Object.{Object}
use Rattle.core_form.specs.declared.program.Program.{Program}
use Rattle.core_form.specs.declared.program.Sharing.{Sharing}
use Rattle.core_form.specs.declared.program.Var.{Var}
use Rattle.core_form.specs.Fine.{IsBelow, IsFineItem, IsFineVar, IsFineSharing, IsWellFormed}
use Rattle.state_map.specs.Views.{IsBodyView, IsItemName, IsView, is_inside, is_own, item_var, object_name}
use Rattle.state_map.specs.Views.{object_var, owner, seen, seen_by_body, shown, shown_by}

pub All-slice_get : {X : Type 0} (P : X → Type 0) (xs : List X) (k : ℕ) (x : X) → All P xs → slice_get xs k ≡ Some x → P x
All-slice_get P xs k x h is = subst P (get_or_from_slice_get xs k x x is) (All-get_or P xs k x (slice_get_within xs k x is) h)

pub all_contained : {X : Type 0} (P : X → Type 0) (xs : List X) → ((x : X) → Contains xs x → P x) → All P xs
all_contained P xs h k d l = h _ (Contains-get_or xs k d l)

-- One value

some_once : {T A : Type 0} (o : Option T) (f : T → A) (a b : A) → IsSomeAnd o (λ x. a ≡ f x) → IsSomeAnd o (λ x. b ≡ f x) → a ≡ b
some_once None f a b h k = absurd h
some_once (Some x) f a b h k = h ∙ sym k

pub name_once : (p : Program) (own : Option ObjectNo) (i : Item) (a b : List ℕ) → IsItemName p own i a → IsItemName p own i b → a ≡ b
name_once p own (Item.Whole v) a b h k = some_once (slice_get p.vars v.0) (λ var. var.name) a b h k
name_once p own (Item.State s) a b h k = some_once (slice_get p.states.list s) (λ state. state.name) a b h k
name_once p own (Item.Guard o) a b h k = some_once (slice_get p.objects o.0) (λ object. object_name (is_own own o) object) a b h k

-- Items of the program

shown_fine : (p : Program) (i : Item) (o : Option ℕ) (inside : Bool) → IsFineItem p i → IsBelow (length p.states.list) o → IsFineItem p
    (shown i o inside)
shown_fine p i None inside f b = f
shown_fine p i (Some s) true f b = f
shown_fine p i (Some s) false f b = b

shown_by_fine : (p : Program) (inside : Option PackageNo) (i : Item) (o : Option Var) → IsFineItem p i → ((v : Var) → o ≡ Some v →
    IsFineVar p v)
    → IsFineItem p (shown_by inside i o)
shown_by_fine p inside i None f h = f
shown_by_fine p inside i (Some v) f h = shown_fine p i v.state (is_inside inside v.home) f (h v refl).state

owned_fine : (p : Program) (v : VarNo) (s : Sharing) → v.0 < length p.vars → IsFineSharing p s → IsFineItem p (owner v s)
owned_fine p v Sharing.Plain l h = l
owned_fine p v Sharing.Atomic l h = l
owned_fine p v (Sharing.Component o) l h = h
owned_fine p v Sharing.ClockTime l h = l

module _ (p : Program) (fine : IsWellFormed p) where
  var_fine : (n : ℕ) (v : Var) → slice_get p.vars n ≡ Some v → IsFineVar p v
  var_fine n v e = All-slice_get (IsFineVar p) p.vars n v fine.vars e

  object_var_fine : (o : Option Object) (v : Var) → object_var p o ≡ Some v → IsFineVar p v
  object_var_fine None v e = let n : Option Var = None in let z : n ≡ Some v = e in absurd cc
  object_var_fine (Some object) v e = var_fine object.var.0 v e

  item_var_fine : (i : Item) (v : Var) → item_var p i ≡ Some v → IsFineVar p v
  item_var_fine (Item.Whole n) v e = var_fine n.0 v e
  item_var_fine (Item.State s) v e = let n : Option Var = None in let z : n ≡ Some v = e in absurd cc
  item_var_fine (Item.Guard o) v e = object_var_fine (slice_get p.objects o.0) v e

  seen_fine : (inside : Option PackageNo) (i : Item) → IsFineItem p i → IsFineItem p (seen p inside i)
  seen_fine inside i f = shown_by_fine p inside i (item_var p i) f (item_var_fine i)

  if_fine : (b : Bool) (i j : Item) → IsFineItem p i → IsFineItem p j → IsFineItem p (if b then i else j)
  if_fine true i j f g = f
  if_fine false i j f g = g

  by_body_fine : (own : Option ObjectNo) (inside : Option PackageNo) (i : Item) → IsFineItem p i → IsFineItem p (seen_by_body p own
      inside i)
  by_body_fine own inside (Item.Whole v) f = seen_fine inside (Item.Whole v) f
  by_body_fine own inside (Item.State s) f = f
  by_body_fine own inside (Item.Guard o) f = if_fine (is_own own o) (Item.Guard o) (seen p inside (Item.Guard o)) f (seen_fine inside
      (Item.Guard o) f)

  var_owner_fine : (n : VarNo) (l : n.0 < length p.vars) (o : Option Var) → slice_get p.vars n.0 ≡ o → (i : Item) → IsSomeAnd o (λ v. i ≡
      owner n v.sharing) → IsFineItem p i
  var_owner_fine n l None is i h = absurd h
  var_owner_fine n l (Some v) is i h = subst (λ j. IsFineItem p j) (sym h) (owned_fine p n v.sharing l (var_fine n.0 v is).sharing)

  owner_fine : (n : ℕ) (o : Option Leaf) → slice_get p.leaves n ≡ o → (i : Item) → IsSomeAnd o (λ l. IsSomeAnd (slice_get p.vars l.var.0)
      (λ v. i ≡ owner l.var v.sharing)) → IsFineItem p i
  owner_fine n None is i h = absurd h
  owner_fine n (Some l) is i h = var_owner_fine l.var (All-slice_get (λ (x : Leaf). x.var.0 < length p.vars) p.leaves n l fine.leaves is)
      (slice_get p.vars l.var.0) refl i h

  pub body_view_fine : (own : Option ObjectNo) (inside : Option PackageNo) (leaf : ℕ) (i : Item) → IsBodyView p own inside leaf i →
      IsFineItem p i
  body_view_fine own inside leaf i h = subst (λ j. IsFineItem p j) (sym h.1.1) (by_body_fine own inside h.0 (owner_fine leaf (slice_get
      p.leaves leaf) refl h.0 h.1.0))

  pub view_fine : (inside : Option PackageNo) (leaf : ℕ) (i : Item) → IsView p inside leaf i → IsFineItem p i
  view_fine inside leaf i h = subst (λ j. IsFineItem p j) (sym h.1.1) (seen_fine inside h.0 (owner_fine leaf (slice_get p.leaves leaf)
      refl h.0 h.1.0))
