-- What one message tells.
use Rattle.std.proofs.Common.{◌≡◌, ◌∙◌, ℕ, List, Option, Some, None, refl, sym, ap, subst}
use Rattle.std.specs.Prelude.{IsSomeAnd, slice_get}
use Rattle.core_form.specs.declared.program.Body.{Body}
use Rattle.core_form.specs.declared.program.InitialItem.{InitialItem}
use Rattle.core_form.specs.declared.program.Item.{Item}
use Rattle.core_form.specs.declared.program.Leaf.{Leaf}
use Rattle.core_form.specs.declared.program.Package.{Package}
use Rattle.core_form.specs.declared.program.Program.{Program}
use Rattle.core_form.specs.Fine.{home_of}
use Rattle.spark_base.specs.declared.numbers.ObjectNo.{ObjectNo}
use Rattle.spark_base.specs.declared.numbers.PackageNo.{PackageNo}
use Rattle.spark_base.specs.declared.numbers.Span.{Span}
use Rattle.spark_messages.specs.declared.messages.Code.TheVariants as code
use Rattle.spark_messages.specs.declared.messages.Message.{Message}
use Rattle.spark_messages.specs.MessageTexts.{foreign_write_text, unassigned_at_start_text, unassigned_initial_text, unlisted_initial_text}
use Rattle.state_map.specs.Views.{IsItemName, is_own, object_name}
use Rattle.used_modes.specs.Added.{Adds, error_at, warning_at}
use Rattle.used_modes.specs.UsedModes.{BodyFacts, IsLibrary, SomeLeaf}
use Rattle.used_modes.proofs.Adding.{adds_none, adds_same}
use Rattle.initializes_check.specs.InitializesCheck.{IsCandidate, IsForeignWrite, IsHomeIn, IsListed, IsNotInitialized, IsNotListed, IsUnsetThen}

-- One value

same_some : {A : Type 0} (a b : A) → Some a ≡ Some b → a ≡ b
same_some a b e = cc

some_once : {T A : Type 0} (o : Option T) (f : T → A) (a b : A) → IsSomeAnd o (λ x. a ≡ f x) → IsSomeAnd o (λ x. b ≡ f x) → a ≡ b
some_once None f a b h k = absurd h
some_once (Some x) f a b h k = h ∙ sym k

name_once : (p : Program) (own : Option ObjectNo) (i : Item) (a b : List ℕ) → IsItemName p own i a → IsItemName p own i b → a ≡ b
name_once p own (Item.Whole v) a b h k = some_once (slice_get p.vars v.0) (λ var. var.name) a b h k
name_once p own (Item.State s) a b h k = some_once (slice_get p.states.list s) (λ state. state.name) a b h k
name_once p own (Item.Guard o) a b h k = some_once (slice_get p.objects o.0) (λ object. object_name (is_own own o) object) a b h k

-- I01
module _ (p : Program) (unset : ℕ → Type 0) (listed : InitialItem) (i : Item) (is : slice_get p.items listed.item.0 ≡ Some i) (old new : List
    Message) where
  pub unassigned_told : SomeLeaf p i unset → (name : List ℕ) → IsItemName p None i name
      → (told : Message) → told ≡ error_at listed.place code.I01 (unassigned_initial_text name)
      → Adds old new (λ m. m ≡ told) → Adds old new (IsNotInitialized p unset listed)
  unassigned_told some name has told same a = adds_same old new (λ m. m ≡ told) (IsNotInitialized p unset listed) a (λ m. (
    λ e. record { item = i; is_item = is; some_unset = some; name = name; is_name = has; message = e ∙ same },
    λ t.
        let e : t.item ≡ i = same_some t.item i (sym t.is_item ∙ is) in
        let n : t.name ≡ name = name_once p None i t.name name (subst (λ k. IsItemName p None k t.name) e t.is_name) has in
        t.message ∙ ap (λ k. error_at listed.place code.I01 (unassigned_initial_text k)) n ∙ sym same,
  ))

  pub assigned_silent : (SomeLeaf p i unset → ⊥) → Adds old old (IsNotInitialized p unset listed)
  assigned_silent none = adds_none old (IsNotInitialized p unset listed) (λ m t. none (subst (λ k. SomeLeaf p k unset) (same_some t.item i
      (sym t.is_item ∙ is)) t.some_unset))

-- I02
pub unlisted_told : (p : Program) (unset : ℕ → Type 0) (k : ℕ) (place : Span) (items : List InitialItem) (i : Item) → IsCandidate p k i
    → (IsListed p items i → ⊥) → (SomeLeaf p i unset → ⊥) → (name : List ℕ) → IsItemName p None i name
    → (told : Message) → told ≡ warning_at place code.I02 (unlisted_initial_text name)
    → (old new : List Message) → Adds old new (λ m. m ≡ told) → Adds old new (IsNotListed p unset k (Some place) items i)
unlisted_told p unset k place items i candidate unlisted assigned name has told same old new a =
    adds_same old new (λ m. m ≡ told) (IsNotListed p unset k (Some place) items i) a (λ m. (
      λ e. record {
        place = place;
        is_place = refl;
        candidate = candidate;
        unlisted = unlisted;
        assigned = assigned;
        name = name;
        is_name = has;
        message = e ∙ same;
      },
      λ t. t.message
          ∙ ap (λ s. warning_at s code.I02 (unlisted_initial_text t.name)) (sym (same_some place t.place t.is_place))
          ∙ ap (λ n. warning_at place code.I02 (unlisted_initial_text n)) (name_once p None i t.name name t.is_name has)
          ∙ sym same,
    ))

-- I03
abbrev IsPackageOf : Program → Package → Option PackageNo → Type 0
IsPackageOf p x o = IsSomeAnd o (λ k. slice_get p.packages k.0 ≡ Some x)

package_once : (p : Program) (o : Option PackageNo) (a b : Package) → IsPackageOf p a o → IsPackageOf p b o → a ≡ b
package_once p None a b h k = absurd h
package_once p (Some x) a b h k = same_some a b (sym h ∙ k)

pub foreign_told : (p : Program) (row : BodyFacts) (body : Body) (leaf : ℕ) → row.writes leaf → IsLibrary p leaf
    → (IsSomeAnd body.«package» (λ k. IsSomeAnd (home_of p leaf) (IsHomeIn k.0)) → ⊥)
    → (l : Leaf) → slice_get p.leaves leaf ≡ Some l → (x : Package) → IsPackageOf p x body.«package»
    → (told : Message) → told ≡ error_at body.place code.I03 (foreign_write_text x.name l.name)
    → (old new : List Message) → Adds old new (λ m. m ≡ told) → Adds old new (IsForeignWrite p row body leaf)
foreign_told p row body leaf written library other l has x is told same old new a =
    adds_same old new (λ m. m ≡ told) (IsForeignWrite p row body leaf) a (λ m. (
      λ e. record {
        written = written;
        library = library;
        other = other;
        is_leaf = l;
        has_leaf = has;
        «package» = x;
        is_package = is;
        message = e ∙ same;
      },
      λ t. t.message
          ∙ ap (λ y. error_at body.place code.I03 (foreign_write_text y.name t.is_leaf.name)) (package_once p body.«package» t.«package» x
          t.is_package is)
          ∙ ap (λ k. error_at body.place code.I03 (foreign_write_text x.name k.name)) (same_some t.is_leaf l (sym t.has_leaf ∙ has))
          ∙ sym same,
    ))

-- I04
pub unset_told : (p : Program) (reads unset : ℕ → Type 0) (body : Body) (name : List ℕ) (leaf : ℕ) → reads leaf → unset leaf
    → (l : Leaf) → slice_get p.leaves leaf ≡ Some l
    → (told : Message) → told ≡ error_at body.place code.I04 (unassigned_at_start_text l.name name)
    → (old new : List Message) → Adds old new (λ m. m ≡ told) → Adds old new (IsUnsetThen p reads unset body name leaf)
unset_told p reads unset body name leaf read lack l has told same old new a =
    adds_same old new (λ m. m ≡ told) (IsUnsetThen p reads unset body name leaf) a (λ m. (
      λ e. record { read = read; may_lack = lack; is_leaf = l; has_leaf = has; message = e ∙ same },
      λ t. t.message ∙ ap (λ k. error_at body.place code.I04 (unassigned_at_start_text k.name name)) (same_some t.is_leaf l (sym
          t.has_leaf ∙ has)) ∙ sym same,
    ))
