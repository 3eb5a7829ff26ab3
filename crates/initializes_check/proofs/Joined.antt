-- What several steps add.
use Rattle.std.proofs.Common.{◌≡◌, ℕ, ◌+◌, ◌<◌, ◌⊎◌, ◌↔◌, inl, inr, List, [], ◌∷◌, Option, Some, None, length, refl, sym, subst}
use Rattle.std.specs.Prelude.{IsSomeAnd, slice_get}
use Rattle.std.proofs.lemmas.Bool.{cases_order}
use Rattle.std.proofs.lemmas.Option.{slice_get_within}
use Rattle.core_form.specs.declared.program.Body.{Body}
use Rattle.core_form.specs.declared.program.InitialItem.{InitialItem}
use Rattle.core_form.specs.declared.program.Item.{Item}
use Rattle.core_form.specs.declared.program.Program.{Program}
use Rattle.spark_base.specs.declared.numbers.Span.{Span}
use Rattle.spark_messages.specs.declared.messages.Message.{Message}
use Rattle.used_modes.specs.Added.{Adds, SomeOf}
use Rattle.used_modes.specs.UsedModes.{SomeLeaf}
use Rattle.used_modes.proofs.Adding.{adds_both, adds_none, adds_same}
use Rattle.initializes_check.specs.InitializesCheck.{IsItemOf, IsLastOf, IsLooseAfter, IsNotInitialized, IsNotListed, IsOfInitializes, IsUnsetThen, IsVisibleVar}

-- what is added for the one that is there, if any
pub of_some : {X Y : Type 0} (P : X → Y → Type 0) (o : Option X) (x : X) → o ≡ Some x → (old new : List Y) → Adds old new (P x) → Adds
    old new (λ y. IsSomeAnd o (λ z. P z y))
of_some P o x is old new a = subst (λ r. Adds old new (λ y. IsSomeAnd r (λ z. P z y))) (sym is) a

pub of_none : {X Y : Type 0} (P : X → Y → Type 0) (o : Option X) → o ≡ None → (old : List Y) → Adds old old (λ y. IsSomeAnd o (λ z. P z y))
of_none P o is old = subst (λ r. Adds old old (λ y. IsSomeAnd r (λ z. P z y))) (sym is) (adds_none old (λ _. ⊥) (λ y h. h))

-- an element that is there is below the count
pub some_within : {X : Type 0} (P : X → Type 0) (xs : List X) (n : ℕ) (o : Option X) → slice_get xs n ≡ o → IsSomeAnd o P → n < length xs
some_within P xs n None is h = absurd h
some_within P xs n (Some x) is h = slice_get_within xs n x is

-- The leaves that may be unassigned are told by other words
module _ (p : Program) (u w : ℕ → Type 0) (same : (v : ℕ) → u v ↔ w v) where
  leaf_there : (i : Item) → SomeLeaf p i u → SomeLeaf p i w
  leaf_there i h = (h.0, (h.1.0, (same h.0).0 h.1.1))

  leaf_back : (i : Item) → SomeLeaf p i w → SomeLeaf p i u
  leaf_back i h = (h.0, (h.1.0, (same h.0).1 h.1.1))

  initialized_there : (i : InitialItem) (m : Message) → IsNotInitialized p u i m → IsNotInitialized p w i m
  initialized_there i m t = record {
    item = t.item;
    is_item = t.is_item;
    some_unset = leaf_there t.item t.some_unset;
    name = t.name;
    is_name = t.is_name;
    message = t.message;
  }

  listed_there : (k : ℕ) (written : Option Span) (items : List InitialItem) (i : Item) (m : Message) → IsNotListed p u k written items i m
      → IsNotListed p w k written items i m
  listed_there k written items i m t = record {
    place = t.place;
    is_place = t.is_place;
    candidate = t.candidate;
    unlisted = t.unlisted;
    assigned = λ h. t.assigned (leaf_back i h);
    name = t.name;
    is_name = t.is_name;
    message = t.message;
  }

some_there : {X : Type 0} (P Q : X → Type 0) → ((x : X) → P x → Q x) → (xs : List X) → SomeOf P xs → SomeOf Q xs
some_there P Q f [] h = h
some_there P Q f (x ∷ xs) (inl h) = inl (f x h)
some_there P Q f (x ∷ xs) (inr h) = inr (some_there P Q f xs h)

initializes_there : (p : Program) (u w : ℕ → Type 0) → ((v : ℕ) → u v ↔ w v) → (k : ℕ) (written : Option Span) (items : List InitialItem)
    (m : Message) → IsOfInitializes p u k written items m → IsOfInitializes p w k written items m
initializes_there p u w same k written items m (inl h) =
    inl (some_there (λ i. IsNotInitialized p u i m) (λ i. IsNotInitialized p w i m) (λ i. initialized_there p u w same i m) items h)
initializes_there p u w same k written items m (inr h) = inr (h.0, listed_there p u w same k written items h.0 m h.1)

pub initializes_same : (p : Program) (u w : ℕ → Type 0) → ((v : ℕ) → u v ↔ w v) → (k : ℕ) (written : Option Span) (items : List InitialItem)
    (old new : List Message) → Adds old new (IsOfInitializes p u k written items) → Adds old new (IsOfInitializes p w k written items)
initializes_same p u w same k written items old new a =
    adds_same old new (IsOfInitializes p u k written items) (IsOfInitializes p w k written items) a (λ m. (
      initializes_there p u w same k written items m,
      initializes_there p w u (λ v. ((same v).1, (same v).0)) k written items m,
    ))

-- states and variables are all that is to be listed
module _ (p : Program) (unset : ℕ → Type 0) (k : ℕ) (written : Option Span) (items : List InitialItem) where
  abbrev Lacks : Item → Message → Type 0
  Lacks i m = IsNotListed p unset k written items i m

  by_kind : (m : Message) (i : Item) → Lacks i m → ((s : ℕ) × Lacks (Item.State s) m) ⊎ ((v : ℕ) × Lacks (Item.Whole (record { 0 = v })) m)
  by_kind m (Item.Whole v) t = inr (v.0, t)
  by_kind m (Item.State s) t = inl (s, t)
  by_kind m (Item.Guard o) t = absurd t.candidate

  pub each_item : (old mid new : List Message) → Adds old mid (λ m. (s : ℕ) × Lacks (Item.State s) m)
      → Adds mid new (λ m. (v : ℕ) × Lacks (Item.Whole (record { 0 = v })) m) → Adds old new (λ m. (i : Item) × Lacks i m)
  each_item old mid new a b = adds_same old new _ (λ m. (i : Item) × Lacks i m) (adds_both old mid new (λ m. (s : ℕ) × Lacks (Item.State s)
      m) (λ m. (v : ℕ) × Lacks (Item.Whole (record { 0 = v })) m) a b) (λ m. (
        λ h. elim h [ inl s ↦ (Item.State s.0, s.1) | inr v ↦ (Item.Whole (record { 0 = v.0 }), v.1) ],
        λ h. by_kind m h.0 h.1,
      ))

  pub state_within : (s : ℕ) (m : Message) → Lacks (Item.State s) m → s < length p.states.list
  state_within s m t = some_within (λ state. state.«package».0 ≡ k) p.states.list s (slice_get p.states.list s) refl t.candidate.0

  pub var_within : (v : ℕ) (m : Message) → Lacks (Item.Whole (record { 0 = v })) m → v < length p.vars
  var_within v m t = some_within (λ var. IsVisibleVar p k v var.home var.part var.sharing) p.vars v (slice_get p.vars v) refl t.candidate

-- What is read, of the leaves that there are
pub starts_same : (p : Program) (u w unset : ℕ → Type 0) (body : Body) (name : List ℕ) → ((v : ℕ) → u v ↔ ((v < length p.leaves) × w v))
    → (old new : List Message) → Adds old new (λ m. (leaf : ℕ) × IsUnsetThen p u unset body name leaf m)
    → Adds old new (λ m. (leaf : ℕ) × IsUnsetThen p w unset body name leaf m)
starts_same p u w unset body name same old new a = adds_same old new _ (λ m. (leaf : ℕ) × IsUnsetThen p w unset body name leaf m) a (λ m. (
  λ h. (
    h.0,
    record {
      read = ((same h.0).0 h.1.read).1;
      may_lack = h.1.may_lack;
      is_leaf = h.1.is_leaf;
      has_leaf = h.1.has_leaf;
      message = h.1.message;
    },
  ),
  λ h. (
    h.0,
    record {
      read = (same h.0).1 (slice_get_within p.leaves h.0 h.1.is_leaf h.1.has_leaf, h.1.read);
      may_lack = h.1.may_lack;
      is_leaf = h.1.is_leaf;
      has_leaf = h.1.has_leaf;
      message = h.1.message;
    },
  ),
))

-- One item is the last of a package
last_once : (p : Program) (k a b : ℕ) → IsLastOf p k a → IsLastOf p k b → a ≡ b
last_once p k a b x y = elim (cases_order a b) [
  | inl e ↦ e
  | inr o ↦ (elim o [ inl l ↦ absurd (x.last b l y.item) | inr g ↦ absurd (y.last a g x.item) ])
]

pub loose_at : (p : Program) (loose : ℕ → ℕ → Type 0) (k n : ℕ) → IsLastOf p k n → (v : ℕ) → loose (n + 1) v ↔ IsLooseAfter p loose k v
loose_at p loose k n is v = (λ h. (n, (is, h)), λ h. subst (λ i. loose (i + 1) v) (last_once p k h.0 n h.1.0 is) h.1.1)

pub loose_never : (p : Program) (loose : ℕ → ℕ → Type 0) (k : ℕ) → ((n : ℕ) → IsItemOf p k n → ⊥) → (v : ℕ) → IsLooseAfter p loose k v → ⊥
loose_never p loose k none v h = none h.0 h.1.0.item
