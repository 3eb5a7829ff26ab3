-- Messages on the items of a set are those on what the set tells.
use Rattle.std.proofs.Common.{◌≡◌, ◌∙◌, ◌⊎◌, ◌↔◌, inl, inr, List, [], ◌∷◌, Option, Some, sym, subst}
use Rattle.std.specs.List.{Contains}
use Rattle.spark_base.specs.declared.numbers.Span.{Span}
use Rattle.core_form.specs.declared.contract.DependsPair.{DependsPair}
use Rattle.core_form.specs.declared.program.Body.{Body}
use Rattle.core_form.specs.declared.program.Item.{Item}
use Rattle.core_form.specs.declared.program.Program.{Program}
use Rattle.spark_messages.specs.declared.messages.Message.{Message}
use Rattle.used_modes.specs.Added.{Adds, SomeOf}
use Rattle.used_modes.proofs.Adding.{adds_for, adds_none, adds_same}
use Rattle.global_check.proofs.Gathered.{same_item}
use Rattle.depends_check.specs.DependsCheck.{IsAbsent, IsFirstPlace, IsMentioned, IsSaid, IsStranger, IsUnsaid, IsUnused, IsWrongPair, IsWrongSide}
use Rattle.depends_check.specs.DependsCheck.{TellsFault, TellsMissing, TellsUnused, item_at, mention}
use Rattle.depends_check.specs.declared.faults.Fault.{Fault}
use Rattle.depends_check.specs.declared.sides.Side.{Side}
use Rattle.depends_check.proofs.Grown.{and_map, some_map}

module _ (p : Program) (body : Body) where
  -- D03

  pub absent_added : (side : Side) (aspect : Span) (pairs : List DependsPair) (items mentioned : List Item) → ((i : Item) → Contains
      mentioned i ↔ IsMentioned p side pairs i)
      → (old new : List Message) → Adds old new (λ m. SomeOf (λ i. (Contains mentioned i → ⊥) × TellsFault p body (Fault.Absent side)
      aspect i m) items)
      → Adds old new (IsAbsent p body side (Contains items) aspect pairs)
  absent_added side aspect pairs items mentioned set old new a = adds_same old new
      (λ m. (i : Item) × (Contains items i × ((Contains mentioned i → ⊥) × TellsFault p body (Fault.Absent side) aspect i m)))
      (IsAbsent p body side (Contains items) aspect pairs)
      (adds_for old new (λ (i : Item) (m : Message). (Contains mentioned i → ⊥) × TellsFault p body (Fault.Absent side) aspect i m)
      (Contains items) items
      (λ i. (λ h. h, λ h. h)) a) (λ m. (
        λ h. (h.0, ((h.1.0, λ is. h.1.1.0 ((set h.0).1 is)), h.1.1.1)),
        λ h. (h.0, (h.1.0.0, (λ there. h.1.0.1 ((set h.0).0 there), h.1.1))),
      ))

  side_within : (side : Side) (aspect : Span) (pairs : List DependsPair) (P Q : Item → Type 0) → ((i : Item) → P i ↔ Q i) → (m : Message)
      → IsWrongSide p body side P aspect pairs m → IsWrongSide p body side Q aspect pairs m
  side_within side aspect pairs P Q same m (inl s) = inl (some_map (λ (pair : DependsPair). IsStranger p body side P pair m) (λ (pair :
      DependsPair). IsStranger p body side Q pair m)
      (λ pair h. and_map (λ (i : Item). (P i → ⊥) × TellsFault p body (Fault.Stranger side) pair.place i m)
      (λ (i : Item). (Q i → ⊥) × TellsFault p body (Fault.Stranger side) pair.place i m) (λ i g. (λ q. g.0 ((same i).1 q), g.1)) (mention
      p side pair) h) pairs s)
  side_within side aspect pairs P Q same m (inr a) = inr (a.0, (((same a.0).0 a.1.0.0, a.1.0.1), a.1.1))

  pub side_same : (side : Side) (aspect : Span) (pairs : List DependsPair) (P Q : Item → Type 0) → ((i : Item) → P i ↔ Q i) → (old new :
      List Message)
      → Adds old new (IsWrongSide p body side P aspect pairs) → Adds old new (IsWrongSide p body side Q aspect pairs)
  side_same side aspect pairs P Q same old new a = adds_same old new (IsWrongSide p body side P aspect pairs) (IsWrongSide p body side Q
      aspect pairs) a (λ m. (
        side_within side aspect pairs P Q same m,
        side_within side aspect pairs Q P (λ i. ((same i).1, (same i).0)) m,
      ))

  -- D01 and D02

  place_once : (aspect : Span) (pairs : List DependsPair) (o : Item) (a b : Span) → IsFirstPlace p aspect pairs o a → IsFirstPlace p
      aspect pairs o b → a ≡ b
  place_once aspect [] o a b h k = h ∙ sym k
  place_once aspect (pair ∷ rest) o a b (inl h) (inl k) = h.1 ∙ sym k.1
  place_once aspect (pair ∷ rest) o a b (inl h) (inr k) = absurd (k.0 h.0)
  place_once aspect (pair ∷ rest) o a b (inr h) (inl k) = absurd (h.0 k.0)
  place_once aspect (pair ∷ rest) o a b (inr h) (inr k) = place_once aspect rest o a b h.1 k.1

  pub unsaid_added : (aspect : Span) (pairs : List DependsPair) (o : Item) (used said : List Item) (place : Span) → IsFirstPlace p aspect
      pairs o place
      → ((i : Item) → Contains said i ↔ SomeOf (λ pair. IsSaid p o pair i) pairs)
      → (old new : List Message) → Adds old new (λ m. SomeOf (λ i. (Contains said i → ⊥) × TellsMissing p body place o i m) used)
      → Adds old new (IsUnsaid p body aspect pairs o (Contains used))
  unsaid_added aspect pairs o used said place first set old new a = adds_same old new
      (λ m. (i : Item) × (Contains used i × ((Contains said i → ⊥) × TellsMissing p body place o i m)))
      (IsUnsaid p body aspect pairs o (Contains used))
      (adds_for old new (λ (i : Item) (m : Message). (Contains said i → ⊥) × TellsMissing p body place o i m) (Contains used) used (λ i.
      (λ h. h, λ h. h)) a) (λ m. (
        λ h. (h.0, ((h.1.0, λ is. h.1.1.0 ((set h.0).1 is)), (place, (first, h.1.1.1)))),
        λ h. (
          h.0,
          (
            h.1.0.0,
            (
              λ there. h.1.0.1 ((set h.0).0 there),
              subst (λ at. TellsMissing p body at o h.0 m) (place_once aspect pairs o h.1.1.0 place h.1.1.1.0 first) h.1.1.1.1,
            ),
          ),
        ),
      ))

  pair_within : (aspect : Span) (pairs : List DependsPair) (o : Item) (P Q : Item → Type 0) → ((i : Item) → P i ↔ Q i) → (m : Message)
      → IsWrongPair p body aspect pairs o P m → IsWrongPair p body aspect pairs o Q m
  pair_within aspect pairs o P Q same m (inl u) = inl (u.0, (((same u.0).0 u.1.0.0, u.1.0.1), u.1.1))
  pair_within aspect pairs o P Q same m (inr s) = inr (some_map (λ (pair : DependsPair). IsUnused p body o P pair m) (λ (pair :
      DependsPair). IsUnused p body o Q pair m)
      (λ pair h. (h.0, ((h.1.0.0, λ q. h.1.0.1 ((same h.0).1 q)), h.1.1))) pairs s)

  pub pair_same : (aspect : Span) (pairs : List DependsPair) (o : Item) (P Q : Item → Type 0) → ((i : Item) → P i ↔ Q i) → (old new :
      List Message)
      → Adds old new (IsWrongPair p body aspect pairs o P) → Adds old new (IsWrongPair p body aspect pairs o Q)
  pair_same aspect pairs o P Q same old new a = adds_same old new (IsWrongPair p body aspect pairs o P) (IsWrongPair p body aspect pairs
      o Q) a (λ m. (
        pair_within aspect pairs o P Q same m,
        pair_within aspect pairs o Q P (λ i. ((same i).1, (same i).0)) m,
      ))

  -- an item with a message is an output, or pairs take it for one
  wrong_left : (aspect : Span) (pairs : List DependsPair) (o : Item) (On : Type 0) (Used : Item → Type 0) (m : Message)
      → IsWrongPair p body aspect pairs o (λ i. On × Used i) m → On ⊎ SomeOf (λ pair. item_at p pair.output ≡ Some o) pairs
  wrong_left aspect pairs o On Used m (inl u) = inl u.1.0.0.0
  wrong_left aspect pairs o On Used m (inr s) = inr (some_map (λ (pair : DependsPair). IsUnused p body o (λ i. On × Used i) pair m)
      (λ (pair : DependsPair). item_at p pair.output ≡ Some o) (λ pair h. h.1.0.0.0) pairs s)

  pub each_left : (aspect : Span) (pairs : List DependsPair) (On : Item → Type 0) (Used : Item → Item → Type 0) (items : List Item)
      → ((o : Item) → Contains items o ↔ (On o ⊎ SomeOf (λ pair. item_at p pair.output ≡ Some o) pairs))
      → (old new : List Message) → Adds old new (λ m. SomeOf (λ o. IsWrongPair p body aspect pairs o (λ i. On o × Used o i) m) items)
      → Adds old new (λ m. (o : Item) × IsWrongPair p body aspect pairs o (λ i. On o × Used o i) m)
  each_left aspect pairs On Used items set old new a = adds_same old new
      (λ m. (o : Item) × (Contains items o × IsWrongPair p body aspect pairs o (λ i. On o × Used o i) m))
      (λ m. (o : Item) × IsWrongPair p body aspect pairs o (λ i. On o × Used o i) m)
      (adds_for old new (λ (o : Item) (m : Message). IsWrongPair p body aspect pairs o (λ i. On o × Used o i) m) (Contains items) items
      (λ i. (λ h. h, λ h. h)) a) (λ m. (
        λ h. (h.0, h.1.1),
        λ h. (h.0, ((set h.0).1 (wrong_left aspect pairs h.0 (On h.0) (Used h.0) m h.1), h.1)),
      ))

-- D02 of one pair, which says that the item depends on what r has
module _ (p : Program) (body : Body) (o : Item) (pair : DependsPair) (used : List Item) (r : Option Item) (tells : (i : Item) → (r ≡ Some
    i) ↔ IsSaid p o pair i) (old : List Message) where
  pub unused_added : (i : Item) → r ≡ Some i → (Contains used i → ⊥) → (new : List Message) → Adds old new (TellsUnused p body pair o i)
      → Adds old new (IsUnused p body o (Contains used) pair)
  unused_added i is none new a = adds_same old new (TellsUnused p body pair o i) (IsUnused p body o (Contains used) pair) a (λ m. (
    λ t. (i, (((tells i).0 is, none), t)),
    λ h. subst (λ j. TellsUnused p body pair o j m) (same_item h.0 i (sym ((tells h.0).1 h.1.0.0) ∙ is)) h.1.1,
  ))

  pub unused_none : ((i : Item) → r ≡ Some i → Contains used i) → Adds old old (IsUnused p body o (Contains used) pair)
  unused_none all = adds_none old (IsUnused p body o (Contains used) pair) (λ m h. h.1.0.1 (all h.0 ((tells h.0).1 h.1.0.0)))
