-- One unit more.
use Rattle.std.proofs.Common.{◌≡◌, ℕ, nat_eq, Bool, true, false, ◌&&◌, ◌||◌, cond, List, [], ◌∷◌, ◌++◌, refl, ap, sym, ◌∙◌}
use Rattle.std.specs.List.{list_any}
use Rattle.std.specs.BTreeSet.{BTreeSet}
use Rattle.std.specs.BTreeMap.{is_at}
use Rattle.std.specs.Ordering.{nat_cmp}
use Rattle.std.proofs.lemmas.List.Folds.{list_any-append}
use Rattle.unit_names.specs.declared.heads.Head.{Head}
use Rattle.unit_names.specs.declared.heads.Part.{Part}
use Rattle.unit_names.specs.Names.{has_part, is_part}
use Rattle.unit_names.specs.Seen.{has}

behind : (units : List Head) (h : Head) (part : Part) (i : ℕ) → has_part (units ++ h ∷ []) part i ≡ (has_part units part i || ((is_part part h.part && nat_eq h.name i) || false))
behind units h part i = list_any-append (λ (g : Head). is_part part g.part && nat_eq g.name i) units (h ∷ [])

either : (t b : Bool) → cond t true b ≡ (b || (t || false))
either true true = refl
either true false = refl
either false true = refl
either false false = refl

neither : (b : Bool) → b ≡ (b || (false || false))
neither true = refl
neither false = refl

-- a set to which the name of a unit of its part was added
pub noted : (old new : BTreeSet ℕ) (units : List Head) (h : Head) (part : Part) → is_part part h.part ≡ true
    → ((i : ℕ) → has new i ≡ cond (nat_eq h.name i) true (has old i)) → ((i : ℕ) → has old i ≡ has_part units part i)
    → (i : ℕ) → has new i ≡ has_part (units ++ h ∷ []) part i
noted old new units h part p adds is i =
    adds i ∙ ap (cond (nat_eq h.name i) true) (is i) ∙ either (nat_eq h.name i) (has_part units part i)
    ∙ ap (λ b. has_part units part i || ((b && nat_eq h.name i) || false)) (sym p) ∙ sym (behind units h part i)

-- a set of another part
pub kept : (set : BTreeSet ℕ) (units : List Head) (h : Head) (part : Part) → is_part part h.part ≡ false
    → ((i : ℕ) → has set i ≡ has_part units part i) → (i : ℕ) → has set i ≡ has_part (units ++ h ∷ []) part i
kept set units h part p is i =
    is i ∙ neither (has_part units part i)
    ∙ ap (λ b. has_part units part i || ((b && nat_eq h.name i) || false)) (sym p) ∙ sym (behind units h part i)

pub empty_has : (s : BTreeSet ℕ) (i : ℕ) → s.keys ≡ [] → has s i ≡ false
empty_has s i e = ap (λ ks. list_any (is_at (nat_cmp i)) ks) e
