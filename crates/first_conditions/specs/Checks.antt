-- The conditions in the order in which they are looked at.
use Rattle.std.specs.Prelude.{◌≡◌, ℕ, Bool, true, not, ◌&&◌, List, [], ◌∷◌, ◌++◌, All, IsSome, IfSome, codes}
use Rattle.std.specs.List.{list_all}
use Rattle.first_path.specs.declared.source.PackageBody.{PackageBody}
use Rattle.first_path.specs.declared.source.Spec.{Spec}
use Rattle.first_path.specs.declared.source.Word.{Word}
use Rattle.first_conditions.specs.Conditions.{declared_keys, key, mode_named, entries_of, is_known, IsFree, IsShort}

-- a spec by itself: its type marks, aspect, modes and names
pub record IsFitSpec (s : Spec) : Type 0 where
  pub marks : All (λ v. key v.mark ≡ codes "integer") s.variables
  pub aspect : key s.procedure.aspect ≡ codes "global"
  pub modes : All (λ e. IsSome (mode_named (key e.mode))) (entries_of s.procedure.global)
  pub free : All (IsFree (key s.«package»)) (declared_keys s)
  pub end : IfSome s.end (λ w. key w ≡ key s.«package»)

-- a body beside its spec: its names, and how long its expressions are
pub record IsFitBody (s : Spec) (b : PackageBody) : Type 0 where
  pub «package» : key b.«package» ≡ key s.«package»
  pub procedure : key b.procedure.name ≡ key s.procedure.name
  pub procedure_end : IfSome b.procedure.end (λ w. key w ≡ key s.procedure.name)
  pub package_end : IfSome b.end (λ w. key w ≡ key s.«package»)
  pub short : All IsShort b.procedure.lines

-- each key is new to those seen, and to those before it
abbrev pub are_new : List (List ℕ) → List (List ℕ) → Bool
are_new seen [] = true
are_new seen (k ∷ ks) = not (is_known seen k) && are_new (seen ++ k ∷ []) ks

-- each word is known
abbrev pub are_known : List (List ℕ) → List Word → Bool
are_known known ws = list_all (λ w. is_known known (key w)) ws

-- each word is known, and new to those seen and to those before it
abbrev pub are_items : List (List ℕ) → List (List ℕ) → List Word → Bool
are_items known seen [] = true
are_items known seen (w ∷ ws) = (is_known known (key w) && not (is_known seen (key w))) && are_items known (seen ++ key w ∷ []) ws
