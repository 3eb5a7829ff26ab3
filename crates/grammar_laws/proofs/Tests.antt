-- Tests, and options that are there.
use Rattle.std.proofs.Common.{◌≡◌, Bool, true, false, not, ◌&&◌, if◌then◌else◌, Option, Some, None, refl}

pub if_true : {A : Type 0} (b : Bool) (x y : A) → b ≡ true → (if b then x else y) ≡ x
if_true true x y e = refl
if_true false x y e = cc

pub if_false : {A : Type 0} (b : Bool) (x y : A) → b ≡ false → (if b then x else y) ≡ y
if_false true x y e = cc
if_false false x y e = refl

pub if_same : {A : Type 0} (b : Bool) (x : A) → (if b then x else x) ≡ x
if_same true x = refl
if_same false x = refl

pub none_some : {A B : Type 0} (x : A) → None ≡ Some x → B
none_some x e = cc

pub some_same : {A : Type 0} (x y : A) → Some x ≡ Some y → x ≡ y
some_same x y e = cc

-- a test that passed
pub went : {A : Type 0} (b : Bool) (o : Option A) (x : A) → (if b then o else None) ≡ Some x → (b ≡ true) × (o ≡ Some x)
went true o x e = (refl, e)
went false o x e = cc

pub and_parts : (a b : Bool) → (a && b) ≡ true → (a ≡ true) × (b ≡ true)
and_parts true b e = (refl, e)
and_parts false b e = cc

pub not_true : (b : Bool) → not b ≡ true → b ≡ false
not_true true e = cc
not_true false e = refl

pub true_false : {A : Type 0} (b : Bool) → b ≡ true → b ≡ false → A
true_false true e f = cc
true_false false e f = cc

pub false_true : {A : Type 0} → false ≡ true → A
false_true e = cc
