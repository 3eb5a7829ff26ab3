-- By the conditions, the names of lines and of entries are known.
use Rattle.std.proofs.Common.{◌≡◌, ℕ, List, [], ◌∷◌, ◌++◌, All, sym, subst}
use Rattle.std.specs.List.{flat_map}
use Rattle.std.proofs.lemmas.List.Elements.{All-nil, All-cons, All-head, All-tail}
use Rattle.first_conditions.specs.Conditions.{MeetsConditions, variable_keys, entries_of, words_of, primary_words, sum_words, line_words}
use Rattle.first_path.specs.declared.source.Entry.{Entry}
use Rattle.first_path.specs.declared.source.Line.{Line}
use Rattle.first_path.specs.declared.source.Line.TheVariants as line
use Rattle.first_path.specs.declared.source.Primary.{Primary}
use Rattle.first_path.specs.declared.source.Primary.TheVariants as primary
use Rattle.first_path.specs.declared.source.Source.{Source}
use Rattle.first_path.specs.declared.source.Sum.{Sum}
use Rattle.first_lower.specs.Known.{Each, KnownWord, KnownPrimary, KnownTerm, KnownSum, KnownLine, KnownEntry}

module _ {X : Type 0} (P : X → Type 0) where
  All-front : (xs ys : List X) → All P (xs ++ ys) → All P xs
  All-front [] ys h = All-nil P
  All-front (x ∷ xs) ys h = All-cons P x xs (All-head P x (xs ++ ys) h) (All-front xs ys (All-tail P x (xs ++ ys) h))

  All-back : (xs ys : List X) → All P (xs ++ ys) → All P ys
  All-back [] ys h = h
  All-back (x ∷ xs) ys h = All-back xs ys (All-tail P x (xs ++ ys) h)

  each_of : (xs : List X) → All P xs → Each P xs
  each_of [] h = tt
  each_of (x ∷ xs) h = (All-head P x xs h, each_of xs (All-tail P x xs h))

  -- each part whose words are known
  each_part : {Y : Type 0} (f : Y → List X) (Q : Y → Type 0) → ((y : Y) → All P (f y) → Q y) → (ys : List Y) → All P (flat_map f ys) → Each Q ys
  each_part f Q known [] h = tt
  each_part f Q known (y ∷ ys) h = (known y (All-front (f y) (flat_map f ys) h), each_part f Q known ys (All-back (f y) (flat_map f ys) h))

module _ (keys : List (List ℕ)) where
  known_primary : (x : Primary) → All (KnownWord keys) (primary_words x) → KnownPrimary keys x
  known_primary (primary.Name w) h = All-head (KnownWord keys) w [] h
  known_primary (primary.Number n) h = tt

  known_sum : (s : Sum) → All (KnownWord keys) (sum_words s) → KnownSum keys s
  known_sum s h = (
    known_primary s.first (All-front (KnownWord keys) (primary_words s.first) (flat_map (λ t. primary_words t.operand) s.more) h),
    each_part (KnownWord keys) (λ t. primary_words t.operand) (KnownTerm keys) (λ t k. known_primary t.operand k) s.more
        (All-back (KnownWord keys) (primary_words s.first) (flat_map (λ t. primary_words t.operand) s.more) h),
  )

  known_line : (l : Line) → All (KnownWord keys) (line_words l) → KnownLine keys l
  known_line line.Null h = tt
  known_line (line.Assign target value) h =
      (All-head (KnownWord keys) target (sum_words value) h, known_sum value (All-tail (KnownWord keys) target (sum_words value) h))
  known_line (line.If test) h = (
    known_sum test.left (All-front (KnownWord keys) (sum_words test.left) (sum_words test.right) h),
    known_sum test.right (All-back (KnownWord keys) (sum_words test.left) (sum_words test.right) h),
  )
  known_line line.Else h = tt
  known_line line.EndIf h = tt

  known_lines : (ls : List Line) → All (KnownWord keys) (flat_map line_words ls) → Each (KnownLine keys) ls
  known_lines = each_part (KnownWord keys) line_words (KnownLine keys) known_line

  known_entries : (es : List Entry) → All (KnownWord keys) (flat_map (λ e. words_of e.names) es) → Each (KnownEntry keys) es
  known_entries = each_part (KnownWord keys) (λ e. words_of e.names) (KnownEntry keys) (λ e k. each_of (KnownWord keys) (words_of e.names) k)

module _ (s : Source) (keys : List (List ℕ)) (meets : MeetsConditions s) (table : keys ≡ variable_keys s.spec.variables) where
  pub body_known : Each (KnownLine keys) s.body.procedure.lines
  body_known = subst (λ (k : List (List ℕ)). Each (KnownLine k) s.body.procedure.lines) (sym table)
      (known_lines (variable_keys s.spec.variables) s.body.procedure.lines meets.names)

  pub global_known : Each (KnownEntry keys) (entries_of s.spec.procedure.global)
  global_known = subst (λ (k : List (List ℕ)). Each (KnownEntry k) (entries_of s.spec.procedure.global)) (sym table)
      (known_entries (variable_keys s.spec.variables) (entries_of s.spec.procedure.global) meets.items)
