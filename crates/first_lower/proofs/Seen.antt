-- The code of statements and of declarations names leaves of variables alone, each as a whole.
use Rattle.std.proofs.Common.{◌≡◌, ℕ, ◌+◌, ◌<◌, ◌≤◌, true, inl, inr, List, [], ◌∷◌, ◌++◌, length, refl, sym, ap, subst, arith}
use Rattle.std.specs.Prelude.{unwrap_or}
use Rattle.std.specs.List.{position_or_len}
use Rattle.std.specs.Str.{bytes_eq}
use Rattle.core_form.specs.Calls.{IsWithoutCalls}
use Rattle.core_form.specs.Code.{Expr, Code, Then, Clear, Nothing}
use Rattle.core_form.specs.Exits.{ExitsIn}
use Rattle.core_form.specs.Fine.{NamesIn, CodeIn}
use Rattle.core_form.specs.Proper.{PlacesRight, IsDeclared, IsProperCode, IsProperList, IsProperMember, IsWholeRight, MayWrite, cells_of}
use Rattle.core_form.specs.declared.program.Body.{Body}
use Rattle.core_form.specs.declared.program.Program.{Program}
use Rattle.first_conditions.specs.Conditions.{key}
use Rattle.first_path.specs.declared.source.Line.{Line}
use Rattle.first_path.specs.declared.source.Line.TheVariants as line
use Rattle.first_path.specs.declared.source.Primary.{Primary}
use Rattle.first_path.specs.declared.source.Primary.TheVariants as primary
use Rattle.first_path.specs.declared.source.Relation.{Relation}
use Rattle.first_path.specs.declared.source.Relation.TheVariants as relation
use Rattle.first_path.specs.declared.source.Sum.{Sum}
use Rattle.first_path.specs.declared.source.Term.{Term}
use Rattle.first_path.specs.declared.source.Test.{Test}
use Rattle.first_path.specs.declared.source.Variable.{Variable}
use Rattle.first_path.specs.declared.source.Word.{Word}
use Rattle.first_path.specs.Nested.{Statements, Last, More, Statement, Null, Assign, If, IfElse, statements_then, statement_then}
use Rattle.first_lower.specs.Known.{Each, KnownWord, KnownPrimary, KnownTerm, KnownSum, KnownTest, KnownLine}
use Rattle.first_lower.specs.Lowered.{leaf_of, chain, low_primary, low_term, low_terms, low_sum, low_relation, low_test, low_assignment, low_codes, low_statement, low_statements, low_variables}
use Rattle.first_lower.proofs.Found.{found, within}

pub leaf_below : (keys : List (List ℕ)) (w : Word) → KnownWord keys w → leaf_of keys w < length keys
leaf_below keys w known =
    let l = within (bytes_eq (key w)) keys known in
    let e : leaf_of keys w ≡ position_or_len (bytes_eq (key w)) keys = ap (λ o. unwrap_or o 0) (found (bytes_eq (key w)) keys known) in
    omega arith

-- the names of a list of statements are known, and of a statement
abbrev mutual
  pub KnownAll : List (List ℕ) → Statements → Type 0
  KnownAll keys (Last s) = KnownOne keys s
  KnownAll keys (More s ss) = KnownOne keys s × KnownAll keys ss

  pub KnownOne : List (List ℕ) → Statement → Type 0
  KnownOne keys Null = Unit {0}
  KnownOne keys (Assign target value) = KnownWord keys target × KnownSum keys value
  KnownOne keys (If test main) = KnownTest keys test × KnownAll keys main
  KnownOne keys (IfElse test main other) = KnownTest keys test × KnownAll keys main × KnownAll keys other

mutual
  all_known : (keys : List (List ℕ)) (ss : Statements) (rest : List Line) → Each (KnownLine keys) (statements_then ss rest) → KnownAll keys ss × Each (KnownLine keys) rest
  all_known keys (Last s) rest h = one_known keys s rest h
  all_known keys (More s ss) rest h =
      let f = one_known keys s (statements_then ss rest) h in
      let g = all_known keys ss rest f.1 in
      ((f.0, g.0), g.1)

  one_known : (keys : List (List ℕ)) (s : Statement) (rest : List Line) → Each (KnownLine keys) (statement_then s rest) → KnownOne keys s × Each (KnownLine keys) rest
  one_known keys Null rest h = (tt, h.1)
  one_known keys (Assign target value) rest h = (h.0, h.1)
  one_known keys (If test main) rest h =
      let f = all_known keys main (line.EndIf ∷ rest) h.1 in
      ((h.0, f.0), f.1.1)
  one_known keys (IfElse test main other) rest h =
      let f = all_known keys main (line.Else ∷ statements_then other (line.EndIf ∷ rest)) h.1 in
      let g = all_known keys other (line.EndIf ∷ rest) f.1.1 in
      ((h.0, f.0, g.0), g.1.1)

-- a list of statements is known where its lines are
pub statements_known : (keys : List (List ℕ)) (ss : Statements) (ls : List Line) → ls ≡ statements_then ss [] → Each (KnownLine keys) ls → KnownAll keys ss
statements_known keys ss ls written h = (all_known keys ss [] (subst (Each (KnownLine keys)) written h)).0

each_append : {A : Type 0} (P : A → Type 0) (xs ys : List A) → Each P xs → Each P ys → Each P (xs ++ ys)
each_append P [] ys h k = k
each_append P (x ∷ xs) ys h k = (h.0, each_append P xs ys h.1 k)

module _ (keys : List (List ℕ)) (P : ℕ → Type 0) (holds : (leaf : ℕ) → leaf < length keys → P leaf) where
  names_primary : (x : Primary) → KnownPrimary keys x → NamesIn P (low_primary keys x)
  names_primary (primary.Name w) known = (holds (leaf_of keys w) (leaf_below keys w known), tt)
  names_primary (primary.Number n) known = tt

  names_terms : (e : Expr) (ts : List Term) → NamesIn P e → Each (KnownTerm keys) ts → NamesIn P (low_terms keys e ts)
  names_terms e [] h known = h
  names_terms e (t ∷ ts) h known = names_terms (low_term keys e t) ts (h, (names_primary t.operand known.0, tt)) known.1

  names_sum : (s : Sum) → KnownSum keys s → NamesIn P (low_sum keys s)
  names_sum s known = names_terms (low_primary keys s.first) s.more (names_primary s.first known.0) known.1

  names_relation : (r : Relation) (e f : Expr) → NamesIn P e → NamesIn P f → NamesIn P (low_relation r e f)
  names_relation relation.Equal e f h k = (h, (k, tt))
  names_relation relation.NotEqual e f h k = ((h, (k, tt)), tt)
  names_relation relation.Less e f h k = (h, (k, tt))
  names_relation relation.AtMost e f h k = (h, (k, tt))
  names_relation relation.Greater e f h k = (k, (h, tt))
  names_relation relation.AtLeast e f h k = (k, (h, tt))

  names_test : (t : Test) → KnownTest keys t → NamesIn P (low_test keys t)
  names_test t known = names_relation t.relation (low_sum keys t.left) (low_sum keys t.right) (names_sum t.left known.0) (names_sum t.right known.1)

  chain_in : (cs : List Code) → Each (CodeIn P) cs → CodeIn P (chain cs)
  chain_in [] h = tt
  chain_in (c ∷ cs) h = (h.0, chain_in cs h.1)

  mutual
    codes_in : (ss : Statements) → KnownAll keys ss → Each (CodeIn P) (low_codes keys ss)
    codes_in (Last s) known = statement_in s known
    codes_in (More s ss) known =
        each_append (CodeIn P) (low_statement keys s) (low_codes keys ss) (statement_in s known.0) (codes_in ss known.1)

    statement_in : (s : Statement) → KnownOne keys s → Each (CodeIn P) (low_statement keys s)
    statement_in Null known = tt
    statement_in (Assign target value) known =
        (((holds (leaf_of keys target) (leaf_below keys target known.0), tt), names_sum value known.1), tt)
    statement_in (If test main) known =
        ((names_test test known.0, chain_in (low_codes keys main) (codes_in main known.1), tt), tt)
    statement_in (IfElse test main other) known =
        ((names_test test known.0, chain_in (low_codes keys main) (codes_in main known.1), chain_in (low_codes keys other) (codes_in other known.2)), tt)

  pub statements_in : (ss : Statements) → KnownAll keys ss → CodeIn P (low_statements keys ss)
  statements_in ss known = chain_in (low_codes keys ss) (codes_in ss known)

  pub variables_in : (n : ℕ) (vs : List Variable) → n + length vs ≤ length keys → CodeIn P (low_variables n vs)
  variables_in n [] l = tt
  variables_in n (v ∷ vs) l =
      let p = holds n (omega arith) in (p, (((p, tt), tt), variables_in (n + 1) vs (omega arith)))

module _ (keys : List (List ℕ)) (cells : ℕ → ℕ) (scalar : (leaf : ℕ) → leaf < length keys → cells leaf ≡ 1) where
  -- a whole scalar leaf is right
  whole_right : (leaf : ℕ) → leaf < length keys → IsWholeRight cells leaf Nothing true 1
  whole_right leaf l = (λ t. (refl, sym (scalar leaf l)), λ h. refl)

  right_primary : (x : Primary) → KnownPrimary keys x → PlacesRight cells (low_primary keys x)
  right_primary (primary.Name w) known = (whole_right (leaf_of keys w) (leaf_below keys w known), tt)
  right_primary (primary.Number n) known = tt

  right_terms : (e : Expr) (ts : List Term) → PlacesRight cells e → Each (KnownTerm keys) ts → PlacesRight cells (low_terms keys e ts)
  right_terms e [] h known = h
  right_terms e (t ∷ ts) h known = right_terms (low_term keys e t) ts (h, (right_primary t.operand known.0, tt)) known.1

  right_sum : (s : Sum) → KnownSum keys s → PlacesRight cells (low_sum keys s)
  right_sum s known = right_terms (low_primary keys s.first) s.more (right_primary s.first known.0) known.1

  right_relation : (r : Relation) (e f : Expr) → PlacesRight cells e → PlacesRight cells f → PlacesRight cells (low_relation r e f)
  right_relation relation.Equal e f h k = (h, (k, tt))
  right_relation relation.NotEqual e f h k = ((h, (k, tt)), tt)
  right_relation relation.Less e f h k = (h, (k, tt))
  right_relation relation.AtMost e f h k = (h, (k, tt))
  right_relation relation.Greater e f h k = (k, (h, tt))
  right_relation relation.AtLeast e f h k = (k, (h, tt))

  right_test : (t : Test) → KnownTest keys t → PlacesRight cells (low_test keys t)
  right_test t known = right_relation t.relation (low_sum keys t.left) (low_sum keys t.right) (right_sum t.left known.0) (right_sum t.right known.1)

-- code of scalar leaves, none of which is a formal of mode in
module _ (keys : List (List ℕ)) (p : Program) (body : Body) (scalar : (leaf : ℕ) → leaf < length keys → cells_of p leaf ≡ 1)
    (writes : (leaf : ℕ) → leaf < length keys → MayWrite p body leaf) where
  right : (leaf : ℕ) → leaf < length keys → IsWholeRight (cells_of p) leaf Nothing true 1
  right = whole_right keys (cells_of p) scalar

  assignment_proper : (target : Word) (value : Sum) → KnownWord keys target → KnownSum keys value → IsProperCode p body (low_assignment keys target value)
  assignment_proper target value known known' =
      let l = leaf_below keys target known in
      (writes (leaf_of keys target) l, (right (leaf_of keys target) l, tt), right_sum keys (cells_of p) scalar value known')

  chain_proper : (cs : List Code) → Each (IsProperCode p body) cs → IsProperCode p body (chain cs)
  chain_proper [] h = tt
  chain_proper (c ∷ cs) h = (h.0, chain_proper cs h.1)

  mutual
    codes_proper : (ss : Statements) → KnownAll keys ss → Each (IsProperCode p body) (low_codes keys ss)
    codes_proper (Last s) known = statement_proper s known
    codes_proper (More s ss) known =
        each_append (IsProperCode p body) (low_statement keys s) (low_codes keys ss) (statement_proper s known.0) (codes_proper ss known.1)

    statement_proper : (s : Statement) → KnownOne keys s → Each (IsProperCode p body) (low_statement keys s)
    statement_proper Null known = tt
    statement_proper (Assign target value) known = (assignment_proper target value known.0 known.1, tt)
    statement_proper (If test main) known =
        ((right_test keys (cells_of p) scalar test known.0, chain_proper (low_codes keys main) (codes_proper main known.1), tt), tt)
    statement_proper (IfElse test main other) known = (
      (
        right_test keys (cells_of p) scalar test known.0,
        chain_proper (low_codes keys main) (codes_proper main known.1),
        chain_proper (low_codes keys other) (codes_proper other known.2),
      ),
      tt,
    )

  -- what is proper anywhere is so in the body's own list
  member_proper : (a : Code) → IsProperCode p body a → IsProperMember p body a
  member_proper (Clear leaf) h = inl h
  member_proper a h = h

  list_proper : (a : Code) → IsProperCode p body a → IsProperList p body a
  list_proper (Then a b) h = (member_proper a h.0, list_proper b h.1)
  list_proper a h = member_proper a h

  pub statements_proper : (ss : Statements) → KnownAll keys ss → IsProperList p body (low_statements keys ss)
  statements_proper ss known = list_proper (low_statements keys ss) (chain_proper (low_codes keys ss) (codes_proper ss known))

  pub variables_proper : ((leaf : ℕ) → leaf < length keys → IsDeclared p body leaf) → (n : ℕ) (vs : List Variable) → n + length vs ≤ length keys → IsProperList p body (low_variables n vs)
  variables_proper fresh n [] l = tt
  variables_proper fresh n (v ∷ vs) l =
      let below : n < length keys = omega arith in
      (inr (fresh n below), ((writes n below, (right n below, tt), tt), variables_proper fresh (n + 1) vs (omega arith)))

-- nothing is called
module _ (keys : List (List ℕ)) where
  chain_alone : (cs : List Code) → Each IsWithoutCalls cs → IsWithoutCalls (chain cs)
  chain_alone [] h = tt
  chain_alone (c ∷ cs) h = (h.0, chain_alone cs h.1)

  mutual
    codes_alone : (ss : Statements) → Each IsWithoutCalls (low_codes keys ss)
    codes_alone (Last s) = statement_alone s
    codes_alone (More s ss) = each_append IsWithoutCalls (low_statement keys s) (low_codes keys ss) (statement_alone s) (codes_alone ss)

    statement_alone : (s : Statement) → Each IsWithoutCalls (low_statement keys s)
    statement_alone Null = tt
    statement_alone (Assign target value) = (tt, tt)
    statement_alone (If test main) = ((chain_alone (low_codes keys main) (codes_alone main), tt), tt)
    statement_alone (IfElse test main other) =
        ((chain_alone (low_codes keys main) (codes_alone main), chain_alone (low_codes keys other) (codes_alone other)), tt)

  pub statements_alone : (ss : Statements) → IsWithoutCalls (low_statements keys ss)
  statements_alone ss = chain_alone (low_codes keys ss) (codes_alone ss)

pub variables_alone : (n : ℕ) (vs : List Variable) → IsWithoutCalls (low_variables n vs)
variables_alone n [] = tt
variables_alone n (v ∷ vs) = (tt, (tt, variables_alone (n + 1) vs))

-- there are no loops, and nothing leaves one
module _ (keys : List (List ℕ)) where
  chain_exits : (cs : List Code) → Each (ExitsIn 0) cs → ExitsIn 0 (chain cs)
  chain_exits [] h = tt
  chain_exits (c ∷ cs) h = (h.0, chain_exits cs h.1)

  mutual
    codes_exits : (ss : Statements) → Each (ExitsIn 0) (low_codes keys ss)
    codes_exits (Last s) = statement_exits s
    codes_exits (More s ss) = each_append (ExitsIn 0) (low_statement keys s) (low_codes keys ss) (statement_exits s) (codes_exits ss)

    statement_exits : (s : Statement) → Each (ExitsIn 0) (low_statement keys s)
    statement_exits Null = tt
    statement_exits (Assign target value) = (tt, tt)
    statement_exits (If test main) = ((chain_exits (low_codes keys main) (codes_exits main), tt), tt)
    statement_exits (IfElse test main other) =
        ((chain_exits (low_codes keys main) (codes_exits main), chain_exits (low_codes keys other) (codes_exits other)), tt)

  pub statements_exits : (ss : Statements) → ExitsIn 0 (low_statements keys ss)
  statements_exits ss = chain_exits (low_codes keys ss) (codes_exits ss)

pub variables_exits : (n : ℕ) (vs : List Variable) → ExitsIn 0 (low_variables n vs)
variables_exits n [] = tt
variables_exits n (v ∷ vs) = (tt, (tt, variables_exits (n + 1) vs))
