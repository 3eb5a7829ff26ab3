-- Each part, and what follows it, is told by its symbols.
use Rattle.std.proofs.Common.{◌≡◌, ℕ, true, false, List, [], Option, Some, None, refl, ap, sym, subst, ◌∙◌}
use Rattle.first_path.specs.declared.source.Adding.{Adding}
use Rattle.first_path.specs.declared.source.Adding.TheVariants as adding
use Rattle.first_path.specs.declared.source.Entry.{Entry}
use Rattle.first_path.specs.declared.source.GlobalForm.{GlobalForm}
use Rattle.first_path.specs.declared.source.GlobalForm.TheVariants as global
use Rattle.first_path.specs.declared.source.Line.{Line}
use Rattle.first_path.specs.declared.source.Line.TheVariants as line
use Rattle.first_path.specs.declared.source.PackageBody.{PackageBody}
use Rattle.first_path.specs.declared.source.ProcedureBody.{ProcedureBody}
use Rattle.first_path.specs.declared.source.ProcedureSpec.{ProcedureSpec}
use Rattle.first_path.specs.declared.source.Names.{Names}
use Rattle.first_path.specs.declared.source.Names.TheVariants as names
use Rattle.first_path.specs.declared.source.Primary.{Primary}
use Rattle.first_path.specs.declared.source.Primary.TheVariants as primary
use Rattle.first_path.specs.declared.source.Source.{Source}
use Rattle.first_path.specs.declared.source.Spec.{Spec}
use Rattle.first_path.specs.declared.source.Relation.{Relation}
use Rattle.first_path.specs.declared.source.Relation.TheVariants as relation
use Rattle.first_path.specs.declared.source.Sign.{Sign}
use Rattle.first_path.specs.declared.source.Sign.TheVariants as signs
use Rattle.first_path.specs.declared.source.Sum.{Sum}
use Rattle.first_path.specs.declared.source.Symbol.{Symbol}
use Rattle.first_path.specs.declared.source.Term.{Term}
use Rattle.first_path.specs.declared.source.Test.{Test}
use Rattle.first_path.specs.declared.source.Variable.{Variable}
use Rattle.first_path.specs.declared.source.Word.{Word}
use Rattle.first_path.specs.Begins.{begins, begins_word, begins_term, begins_line}
use Rattle.first_path.specs.Nested.{AreNested}
use Rattle.first_path.specs.Spelling.{each_then, sign_then, word_then, variable_then, primary_then, sign_of, term_then, sum_then, relation_sign, test_then, line_then, further_name_then, names_then, entry_then, further_entry_then, global_then, ended_then, procedure_spec_then, spec_then, procedure_body_then, package_body_then, spelled}
use Rattle.first_path.proofs.Lists.{IsOne, only}

-- parts with equal fields are equal
variable_of : Word → Word → ℕ → Variable
variable_of name mark value = record { name = name; mark = mark; value = value }

same_variable : (v w : Variable) → v.name ≡ w.name → v.mark ≡ w.mark → v.value ≡ w.value → v ≡ w
unfolding variable_of
same_variable v w e f g =
    ap (λ x. variable_of x v.mark v.value) e ∙ ap (λ x. variable_of w.name x v.value) f ∙ ap (λ x. variable_of w.name w.mark x) g

same_term : (t u : Term) → t.operator ≡ u.operator → t.operand ≡ u.operand → t ≡ u
same_term t u e f =
    ap (λ (x : Adding). let y : Term = record { operator = x; operand = t.operand } in y) e
    ∙ ap (λ (x : Primary). let y : Term = record { operator = u.operator; operand = x } in y) f

same_sum : (s t : Sum) → s.first ≡ t.first → s.more ≡ t.more → s ≡ t
same_sum s t e f =
    ap (λ (x : Primary). let y : Sum = record { first = x; more = s.more } in y) e
    ∙ ap (λ (x : List Term). let y : Sum = record { first = t.first; more = x } in y) f

same_test : (s t : Test) → s.left ≡ t.left → s.relation ≡ t.relation → s.right ≡ t.right → s ≡ t
same_test s t e f g =
    ap (λ (x : Sum). let y : Test = record { left = x; relation = s.relation; right = s.right } in y) e
    ∙ ap (λ (x : Relation). let y : Test = record { left = t.left; relation = x; right = s.right } in y) f
    ∙ ap (λ (x : Sum). let y : Test = record { left = t.left; relation = t.relation; right = x } in y) g

same_entry : (s t : Entry) → s.mode ≡ t.mode → s.names ≡ t.names → s ≡ t
same_entry s t e f =
    ap (λ (x : Word). let y : Entry = record { mode = x; names = s.names } in y) e
    ∙ ap (λ (x : Names). let y : Entry = record { mode = t.mode; names = x } in y) f

pub one_variable : IsOne variable_then
one_variable v w a b h = (same_variable v w (cc) (cc) (cc), cc)

pub one_primary : IsOne primary_then
one_primary (primary.Name v) (primary.Name w) a b h = (cc, cc)
one_primary (primary.Name v) (primary.Number n) a b h = absurd cc
one_primary (primary.Number n) (primary.Name w) a b h = absurd cc
one_primary (primary.Number n) (primary.Number m) a b h = (cc, cc)

one_sign : (x y : Adding) → sign_of x ≡ sign_of y → x ≡ y
one_sign adding.Plus adding.Plus h = refl
one_sign adding.Plus adding.Minus h = absurd cc
one_sign adding.Minus adding.Plus h = absurd cc
one_sign adding.Minus adding.Minus h = refl

pub one_term : IsOne term_then
one_term t u a b h =
    let s : sign_of t.operator ≡ sign_of u.operator = cc in
    let o : t.operator ≡ u.operator = one_sign t.operator u.operator s in
    let p = one_primary t.operand u.operand a b cc in
    (same_term t u o p.0, p.1)

pub starts_term : (t : Term) (r : List Symbol) → begins_term (term_then t r) ≡ true
starts_term t r = elim t.operator as (λ o. begins_term (sign_then (sign_of o) (primary_then t.operand r)) ≡ true) [ adding.Plus ↦ refl | adding.Minus ↦ refl ]

pub one_sum : (s t : Sum) (a b : List Symbol) → begins_term a ≡ false → begins_term b ≡ false → sum_then s a ≡ sum_then t b → (s ≡ t) × (a ≡ b)
one_sum s t a b m n h =
    let p = one_primary s.first t.first (each_then term_then s.more a) (each_then term_then t.more b) h in
    let q = only term_then begins_term starts_term one_term s.more t.more a b m n p.1 in
    (same_sum s t p.0 q.0, q.1)

-- a relation is no further term
pub no_term : (o : Relation) (r : List Symbol) → begins_term (sign_then (relation_sign o) r) ≡ false
no_term relation.Equal r = refl
no_term relation.NotEqual r = refl
no_term relation.Less r = refl
no_term relation.AtMost r = refl
no_term relation.Greater r = refl
no_term relation.AtLeast r = refl

-- the relation of a sign
relation_back : Sign → Relation
relation_back signs.NotEqual = relation.NotEqual
relation_back signs.Less = relation.Less
relation_back signs.AtMost = relation.AtMost
relation_back signs.Greater = relation.Greater
relation_back signs.AtLeast = relation.AtLeast
relation_back s = relation.Equal

relation_there : (x : Relation) → relation_back (relation_sign x) ≡ x
unfolding relation_back
relation_there relation.Equal = refl
relation_there relation.NotEqual = refl
relation_there relation.Less = refl
relation_there relation.AtMost = refl
relation_there relation.Greater = refl
relation_there relation.AtLeast = refl

one_relation : (x y : Relation) → relation_sign x ≡ relation_sign y → x ≡ y
one_relation x y h = sym (relation_there x) ∙ ap relation_back h ∙ relation_there y

-- a test and what stands behind its then
pub one_test : (s t : Test) (a b : List Symbol) → begins_term a ≡ false → begins_term b ≡ false → test_then s a ≡ test_then t b → (s ≡ t) × (a ≡ b)
one_test s t a b m n h =
    let p = one_sum s.left t.left _ _ (no_term s.relation (sum_then s.right a)) (no_term t.relation (sum_then t.right b)) h in
    let e : sign_then (relation_sign s.relation) (sum_then s.right a) ≡ sign_then (relation_sign t.relation) (sum_then t.right b) = p.1 in
    let q = one_sum s.right t.right a b m n cc in
    (same_test s t p.0 (one_relation s.relation t.relation cc) q.0, q.1)

-- what follows the left side of a test, its relation, and the whole of it
pub behind_left : (s : Sum) (t : Test) (cur a : List Symbol) → begins_term cur ≡ false → sum_then s cur ≡ test_then t a → cur ≡ sign_then (relation_sign t.relation) (sum_then t.right a)
behind_left s t cur a n h = (one_sum s t.left cur (sign_then (relation_sign t.relation) (sum_then t.right a)) n (no_term t.relation (sum_then t.right a)) h).1

pub behind_relation : (s : Sum) (o : Relation) (t : Test) (cur a : List Symbol) → sum_then s (sign_then (relation_sign o) cur) ≡ test_then t a → cur ≡ sum_then t.right a
behind_relation s o t cur a h =
    let e = behind_left s t (sign_then (relation_sign o) cur) a (no_term o cur) h in
    cc

pub behind_test : (s : Sum) (o : Relation) (r : Sum) (t : Test) (cur a : List Symbol) → begins_term cur ≡ false → begins_term a ≡ false → sum_then s (sign_then (relation_sign o) (sum_then r cur)) ≡ test_then t a → cur ≡ a
behind_test s o r t cur a n m h = (one_sum r t.right cur a n m (behind_relation s o t (sum_then r cur) a h)).1

pub one_line : IsOne line_then
one_line line.Null line.Null a b h = (refl, cc)
one_line line.Null (line.Assign t s) a b h = absurd cc
one_line line.Null (line.If t) a b h = absurd cc
one_line line.Null line.Else a b h = absurd cc
one_line line.Null line.EndIf a b h = absurd cc
one_line (line.Assign t s) line.Null a b h = absurd cc
one_line (line.Assign t s) (line.Assign u r) a b h =
    let p = one_sum s r (sign_then signs.Semicolon a) (sign_then signs.Semicolon b) refl refl cc in
    let e : t ≡ u = cc in
    let f : s ≡ r = p.0 in
    let g : sign_then signs.Semicolon a ≡ sign_then signs.Semicolon b = p.1 in
    (cc, cc)
one_line (line.Assign t s) (line.If u) a b h = absurd cc
one_line (line.Assign t s) line.Else a b h = absurd cc
one_line (line.Assign t s) line.EndIf a b h = absurd cc
one_line (line.If t) line.Null a b h = absurd cc
one_line (line.If t) (line.Assign u r) a b h = absurd cc
one_line (line.If t) (line.If u) a b h =
    let p = one_test t u (sign_then signs.Then a) (sign_then signs.Then b) refl refl cc in
    let e : t ≡ u = p.0 in
    let g : sign_then signs.Then a ≡ sign_then signs.Then b = p.1 in
    (cc, cc)
one_line (line.If t) line.Else a b h = absurd cc
one_line (line.If t) line.EndIf a b h = absurd cc
one_line line.Else line.Null a b h = absurd cc
one_line line.Else (line.Assign u r) a b h = absurd cc
one_line line.Else (line.If u) a b h = absurd cc
one_line line.Else line.Else a b h = (refl, cc)
one_line line.Else line.EndIf a b h = absurd cc
one_line line.EndIf line.Null a b h = absurd cc
one_line line.EndIf (line.Assign u r) a b h = absurd cc
one_line line.EndIf (line.If u) a b h = absurd cc
one_line line.EndIf line.Else a b h = absurd cc
one_line line.EndIf line.EndIf a b h = (refl, cc)

pub starts_line : (l : Line) (r : List Symbol) → begins_line (line_then l r) ≡ true
starts_line line.Null r = refl
starts_line (line.Assign t s) r = refl
starts_line (line.If t) r = refl
starts_line line.Else r = refl
starts_line line.EndIf r = refl

-- an end of a procedure or a package is no line
pub no_line : (w : Option Word) (r : List Symbol) → begins_line (ended_then w r) ≡ false
no_line None r = refl
no_line (Some w) r = refl

pub one_further_name : IsOne further_name_then
one_further_name v w a b h = (cc, cc)

pub starts_further_name : (w : Word) (r : List Symbol) → begins signs.Comma (further_name_then w r) ≡ true
starts_further_name w r = refl

pub one_names : IsOne names_then
one_names (names.Bare v) (names.Bare w) a b h = (cc, cc)
one_names (names.Bare v) (names.Listed w ws) a b h = absurd cc
one_names (names.Listed v vs) (names.Bare w) a b h = absurd cc
one_names (names.Listed v vs) (names.Listed w ws) a b h =
    let e : v ≡ w = cc in
    let q = only further_name_then (begins signs.Comma) starts_further_name one_further_name vs ws (sign_then signs.Close a) (sign_then signs.Close b) refl refl cc in
    let f : vs ≡ ws = q.0 in
    let g : sign_then signs.Close a ≡ sign_then signs.Close b = q.1 in
    (cc, cc)

pub one_entry : IsOne entry_then
one_entry x y a b h =
    let e : x.mode ≡ y.mode = cc in
    let p = one_names x.names y.names a b cc in
    (same_entry x y e p.0, p.1)

pub one_further_entry : IsOne further_entry_then
one_further_entry x y a b h = one_entry x y a b cc

pub starts_further_entry : (e : Entry) (r : List Symbol) → begins signs.Comma (further_entry_then e r) ≡ true
starts_further_entry e r = refl

pub one_global : IsOne global_then
one_global global.Null global.Null a b h = (refl, cc)
one_global global.Null (global.Entries y ys) a b h = absurd cc
one_global (global.Entries x xs) global.Null a b h = absurd cc
one_global (global.Entries x xs) (global.Entries y ys) a b h =
    let p = one_entry x y (each_then further_entry_then xs (sign_then signs.Close a)) (each_then further_entry_then ys (sign_then signs.Close b)) cc in
    let q = only further_entry_then (begins signs.Comma) starts_further_entry one_further_entry xs ys (sign_then signs.Close a) (sign_then signs.Close b) refl refl p.1 in
    let e : x ≡ y = p.0 in
    let f : xs ≡ ys = q.0 in
    let g : sign_then signs.Close a ≡ sign_then signs.Close b = q.1 in
    (cc, cc)

-- "end", an optional name, a semicolon
pub one_ended : IsOne ended_then
one_ended None None a b h = (refl, cc)
one_ended None (Some w) a b h = absurd cc
one_ended (Some v) None a b h = absurd cc
one_ended (Some v) (Some w) a b h = (cc, cc)

same_procedure : (s t : ProcedureSpec) → s.name ≡ t.name → s.aspect ≡ t.aspect → s.global ≡ t.global → s ≡ t
same_procedure s t e f g =
    ap (λ (x : Word). let y : ProcedureSpec = record { name = x; aspect = s.aspect; global = s.global } in y) e
    ∙ ap (λ (x : Word). let y : ProcedureSpec = record { name = t.name; aspect = x; global = s.global } in y) f
    ∙ ap (λ (x : GlobalForm). let y : ProcedureSpec = record { name = t.name; aspect = t.aspect; global = x } in y) g

pub one_procedure_spec : IsOne procedure_spec_then
one_procedure_spec p q a b h =
    let g = one_global p.global q.global (sign_then signs.Semicolon a) (sign_then signs.Semicolon b) cc in
    let e : sign_then signs.Semicolon a ≡ sign_then signs.Semicolon b = g.1 in
    (same_procedure p q (cc) (cc) g.0, cc)

same_body : (s t : ProcedureBody) → s.name ≡ t.name → s.lines ≡ t.lines → s.end ≡ t.end → s ≡ t
same_body s t e f g =
    ap (λ (x : Word). let y : ProcedureBody = record { name = x; lines = s.lines; end = s.end } in y) e
    ∙ ap (λ (x : List Line). let y : ProcedureBody = record { name = t.name; lines = x; end = s.end } in y) f
    ∙ ap (λ (x : Option Word). let y : ProcedureBody = record { name = t.name; lines = t.lines; end = x } in y) g

pub one_procedure_body : IsOne procedure_body_then
one_procedure_body p q a b h =
    let g = only line_then begins_line starts_line one_line p.lines q.lines (ended_then p.end a) (ended_then q.end b) (no_line p.end a) (no_line q.end b) cc in
    let k = one_ended p.end q.end a b g.1 in
    (same_body p q (cc) g.0 k.0, k.1)

same_package_body : (s t : PackageBody) → s.«package» ≡ t.«package» → s.procedure ≡ t.procedure → s.end ≡ t.end → s ≡ t
same_package_body s t e f g =
    ap (λ (x : Word). let y : PackageBody = record { «package» = x; procedure = s.procedure; end = s.end } in y) e
    ∙ ap (λ (x : ProcedureBody). let y : PackageBody = record { «package» = t.«package»; procedure = x; end = s.end } in y) f
    ∙ ap (λ (x : Option Word). let y : PackageBody = record { «package» = t.«package»; procedure = t.procedure; end = x } in y) g

pub one_package_body : IsOne package_body_then
one_package_body p q a b h =
    let g = one_procedure_body p.procedure q.procedure (ended_then p.end a) (ended_then q.end b) cc in
    let k = one_ended p.end q.end a b g.1 in
    (same_package_body p q (cc) g.0 k.0, k.1)

pub starts_variable : (v : Variable) (r : List Symbol) → begins_word (variable_then v r) ≡ true
starts_variable v r = refl

-- a sum is ended by a semicolon
pub unended : (t : Word) (v : Sum) (cur r : List Symbol) (l : Line) → begins_term cur ≡ false → begins signs.Semicolon cur ≡ false → word_then t (sign_then signs.Becomes (sum_then v cur)) ≡ line_then l r → ⊥
unended t v cur r line.Null n d h = cc
unended t v cur r (line.Assign u w) n d h =
    let e : cur ≡ sign_then signs.Semicolon r = (one_sum v w cur (sign_then signs.Semicolon r) n refl cc).1 in
    let f : true ≡ false = subst (λ (x : List Symbol). begins signs.Semicolon x ≡ false) e d in
    cc
unended t v cur r (line.If u) n d h = cc
unended t v cur r line.Else n d h = cc
unended t v cur r line.EndIf n d h = cc

-- names in parentheses are ended by one
pub unclosed_names : (w : Word) (ws : List Word) (cur r : List Symbol) (n : Names) → begins signs.Comma cur ≡ false → begins signs.Close cur ≡ false → sign_then signs.Open (word_then w (each_then further_name_then ws cur)) ≡ names_then n r → ⊥
unclosed_names w ws cur r (names.Bare v) m d h = cc
unclosed_names w ws cur r (names.Listed v vs) m d h =
    let e : cur ≡ sign_then signs.Close r = (only further_name_then (begins signs.Comma) starts_further_name one_further_name ws vs cur (sign_then signs.Close r) m refl cc).1 in
    let f : true ≡ false = subst (λ (x : List Symbol). begins signs.Close x ≡ false) e d in
    cc

-- entries are spelled behind the first
pub unentered : (e : Entry) (cur r : List Symbol) (g : GlobalForm) → ((es : List Entry) (s : List Symbol) → begins signs.Comma s ≡ false → cur ≡ each_then further_entry_then es s → ⊥) → sign_then signs.Open (entry_then e cur) ≡ global_then g r → ⊥
unentered e cur r global.Null none h = cc
unentered e cur r (global.Entries f fs) none h =
    none fs (sign_then signs.Close r) refl (one_entry e f cur (each_then further_entry_then fs (sign_then signs.Close r)) cc).1

-- entries are ended by a parenthesis
pub unclosed_entries : (e : Entry) (es : List Entry) (cur r : List Symbol) (g : GlobalForm) → begins signs.Comma cur ≡ false → begins signs.Close cur ≡ false → sign_then signs.Open (entry_then e (each_then further_entry_then es cur)) ≡ global_then g r → ⊥
unclosed_entries e es cur r global.Null m d h = cc
unclosed_entries e es cur r (global.Entries f fs) m d h =
    let k : each_then further_entry_then es cur ≡ each_then further_entry_then fs (sign_then signs.Close r)
    = (one_entry e f (each_then further_entry_then es cur) (each_then further_entry_then fs (sign_then signs.Close r)) cc).1 in
    let i : cur ≡ sign_then signs.Close r = (only further_entry_then (begins signs.Comma) starts_further_entry one_further_entry es fs cur (sign_then signs.Close r) m refl k).1 in
    let j : true ≡ false = subst (λ (x : List Symbol). begins signs.Close x ≡ false) i d in
    cc

same_spec : (s t : Spec) → s.«package» ≡ t.«package» → s.variables ≡ t.variables → s.procedure ≡ t.procedure → s.end ≡ t.end → s ≡ t
same_spec s t e f g h =
    ap (λ (x : Word). let y : Spec = record { «package» = x; variables = s.variables; procedure = s.procedure; end = s.end } in y) e
    ∙ ap (λ (x : List Variable). let y : Spec = record { «package» = t.«package»; variables = x; procedure = s.procedure; end = s.end } in y) f
    ∙ ap (λ (x : ProcedureSpec). let y : Spec = record { «package» = t.«package»; variables = t.variables; procedure = x; end = s.end } in y) g
    ∙ ap (λ (x : Option Word). let y : Spec = record { «package» = t.«package»; variables = t.variables; procedure = t.procedure; end = x } in y) h

pub one_spec : IsOne spec_then
one_spec s t a b h =
    let v = only variable_then begins_word starts_variable one_variable s.variables t.variables
    (procedure_spec_then s.procedure (ended_then s.end a)) (procedure_spec_then t.procedure (ended_then t.end b)) refl refl cc in
    let p = one_procedure_spec s.procedure t.procedure (ended_then s.end a) (ended_then t.end b) v.1 in
    let k = one_ended s.end t.end a b p.1 in
    (same_spec s t (cc) v.0 p.0 k.0, k.1)

-- a list of symbols spells one source at most
pub one_source : (s t : Source) → spelled s ≡ spelled t → s ≡ t
one_source s t h =
    let p = one_spec s.spec t.spec (package_body_then s.body []) (package_body_then t.body []) h in
    let q = one_package_body s.body t.body [] [] p.1 in
    ap (λ (x : Spec). let y : Source = record { spec = x; body = s.body } in y) p.0
    ∙ ap (λ (x : PackageBody). let y : Source = record { spec = t.spec; body = x } in y) q.0

-- where the one source that symbols spell is not nested, they spell none that is
pub unnested : (list : List Symbol) (s : Source) → list ≡ spelled s → (AreNested s.body.procedure.lines → ⊥) → (u : Source) → list ≡ spelled u → AreNested u.body.procedure.lines → ⊥
unnested list s h none u k nested =
    none (subst (λ (x : Source). AreNested x.body.procedure.lines) (one_source u s (sym k ∙ h)) nested)

-- what follows a Global, lines, variables or a package spec
pub behind_global : (p q : ProcedureSpec) (cur a : List Symbol) → sign_then signs.Procedure (word_then p.name (sign_then signs.With (word_then p.aspect (sign_then signs.Arrow (global_then p.global cur))))) ≡ procedure_spec_then q a → cur ≡ sign_then signs.Semicolon a
behind_global p q cur a h = (one_global p.global q.global cur (sign_then signs.Semicolon a) cc).1

pub behind_lines : (w : Word) (ls : List Line) (p : ProcedureBody) (cur a : List Symbol) → begins_line cur ≡ false → sign_then signs.Procedure (word_then w (sign_then signs.Is (sign_then signs.Begin (each_then line_then ls cur)))) ≡ procedure_body_then p a → cur ≡ ended_then p.end a
behind_lines w ls p cur a n h = (only line_then begins_line starts_line one_line ls p.lines cur (ended_then p.end a) n (no_line p.end a) cc).1

pub behind_procedure : (w : Word) (b : ProcedureBody) (p : PackageBody) (cur a : List Symbol) → sign_then signs.Package (sign_then signs.Body (word_then w (sign_then signs.Is (procedure_body_then b cur)))) ≡ package_body_then p a → cur ≡ ended_then p.end a
behind_procedure w b p cur a h = (one_procedure_body b p.procedure cur (ended_then p.end a) cc).1

pub behind_variables : (w : Word) (vs : List Variable) (s : Spec) (cur a : List Symbol) → begins_word cur ≡ false → sign_then signs.Package (word_then w (sign_then signs.Is (each_then variable_then vs cur))) ≡ spec_then s a → cur ≡ procedure_spec_then s.procedure (ended_then s.end a)
behind_variables w vs s cur a n h =
    (only variable_then begins_word starts_variable one_variable vs s.variables cur (procedure_spec_then s.procedure (ended_then s.end a)) n refl cc).1

pub behind_declaration : (w : Word) (vs : List Variable) (p : ProcedureSpec) (s : Spec) (cur a : List Symbol) → sign_then signs.Package (word_then w (sign_then signs.Is (each_then variable_then vs (procedure_spec_then p cur)))) ≡ spec_then s a → cur ≡ ended_then s.end a
behind_declaration w vs p s cur a h =
    (one_procedure_spec p s.procedure cur (ended_then s.end a) (behind_variables w vs s (procedure_spec_then p cur) a refl h)).1
