-- An assembled program is well formed.
use Rattle.std.proofs.Common.{◌≡◌, ℕ, ◌<◌, Bool, true, false, List, [], ◌∷◌, Some, All, IfSome, map, length, ap, sym, ◌∙◌, arith}
use Rattle.std.specs.Prelude.{slice_get}
use Rattle.std.specs.List.{flat_map}
use Rattle.std.proofs.lemmas.List.Elements.{All-nil, All-cons, All-append, All-same}
use Rattle.spark_base.specs.declared.numbers.BodyNo.{BodyNo}
use Rattle.spark_base.specs.declared.numbers.StmtNo.{StmtNo}
use Rattle.core_form.proofs.Alone.{calls_alone}
use Rattle.core_form.specs.Calls.{HasNoCalls, IsWithoutCalls}
use Rattle.core_form.specs.Code.{code_of}
use Rattle.core_form.specs.Exits.{ExitsIn}
use Rattle.core_form.specs.Fine.{AreFineNodes, CodeIn, HasFineNodes, IsSeenIn, IsFineBody, IsFineItem, IsFineVar, IsFineState, IsFinePartOf, IsFineConstituent, IsWellFormed, home_of}
use Rattle.core_form.specs.declared.build.Nodes.{Nodes}
use Rattle.core_form.specs.declared.contract.GlobalItem.{GlobalItem}
use Rattle.core_form.specs.declared.contract.Mode.{Mode}
use Rattle.core_form.specs.declared.program.Body.{Body}
use Rattle.core_form.specs.declared.program.Formal.{Formal}
use Rattle.core_form.specs.declared.program.Leaf.{Leaf}
use Rattle.core_form.specs.declared.program.Package.{Package}
use Rattle.core_form.specs.declared.program.Home.TheVariants as home
use Rattle.core_form.specs.declared.program.Object.{Object}
use Rattle.core_form.specs.declared.program.Program.{Program}
use Rattle.core_form.specs.declared.program.TaskUnit.{TaskUnit}
use Rattle.core_form.specs.declared.program.Var.{Var}
use Rattle.first_conditions.specs.Conditions.{entries_of, words_of}
use Rattle.first_path.specs.declared.source.Entry.{Entry}
use Rattle.first_path.specs.declared.source.Source.{Source}
use Rattle.first_path.specs.declared.source.Variable.{Variable}
use Rattle.first_path.specs.declared.source.Word.{Word}
use Rattle.first_lower.specs.Assembled.{HasRoots, IsAssembled, bodies_of}
use Rattle.first_lower.specs.Known.{Each, KnownWord, KnownEntry, KnownLine}
use Rattle.first_lower.specs.Levels.{ends}
use Rattle.first_lower.specs.Lowered.{each_from, elaboration, low_entry, low_global_item, low_item, low_leaf, low_package, low_procedure, low_statements, low_var, mode_of}
use Rattle.first_lower.specs.declared.program.Roots.{Roots}
use Rattle.first_lower.proofs.Entries.{All-slice_get, all_entries, length_entries, entry_here}
use Rattle.first_lower.proofs.Lines.{ends_code}
use Rattle.first_lower.proofs.Seen.{leaf_below, statements_alone, statements_exits, statements_in, statements_known, variables_alone, variables_exits, variables_in}
use Rattle.first_path.specs.Nested.{AreNested}

all_none : {X : Type 0} (P : X → Type 0) (xs : List X) → xs ≡ [] → All P xs
all_none P xs e = All-same P xs [] e (All-nil P)

all_three : {X : Type 0} (P : X → Type 0) (x y z : X) → P x → P y → P z → All P (x ∷ y ∷ z ∷ [])
all_three P x y z a b c = All-cons P x (y ∷ z ∷ []) a (All-cons P y (z ∷ []) b (All-cons P z [] c (All-nil P)))

-- the home of a leaf is that of its variable
home_through : (p : Program) (leaf : ℕ) (l : Leaf) (v : Var) → slice_get p.leaves leaf ≡ Some l → slice_get p.vars l.var.0 ≡ Some v → home_of p leaf ≡ Some v.home
home_through p leaf l v is is' = rw (is, home_of, is')

-- The items of a Global

module _ (keys : List (List ℕ)) (n : ℕ) (same : n ≡ length keys) where
  words_below : (mode : Mode) (ws : List Word) → Each (KnownWord keys) ws → All (λ (g : GlobalItem). g.item.0 < n) (map (low_global_item keys mode) ws)
  words_below mode [] known = All-nil (λ (g : GlobalItem). g.item.0 < n)
  words_below mode (w ∷ ws) known =
      All-cons (λ (g : GlobalItem). g.item.0 < n) (low_global_item keys mode w) (map (low_global_item keys mode) ws)
      (omega (arith, leaf_below keys w known.0)) (words_below mode ws known.1)

  entries_below : (es : List Entry) → Each (KnownEntry keys) es → All (λ (g : GlobalItem). g.item.0 < n) (flat_map (low_entry keys) es)
  entries_below [] known = All-nil (λ (g : GlobalItem). g.item.0 < n)
  entries_below (e ∷ es) known =
      All-append (λ (g : GlobalItem). g.item.0 < n) (low_entry keys e) (flat_map (low_entry keys) es)
      (words_below (mode_of e) (words_of e.names) known.0) (entries_below es known.1)

module _ (s : Source) (keys : List (List ℕ)) (nodes : Nodes) (r : Roots) (p : Program)
    (a : IsAssembled s keys nodes r p) (roots : HasRoots s keys nodes r) (same : length keys ≡ length s.spec.variables) where
  -- Each table has a row for each variable

  pub length_leaves : length p.leaves ≡ length keys
  length_leaves = ap length a.leaves ∙ length_entries (low_leaf s.spec.«package») 0 s.spec.variables ∙ sym same

  pub length_vars : length p.vars ≡ length keys
  length_vars = ap length a.vars ∙ length_entries (low_var s.spec.«package») 0 s.spec.variables ∙ sym same

  length_items : length p.items ≡ length keys
  length_items = ap length a.items ∙ length_entries low_item 0 s.spec.variables ∙ sym same

  one_package : 0 < length p.packages
  one_package = let e = ap length a.packages in omega arith

  fine_leaves : All (λ (l : Leaf). l.var.0 < length p.vars) p.leaves
  fine_leaves =
      All-same (λ (l : Leaf). l.var.0 < length p.vars) p.leaves (each_from (low_leaf s.spec.«package») 0 s.spec.variables) a.leaves
      (all_entries (low_leaf s.spec.«package») (λ (l : Leaf). l.var.0 < length p.vars) (length keys) (λ i v l. omega (arith, length_vars)) 0 s.spec.variables (omega arith))

  fine_var : (i : ℕ) (v : Variable) → i < length keys → IsFineVar p (low_var s.spec.«package» i v)
  fine_var i v l = record { home = one_package; state = tt; sharing = tt; leaves = omega (arith, length_leaves) }

  fine_vars : All (IsFineVar p) p.vars
  fine_vars = All-same (IsFineVar p) p.vars (each_from (low_var s.spec.«package») 0 s.spec.variables) a.vars
      (all_entries (low_var s.spec.«package») (IsFineVar p) (length keys) fine_var 0 s.spec.variables (omega arith))

  fine_items : All (IsFineItem p) p.items
  fine_items = All-same (IsFineItem p) p.items (each_from low_item 0 s.spec.variables) a.items
      (all_entries low_item (IsFineItem p) (length keys) (λ i v l. omega (arith, length_vars)) 0 s.spec.variables (omega arith))

  fine_elaboration : (home at : Word) (code : StmtNo) (in_spec : Bool) → code.0 < length nodes.stmts → IsFineBody p (elaboration home at code in_spec)
  fine_elaboration home at code in_spec l = record {
    «package» = one_package;
    object = tt;
    formals = All-nil (λ (f : Formal). f.var.0 < length p.vars);
    code = rw a.stmts l;
    outer = tt;
    inner = tt;
  }

  fine_procedure : Each (KnownEntry keys) (entries_of s.spec.procedure.global) → IsFineBody p (low_procedure keys s r.procedure)
  fine_procedure known = record {
    «package» = one_package;
    object = tt;
    formals = All-nil (λ (f : Formal). f.var.0 < length p.vars);
    code = rw a.stmts roots.procedure_within;
    outer = record { globals = entries_below keys (length p.items) length_items (entries_of s.spec.procedure.global) known; depends = tt };
    inner = tt;
  }

  -- what holds of the three bodies
  pub three_bodies : (Q : Body → Type 0)
      → Q (elaboration s.spec.«package» s.spec.«package» r.spec true) → Q (elaboration s.spec.«package» s.body.«package» r.body false) → Q (low_procedure keys s r.procedure) → All Q p.bodies
  three_bodies Q x y z = All-same Q p.bodies (bodies_of s keys r) a.bodies
      (all_three Q (elaboration s.spec.«package» s.spec.«package» r.spec true) (elaboration s.spec.«package» s.body.«package» r.body false) (low_procedure keys s r.procedure) x y z)

  fine_bodies : Each (KnownEntry keys) (entries_of s.spec.procedure.global) → All (IsFineBody p) p.bodies
  fine_bodies known = three_bodies (IsFineBody p)
      (fine_elaboration s.spec.«package» s.spec.«package» r.spec true roots.spec_within)
      (fine_elaboration s.spec.«package» s.body.«package» r.body false roots.body_within)
      (fine_procedure known)

  fine_packages : All (λ (k : Package). IfSome k.initial (λ list. All (λ i. i.item.0 < length p.items) list)) p.packages
  fine_packages =
      let Q = λ (k : Package). IfSome k.initial (λ list. All (λ i. i.item.0 < length p.items) list) in
      All-same Q p.packages (low_package s.spec.«package» ∷ []) a.packages (All-cons Q (low_package s.spec.«package») [] tt (All-nil Q))

  fine_order : All (λ (b : BodyNo). b.0 < length p.bodies) p.order
  fine_order =
      let e = ap length a.bodies in
      let Q = λ (b : BodyNo). b.0 < length p.bodies in
      All-same Q p.order (record { 0 = 0 } ∷ record { 0 = 1 } ∷ []) a.order
      (All-cons Q (record { 0 = 0 }) (record { 0 = 1 } ∷ []) (omega arith) (All-cons Q (record { 0 = 1 }) [] (omega arith) (All-nil Q)))

  -- the variables are those of the package
  pub home_is : (leaf : ℕ) → leaf < length keys → home_of p leaf ≡ Some (home.Package (record { 0 = 0 }))
  home_is leaf l =
      let row = entry_here (low_leaf s.spec.«package») s.spec.variables leaf (omega arith) in
      let var = entry_here (low_var s.spec.«package») s.spec.variables leaf (omega arith) in
      home_through p leaf (low_leaf s.spec.«package» leaf row.0) (low_var s.spec.«package» leaf var.0) (ap (λ rows. slice_get rows leaf) a.leaves ∙ row.1) (ap (λ rows. slice_get rows leaf) a.vars ∙ var.1)

  seen : (b leaf : ℕ) → leaf < length keys → IsSeenIn p b leaf
  seen b leaf l = rw (home_is leaf l) tt

  -- the code of the procedure is that of its list of statements
  pub procedure_code : (nested : AreNested s.body.procedure.lines) → code_of nodes.exprs nodes.stmts r.procedure ≡ low_statements keys nested.statements
  procedure_code nested = roots.procedure_code ∙ ap (ends keys [] []) nested.written ∙ ends_code keys nested.statements

  names : AreNested s.body.procedure.lines → Each (KnownLine keys) s.body.procedure.lines → (b : ℕ) → All (λ (body : Body). CodeIn (IsSeenIn p b) (code_of p.exprs p.stmts body.code)) p.bodies
  names nested known b = three_bodies (λ (body : Body). CodeIn (IsSeenIn p b) (code_of p.exprs p.stmts body.code))
      (rw (a.exprs, a.stmts, roots.spec_code) (variables_in keys (IsSeenIn p b) (seen b) 0 s.spec.variables (omega arith)))
      (rw (a.exprs, a.stmts, roots.body_code) tt)
      (rw (a.exprs, a.stmts, procedure_code nested) (statements_in keys (IsSeenIn p b) (seen b) nested.statements (statements_known keys nested.statements s.body.procedure.lines nested.written known)))

  exits : (nested : AreNested s.body.procedure.lines) → All (λ (body : Body). ExitsIn 0 (code_of p.exprs p.stmts body.code)) p.bodies
  exits nested = three_bodies (λ (body : Body). ExitsIn 0 (code_of p.exprs p.stmts body.code))
      (rw (a.exprs, a.stmts, roots.spec_code) (variables_exits 0 s.spec.variables))
      (rw (a.exprs, a.stmts, roots.body_code) tt)
      (rw (a.exprs, a.stmts, procedure_code nested) (statements_exits keys nested.statements))

  alone : (nested : AreNested s.body.procedure.lines) → All (λ (body : Body). IsWithoutCalls (code_of p.exprs p.stmts body.code)) p.bodies
  alone nested = three_bodies (λ (body : Body). IsWithoutCalls (code_of p.exprs p.stmts body.code))
      (rw (a.exprs, a.stmts, roots.spec_code) (variables_alone 0 s.spec.variables))
      (rw (a.exprs, a.stmts, roots.body_code) tt)
      (rw (a.exprs, a.stmts, procedure_code nested) (statements_alone keys nested.statements))

  -- no body calls another
  pub no_calls : AreNested s.body.procedure.lines → HasNoCalls p
  no_calls nested b body is = All-slice_get (λ (x : Body). IsWithoutCalls (code_of p.exprs p.stmts x.code)) p.bodies b body (alone nested) is

  fine_nodes : AreFineNodes nodes → nodes.leaves ≡ length keys → HasFineNodes p
  fine_nodes fine leaves =
      let e : length p.leaves ≡ nodes.leaves = length_leaves ∙ sym leaves in
      record { room = rw (e, a.exprs, a.stmts) fine.room; exprs = rw (e, a.exprs) fine.exprs; stmts = rw (e, a.exprs, a.stmts) fine.stmts }

  pub well_formed : AreFineNodes nodes → nodes.leaves ≡ length keys → AreNested s.body.procedure.lines → Each (KnownLine keys) s.body.procedure.lines
      → Each (KnownEntry keys) (entries_of s.spec.procedure.global) → IsWellFormed p
  well_formed fine leaves nested lines entries = record {
    nodes = fine_nodes fine leaves;
    leaves = fine_leaves;
    vars = fine_vars;
    items = fine_items;
    bodies = fine_bodies entries;
    packages = fine_packages;
    states = all_none (IsFineState p) p.states.list a.states;
    objects = all_none (λ (o : Object). o.var.0 < length p.vars) p.objects a.objects;
    tasks = all_none (λ (t : TaskUnit). t.body.0 < length p.bodies) p.tasks a.tasks;
    order = fine_order;
    main = rw a.main tt;
    part_of = all_none (IsFinePartOf p) p.part_of a.part_of;
    constituents = all_none (IsFineConstituent p) p.constituents a.constituents;
    names = λ b body is. All-slice_get (λ (x : Body). CodeIn (IsSeenIn p b) (code_of p.exprs p.stmts x.code)) p.bodies b body (names nested lines b) is;
    exits = λ b body is. All-slice_get (λ (x : Body). ExitsIn 0 (code_of p.exprs p.stmts x.code)) p.bodies b body (exits nested) is;
    calls = λ b body is. calls_alone p (code_of p.exprs p.stmts body.code) (no_calls nested b body is);
  }
