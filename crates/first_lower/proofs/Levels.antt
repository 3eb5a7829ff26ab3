-- What is unfinished, as nodes are added.
use Rattle.std.proofs.Common.{◌≡◌, ◌<◌, List, [], ◌∷◌, ◌++◌, Some, None, IfSome, Option, length, map, refl, ap, sym, subst, ◌∙◌, arith}
use Rattle.std.specs.Prelude.{drop}
use Rattle.std.proofs.lemmas.List.{map-append}
use Rattle.spark_base.specs.declared.numbers.StmtNo.{StmtNo}
use Rattle.core_form.specs.Added.{KeepsTrees}
use Rattle.core_form.specs.Fine.{AreFineNodes}
use Rattle.core_form.specs.Code.{Expr, Code, Skip, Then, code_of, expr_of}
use Rattle.core_form.specs.declared.build.Nodes.{Nodes}
use Rattle.first_lower.specs.Known.{Each}
use Rattle.first_lower.specs.Levels.{Level, IsWithin, OpenWithin, Reaches, StmtsWithin, closed, codes_of, ended, level_of, levels_of, main_of, turned}
use Rattle.first_lower.specs.Lowered.{chain}
use Rattle.first_lower.specs.Steps.{Adds, codes_before}
use Rattle.first_lower.specs.declared.code.Open.{Open}
use Rattle.first_lower.specs.declared.code.Unfinished.{Unfinished}
use Rattle.first_lower.proofs.Adding.{adds_then}
use Rattle.first_lower.proofs.Listing.{each_above, each_more}

-- statements with nothing behind them
pub chain_whole : (f : StmtNo → Code) (ss : List StmtNo) → codes_before f ss Skip ≡ chain (map f ss)
chain_whole f [] = refl
chain_whole f (s ∷ ss) = ap (Then (f s)) (chain_whole f ss)

same_level : (x y : Level) → x.before ≡ y.before → x.test ≡ y.test → x.main ≡ y.main → x ≡ y
same_level x y e f g =
    ap (λ (z : List Code). let l : Level = record { before = z; test = x.test; main = x.main } in l) e
    ∙ ap (λ (z : Expr). let l : Level = record { before = y.before; test = z; main = x.main } in l) f
    ∙ ap (λ (z : Option Code). let l : Level = record { before = y.before; test = y.test; main = z } in l) g

module _ (a b : Nodes) (keeps : KeepsTrees a b) where
  list_within : (ss : List StmtNo) → StmtsWithin a ss → StmtsWithin b ss
  list_within ss h = each_above (length a.stmts) (length b.stmts) keeps.stmts_stay ss h

  list_kept : (ss : List StmtNo) → StmtsWithin a ss → codes_of b ss ≡ codes_of a ss
  list_kept [] h = refl
  list_kept (s ∷ ss) h = let e = keeps.stmts s h.0 in let t = list_kept ss h.1 in cc

  main_within : (m : Option StmtNo) → IfSome m (λ s. s.0 < length a.stmts) → IfSome m (λ s. s.0 < length b.stmts)
  main_within None h = tt
  main_within (Some s) h = omega (arith, h, keeps.stmts_stay)

  main_kept : (m : Option StmtNo) → IfSome m (λ s. s.0 < length a.stmts) → main_of b m ≡ main_of a m
  main_kept None h = refl
  main_kept (Some s) h = ap (λ (c : Code). Some c) (keeps.stmts s h)

  open_within : (o : Open) → OpenWithin a o → OpenWithin b o
  open_within o (before, test, main) = (list_within o.before before, omega (arith, test, keeps.exprs_stay), main_within o.main main)

  open_kept : (o : Open) → OpenWithin a o → level_of b o ≡ level_of a o
  open_kept o (before, test, main) = same_level (level_of b o) (level_of a o) (list_kept o.before before) (keeps.exprs o.test test) (main_kept o.main main)

  ifs_within : (os : List Open) → Each (OpenWithin a) os → Each (OpenWithin b) os
  ifs_within [] h = tt
  ifs_within (o ∷ os) h = (open_within o h.0, ifs_within os h.1)

  ifs_kept : (os : List Open) → Each (OpenWithin a) os → levels_of b os ≡ levels_of a os
  ifs_kept [] h = refl
  ifs_kept (o ∷ os) h = let e = open_kept o h.0 in let t = ifs_kept os h.1 in cc

-- nothing is done
pub reaches_same : (a : Nodes) (u : Unfinished) → AreFineNodes a → IsWithin a u → Reaches a a u (levels_of a u.ifs.items) (codes_of a u.list)
reaches_same a u fine w = record {
  adds = record {
    fine = fine;
    leaves = refl;
    older = record { leaves_stay = omega arith; exprs_stay = omega arith; stmts_stay = omega arith; exprs = λ e l. refl; stmts = λ s l. refl };
  };
  within = w;
  levels = refl;
  codes = refl;
}

-- a statement is put behind the list
pub reaches_append : (a b : Nodes) (u v : Unfinished) (s : StmtNo) (code : Code) → Adds a b → IsWithin a u
    → v.list ≡ u.list ++ s ∷ [] → v.ifs.items ≡ u.ifs.items → s.0 < length b.stmts → code_of b.exprs b.stmts s ≡ code
    → Reaches a b v (levels_of a u.ifs.items) (codes_of a u.list ++ code ∷ [])
reaches_append a b u v s code adds w list ifs l is = record {
  adds = adds;
  within = record {
    list = rw list (each_more (length b.stmts) u.list s (list_within a b adds.older u.list w.list) l);
    ifs = rw ifs (ifs_within a b adds.older u.ifs.items w.ifs);
  };
  levels = ap (levels_of b) ifs ∙ ifs_kept a b adds.older u.ifs.items w.ifs;
  codes = ap (codes_of b) list ∙ map-append (code_of b.exprs b.stmts) u.list (s ∷ [])
      ∙ ap (λ (x : List Code). x ++ code_of b.exprs b.stmts s ∷ []) (list_kept a b adds.older u.list w.list)
      ∙ ap (λ (c : Code). codes_of a u.list ++ c ∷ []) is;
}

-- an if is opened
pub reaches_open : (a b : Nodes) (u v : Unfinished) (o : Open) (test : Expr) → Adds a b → IsWithin a u
    → v.list ≡ [] → v.ifs.items ≡ o ∷ u.ifs.items → o.before ≡ u.list → o.main ≡ None → o.test.0 < length b.exprs → expr_of b.exprs o.test ≡ test
    → Reaches a b v (record { before = codes_of a u.list; test = test; main = None } ∷ levels_of a u.ifs.items) []
reaches_open a b u v o test adds w list ifs before main l is =
    let inside : OpenWithin b o = (rw before (list_within a b adds.older u.list w.list), l, rw main tt) in
    let wanted : Level = record { before = codes_of a u.list; test = test; main = None } in
    let level : level_of b o ≡ wanted
    = same_level (level_of b o) wanted
    (ap (codes_of b) before ∙ list_kept a b adds.older u.list w.list) is (ap (main_of b) main) in
    let others = ifs_kept a b adds.older u.ifs.items w.ifs in
    record {
      adds = adds;
      within = record { list = rw list tt; ifs = rw ifs (inside, ifs_within a b adds.older u.ifs.items w.ifs) };
      levels = ap (levels_of b) ifs ∙ (cc);
      codes = ap (codes_of b) list;
    }

-- the else of an if is begun
pub reaches_else : (a b : Nodes) (u v : Unfinished) (o n : Open) (os : List Open) (side : StmtNo) → Adds a b → IsWithin a u
    → u.ifs.items ≡ o ∷ os → v.list ≡ [] → v.ifs.items ≡ n ∷ os → n.before ≡ o.before → n.test ≡ o.test → n.main ≡ Some side
    → side.0 < length b.stmts → code_of b.exprs b.stmts side ≡ codes_before (code_of a.exprs a.stmts) u.list Skip
    → Reaches a b v (turned (levels_of a u.ifs.items) (chain (codes_of a u.list))) []
reaches_else a b u v o n os side adds w old list ifs before test main l is =
    let inner : Each (OpenWithin a) (o ∷ os) = subst (Each (OpenWithin a)) old w.ifs in
    let inside : OpenWithin b n = (rw before (list_within a b adds.older o.before inner.0.0), rw test (open_within a b adds.older o inner.0).1, rw main l) in
    let wanted : Level = record { before = codes_of a o.before; test = expr_of a.exprs o.test; main = Some (chain (codes_of a u.list)) } in
    let level : level_of b n ≡ wanted
    = same_level (level_of b n) wanted
    (ap (codes_of b) before ∙ list_kept a b adds.older o.before inner.0.0)
    (ap (expr_of b.exprs) test ∙ adds.older.exprs o.test inner.0.1)
    (ap (main_of b) main ∙ ap (λ (c : Code). Some c) (is ∙ chain_whole (code_of a.exprs a.stmts) u.list)) in
    let others = ifs_kept a b adds.older os inner.1 in
    record {
      adds = adds;
      within = record { list = rw list tt; ifs = rw ifs (inside, ifs_within a b adds.older os inner.1) };
      levels = ap (levels_of b) ifs ∙ (cc) ∙ ap (λ (x : List Open). turned (levels_of a x) (chain (codes_of a u.list))) (sym old);
      codes = ap (codes_of b) list;
    }

-- no if is open
pub reaches_nothing : (a b : Nodes) (u v : Unfinished) → Adds a b → u.ifs.items ≡ [] → v.list ≡ [] → v.ifs.items ≡ []
    → Reaches a b v (turned (levels_of a u.ifs.items) (chain (codes_of a u.list))) []
reaches_nothing a b u v adds old list ifs = record {
  adds = adds;
  within = record { list = rw list tt; ifs = rw ifs tt };
  levels = ap (levels_of b) ifs ∙ ap (λ (x : List Open). turned (levels_of a x) (chain (codes_of a u.list))) (sym old);
  codes = ap (codes_of b) list;
}

-- an if is ended
pub reaches_end : (a m b : Nodes) (u v : Unfinished) (o : Open) (os : List Open) (side branch : StmtNo) → Adds a m → Adds m b → IsWithin a u
    → u.ifs.items ≡ o ∷ os → v.list ≡ o.before ++ branch ∷ [] → v.ifs.items ≡ os → branch.0 < length b.stmts
    → code_of m.exprs m.stmts side ≡ codes_before (code_of a.exprs a.stmts) u.list Skip
    → code_of b.exprs b.stmts branch ≡ closed (record { before = []; test = expr_of m.exprs o.test; main = main_of m o.main }) (code_of m.exprs m.stmts side)
    → Reaches a b v (drop 1 (levels_of a u.ifs.items)) (ended (levels_of a u.ifs.items) (codes_of a u.list))
reaches_end a m b u v o os side branch first second w old list ifs l is made =
    let inner : Each (OpenWithin a) (o ∷ os) = subst (Each (OpenWithin a)) old w.ifs in
    let adds = adds_then a m b first second in
    let test : expr_of m.exprs o.test ≡ expr_of a.exprs o.test = first.older.exprs o.test inner.0.1 in
    let main : main_of m o.main ≡ main_of a o.main = main_kept a m first.older o.main inner.0.2 in
    let whole : code_of m.exprs m.stmts side ≡ chain (codes_of a u.list) = is ∙ chain_whole (code_of a.exprs a.stmts) u.list in
    let code : code_of b.exprs b.stmts branch ≡ closed (level_of a o) (chain (codes_of a u.list)) =
    made ∙ ap (λ (x : Expr). closed (record { before = []; test = x; main = main_of m o.main }) (code_of m.exprs m.stmts side)) test
    ∙ ap (λ (x : Option Code). closed (record { before = []; test = expr_of a.exprs o.test; main = x }) (code_of m.exprs m.stmts side)) main
    ∙ ap (λ (x : Code). closed (level_of a o) x) whole in
    record {
      adds = adds;
      within = record {
        list = rw list (each_more (length b.stmts) o.before branch (list_within a b adds.older o.before inner.0.0) l);
        ifs = rw ifs (ifs_within a b adds.older os inner.1);
      };
      levels = ap (levels_of b) ifs ∙ ifs_kept a b adds.older os inner.1 ∙ ap (λ (x : List Open). drop 1 (levels_of a x)) (sym old);
      codes = ap (codes_of b) list ∙ map-append (code_of b.exprs b.stmts) o.before (branch ∷ [])
          ∙ ap (λ (x : List Code). x ++ code_of b.exprs b.stmts branch ∷ []) (list_kept a b adds.older o.before inner.0.0)
          ∙ ap (λ (c : Code). codes_of a o.before ++ c ∷ []) code
          ∙ ap (λ (x : List Open). ended (levels_of a x) (codes_of a u.list)) (sym old);
    }

-- no if is open
pub reaches_no_end : (a : Nodes) (u v : Unfinished) → AreFineNodes a → IsWithin a u → u.ifs.items ≡ [] → v.list ≡ u.list → v.ifs.items ≡ []
    → Reaches a a v (drop 1 (levels_of a u.ifs.items)) (ended (levels_of a u.ifs.items) (codes_of a u.list))
reaches_no_end a u v fine w old list ifs = record {
  adds = (reaches_same a u fine w).adds;
  within = record { list = rw list w.list; ifs = rw ifs tt };
  levels = ap (levels_of a) ifs ∙ ap (λ (x : List Open). drop 1 (levels_of a x)) (sym old);
  codes = ap (codes_of a) list ∙ ap (λ (x : List Open). ended (levels_of a x) (codes_of a u.list)) (sym old);
}
