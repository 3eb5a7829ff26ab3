-- Statements one after another.
use Rattle.std.proofs.Common.{◌≡◌, ℕ, ◌<◌, ◌≤◌, List, [], ◌∷◌, ◌++◌, length, refl, ap, ◌∙◌, arith}
use Rattle.std.proofs.lemmas.List.Elements.{All-cons, All-nil}
use Rattle.spark_base.specs.declared.numbers.StmtNo.{StmtNo}
use Rattle.core_form.specs.declared.build.Nodes.{Nodes}
use Rattle.core_form.specs.Code.{Code, Then, Skip, codes_at, code_of}
use Rattle.core_form.specs.Fine.{StmtsBelow}
use Rattle.first_lower.specs.Known.{Each}
use Rattle.first_lower.specs.Steps.{Adds, Lists, codes_before}
use Rattle.first_lower.proofs.Adding.{adds_then}

-- a list with nothing behind it
pub codes_whole : (f : StmtNo → Code) (ss : List StmtNo) → codes_at f ss ≡ codes_before f ss Skip
codes_whole f [] = refl
codes_whole f (s ∷ ss) = ap (Then (f s)) (codes_whole f ss)

-- one statement more
pub codes_more : (f : StmtNo → Code) (ss : List StmtNo) (s : StmtNo) (rest : Code) → codes_before f (ss ++ s ∷ []) rest ≡ codes_before f ss (Then (f s) rest)
codes_more f [] s rest = refl
codes_more f (x ∷ xs) s rest = ap (Then (f x)) (codes_more f xs s rest)

-- two readings that agree below a number
pub codes_kept : (f g : StmtNo → Code) (n : ℕ) → ((s : StmtNo) → s.0 < n → f s ≡ g s) → (ss : List StmtNo) → Each (λ s. s.0 < n) ss → (rest : Code) → codes_before f ss rest ≡ codes_before g ss rest
codes_kept f g n same [] h rest = refl
codes_kept f g n same (s ∷ ss) h rest = let e = same s h.0 in let t = codes_kept f g n same ss h.1 rest in cc

pub each_above : (n m : ℕ) → n ≤ m → (ss : List StmtNo) → Each (λ s. s.0 < n) ss → Each (λ s. s.0 < m) ss
each_above n m l [] h = tt
each_above n m l (s ∷ ss) h = (omega (arith, h.0), each_above n m l ss h.1)

pub each_more : (n : ℕ) (ss : List StmtNo) (s : StmtNo) → Each (λ x. x.0 < n) ss → s.0 < n → Each (λ x. x.0 < n) (ss ++ s ∷ [])
each_more n [] s h l = (l, tt)
each_more n (x ∷ xs) s h l = (h.0, each_more n xs s h.1 l)

pub each_below : (n : ℕ) (ss : List StmtNo) → Each (λ s. s.0 < n) ss → StmtsBelow n ss
each_below n [] h = All-nil (λ (s : StmtNo). s.0 < n)
each_below n (s ∷ ss) h = All-cons (λ (x : StmtNo). x.0 < n) s ss h.0 (each_below n ss h.1)

-- a statement is added
pub lists_one : (a b : Nodes) (ss : List StmtNo) (s : StmtNo) (code : Code) → Adds a b → Each (λ x. x.0 < length a.stmts) ss → s.0 < length b.stmts → code_of b.exprs b.stmts s ≡ code → Lists a b ss (ss ++ s ∷ []) (Then code)
lists_one a b ss s code h w l is = record {
  adds = h;
  within = each_more (length b.stmts) ss s (each_above (length a.stmts) (length b.stmts) h.older.stmts_stay ss w) l;
  codes = λ rest. codes_more (code_of b.exprs b.stmts) ss s rest
      ∙ codes_kept (code_of b.exprs b.stmts) (code_of a.exprs a.stmts) (length a.stmts) h.older.stmts ss w (Then (code_of b.exprs b.stmts s) rest)
      ∙ ap (λ c. codes_before (code_of a.exprs a.stmts) ss (Then c rest)) is;
}

-- and then others
pub lists_then : (a b c : Nodes) (xs ys zs : List StmtNo) (f g : Code → Code) → Lists a b xs ys f → Lists b c ys zs g → Lists a c xs zs (λ rest. f (g rest))
lists_then a b c xs ys zs f g h k = record {
  adds = adds_then a b c h.adds k.adds;
  within = k.within;
  codes = λ rest. k.codes rest ∙ h.codes (g rest);
}
