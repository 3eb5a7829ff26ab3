-- Steps one after another.
use Rattle.std.proofs.Common.{◌∙◌, arith}
use Rattle.core_form.specs.declared.build.Nodes.{Nodes}
use Rattle.first_lower.specs.Steps.{Adds}

pub adds_then : (a b c : Nodes) → Adds a b → Adds b c → Adds a c
adds_then a b c h k = record {
  fine = k.fine;
  leaves = k.leaves ∙ h.leaves;
  older = record {
    leaves_stay = omega (arith, h.older.leaves_stay, k.older.leaves_stay);
    exprs_stay = omega (arith, h.older.exprs_stay, k.older.exprs_stay);
    stmts_stay = omega (arith, h.older.stmts_stay, k.older.stmts_stay);
    exprs = λ e l. k.older.exprs e (omega (arith, h.older.exprs_stay)) ∙ h.older.exprs e l;
    stmts = λ s l. k.older.stmts s (omega (arith, h.older.stmts_stay)) ∙ h.older.stmts s l;
  };
}
