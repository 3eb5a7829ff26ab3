use Rattle.std.proofs.Common.{◌≡◌, map, drop}
use Rattle.ada_grammar.specs.Lexemes.{lexeme}
use Rattle.ada_grammar.specs.Phrases.{Children, declared_all}
use Rattle.ada_grammar.specs.Standing.{Grows, Holds}
use Rattle.ada_grammar.proofs.children.declare_all.Given as goal

-- what is left to declare, behind what was declared, makes up the whole
abbrev pub invariant-loop-name : goal.invariant-loop-name
invariant-loop-name l = record {
  grows : Grows l.fn.units l.units;
  rest : (os ds : Children) → Holds l.fn.units l.fn.own os → Holds l.fn.units l.fn.into ds → (d : Children) × Holds l.units l.into d
      × (declared_all l.kind (map (lexeme l.tokens.source) (drop l.name-index l.names)) os d ≡ declared_all l.kind (map (lexeme l.tokens.source) l.names) os ds);
}
