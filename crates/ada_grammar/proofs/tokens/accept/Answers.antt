use Rattle.std.proofs.Common.{refl, sym, ◌∙◌}
use Rattle.ada_grammar.proofs.Ahead.{ahead, within_lexemes, other_first}
use Rattle.ada_grammar.proofs.tokens.accept.Goals as goal

pub returns-then-not-has : goal.returns-then-not-has
returns-then-not-has c = other_first c.args.class _ _ _ (ahead c.args.tokens.now _ c.args.cursor.at c.in-Some.token.now c.as_slice-list.ensures c.in-Some.ensures.lookup.3.0 c.in-Some.ensures.lookup.1) (sym c.if-not-has.ensures)

pub returns-in-Some-behind : goal.returns-in-Some-behind
returns-in-Some-behind c = record {
  takes = record {
    begins = record { sort = sym c.if-not-has.ensures; joins = ahead c.args.tokens.now _ c.args.cursor.at c.in-Some.token.now c.as_slice-list.ensures c.in-Some.ensures.lookup.3.0 c.in-Some.ensures.lookup.1 };
    stepped = sym (c.behind.ensures _) ∙ c.in-Some-behind.is;
  };
  place = refl;
  within = within_lexemes c.args.tokens.now _ c.args.cursor.at c.as_slice-list.ensures c.in-Some.ensures.lookup.3.0;
}

pub returns-in-None : goal.returns-in-None
returns-in-None c = record {
  place = refl;
  within = within_lexemes c.args.tokens.now _ c.args.cursor.at c.as_slice-list.ensures c.in-Some.ensures.lookup.3.0;
  stops = record {
    token = _;
    further = _;
    begins = record { sort = sym c.if-not-has.ensures; joins = ahead c.args.tokens.now _ c.args.cursor.at c.in-Some.token.now c.as_slice-list.ensures c.in-Some.ensures.lookup.3.0 c.in-Some.ensures.lookup.1 };
    stepped = sym (c.behind.ensures _) ∙ c.in-None.is;
  };
}
