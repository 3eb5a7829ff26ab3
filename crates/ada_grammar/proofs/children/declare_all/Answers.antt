use Rattle.std.proofs.Common.{◌≡◌, ℕ, ◌+◌, ◌<◌, ◌≤◌, List, length, map, drop, ap, sym, ◌∙◌, subst, get_or}
use Rattle.std.proofs.lemmas.List.{at_drop_all, at_drop_more}
use Rattle.ada_tree.specs.declared.declarations.DeclKind.{DeclKind}
use Rattle.ada_tree.specs.declared.token.Token.{Token}
use Rattle.ada_grammar.specs.declared.children.Children as held
use Rattle.ada_grammar.specs.Lexemes.{Lexeme, lexeme}
use Rattle.ada_grammar.specs.Phrases.{Children, declared, declared_all}
use Rattle.ada_grammar.specs.Standing.{Holds, shared_children}
use Rattle.ada_grammar.proofs.Standing.{grows_on, holds_on}
use Rattle.ada_grammar.proofs.children.declare_all.Goals as goal

-- one name is declared, and fewer are left
next_name : (kind : DeclKind) (of : Token → Lexeme) (items names : List Token) (i : ℕ) (d : Token) (os before whole : Children) → items ≡ names → i < length items
    → declared_all kind (map of (drop i names)) os before ≡ whole → declared_all kind (map of (drop (i + 1) names)) os (declared kind (of (get_or items i d)) os before) ≡ whole
next_name kind of items names i d os before whole e within h =
    ap (λ (z : List Token). declared_all kind (map of (drop (i + 1) names)) os (declared kind (of (get_or z i d)) os before)) e
    ∙ (sym (at_drop_more (λ (z : List Token). declared_all kind (map of z) os before) names i d (subst (λ (z : List Token). i < length z) e within)) ∙ h)

-- no name is left
all_named : (kind : DeclKind) (of : Token → Lexeme) (items names : List Token) (i : ℕ) (os before whole : Children) → items ≡ names → length items ≤ i
    → declared_all kind (map of (drop i names)) os before ≡ whole → before ≡ whole
all_named kind of items names i os before whole e past h =
    sym (at_drop_all (λ (z : List Token). declared_all kind (map of z) os before) names i (subst (λ (z : List Token). length z ≤ i) e past)) ∙ h

pub returns-in_err-declare_shared-clause-grows : goal.returns-in_err-declare_shared-clause-grows
returns-in_err-declare_shared-clause-grows c = grows_on c.loop-name.invariant.grows c.declare_shared.ensures.grows

pub loop-name-preserved : goal.loop-name-preserved
loop-name-preserved c = record {
  grows = grows_on c.loop-name.invariant.grows c.declare_shared.ensures.grows;
  rest = λ os ds own into.
      let before = c.loop-name.invariant.rest os ds own into in
      let same = ap shared_children c.in_ok-share.ensures ∙ c.in_ok-own.ensures in
      let under = subst (λ (z : held.Children). Holds c.loop-name.units z os) (sym same) (holds_on before.1.ordered c.loop-name.invariant.grows own) in (
        _,
        c.in_ok-declare_shared.ensures.builds os before.0 under before.1,
        next_name c.args.kind (lexeme c.args.tokens.now.source) c.as_slice-name-items.result.now c.args.names.now c.loop-name.name-index _ os before.0 _ c.as_slice-name-items.ensures c.loop-name-test.true before.2,
      );
}

pub returns-clause-builds : goal.returns-clause-builds
returns-clause-builds c = λ os ds own into.
    let before = c.loop-name.invariant.rest os ds own into in
    subst (λ (z : Children). Holds c.loop-name.units c.loop-name.into z)
    (all_named c.args.kind (lexeme c.args.tokens.now.source) c.as_slice-name-items.result.now c.args.names.now c.loop-name.name-index os before.0 _ c.as_slice-name-items.ensures c.loop-name-test.false before.2) before.1
