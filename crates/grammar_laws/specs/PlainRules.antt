-- Plain rules of parts that the grammar has in another form, so that the next token or the phrase so far decides what is read.
use Rattle.std.specs.Prelude.{Bool, List, [], ◌∷◌, ◌↔◌}
use Rattle.ada_tree.specs.declared.expressions.LogicalOperator.{LogicalOperator}
use Rattle.ada_tree.specs.declared.expressions.LogicalOperator.TheVariants as logical
use Rattle.ada_tree.specs.declared.token.Mark.TheVariants as marks
use Rattle.ada_tree.specs.declared.words.Reserved.TheVariants as words
use Rattle.ada_grammar.specs.Lexemes.{Lexeme}
use Rattle.ada_grammar.specs.Phrases as phrases
use Rattle.ada_grammar.specs.Phrases.{Phrase}
use Rattle.ada_grammar.specs.Parts.{Part, Expr, Chain, Rel, Simple, Condition, Items, Association, Associations, Name, UnitName}
use Rattle.ada_grammar.specs.Parts.{Indication, Body, Never, Gives, Take, Call, Rest, When, word, mark, ◌or◌, sign, identifier}
use Rattle.ada_grammar.specs.Spelling.{Fits, Spells}

-- the part has exactly the sentences of the body, with the same phrases
abbrev pub SaysTheSame : Part → Body → Type 0
SaysTheSame p b = (y : Phrase) (w : List Lexeme) → Spells p y w ↔ Fits b y w

-- rel {operator rel}
abbrev pub chain_of : LogicalOperator → Body
chain_of operator = Call Rel (λ a. Rest (Chain operator a))

-- rel {"and" rel} | rel {"or" rel} | rel {"xor" rel} | rel {"and" "then" rel} | rel {"or" "else" rel}
abbrev pub expression : Body
expression =
    chain_of logical.And
    or chain_of logical.Or
    or chain_of logical.Xor
    or chain_of logical.AndThen
    or chain_of logical.OrElse

-- "others" | simple ".." simple | expr
abbrev pub choice : Body
choice =
    Take (word words.Others) (λ t. Gives (phrases.others_choice t))
    or Call Simple (λ low. sign marks.Dots (Call Simple (λ high. Gives (phrases.range_choice low high))))
    or Call Expr (λ e. Gives (phrases.value_choice e))

-- expr ")" | expr "," expr .. | association {"," association} ")"
abbrev pub in_parentheses : Lexeme → Body
in_parentheses o =
    Call Expr (λ e. Take (mark marks.Close) (λ z. Gives (phrases.parenthesized o e z)))
    or Call Expr (λ e. sign marks.Comma (Call Expr (λ b. Rest (Items o (e.tree ∷ b.tree ∷ [])))))
    or Call Association (λ a. Rest (Associations o (a.tree ∷ [])))

-- ifexpr ")" | expr ")" | aggregate
abbrev pub parentheses : Lexeme → Body
parentheses o =
    Take (word words.If) (λ t. Call (Condition t) (λ c. Take (mark marks.Close) (λ z. Gives (phrases.parenthesized o c z))))
    or in_parentheses o

-- id "=>" expr | expr
abbrev pub argument : Body
argument =
    identifier (λ t. sign marks.Arrow (Call Expr (λ b. Gives (phrases.named_argument (phrases.identifier t) b))))
    or Call Expr (λ a. Gives (phrases.argument a))

-- simple ".." simple | sub | name "'" "Range"
abbrev pub discrete_range : Body
discrete_range =
    Call Simple (λ low. sign marks.Dots (Call Simple (λ high. Gives (phrases.bounds_range low high))))
    or Call Indication (λ a. Gives (phrases.subtype_range a))
    or Call Name (λ a. When (phrases.is_range a.form) (Gives (phrases.attribute_range a)) Never)

-- simple ".." simple | mark
abbrev pub membership : Bool → Phrase → Body
membership is_not a =
    Call Simple (λ low. sign marks.Dots (Call Simple (λ high. Gives (phrases.range_membership is_not a low high))))
    or Call UnitName (λ m. Gives (phrases.mark_membership is_not a m))
