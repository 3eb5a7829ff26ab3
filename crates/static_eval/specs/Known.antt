-- What names mean by what is known of the declarations of a source.
use Rattle.std.specs.Prelude.{[], Option, Some, None, ℤ}
use Rattle.spark_base.specs.declared.name.Name.{Name}
use Rattle.spark_base.specs.declared.numbers.DeclNo.{DeclNo}
use Rattle.spark_base.specs.declared.numbers.ExprNo.{ExprNo}
use Rattle.ada_tree.specs.declared.units.Units.{Units}
use Rattle.static_eval.specs.declared.judgements.Judgement.{Judgement}
use Rattle.static_eval.specs.declared.known.Known.{Known}
use Rattle.static_meanings.specs.declared.meanings.Meaning.{Meaning}
use Rattle.static_meanings.specs.declared.meanings.Range.{Range}
use Rattle.ada_forms.specs.Declarations.{Decl, decl_of}
use Rattle.ada_forms.specs.Declarations as decls
use Rattle.ada_forms.specs.Forms.{Expr, Identifier, Selected, Applied, Indication, Constrained, expr_of}
use Rattle.static_eval.specs.Judged.{judged}
use Rattle.static_eval.specs.Judgements.{either}
use Rattle.static_meanings.specs.Meanings.{mark, object, predefined, unknown}
use Rattle.static_meanings.specs.Pairs.{told}

abbrev pub nothing : Known
nothing = record { values = []; names = []; ranges = [] }

-- the range of the subtype that a mark names

abbrev pub range_named : Known → Name → Option DeclNo → Option Range
range_named k name None = (predefined name.written).range
range_named k name (Some d) = told k.ranges d.0

abbrev pub range_of_mark : Known → Expr → Option Range
range_of_mark k (Identifier e at name) = range_named k name (told k.names e.0)
range_of_mark k (Selected e at name prefix) = range_named k name (told k.names e.0)
range_of_mark k _ = None

abbrev pub range_of_maybe : Known → Option Expr → Option Range
range_of_maybe k None = None
range_of_maybe k (Some t) = range_of_mark k t

abbrev pub range_of_indication : Known → Expr → Option Range
range_of_indication k (Indication e at mark) = range_of_mark k mark
range_of_indication k (Constrained e at mark low high) = range_of_mark k mark
range_of_indication k _ = None

-- the name of a declaration that has this range and this value; one without a range has that of its mark
abbrev pub meaning_by : Known → Option Range → Option ℤ → Decl → Meaning
meaning_by k range value (decls.EnumerationType d at name literals) = mark range
meaning_by k range value (decls.RangeType d at name low high) = mark range
meaning_by k range value (decls.ModularType d at name modulus) = mark range
meaning_by k range value (decls.ArrayType d at name index element) = mark range
meaning_by k range value (decls.NullRecordType d at name) = mark range
meaning_by k range value (decls.PrivateType d at name) = mark range
meaning_by k range value (decls.RecordType d at name components) = mark range
meaning_by k range value (decls.Subtype d at name subtype) = mark range
meaning_by k range value (decls.Object d at name is_constant subtype initial) = object (either range (range_of_indication k subtype)) value
meaning_by k range value (decls.Component d at name subtype preset) = object (either range (range_of_indication k subtype)) value
meaning_by k range value (decls.Formal d at name is_in is_out mark) = object (either range (range_of_mark k mark)) value
meaning_by k range value (decls.Subprogram d at name is_null formals result) = object (either range (range_of_maybe k result)) value
meaning_by k range value (decls.ExpressionFunction d at name formals result e) = object (either range (range_of_mark k result)) value
meaning_by k range value (decls.SubprogramBody d at name ds result body end) = object (either range (range_of_maybe k result)) value
meaning_by k range value (decls.ProtectedSubprogram d at name formals result) = object (either range (range_of_maybe k result)) value
meaning_by k range value _ = object range value

-- what the name of a declaration means
abbrev pub declared_meaning : Units → Known → DeclNo → Meaning
declared_meaning u k d = meaning_by k (told k.ranges d.0) (told k.values d.0) (decl_of u d)

-- a name that denotes no declaration is predefined
abbrev pub meaning_denoted : Units → Known → Name → Option DeclNo → Meaning
meaning_denoted u k name None = predefined name.written
meaning_denoted u k name (Some d) = declared_meaning u k d

abbrev pub meaning_at : Units → Known → ExprNo → Name → Meaning
meaning_at u k e name = meaning_denoted u k name (told k.names e.0)

-- an index or a call may denote the type of its result
abbrev pub result_denoted : Units → Known → Option DeclNo → Meaning
result_denoted u k None = unknown
result_denoted u k (Some d) = declared_meaning u k d

abbrev pub result_at : Units → Known → ExprNo → Meaning
result_at u k e = result_denoted u k (told k.names e.0)

-- what an expression means where it is a name
abbrev pub known_meaning : Units → Known → Expr → Meaning
known_meaning u k (Identifier e at name) = meaning_at u k e name
known_meaning u k (Selected e at name prefix) = meaning_at u k e name
known_meaning u k (Applied e at prefix arguments) = result_at u k e
known_meaning u k _ = unknown

-- what is said of a numbered expression by what is known
abbrev pub said : Units → Known → ExprNo → Judgement
said u k e = judged (known_meaning u k) (expr_of u.exprs e)
