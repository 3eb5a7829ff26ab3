-- What a token begins.
use Rattle.std.specs.Prelude.{true}
use Rattle.ada_tree.specs.declared.declarations.DeclKind.{DeclKind}
use Rattle.ada_tree.specs.declared.declarations.DeclKind.TheVariants as decls
use Rattle.ada_tree.specs.declared.statements.StmtKind.{StmtKind}
use Rattle.ada_tree.specs.declared.statements.StmtKind.TheVariants as stmts
use Rattle.ada_tree.specs.declared.units.UnitKind.{UnitKind}
use Rattle.ada_tree.specs.declared.units.UnitKind.TheVariants as units
use Rattle.ada_tree.specs.declared.token.TokenKind.{TokenKind}
use Rattle.ada_tree.specs.declared.token.TokenKind.TheVariants as kinds
use Rattle.ada_tree.specs.declared.words.Reserved.TheVariants as words
use Rattle.ada_tree.specs.declared.forms.StatementForm.{StatementForm}
use Rattle.ada_tree.specs.declared.forms.StatementForm.TheVariants as statements
use Rattle.ada_tree.specs.declared.forms.CompoundForm.{CompoundForm}
use Rattle.ada_tree.specs.declared.forms.CompoundForm.TheVariants as compounds
use Rattle.ada_tree.specs.declared.forms.LocalForm.{LocalForm}
use Rattle.ada_tree.specs.declared.forms.LocalForm.TheVariants as locals
use Rattle.ada_tree.specs.declared.forms.DeclarationForm.{DeclarationForm}
use Rattle.ada_tree.specs.declared.forms.DeclarationForm.TheVariants as declarations
use Rattle.ada_tree.specs.declared.forms.OperationForm.{OperationForm}
use Rattle.ada_tree.specs.declared.forms.OperationForm.TheVariants as operations
use Rattle.ada_tree.specs.declared.forms.FileForm.{FileForm}
use Rattle.ada_tree.specs.declared.forms.FileForm.TheVariants as files

abbrev pub statement_form : TokenKind → StatementForm
statement_form (kinds.Reserved words.Null) = statements.Null
statement_form (kinds.Reserved words.Pragma) = statements.Pragma
statement_form (kinds.Reserved words.If) = statements.If
statement_form (kinds.Reserved words.Case) = statements.Case
statement_form (kinds.Reserved words.While) = statements.While
statement_form (kinds.Reserved words.For) = statements.For
statement_form (kinds.Reserved words.Loop) = statements.Loop
statement_form (kinds.Reserved words.Declare) = statements.Declare
statement_form (kinds.Reserved words.Begin) = statements.Begin
statement_form (kinds.Reserved words.Exit) = statements.Exit
statement_form (kinds.Reserved words.Return) = statements.Return
statement_form (kinds.Reserved words.Delay) = statements.Delay
statement_form k = statements.Named

abbrev pub compound_form : TokenKind → CompoundForm
compound_form (kinds.Reserved words.While) = compounds.While
compound_form (kinds.Reserved words.For) = compounds.For
compound_form (kinds.Reserved words.Loop) = compounds.Loop
compound_form (kinds.Reserved words.Declare) = compounds.Declare
compound_form k = compounds.Begin

abbrev pub local_form : TokenKind → LocalForm
local_form (kinds.Reserved words.Type) = locals.Type
local_form (kinds.Reserved words.Subtype) = locals.Subtype
local_form (kinds.Reserved words.Use) = locals.Use
local_form (kinds.Reserved words.Pragma) = locals.Pragma
local_form k = locals.Object

abbrev pub declaration_form : TokenKind → DeclarationForm
declaration_form (kinds.Reserved words.Procedure) = declarations.Procedure
declaration_form (kinds.Reserved words.Function) = declarations.Function
declaration_form (kinds.Reserved words.Task) = declarations.Task
declaration_form (kinds.Reserved words.Protected) = declarations.Protected
declaration_form k = declarations.Local

abbrev pub operation_form : TokenKind → OperationForm
operation_form (kinds.Reserved words.Procedure) = operations.Procedure
operation_form (kinds.Reserved words.Function) = operations.Function
operation_form (kinds.Reserved words.Entry) = operations.Entry
operation_form (kinds.Reserved words.Pragma) = operations.Pragma
operation_form k = operations.Component

abbrev pub file_form : TokenKind → FileForm
file_form (kinds.Reserved words.Pragma) = files.Pragma
file_form (kinds.Reserved words.With) = files.With
file_form (kinds.Reserved words.Use) = files.Use
file_form (kinds.Reserved words.Package) = files.Package
file_form k = files.Procedure

-- with an end name
abbrev pub named_end : StmtKind → StmtKind
named_end (stmts.Loop label last) = stmts.Loop label true
named_end (stmts.While label last) = stmts.While label true
named_end (stmts.For label last) = stmts.For label true
named_end (stmts.Block label declares last) = stmts.Block label declares true
named_end k = k

abbrev pub declared_end : DeclKind → DeclKind
declared_end (decls.SubprogramBody head last) = decls.SubprogramBody head true
declared_end (decls.Task is_type defined last) = decls.Task is_type defined true
declared_end (decls.TaskBody last) = decls.TaskBody true
declared_end (decls.Protected is_type hides last) = decls.Protected is_type hides true
declared_end (decls.ProtectedBody last) = decls.ProtectedBody true
declared_end (decls.EntryBody formals last) = decls.EntryBody formals true
declared_end k = k

abbrev pub unit_end : UnitKind → UnitKind
unit_end (units.Spec hides last) = units.Spec hides true
unit_end (units.PackageBody acts last) = units.PackageBody acts true
unit_end (units.Main last) = units.Main true
