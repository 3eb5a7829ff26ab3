-- Code with numbers in the place of its leaves.
use Rattle.std.specs.Prelude.{ℕ, Option, Some, None}
use Rattle.spark_base.specs.declared.numbers.LeafNo.{LeafNo}
use Rattle.core_form.specs.Code.{Expr, Exprs, Spot, Spots, NoSpot, AndSpot, Actuals, NoActual, AndActual, Code, Constant, Load, Operation, Choice, Listed, Checked, Nothing, And, At, Skip, Then, Assign, Clear, Branch, Repeat, Exit, Called, Guard, Delay, ReadClock, Stop}

-- each leaf becomes its number
abbrev mutual
  pub renamed : (ℕ → ℕ) → Expr → Expr
  renamed place (Constant n) = Constant n
  renamed place (Load spot at) = Load (renamed_spot place spot) at
  renamed place (Operation op args) = Operation op (renamed_all place args)
  renamed place (Choice test a b) = Choice (renamed place test) (renamed place a) (renamed place b)
  renamed place (Listed parts) = Listed (renamed_all place parts)
  renamed place (Checked e low high) = Checked (renamed place e) low high

  pub renamed_all : (ℕ → ℕ) → Exprs → Exprs
  renamed_all place Nothing = Nothing
  renamed_all place (And e es) = And (renamed place e) (renamed_all place es)

  pub renamed_spot : (ℕ → ℕ) → Spot → Spot
  renamed_spot place (At leaf part whole cells) = At (place leaf) (renamed_all place part) whole cells

abbrev pub renamed_spots : (ℕ → ℕ) → Spots → Spots
renamed_spots place NoSpot = NoSpot
renamed_spots place (AndSpot spot spots) = AndSpot (renamed_spot place spot) (renamed_spots place spots)

abbrev pub renamed_actuals : (ℕ → ℕ) → Actuals → Actuals
renamed_actuals place NoActual = NoActual
renamed_actuals place (AndActual formal values spots at rest) = AndActual formal (renamed_all place values) (renamed_spots place spots) at (renamed_actuals place rest)

abbrev pub renamed_barrier : (ℕ → ℕ) → Option LeafNo → Option LeafNo
renamed_barrier place None = None
renamed_barrier place (Some leaf) = Some (record { 0 = place leaf.0 })

-- a statement
abbrev pub renamed_code : (ℕ → ℕ) → Code → Code
renamed_code place Skip = Skip
renamed_code place (Then a b) = Then (renamed_code place a) (renamed_code place b)
renamed_code place (Assign to e at) = Assign (renamed_spot place to) (renamed place e) at
renamed_code place (Clear leaf) = Clear (place leaf)
renamed_code place (Branch e a b) = Branch (renamed place e) (renamed_code place a) (renamed_code place b)
renamed_code place (Repeat a) = Repeat (renamed_code place a)
renamed_code place (Exit o) = Exit o
renamed_code place (Called b actuals at) = Called b (renamed_actuals place actuals) at
renamed_code place (Guard o barrier c) = Guard o (renamed_barrier place barrier) (renamed_code place c)
renamed_code place (Delay e) = Delay (renamed place e)
renamed_code place (ReadClock to) = ReadClock (renamed_spot place to)
renamed_code place Stop = Stop
