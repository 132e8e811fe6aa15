-- What a CSV file of a table says. `shown_rows` has the tuples of those rows whose condition holds at a valuation.
use Rattle.std.specs.Prelude.{◌≡◌, ℕ, List, [], ◌∷◌, map, drop, Some}
use Rattle.ct_word.specs.Change.{PlainRow}
use Rattle.ct_lex.specs.declared.token.Token.{Token}
pub use Rattle.ct_query.specs.Step.{shown_rows}
use Rattle.ct_csv.specs.Csv.{IsCsv}
use Rattle.ct_csv.specs.Fields.{cell_fields, condition_field, header, cell_of, HasCondition}

-- a record has a field for each cell of the row, and then one for its condition
pub record SaysRow (fields : List (List ℕ)) (row : PlainRow) : Type 0 where
  pub cells : map cell_of (cell_fields fields) ≡ map Some row.cells
  pub tokens : List Token
  pub condition : HasCondition (condition_field fields) tokens row.condition

-- the records below the first say the rows, in order
abbrev pub SayRows : List (List (List ℕ)) → List PlainRow → Type 0
SayRows [] [] = Unit {0}
SayRows (fields ∷ records) (row ∷ rows) = SaysRow fields row × SayRows records rows
SayRows _ _ = ⊥

-- the bytes are a file with these columns and these rows
pub record IsFile (bytes : List ℕ) (columns : List (List ℕ)) (rows : List PlainRow) : Type 0 where
  pub records : List (List (List ℕ))
  pub csv : IsCsv bytes records
  pub names : header records ≡ Some columns
  pub says : SayRows (drop 1 records) rows
