-- What the texts of a script say that was imported of a CSV file.
use Rattle.std.specs.Prelude.{◌≡◌, ℕ, List, [], ◌∷◌, Option, Ok, IsTrue, IsFalse}
use Rattle.std.specs.List.{AllZip}
use Rattle.ct_word.specs.Names.{is_name}
use Rattle.ct_word.specs.Change.{PlainRow}
use Rattle.ct_lex.specs.declared.token.Token.{Token}
use Rattle.ct_lex.specs.Tokens.{Lexes}
use Rattle.ct_lex.specs.Texts.{texts}
use Rattle.ct_parse.specs.declared.tree.Condition.{Condition}
use Rattle.ct_parse.specs.declared.tree.Row.{Row}
use Rattle.ct_parse.specs.declared.tree.Statement.{Statement}
use Rattle.ct_parse.specs.declared.tree.Statement.TheVariants as statement
use Rattle.ct_parse.specs.Grammar.{said}
use Rattle.ct_parse.specs.Nest.{is_too_deep}
use Rattle.ct_parse.specs.Parses.{Spells}
use Rattle.ct_resolve.specs.Conditions.{condition_or_true}
use Rattle.ct_resolve.specs.Statements.{cells_of, cell_terms}
use Rattle.ct_csv.specs.Importing.{IsImported}

-- a text is read as a statement: it has tokens, which are not too deep and spell it; `ct_session`, which this crate does not
-- stand on, says so of what its sessions read
pub record ReadsAs (text : List ℕ) (tree : Statement) : Type 0 where
  pub tokens : List Token
  pub lexes : Lexes text tokens
  pub shallow : IsFalse (is_too_deep (said tokens))
  pub spells : Spells (said tokens) tree

-- a text makes a table of this name with these columns
pub record Creates (name : List ℕ) (columns : List (List ℕ)) (text : List ℕ) : Type 0 where
  pub first : List ℕ
  pub rest : List (List ℕ)
  pub columns_are : columns ≡ first ∷ rest
  pub read : ReadsAs text (statement.Create name first rest)

-- a text inserts this row into the table: its cells have the row's terms, whatever nulls the session has drawn, and its
-- condition, which may be left out, is the row's
pub record Inserts (name text : List ℕ) (row : PlainRow) : Type 0 where
  pub cells : Row
  pub condition : Option Condition
  pub read : ReadsAs text (statement.InsertRows name cells [] condition)
  pub terms : (session next : ℕ) → cell_terms session next (cells_of cells) ≡ row.cells
  pub means : condition_or_true [] condition ≡ Ok row.condition

-- the statement texts of a script are one that makes the table, and then one for each row that inserts it, in order
pub record MakesTable (script name : List ℕ) (columns : List (List ℕ)) (rows : List PlainRow) : Type 0 where
  pub create : List ℕ
  pub inserts : List (List ℕ)
  pub texts_are : texts script ≡ create ∷ inserts
  pub creates : Creates name columns create
  pub insert_rows : AllZip (Inserts name) inserts rows

-- the law: a script that was imported of a file makes the file's table
abbrev pub MakesTables : Type 0
MakesTables = (name bytes script : List ℕ) → IsTrue (is_name name) → (i : IsImported name bytes script) → MakesTable script name i.columns i.rows
