-- What one change does to tables and to the global condition.
use Rattle.std.specs.Prelude.{◌≡◌, ◌⊎◌, ℕ, ◌+◌, ◌*◌, not, List, [], ◌∷◌, ◌++◌, length, map, filter, Option, Some, None, All}
use Rattle.ct_word.specs.declared.values.CRow.{CRow}
use Rattle.ct_word.specs.Value.{World}
use Rattle.ct_word.specs.Condition.{holds}
use Rattle.ct_word.specs.Sublist.{IsSublist}
use Rattle.ct_word.specs.Change.{PlainChange, Create, Insert, Delete, Update, Assert}
use Rattle.ct_word.specs.Reading.{condition_at}
use Rattle.ct_word.specs.Stands.{TermBelow, HasNoColumn}
use Rattle.ct_query.specs.Bounds.{ops}
use Rattle.ct_query.specs.Database.{SameSet}
use Rattle.ct_query.specs.Updates.{updated, with_updated}
use Rattle.ct_condition.specs.Truth.{HasTruth, and_at}
use Rattle.ct_condition.specs.Terms.{TermsFrom, BelowEither, BelowSome}
use Rattle.ct_history.specs.declared.written.Written.{Written}
use Rattle.ct_history.specs.Written.{plain_set}
use Rattle.ct_history.specs.declared.written.Written.TheVariants as written
use Rattle.ct_table.specs.Denotes.{TableView, find_table, with_table}
use Rattle.ct_table.specs.Pending.{FitsGrowth, after}
use Rattle.ct_operators.specs.Tables.{IsRow, AreRows, cells_of, value_of_rows}
use Rattle.ct_operators.specs.Terms.{TermOfRows, RowsFrom, IsNoColumn}
use Rattle.ct_keeper.specs.declared.effects.Effect.{Effect}
use Rattle.ct_keeper.specs.declared.effects.Effect.TheVariants as effect

-- tables after an effect
abbrev pub tables_after : List TableView → Effect → List TableView
tables_after db (effect.Grows growth) = after db growth
tables_after db (effect.Narrows place) = db

-- the place of the global condition after an effect
abbrev pub global_after : ℕ → Effect → ℕ
global_after global (effect.Grows growth) = global
global_after global (effect.Narrows place) = place

-- an effect is one that these tables can have
abbrev pub FitsEffect : List TableView → Effect → Type 0
FitsEffect db (effect.Grows growth) = FitsGrowth db growth
FitsEffect db (effect.Narrows place) = Unit {0}

-- a new table without rows
abbrev pub new_table : List ℕ → List (List ℕ) → TableView
new_table name columns = record { name = name; columns = columns; rows = [] }

-- a table with other rows
abbrev pub rows_of_table : TableView → List CRow → TableView
rows_of_table t rows = record { name = t.name; columns = t.columns; rows = rows }

-- rows and further ones, rows of the same cells being one
pub record AreInserted (old new : List ℕ) (width : ℕ) (rows more after : List CRow) : Type 0 where
  pub each : All (IsRow old width) more
  pub are : AreRows new width after
  pub tuples : (v : World) → SameSet (value_of_rows new v after) (value_of_rows old v rows ++ value_of_rows old v more)
  pub part : IsSublist (cells_of new after) (cells_of old rows ++ cells_of old more)
  pub terms : RowsFrom new after (TermOfRows old (rows ++ more))

-- rows where a condition does not hold for them
pub record AreSpared (old new : List ℕ) (width cond : ℕ) (rows after : List CRow) : Type 0 where
  pub are : AreRows new width after
  pub tuples : (v : World) → SameSet (value_of_rows new v after) (filter (λ t. not (holds v t (condition_at old cond))) (value_of_rows old v rows))
  pub part : IsSublist (cells_of new after) (cells_of old rows)
  pub terms : RowsFrom new after (λ t. TermOfRows old rows t ⊎ (TermBelow old cond t × IsNoColumn t))

-- rows with sets made on them where a condition holds for them
pub record AreUpdated (old new : List ℕ) (width : ℕ) (sets : List (ℕ × ℕ)) (cond : ℕ) (rows after : List CRow) : Type 0 where
  pub are : AreRows new width after
  pub tuples : (v : World) → SameSet (value_of_rows new v after) (updated v (condition_at old cond) (map (plain_set old) sets) (value_of_rows old v rows))
  pub part : IsSublist (cells_of new after) (with_updated (map (plain_set old) sets) (cells_of old rows))
  pub terms : RowsFrom new after (λ t. TermOfRows old rows t ⊎ (BelowSome old (cond ∷ map (λ s. s.1) sets) t × IsNoColumn t))

-- a place holds the And of the global condition and a further one, in which no column stands
pub record IsNarrowed (old new : List ℕ) (global cond place : ℕ) : Type 0 where
  pub truth : HasTruth new place (and_at old global cond)
  pub terms : TermsFrom new place (BelowEither old global cond)
  pub plain : HasNoColumn old cond

-- the table that is changed gets other rows, of which this is true
pub record Gets (db tables : List TableView) (found : Option TableView) (P : TableView → List CRow → Type 0) : Type 0 where
  pub table : TableView
  pub rows : List CRow
  pub is_found : found ≡ Some table
  pub after_is : tables ≡ with_table db (rows_of_table table rows)
  pub true_of : P table rows

-- an effect is that of a change
abbrev pub DoesChange : List ℕ → List ℕ → List TableView → ℕ → Written → Effect → Type 0
DoesChange old new db global (written.Create name columns) (effect.Grows growth) =
    (find_table db name ≡ None) × (after db growth ≡ db ++ new_table name columns ∷ [])
DoesChange old new db global (written.Insert name more) (effect.Grows growth) =
    Gets db (after db growth) (find_table db name) (λ t rows. AreInserted old new (length t.columns) t.rows more rows)
DoesChange old new db global (written.Delete name cond) (effect.Grows growth) =
    Gets db (after db growth) (find_table db name) (λ t rows. AreSpared old new (length t.columns) cond t.rows rows)
DoesChange old new db global (written.Update name sets cond) (effect.Grows growth) =
    Gets db (after db growth) (find_table db name) (λ t rows. AreUpdated old new (length t.columns) sets cond t.rows rows)
DoesChange old new db global (written.Assert cond) (effect.Narrows place) = IsNarrowed old new global cond place
DoesChange old new db global _ _ = ⊥

-- how many rows a table has; none where it is not there
abbrev pub rows_found : Option TableView → ℕ
rows_found (Some t) = length t.rows
rows_found None = 0

-- how many words a change makes at most where it is applied to tables
abbrev pub effect_words : List TableView → PlainChange → ℕ
effect_words db (Create name columns) = 0
effect_words db (Insert name more) = length more
effect_words db (Delete name c) = rows_found (find_table db name) * (ops c + 2)
effect_words db (Update name sets c) = rows_found (find_table db name) * (ops c + 5)
effect_words db (Assert c) = 1
