-- What places of changes and of their parts stand for.
use Rattle.std.specs.Prelude.{◌≡◌, ℕ, List, Some, IsTrue, slice_get}
use Rattle.ct_word.{specs.declared.kinds.Kind.Kind, specs.declared.values.Term.Term, specs.Change.{PlainRow, PlainChange, Create, Insert, Delete, Update, Assert}}
use Rattle.ct_word.{specs.Reading.{meanings, as_row, as_cond_row, as_row_list, as_name_list, as_set, as_set_list, as_update_body, as_change, by_kind, condition_at}, specs.WellFormed.is_place_of}
use Rattle.ct_word.specs.WordAt.{text_at}
use Rattle.ct_history.specs.declared.words.ChangeWord.{ChangeWord}
use Rattle.ct_word.specs.declared.kinds.Class.TheVariants as class
use Rattle.ct_history.specs.declared.words.ChangeWord.TheVariants as parts

-- the change that a place stands for
abbrev pub change_at : List ℕ → ℕ → PlainChange
change_at words place = as_change (slice_get (meanings words) place)

-- the change that the word of a kind with these fields stands for, put behind the words
abbrev pub change_of : List ℕ → Kind → ℕ → ℕ → PlainChange
change_of words k a b = as_change (Some (by_kind (Some k) (meanings words) a b))

-- the names that a place stands for
abbrev pub names_at : List ℕ → ℕ → List (List ℕ)
names_at words place = as_name_list (slice_get (meanings words) place)

-- the rows that a place stands for
abbrev pub rows_at : List ℕ → ℕ → List PlainRow
rows_at words place = as_row_list (slice_get (meanings words) place)

-- the row under its condition that a place stands for
abbrev pub cond_row_at : List ℕ → ℕ → PlainRow
cond_row_at words place = as_cond_row (slice_get (meanings words) place)

-- the set that a place stands for
abbrev pub set_at : List ℕ → ℕ → ℕ × Term
set_at words place = as_set (slice_get (meanings words) place)

-- the sets that a place stands for
abbrev pub sets_at : List ℕ → ℕ → List (ℕ × Term)
sets_at words place = as_set_list (slice_get (meanings words) place)

-- the cells that a place stands for
abbrev pub cells_at : List ℕ → ℕ → List Term
cells_at words place = as_row (slice_get (meanings words) place)

-- the body of an update at a place has its sets and its condition at these places
abbrev pub IsBodyOf : List ℕ → ℕ → ℕ → ℕ → Type 0
IsBodyOf words place sets cond =
    (as_update_body (slice_get (meanings words) place) ≡ (sets_at words sets, condition_at words cond))
    × IsTrue (is_place_of words class.SetList sets) × IsTrue (is_place_of words class.Cond cond)

-- a place stands for a change of these parts, places of their classes
abbrev pub IsChangeOf : List ℕ → ℕ → ChangeWord → Type 0
IsChangeOf words place (parts.Create name columns) =
    (change_at words place ≡ Create (text_at words name) (names_at words columns)) × IsTrue (is_place_of words class.Text name) × IsTrue (is_place_of words class.NameList columns)
IsChangeOf words place (parts.Insert name rows) =
    (change_at words place ≡ Insert (text_at words name) (rows_at words rows)) × IsTrue (is_place_of words class.Text name) × IsTrue (is_place_of words class.RowList rows)
IsChangeOf words place (parts.Delete name cond) =
    (change_at words place ≡ Delete (text_at words name) (condition_at words cond)) × IsTrue (is_place_of words class.Text name) × IsTrue (is_place_of words class.Cond cond)
IsChangeOf words place (parts.Update name sets cond) =
    (change_at words place ≡ Update (text_at words name) (sets_at words sets) (condition_at words cond))
    × IsTrue (is_place_of words class.Text name) × IsTrue (is_place_of words class.SetList sets) × IsTrue (is_place_of words class.Cond cond)
IsChangeOf words place (parts.Assert cond) = (change_at words place ≡ Assert (condition_at words cond)) × IsTrue (is_place_of words class.Cond cond)
