-- Which rows stay: by a predicate, by a condition, or by the rows of another table.
use Rattle.std.specs.Prelude.{◌≡◌, ◌<◌, ◌+◌, ◌*◌, ℕ, Bool, true, false, not, List, [], length, None, IsTrue, All}
use Rattle.ct_word.specs.declared.kinds.Class.TheVariants as class
use Rattle.ct_word.specs.declared.values.Value.{Value}
use Rattle.ct_word.specs.declared.values.Term.{Term}
use Rattle.ct_word.specs.declared.values.Term.TheVariants as term
use Rattle.ct_word.specs.Value.{World}
use Rattle.ct_word.specs.Condition.{holds}
use Rattle.ct_word.specs.Stands.{TermBelow}
use Rattle.ct_word.specs.Reading.{condition_at}
use Rattle.ct_word.specs.WellFormed.{is_place_of}
use Rattle.ct_query.specs.Bounds.{ops}
use Rattle.ct_query.specs.Database.{has_tuple}
use Rattle.ct_query.specs.Fits.{FitsRows}
use Rattle.ct_query.specs.Pred.{condition_of}
use Rattle.ct_condition.specs.Places.{new_terms}
use Rattle.ct_condition.specs.Rows.{cell_for}
use Rattle.ct_condition.specs.Terms.{IsNamed}
use Rattle.ct_operators.specs.Tables.{value_of_rows, IsRow}
use Rattle.ct_operators.specs.Terms.{TermOfRows, IsNoColumn}
use Rattle.ct_operators.specs.Placing.{ArePartsOf}
use Rattle.ct_operators.specs.Others.{others_of, AreAmong}
use Rattle.ct_operators.specs.declared.judging.Test.{Test}
use Rattle.ct_operators.specs.declared.judging.Test.TheVariants as test

-- whether a tuple passes a test
abbrev pub passes : List ℕ → Test → World → List Value → Bool
passes words (test.Holds p) v t = holds v t (condition_of p.now)
passes words (test.Fails c ps) v t = not (holds v t (condition_at words c))
passes words (test.Among os) v t = has_tuple (value_of_rows words v (others_of os)) t
passes words (test.Apart os) v t = not (has_tuple (value_of_rows words v (others_of os)) t)

-- whether a test asks that a row is worth none of others
abbrev pub is_apart : Test → Bool
is_apart (test.Apart os) = true
is_apart _ = false

-- the places that come with a test
abbrev pub parts_in : Test → List ℕ
parts_in (test.Fails c ps) = ps.now
parts_in _ = []

-- a test is one for rows of this many cells
abbrev pub FitsTest : List ℕ → ℕ → Test → Type 0
FitsTest words width (test.Holds p) = FitsRows width (condition_of p.now)
FitsTest words width (test.Fails c ps) = IsTrue (is_place_of words class.Cond c) × ((k : ℕ) → TermBelow words c (term.Column k) → k < width) × ArePartsOf words c ps.now
FitsTest words width (test.Among os) = All (IsRow words width) (others_of os) × AreAmong os
FitsTest words width (test.Apart os) = All (IsRow words width) (others_of os) × AreAmong os

-- a term that a test puts below a row's condition, beside those of the row
abbrev pub Beside : List ℕ → List ℕ → Test → Term → Type 0
Beside words cells (test.Holds p) t = IsNamed (condition_of p.now) t × (cell_for cells t ≡ None)
Beside words cells (test.Fails c ps) t = TermBelow words c t × (cell_for cells t ≡ None)
Beside words cells (test.Among os) t = TermOfRows words (others_of os) t
Beside words cells (test.Apart os) t = TermOfRows words (others_of os) t

-- a term that a test puts below the conditions of a table, beside those of its rows
abbrev pub Further : List ℕ → Test → Term → Type 0
Further words (test.Holds p) t = IsNamed (condition_of p.now) t × IsNoColumn t
Further words (test.Fails c ps) t = TermBelow words c t × IsNoColumn t
Further words (test.Among os) t = TermOfRows words (others_of os) t
Further words (test.Apart os) t = TermOfRows words (others_of os) t

-- how many words a test takes once, at most
abbrev pub first_words : List ℕ → Test → ℕ
first_words words (test.Holds p) = new_terms words (condition_of p.now)
first_words words _ = 0

-- and for each row of this many cells
abbrev pub test_words : List ℕ → ℕ → Test → ℕ
test_words words width (test.Holds p) = ops (condition_of p.now)
test_words words width (test.Fails c ps) = ops (condition_at words c) + 1
test_words words width (test.Among os) = length (others_of os) * (2 * width + 1)
test_words words width (test.Apart os) = length (others_of os) * (2 * width + 2)
