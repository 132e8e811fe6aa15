-- Changes as places.
use Rattle.std.specs.Prelude.{ℕ, List, map, All, IsTrue}
use Rattle.ct_word.specs.declared.kinds.Class.TheVariants as class
use Rattle.ct_word.specs.declared.values.Term.{Term}
use Rattle.ct_word.specs.Change.{PlainChange, Create, Insert, Delete, Update, Assert}
use Rattle.ct_word.specs.Reading.{condition_at, plain_crow, term_at}
use Rattle.ct_word.specs.WellFormed.{is_place_of}
use Rattle.ct_history.specs.declared.written.Written.{Written}
use Rattle.ct_history.specs.declared.written.Written.TheVariants as written
use Rattle.ct_history.specs.Rows.{IsRowOf}

-- the set that a position and a place of a term stand for
abbrev pub plain_set : List ℕ → ℕ × ℕ → ℕ × Term
plain_set words s = (s.0, term_at words s.1)

-- the change that places stand for
abbrev pub plain_written : List ℕ → Written → PlainChange
plain_written words (written.Create name columns) = Create name columns
plain_written words (written.Insert name rows) = Insert name (map (plain_crow words) rows)
plain_written words (written.Delete name cond) = Delete name (condition_at words cond)
plain_written words (written.Update name sets cond) = Update name (map (plain_set words) sets) (condition_at words cond)
plain_written words (written.Assert cond) = Assert (condition_at words cond)

-- its places are of their classes
abbrev pub IsWritten : List ℕ → Written → Type 0
IsWritten words (written.Create name columns) = Unit {0}
IsWritten words (written.Insert name rows) = All (IsRowOf words) rows
IsWritten words (written.Delete name cond) = IsTrue (is_place_of words class.Cond cond)
IsWritten words (written.Update name sets cond) = All (λ s. IsTrue (is_place_of words class.Term s.1)) sets × IsTrue (is_place_of words class.Cond cond)
IsWritten words (written.Assert cond) = IsTrue (is_place_of words class.Cond cond)
