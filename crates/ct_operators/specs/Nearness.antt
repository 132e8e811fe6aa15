-- Which rows of another table are met by a row: those with its key, and those with a null.
use Rattle.std.specs.Prelude.{◌≡◌, ◌⊎◌, ◌≤◌, ℕ, List, [], ◌∷◌, length, map, nat_eq, slice_get, if◌then◌else◌}
use Rattle.std.specs.Borrow.{Bor}
use Rattle.ct_word.specs.declared.values.Term.{Term}
use Rattle.ct_word.specs.declared.values.CRow.{CRow}
use Rattle.ct_word.specs.Value.{World}
use Rattle.ct_word.specs.Constant.{is_constant_word}
use Rattle.ct_join.specs.declared.keys.Key.{Key}
use Rattle.ct_join.specs.declared.keys.Key.TheVariants as key
use Rattle.ct_join.specs.Mixing.{mixed}
use Rattle.ct_operators.specs.Others.{at_places}
use Rattle.ct_operators.specs.Placing.{tuple_of}
use Rattle.ct_operators.specs.Judging.{passes, parts_in, FitsTest, Further, first_words, test_words}
use Rattle.ct_operators.specs.declared.judging.Test.{Test}
use Rattle.ct_operators.specs.declared.judging.Test.TheVariants as test
use Rattle.ct_operators.specs.declared.others.Others.TheVariants as others

-- the number of constants mixed into another, or that there is a null among them
abbrev pub key_from : List ℕ → ℕ → List ℕ → Key
key_from words n [] = key.Constant n
key_from words n (p ∷ ps) = if is_constant_word (slice_get words p) then key_from words (mixed n p) ps else key.Null

-- the key of a row with these cells
abbrev pub row_key : List ℕ → List ℕ → Key
row_key words cells = key_from words 0 cells

-- the rows of another table that a test asks for
abbrev pub rows_in : Test → List CRow
rows_in (test.Among (others.All rs)) = rs.now
rows_in (test.Apart (others.All rs)) = rs.now
rows_in _ = []

-- no keys, or those of all rows that a test asks for
abbrev pub AreKeys : List ℕ → Test → List Key → Type 0
AreKeys words x keys = (keys ≡ []) ⊎ (keys ≡ map (λ r. row_key words r.cells) (rows_in x))

-- a test with those rows alone that stand at these places
abbrev pub at_found : Bor (List ℕ) → Test → Test
at_found ps (test.Among o) = test.Among (at_places ps o)
at_found ps (test.Apart o) = test.Apart (at_places ps o)
at_found ps x = x

abbrev pub narrowed : List Key → Bor (List ℕ) → Test → Test
narrowed keys ps x = if nat_eq (length keys) 0 then x else at_found ps x

-- of a row with these cells, a test asks what another one does
pub record Narrows (words : List ℕ) (width : ℕ) (cells : List ℕ) (whole part : Test) : Type 0 where
  pub fits : FitsTest words width part
  pub passes_as : (v : World) → passes words part v (tuple_of words cells v) ≡ passes words whole v (tuple_of words cells v)
  pub further : (t : Term) → Further words part t → Further words whole t
  pub first : (ws : List ℕ) → first_words ws part ≡ first_words ws whole
  pub most : test_words words width part ≤ test_words words width whole
  pub parts : parts_in part ≡ parts_in whole
