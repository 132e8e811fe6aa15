-- What the change of an action is in a change list, and how many words it is put by.
use Rattle.std.specs.Prelude.{◌≡◌, ◌≤◌, ◌<◌, ◌^◌, ◌+◌, ℕ, List, [], ◌∷◌, ◌++◌, map, length, sum_by, All, IsTrue}
use Rattle.std.specs.List.{Contains}
use Rattle.ct_word.specs.declared.kinds.Class.TheVariants as class
use Rattle.ct_word.specs.declared.values.CRow.{CRow}
use Rattle.ct_word.specs.declared.values.Term.{Term}
use Rattle.ct_word.specs.Condition.{Condition, True, SameTruth}
use Rattle.ct_word.specs.Change.{PlainRow, PlainChange, Insert, Delete, Update, Assert}
use Rattle.ct_word.specs.Reading.{IsChangeList, change_list_at, condition_at, plain_crow}
use Rattle.ct_word.specs.Stands.{StandsAt}
use Rattle.ct_word.specs.WellFormed.{is_place_of}
use Rattle.ct_query.specs.Plain as plain
use Rattle.ct_query.specs.Plain.{PlainAction}
use Rattle.ct_query.specs.Agrees.{AgreesWith}
use Rattle.ct_query.specs.Bounds.{ops, terms, columns_named, characters, column_words, literal_words}
use Rattle.ct_query.specs.Fields.{FitsFields, AreFittingOn}
use Rattle.ct_query.specs.Fits.{FitsCell, FitsRows}
use Rattle.ct_query.specs.Terms.{condition_terms, change_terms, action_terms}

-- what is asked of an action: its terms and positions are numbers that a word has room for, and columns stand in deletions and
-- updates alone
abbrev pub IsEncodable : PlainAction → Type 0
IsEncodable (plain.Create name columns) = Unit {0}
IsEncodable (plain.InsertRows name rs c) = All (All FitsCell) rs × FitsRows 0 c
IsEncodable (plain.InsertQuery name q) = Unit {0}
IsEncodable (plain.Delete name c) = AreFittingOn 0 c
IsEncodable (plain.Update name sets c) = All (λ s. (s.0 < 2 ^ 28) × FitsFields s.1) sets × AreFittingOn 0 c
IsEncodable (plain.Assert c) = FitsRows 0 c
IsEncodable (plain.AssertQuery wanted q) = Unit {0}
IsEncodable (plain.AssertKey name columns) = Unit {0}

-- the rows that are handed in with an action: for an assertion over a query or a key one row, whose condition is asserted
abbrev pub AreHanded : PlainAction → List CRow → Type 0
AreHanded (plain.AssertQuery wanted q) rows = 0 < length rows
AreHanded (plain.AssertKey name columns) rows = 0 < length rows
AreHanded a rows = Unit {0}

-- the condition at a place has a predicate's truth at every valuation and row, none but its terms and no more operations
pub record IsConditionOf (words : List ℕ) (place : ℕ) (p : Condition) : Type 0 where
  pub class : IsTrue (is_place_of words class.Cond place)
  pub small : place < 2 ^ 28
  pub truth : SameTruth (condition_at words place) p
  pub from : (t : Term) → Contains (condition_terms (condition_at words place)) t → Contains (condition_terms p) t
  pub few : ops (condition_at words place) ≤ ops p

-- the assertion of the first row's condition
abbrev pub asserted_by : List PlainRow → PlainChange
asserted_by [] = Assert True
asserted_by (r ∷ rs) = Assert r.condition

-- a change is that of an action: an insertion from a query is the insertion of exactly these rows, an assertion over a query
-- or a key asserts exactly the first row's condition, and every other change agrees with its action
abbrev pub IsChangeFor : PlainAction → List PlainRow → PlainChange → Type 0
IsChangeFor (plain.InsertQuery name q) rows x = x ≡ Insert name rows
IsChangeFor (plain.AssertQuery wanted q) rows x = x ≡ asserted_by rows
IsChangeFor (plain.AssertKey name columns) rows x = x ≡ asserted_by rows
IsChangeFor a rows x = AgreesWith [] [] a x

-- the terms of a change are those of its action, or of the rows that were handed in
abbrev pub HasTermsOf : PlainAction → List PlainRow → PlainChange → Type 0
HasTermsOf (plain.InsertQuery name q) rows x = (t : Term) → Contains (change_terms x) t → Contains (change_terms (Insert name rows)) t
HasTermsOf (plain.AssertQuery wanted q) rows x = (t : Term) → Contains (change_terms x) t → Contains (change_terms (asserted_by rows)) t
HasTermsOf (plain.AssertKey name columns) rows x = (t : Term) → Contains (change_terms x) t → Contains (change_terms (asserted_by rows)) t
HasTermsOf a rows x = (t : Term) → Contains (change_terms x) t → Contains (action_terms a) t

-- the conditions of a change have no more operations than the predicate of its action
abbrev pub HasOpsOf : PlainAction → PlainChange → Type 0
HasOpsOf (plain.InsertRows name rs p) (Insert name' rs') = All (λ r. ops r.condition ≤ ops p) rs'
HasOpsOf (plain.Delete name p) (Delete name' c) = ops c ≤ ops p
HasOpsOf (plain.Update name sets p) (Update name' sets' c) = ops c ≤ ops p
HasOpsOf (plain.Assert p) (Assert c) = ops c ≤ ops p
HasOpsOf _ _ = Unit {0}

-- a place stands for a change list with the change of an action added
pub record Adds (old new : List ℕ) (list place : ℕ) (a : PlainAction) (rows : List CRow) : Type 0 where
  pub change : PlainChange
  pub list_is : StandsAt new place (IsChangeList (change_list_at old list ++ change ∷ []))
  pub does : IsChangeFor a (map (plain_crow old) rows) change
  pub from : HasTermsOf a (map (plain_crow old) rows) change
  pub few : HasOpsOf a change

-- the words of a name in a list
abbrev pub name_words : List ℕ → ℕ
name_words n = characters n + 2

-- the words of a row of places
abbrev pub row_words : CRow → ℕ
row_words r = length r.cells + 2

-- the words of a row of terms
abbrev pub term_row_words : List Term → ℕ
term_row_words r = sum_by literal_words r + length r + 2

-- the words of a set: those of its term, its own, and that of the list
abbrev pub set_words : ℕ × Term → ℕ
set_words s = literal_words s.1 + column_words s.1 + 2

-- the words of a condition as it is written
abbrev pub condition_words : Condition → ℕ
condition_words c = terms c + columns_named c + ops c

-- the words of an action's change in a list, those of a query left out
abbrev pub encode_words : PlainAction → List CRow → ℕ
encode_words (plain.Create name columns) rows = sum_by name_words (name ∷ columns) + 2
encode_words (plain.InsertRows name rs c) rows =
    sum_by (sum_by literal_words) rs + terms c + ops c + sum_by (λ r. length r + 2) rs + characters name + 5
encode_words (plain.InsertQuery name q) rows = sum_by row_words rows + characters name + 5
encode_words (plain.Delete name c) rows = terms c + ops c + columns_named c + characters name + 3
encode_words (plain.Update name sets c) rows = sum_by set_words sets + terms c + ops c + columns_named c + characters name + 5
encode_words (plain.Assert c) rows = terms c + ops c + 2
encode_words (plain.AssertQuery wanted q) rows = 2
encode_words (plain.AssertKey name columns) rows = 2
