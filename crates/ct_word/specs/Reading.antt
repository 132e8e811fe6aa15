-- What the words of a log stand for, read from the first word on.
use Rattle.std.specs.Prelude.{ℕ, ℤ, pos, negsuc, ◌+◌, ◌-◌, ◌*◌, ◌/◌, ◌%◌, List, [], ◌∷◌, ◌++◌, map, Option, Some, None, nat_lt, slice_get, if◌then◌else◌, filter_map, encode_utf8}
use Rattle.ct_word.specs.declared.kinds.Kind.{Kind}
use Rattle.ct_word.specs.declared.kinds.Kind.TheVariants as kind
use Rattle.ct_word.specs.declared.values.CRow.{CRow}
use Rattle.ct_word.specs.declared.values.Value.TheVariants as val
use Rattle.ct_word.specs.declared.values.Null.TheVariants as null
use Rattle.ct_word.specs.declared.values.Term.{Term}
use Rattle.ct_word.specs.declared.values.Term.TheVariants as term
use Rattle.ct_word.specs.Value.{other_zero}
use Rattle.ct_word.specs.Condition.{Condition, True, False, Same, Not, both, either}
use Rattle.ct_word.specs.Change.{PlainRow, PlainChange, Create, Insert, Delete, Update, Assert, PlainCommit}
use Rattle.ct_word.specs.Word.{kind_of, left_of, right_of}

-- what a place stands for
pub data Meaning : Type 0 where
  Nothing : Meaning
  IsText : (text : List ℕ) → Meaning
  IsHigh : (high : ℕ) → Meaning
  IsTerm : (t : Term) → Meaning
  IsCond : (c : Condition) → Meaning
  IsRow : (cells : List Term) → Meaning
  IsCondRow : (row : PlainRow) → Meaning
  IsRowList : (rows : List PlainRow) → Meaning
  IsNameList : (names : List (List ℕ)) → Meaning
  IsChange : (change : PlainChange) → Meaning
  IsChangeList : (changes : List PlainChange) → Meaning
  IsCommit : (commit : PlainCommit) → Meaning
  IsSet : (position : ℕ) (t : Term) → Meaning
  IsSetList : (sets : List (ℕ × Term)) → Meaning
  IsUpdateBody : (sets : List (ℕ × Term)) (c : Condition) → Meaning

-- the text, nothing where it is none
abbrev pub as_text : Option Meaning → List ℕ
as_text (Some (IsText t)) = t
as_text _ = []

-- the high bits of a number, 0 where it is none
abbrev pub as_high : Option Meaning → ℕ
as_high (Some (IsHigh h)) = h
as_high _ = 0

-- the term, @0 where it is none
abbrev pub as_term : Option Meaning → Term
as_term (Some (IsTerm t)) = t
as_term _ = term.Value other_zero

-- the condition, False where it is none
abbrev pub as_cond : Option Meaning → Condition
as_cond (Some (IsCond c)) = c
as_cond _ = False

-- the cells, none where it is no row
abbrev pub as_row : Option Meaning → List Term
as_row (Some (IsRow cells)) = cells
as_row _ = []

-- the conditional row, none under False where it is none
abbrev pub as_cond_row : Option Meaning → PlainRow
as_cond_row (Some (IsCondRow row)) = row
as_cond_row _ = record { cells = []; condition = False }

-- the rows, none where it is no list of rows
abbrev pub as_row_list : Option Meaning → List PlainRow
as_row_list (Some (IsRowList rows)) = rows
as_row_list _ = []

-- the names, none where it is no list of names
abbrev pub as_name_list : Option Meaning → List (List ℕ)
as_name_list (Some (IsNameList names)) = names
as_name_list _ = []

-- the change, an assertion of False where it is none
abbrev pub as_change : Option Meaning → PlainChange
as_change (Some (IsChange x)) = x
as_change _ = Assert False

-- the changes, none where it is no list of changes
abbrev pub as_change_list : Option Meaning → List PlainChange
as_change_list (Some (IsChangeList xs)) = xs
as_change_list _ = []

-- the set, of @0 at position 0 where it is none
abbrev pub as_set : Option Meaning → ℕ × Term
as_set (Some (IsSet k t)) = (k, t)
as_set _ = (0, term.Value other_zero)

-- the sets, none where it is no list of sets
abbrev pub as_set_list : Option Meaning → List (ℕ × Term)
as_set_list (Some (IsSetList sets)) = sets
as_set_list _ = []

-- the sets of an update and its condition, none under False where it is none
abbrev pub as_update_body : Option Meaning → List (ℕ × Term) × Condition
as_update_body (Some (IsUpdateBody sets c)) = (sets, c)
as_update_body _ = ([], False)

-- the commit, if it is one
abbrev pub as_commit : Meaning → Option PlainCommit
as_commit (IsCommit c) = Some c
as_commit _ = None

-- the number whose 64 bits in two's complement are these
abbrev pub int_of_bits : ℕ → ℤ
int_of_bits n = if nat_lt n 9223372036854775808 then pos n else negsuc (18446744073709551615 - n)

-- what a word of this kind with these fields stands for, after words that stand for ms
abbrev pub by_kind : Option Kind → List Meaning → ℕ → ℕ → Meaning
by_kind (Some kind.TextEnd) ms a b = IsText []
by_kind (Some kind.TextCharacter) ms a b = IsText (as_text (slice_get ms a) ++ encode_utf8 b)
by_kind (Some kind.NumberHigh) ms a b = IsHigh (a * 268435456 + b)
by_kind (Some kind.Number) ms a b = IsTerm (term.Value (val.Int (int_of_bits (as_high (slice_get ms a) * 256 + b))))
by_kind (Some kind.TextConstant) ms a b = IsTerm (term.Value (val.Text (as_text (slice_get ms a))))
by_kind (Some kind.NamedNull) ms a b = IsTerm (term.Null (null.Named (as_text (slice_get ms a))))
by_kind (Some kind.FreshNull) ms a b = IsTerm (term.Null (null.Fresh a b))
by_kind (Some kind.OtherValue) ms a b = IsTerm (term.Value (val.Other a))
by_kind (Some kind.Column) ms a b = IsTerm (term.Column a)
by_kind (Some kind.True) ms a b = IsCond True
by_kind (Some kind.False) ms a b = IsCond False
by_kind (Some kind.Equal) ms a b = IsCond (Same (as_term (slice_get ms a)) (as_term (slice_get ms b)))
by_kind (Some kind.Not) ms a b = IsCond (Not (as_cond (slice_get ms a)))
by_kind (Some kind.And) ms a b = IsCond (both (as_cond (slice_get ms a)) (as_cond (slice_get ms b)))
by_kind (Some kind.Or) ms a b = IsCond (either (as_cond (slice_get ms a)) (as_cond (slice_get ms b)))
by_kind (Some kind.RowEnd) ms a b = IsRow []
by_kind (Some kind.RowCell) ms a b = IsRow (as_row (slice_get ms a) ++ as_term (slice_get ms b) ∷ [])
by_kind (Some kind.ConditionalRow) ms a b = IsCondRow (record { cells = as_row (slice_get ms a); condition = as_cond (slice_get ms b) })
by_kind (Some kind.RowsEnd) ms a b = IsRowList []
by_kind (Some kind.Rows) ms a b = IsRowList (as_row_list (slice_get ms a) ++ as_cond_row (slice_get ms b) ∷ [])
by_kind (Some kind.NamesEnd) ms a b = IsNameList []
by_kind (Some kind.Names) ms a b = IsNameList (as_name_list (slice_get ms a) ++ as_text (slice_get ms b) ∷ [])
by_kind (Some kind.Create) ms a b = IsChange (Create (as_text (slice_get ms a)) (as_name_list (slice_get ms b)))
by_kind (Some kind.Insert) ms a b = IsChange (Insert (as_text (slice_get ms a)) (as_row_list (slice_get ms b)))
by_kind (Some kind.Delete) ms a b = IsChange (Delete (as_text (slice_get ms a)) (as_cond (slice_get ms b)))
by_kind (Some kind.Assert) ms a b = IsChange (Assert (as_cond (slice_get ms a)))
by_kind (Some kind.ChangesEnd) ms a b = IsChangeList []
by_kind (Some kind.Changes) ms a b = IsChangeList (as_change_list (slice_get ms a) ++ as_change (slice_get ms b) ∷ [])
by_kind (Some kind.Commit) ms a b = IsCommit (record { session = a / 262144; number = a % 262144; changes = as_change_list (slice_get ms b) })
by_kind (Some kind.Set) ms a b = IsSet a (as_term (slice_get ms b))
by_kind (Some kind.SetsEnd) ms a b = IsSetList []
by_kind (Some kind.Sets) ms a b = IsSetList (as_set_list (slice_get ms a) ++ as_set (slice_get ms b) ∷ [])
by_kind (Some kind.UpdateBody) ms a b = IsUpdateBody (as_set_list (slice_get ms a)) (as_cond (slice_get ms b))
by_kind (Some kind.Update) ms a b = IsChange (Update (as_text (slice_get ms a)) (as_update_body (slice_get ms b)).0 (as_update_body (slice_get ms b)).1)
by_kind None ms a b = Nothing

-- what a word stands for, after words that stand for ms
unfoldable pub meaning_of : List Meaning → ℕ → Meaning
meaning_of ms w = by_kind (kind_of w) ms (left_of w) (right_of w)

-- what these words stand for, after words that stand for ms
abbrev pub read : List Meaning → List ℕ → List Meaning
read ms [] = ms
read ms (w ∷ ws) = read (ms ++ meaning_of ms w ∷ []) ws

-- what each place of these words stands for
abbrev pub meanings : List ℕ → List Meaning
meanings words = read [] words

-- the condition that a place stands for
abbrev pub condition_at : List ℕ → ℕ → Condition
condition_at words place = as_cond (slice_get (meanings words) place)

-- the term that a place stands for
abbrev pub term_at : List ℕ → ℕ → Term
term_at words place = as_term (slice_get (meanings words) place)

-- the change list that a place stands for
abbrev pub change_list_at : List ℕ → ℕ → List PlainChange
change_list_at words place = as_change_list (slice_get (meanings words) place)

-- the row that a row of places stands for
abbrev pub plain_crow : List ℕ → CRow → PlainRow
plain_crow words r = record { cells = map (term_at words) r.cells; condition = condition_at words r.cond }

-- the commits in the words, in order
abbrev pub commits_of : List ℕ → List PlainCommit
commits_of words = filter_map as_commit (meanings words)
