-- Well formed lists of words: each a word of the table, fields of their classes at earlier places, no word twice.
use Rattle.std.specs.Prelude.{ℕ, Bool, true, false, not, ◌&&◌, ◌||◌, List, [], ◌∷◌, ◌++◌, Option, Some, None, nat_eq, nat_lt, nat_le, slice_get, IsTrue}
use Rattle.std.specs.List.{list_any}
use Rattle.ct_word.specs.declared.kinds.Kind.{Kind}
use Rattle.ct_word.specs.declared.kinds.Kind.TheVariants as kind
use Rattle.ct_word.specs.declared.kinds.Class.{Class}
use Rattle.ct_word.specs.declared.kinds.Class.TheVariants as class
use Rattle.ct_word.specs.Word.{kind_of, left_of, right_of}

-- the class of a kind
abbrev pub class_of : Kind → Class
class_of kind.TextEnd = class.Text
class_of kind.TextCharacter = class.Text
class_of kind.NumberHigh = class.High
class_of kind.Number = class.Term
class_of kind.TextConstant = class.Term
class_of kind.NamedNull = class.Term
class_of kind.FreshNull = class.Term
class_of kind.OtherValue = class.Term
class_of kind.Column = class.Term
class_of kind.True = class.Cond
class_of kind.False = class.Cond
class_of kind.Equal = class.Cond
class_of kind.Not = class.Cond
class_of kind.And = class.Cond
class_of kind.Or = class.Cond
class_of kind.RowEnd = class.Row
class_of kind.RowCell = class.Row
class_of kind.ConditionalRow = class.CondRow
class_of kind.RowsEnd = class.RowList
class_of kind.Rows = class.RowList
class_of kind.NamesEnd = class.NameList
class_of kind.Names = class.NameList
class_of kind.Create = class.Change
class_of kind.Insert = class.Change
class_of kind.Delete = class.Change
class_of kind.Assert = class.Change
class_of kind.ChangesEnd = class.ChangeList
class_of kind.Changes = class.ChangeList
class_of kind.Commit = class.Commit
class_of kind.Set = class.Set
class_of kind.SetsEnd = class.SetList
class_of kind.Sets = class.SetList
class_of kind.UpdateBody = class.UpdateBody
class_of kind.Update = class.Change

-- what the table asks of a field
pub data Field : Type 0 where
  Zero : Field
  Any : Field
  Byte : Field
  Scalar : Field
  Session : Field
  Positive : Field
  PlaceOf : (c : Class) → Field

-- the fields of a kind, left and right
abbrev pub fields_of : Kind → Field × Field
fields_of kind.TextEnd = (Zero, Zero)
fields_of kind.TextCharacter = (PlaceOf class.Text, Scalar)
fields_of kind.NumberHigh = (Any, Any)
fields_of kind.Number = (PlaceOf class.High, Byte)
fields_of kind.TextConstant = (PlaceOf class.Text, Zero)
fields_of kind.NamedNull = (PlaceOf class.Text, Zero)
fields_of kind.FreshNull = (Session, Positive)
fields_of kind.OtherValue = (Any, Zero)
fields_of kind.Column = (Any, Zero)
fields_of kind.True = (Zero, Zero)
fields_of kind.False = (Zero, Zero)
fields_of kind.Equal = (PlaceOf class.Term, PlaceOf class.Term)
fields_of kind.Not = (PlaceOf class.Cond, Zero)
fields_of kind.And = (PlaceOf class.Cond, PlaceOf class.Cond)
fields_of kind.Or = (PlaceOf class.Cond, PlaceOf class.Cond)
fields_of kind.RowEnd = (Zero, Zero)
fields_of kind.RowCell = (PlaceOf class.Row, PlaceOf class.Term)
fields_of kind.ConditionalRow = (PlaceOf class.Row, PlaceOf class.Cond)
fields_of kind.RowsEnd = (Zero, Zero)
fields_of kind.Rows = (PlaceOf class.RowList, PlaceOf class.CondRow)
fields_of kind.NamesEnd = (Zero, Zero)
fields_of kind.Names = (PlaceOf class.NameList, PlaceOf class.Text)
fields_of kind.Create = (PlaceOf class.Text, PlaceOf class.NameList)
fields_of kind.Insert = (PlaceOf class.Text, PlaceOf class.RowList)
fields_of kind.Delete = (PlaceOf class.Text, PlaceOf class.Cond)
fields_of kind.Assert = (PlaceOf class.Cond, Zero)
fields_of kind.ChangesEnd = (Zero, Zero)
fields_of kind.Changes = (PlaceOf class.ChangeList, PlaceOf class.Change)
fields_of kind.Commit = (Any, PlaceOf class.ChangeList)
fields_of kind.Set = (Any, PlaceOf class.Term)
fields_of kind.SetsEnd = (Zero, Zero)
fields_of kind.Sets = (PlaceOf class.SetList, PlaceOf class.Set)
fields_of kind.UpdateBody = (PlaceOf class.SetList, PlaceOf class.Cond)
fields_of kind.Update = (PlaceOf class.Text, PlaceOf class.UpdateBody)

-- the kinds whose right field is a greater place than the left one
abbrev pub is_ordered : Kind → Bool
is_ordered kind.Equal = true
is_ordered kind.And = true
is_ordered kind.Or = true
is_ordered _ = false

-- whether two classes are the same
abbrev pub same_class : Class → Class → Bool
same_class class.Text class.Text = true
same_class class.High class.High = true
same_class class.Term class.Term = true
same_class class.Cond class.Cond = true
same_class class.Row class.Row = true
same_class class.CondRow class.CondRow = true
same_class class.RowList class.RowList = true
same_class class.NameList class.NameList = true
same_class class.Change class.Change = true
same_class class.ChangeList class.ChangeList = true
same_class class.Commit class.Commit = true
same_class class.Set class.Set = true
same_class class.SetList class.SetList = true
same_class class.UpdateBody class.UpdateBody = true
same_class _ _ = false

-- whether a word of this kind is of a class
abbrev pub has_class : Option Kind → Class → Bool
has_class (Some k) c = same_class (class_of k) c
has_class None c = false

-- whether this is a word of a class
abbrev pub is_word_of : Option ℕ → Class → Bool
is_word_of (Some w) c = has_class (kind_of w) c
is_word_of None c = false

-- whether a place of these words is of a class
abbrev pub is_place_of : List ℕ → Class → ℕ → Bool
is_place_of words c place = is_word_of (slice_get words place) c

-- whether a field is as the table asks, after these words
abbrev pub fits : List ℕ → Field → ℕ → Bool
fits before Zero n = nat_eq n 0
fits before Any n = true
fits before Byte n = nat_lt n 256
fits before Scalar n = nat_lt n 55296 || (nat_le 57344 n && nat_lt n 1114112)
fits before Session n = nat_le 1 n && nat_le n 1023
fits before Positive n = nat_le 1 n
fits before (PlaceOf c) n = is_place_of before c n

-- whether this is a word of the kind with fields as the table asks, after these words
abbrev pub is_formed_as : Option Kind → List ℕ → ℕ → ℕ → Bool
is_formed_as (Some k) before a b =
    fits before (fields_of k).0 a && fits before (fields_of k).1 b && (not (is_ordered k) || nat_lt a b)
is_formed_as None before a b = false

-- whether this is a word that may follow these
unfoldable pub is_word_after : List ℕ → ℕ → Bool
is_word_after before w = is_formed_as (kind_of w) before (left_of w) (right_of w) && not (list_any (nat_eq w) before)

-- whether this is a word of the table over these words, whether or not it stands among them
unfoldable pub is_word_over : List ℕ → ℕ → Bool
is_word_over words w = is_formed_as (kind_of w) words (left_of w) (right_of w)

-- whether this is the word of a commit
unfoldable pub is_commit_word : ℕ → Bool
is_commit_word w = has_class (kind_of w) class.Commit

-- whether this is a word over these words that is no commit
abbrev pub is_plain_word : List ℕ → ℕ → Bool
is_plain_word words w = is_word_over words w && not (is_commit_word w)

-- whether each word may follow those before it
abbrev pub each_follows : List ℕ → List ℕ → Bool
each_follows before [] = true
each_follows before (w ∷ ws) = is_word_after before w && each_follows (before ++ w ∷ []) ws

-- well formed: each is a word of the table with fields as it asks, and no word stands twice
abbrev pub IsWellFormed : List ℕ → Type 0
IsWellFormed words = IsTrue (each_follows [] words)
