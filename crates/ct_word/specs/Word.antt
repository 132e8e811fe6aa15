-- Words: a kind in the top eight bits, and two fields of 28 bits.
use Rattle.std.specs.Prelude.{ℕ, ◌+◌, ◌-◌, ◌*◌, ◌/◌, ◌%◌, Option, None, nat_eq, List, [], ◌∷◌, slice_get, if◌then◌else◌}
use Rattle.ct_word.specs.declared.kinds.Kind.{Kind}
use Rattle.ct_word.specs.declared.kinds.Kind.TheVariants as kind

-- the code of a kind
abbrev pub code_of : Kind → ℕ
code_of kind.TextEnd = 1
code_of kind.TextCharacter = 2
code_of kind.NumberHigh = 3
code_of kind.Number = 4
code_of kind.TextConstant = 5
code_of kind.NamedNull = 6
code_of kind.FreshNull = 7
code_of kind.OtherValue = 8
code_of kind.Column = 9
code_of kind.True = 10
code_of kind.False = 11
code_of kind.Equal = 12
code_of kind.Not = 13
code_of kind.And = 14
code_of kind.Or = 15
code_of kind.RowEnd = 16
code_of kind.RowCell = 17
code_of kind.ConditionalRow = 18
code_of kind.RowsEnd = 19
code_of kind.Rows = 20
code_of kind.NamesEnd = 21
code_of kind.Names = 22
code_of kind.Create = 23
code_of kind.Insert = 24
code_of kind.Delete = 25
code_of kind.Assert = 26
code_of kind.ChangesEnd = 27
code_of kind.Changes = 28
code_of kind.Commit = 29
code_of kind.Set = 30
code_of kind.SetsEnd = 31
code_of kind.Sets = 32
code_of kind.UpdateBody = 33
code_of kind.Update = 34

-- the word of a kind with two fields
abbrev pub word_of : Kind → ℕ → ℕ → ℕ
word_of k a b = code_of k * 72057594037927936 + a * 268435456 + b

-- all kinds, in the order of their codes
abbrev pub all_kinds : List Kind
all_kinds = kind.TextEnd ∷ kind.TextCharacter ∷ kind.NumberHigh ∷ kind.Number ∷ kind.TextConstant ∷ kind.NamedNull ∷ kind.FreshNull ∷ kind.OtherValue ∷ kind.Column ∷ kind.True ∷ kind.False ∷ kind.Equal ∷ kind.Not ∷ kind.And ∷ kind.Or ∷ kind.RowEnd ∷ kind.RowCell ∷ kind.ConditionalRow ∷ kind.RowsEnd ∷ kind.Rows ∷ kind.NamesEnd ∷ kind.Names ∷ kind.Create ∷ kind.Insert ∷ kind.Delete ∷ kind.Assert ∷ kind.ChangesEnd ∷ kind.Changes ∷ kind.Commit ∷ kind.Set ∷ kind.SetsEnd ∷ kind.Sets ∷ kind.UpdateBody ∷ kind.Update ∷ []

-- the kind with this code
unfoldable pub kind_with : ℕ → Option Kind
kind_with c = if nat_eq c 0 then None else slice_get all_kinds (c - 1)

-- the kind of a word, by its top eight bits
abbrev pub kind_of : ℕ → Option Kind
kind_of w = kind_with (w / 72057594037927936)

-- the left field of a word
abbrev pub left_of : ℕ → ℕ
left_of w = w / 268435456 % 268435456

-- the right field of a word
abbrev pub right_of : ℕ → ℕ
right_of w = w % 268435456
