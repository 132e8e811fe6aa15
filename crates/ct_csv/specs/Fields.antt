-- What the fields of a record say: names of columns, terms and a condition.
use Rattle.std.specs.Prelude.{◌≡◌, ℕ, ◌-◌, Bool, false, List, [], ◌∷◌, length, take, slice_index_or, Option, Some, None, Ok, Err, IsFalse, codes, if◌then◌else◌}
use Rattle.std.specs.List.{list_any}
use Rattle.ct_word.specs.declared.values.Value.TheVariants as val
use Rattle.ct_word.specs.declared.values.Null.TheVariants as null
use Rattle.ct_word.specs.declared.values.Term.{Term}
use Rattle.ct_word.specs.declared.values.Term.TheVariants as term
use Rattle.ct_word.specs.Value.{same_text}
use Rattle.ct_word.specs.Names.{is_name}
use Rattle.ct_word.specs.Condition.{Condition, True}
use Rattle.ct_lex.specs.declared.token.Lexeme.{Lexeme}
use Rattle.ct_lex.specs.declared.token.Lexeme.TheVariants.{Word, Number, Text, Null, Symbol}
use Rattle.ct_lex.specs.declared.token.Token.{Token}
use Rattle.ct_lex.specs.Spelling.{lowered}
use Rattle.ct_lex.specs.Reading.{Read, read}
use Rattle.ct_parse.specs.declared.tree.Condition as parsed
use Rattle.ct_parse.specs.Grammar.{said}
use Rattle.ct_parse.specs.Nest.{is_too_deep}
use Rattle.ct_parse.specs.Parses.{SpellsCondition}
use Rattle.ct_resolve.specs.Conditions.{condition_at}

-- the fields of a record but the last
abbrev pub cell_fields : List (List ℕ) → List (List ℕ)
cell_fields fields = take (length fields - 1) fields

-- the last field of a record
abbrev pub condition_field : List (List ℕ) → List ℕ
condition_field fields = slice_index_or fields (length fields - 1) []

-- the name that a whole field is, in lower case
abbrev pub field_name : List ℕ → Option (List ℕ)
field_name field = if is_name (lowered field) then Some (lowered field) else None

-- a name in front of names
abbrev pub before_names : Option (List ℕ) → Option (List (List ℕ)) → Option (List (List ℕ))
before_names (Some n) (Some ns) = Some (n ∷ ns)
before_names _ _ = None

-- the names that the fields are
abbrev pub names_of : List (List ℕ) → Option (List (List ℕ))
names_of [] = Some []
names_of (field ∷ fields) = before_names (field_name field) (names_of fields)

-- these, where there is one
abbrev pub some_of : Option (List (List ℕ)) → Option (List (List ℕ))
some_of (Some (n ∷ ns)) = Some (n ∷ ns)
some_of _ = None

-- the columns that a first record names: one or more names, and then the two bytes `if`
abbrev pub columns_of : List (List ℕ) → Option (List (List ℕ))
columns_of fields = if same_text (condition_field fields) (codes "if") then some_of (names_of (cell_fields fields)) else None

-- the columns of a file, by its first record
abbrev pub header : List (List (List ℕ)) → Option (List (List ℕ))
header [] = None
header (fields ∷ records) = columns_of fields

-- the term of a number, a text or a marked null
abbrev pub term_of : Lexeme → Option Term
term_of (Number i) = Some (term.Value (val.Int i))
term_of (Text t) = Some (term.Value (val.Text t))
term_of (Null n) = Some (term.Null (null.Named n))
term_of (Word n) = None
term_of (Symbol s) = None

-- the tokens that are read, where there is no fault
abbrev pub found : Read → Option (List Token)
found (Ok ts) = Some ts
found (Err e) = None

-- the term of tokens, where they are one token
abbrev pub term_alone : Option (List Token) → Option Term
term_alone (Some (t ∷ [])) = term_of t.word
term_alone _ = None

-- the term of a cell's field: one token; there may be blanks and comments beside it
abbrev pub cell_of : List ℕ → Option Term
cell_of field = term_alone (found (read field))

-- whether a lexeme is a name; in a condition a name is a column or its table
abbrev pub is_name_word : Lexeme → Bool
is_name_word (Word n) = is_name n
is_name_word _ = false

-- the condition of a condition's field: True where it is empty, else what its tokens spell, without columns
pub data HasCondition : List ℕ → List Token → Condition → Type 0 where
  no_condition : HasCondition [] [] True
  spelled_condition : {field : List ℕ} {tokens : List Token} {c : Condition} (tree : parsed.Condition)
      → read field ≡ Ok tokens → IsFalse (is_too_deep (said tokens)) → SpellsCondition (said tokens) tree → IsFalse (list_any is_name_word (said tokens))
      → condition_at [] tree ≡ Ok c → HasCondition field tokens c
