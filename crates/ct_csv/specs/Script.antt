-- The script of a file, line by line.
use Rattle.std.specs.Prelude.{ℕ, List, [], ◌∷◌, ◌++◌, flat_map, slice_range, Option, Some, None, codes}
use Rattle.std.specs.List.{join_by}
use Rattle.ct_word.specs.declared.values.Term.{Term}
use Rattle.ct_lex.specs.declared.token.Token.{Token}
use Rattle.ct_lex.specs.Reading.{read}
use Rattle.ct_print.specs.TermText.{in_parentheses, with_commas, term_text}
use Rattle.ct_csv.specs.Fields.{cell_fields, condition_field, found, cell_of}

-- a cell as it is printed
abbrev pub printed : Option Term → List ℕ
printed (Some t) = term_text t
printed None = []

-- a cell's field as the script has it
abbrev pub cell_text : List ℕ → List ℕ
cell_text field = printed (cell_of field)

-- the slice of a token
abbrev pub slice_of : List ℕ → Token → List ℕ
slice_of text t = slice_range text t.start t.end

-- the condition behind the cells: its tokens joined by blanks; nothing where there are none
abbrev pub if_text : List ℕ → List Token → List ℕ
if_text text [] = []
if_text text (t ∷ ts) = codes " if " ++ join_by (slice_of text) (codes " ") (t ∷ ts)

-- the same of what is read
abbrev pub if_found : List ℕ → Option (List Token) → List ℕ
if_found text (Some ts) = if_text text ts
if_found text None = []

-- the condition's field as the script has it
abbrev pub condition_text : List ℕ → List ℕ
condition_text field = if_found field (found (read field))

-- a semicolon, and the line's end
abbrev pub ending : List ℕ
ending = 59 ∷ 10 ∷ []

-- the line that makes the table
abbrev pub create_line : List ℕ → List (List ℕ) → List ℕ
create_line name columns = codes "create table " ++ name ++ codes " " ++ in_parentheses (with_commas (λ n. n) columns) ++ ending

-- the line that inserts the row of a record
abbrev pub insert_line : List ℕ → List (List ℕ) → List ℕ
insert_line name fields =
    codes "insert into " ++ name ++ codes " values " ++ in_parentheses (with_commas cell_text (cell_fields fields)) ++ condition_text (condition_field fields) ++ ending

-- the script of a table's name, its columns and the records below the first
abbrev pub script_of : List ℕ → List (List ℕ) → List (List (List ℕ)) → List ℕ
script_of name columns records = create_line name columns ++ flat_map (insert_line name) records
