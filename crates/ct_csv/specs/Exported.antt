-- The file that is written for a table.
use Rattle.std.specs.Prelude.{◌≡◌, ◌⊎◌, ℕ, ◌+◌, ◌<◌, ◌≤◌, Bool, true, false, not, ◌&&◌, List, [], ◌∷◌, ◌++◌, length, map, flat_map, filter, take, slice_index_or, nat_le, IsTrue, IsFalse, codes, string_bytes}
use Rattle.std.specs.List.{AllZip, list_all}
use Rattle.csv.specs.Writing.{default_writer, row_text}
use Rattle.ct_word.specs.declared.values.CRow.{CRow}
use Rattle.ct_word.specs.declared.values.Null.{Null}
use Rattle.ct_word.specs.declared.values.Term.{Term}
use Rattle.ct_word.specs.declared.values.Term.TheVariants as term
use Rattle.ct_word.specs.Value.{World, value_of_null}
use Rattle.ct_word.specs.Condition.{Condition, True, False, SameTruth}
use Rattle.ct_word.specs.Change.{PlainRow}
use Rattle.ct_word.specs.Names.{is_name}
use Rattle.ct_word.specs.Writable.{is_writable_term}
use Rattle.ct_word.specs.WellFormed.{IsWellFormed}
use Rattle.ct_word.specs.Reading.{term_at, condition_at}
use Rattle.ct_query.specs.Database.{SameSet}
use Rattle.ct_rewrite.specs.declared.answer.Node.{Node}
use Rattle.ct_rewrite.specs.declared.answer.Node.TheVariants as node
use Rattle.ct_rewrite.specs.Nodes.{IsOrdered, is_position, node_condition}
use Rattle.ct_rewrite.specs.Rules.{are_children_within}
use Rattle.ct_rewrite.specs.Sizes.{NoneIsEmpty, text_of, nest_of, wide, deep}
use Rattle.ct_print.specs.TermText.{term_text}
use Rattle.ct_operators.specs.Tables.{AreRows, value_of_rows}
use Rattle.ct_operators.specs.Terms.{TermOfRows, RowsFrom}
use Rattle.ct_reread.specs.Reread.{KeepsWithin}
use Rattle.ct_csv.specs.declared.error.WideError.{WideError}
use Rattle.ct_csv.specs.declared.error.WideError.TheVariants as fault
use Rattle.ct_csv.specs.declared.writing.Field.{Field}
use Rattle.ct_csv.specs.Csv.{AreTexts}
use Rattle.ct_csv.specs.Renaming.{renamed_null, renamed, IsLeastFree}
use Rattle.ct_csv.specs.File.{IsFile, shown_rows}

-- the text of a term, with the null that stands for its null
abbrev pub renamed_text : ℕ → Term → List ℕ
renamed_text j t = term_text (renamed j t)

-- whether this is the condition False
abbrev pub is_false : Condition → Bool
is_false False = true
is_false _ = false

-- whether a node is an And or an Or
abbrev pub is_run : Node → Bool
is_run (node.And ks) = true
is_run (node.Or ks) = true
is_run _ = false

-- whether a node is True
abbrev pub is_true_node : Node → Bool
is_true_node node.True = true
is_true_node _ = false

-- whether a node is False
abbrev pub is_false_node : Node → Bool
is_false_node node.False = true
is_false_node _ = false

-- the field of a condition: empty for True
abbrev pub condition_text : ℕ → Condition → List ℕ
condition_text j True = []
condition_text j c = text_of (renamed_text j) c

-- the record of these cells and this text of a condition
abbrev pub fields_with : ℕ → List Term → List ℕ → List (List ℕ)
fields_with j cells text = map (renamed_text j) cells ++ text ∷ []

-- the record of a row
abbrev pub row_fields : ℕ → PlainRow → List (List ℕ)
row_fields j row = fields_with j row.cells (condition_text j row.condition)

-- a text is that of the condition at its position
abbrev pub IsFieldOf : ℕ → List Node → Field → Type 0
IsFieldOf j nodes f = string_bytes f.text ≡ condition_text j (node_condition nodes f.position)

-- the first record
abbrev pub first_fields : List (List ℕ) → List (List ℕ)
first_fields columns = columns ++ codes "if" ∷ []

-- the rows of a table with the printed forms of their conditions, at these positions
abbrev pub printed_rows : List ℕ → List Node → List CRow → List ℕ → List PlainRow
printed_rows words nodes (r ∷ rs) (k ∷ ks) = record { cells = map (term_at words) r.cells; condition = node_condition nodes k } ∷ printed_rows words nodes rs ks
printed_rows words nodes _ _ = []

-- the rows that are written: those under False are left out
abbrev pub written_rows : List PlainRow → List PlainRow
written_rows rows = filter (λ r. not (is_false r.condition)) rows

-- the records of rows
abbrev pub row_records : ℕ → List PlainRow → List (List (List ℕ))
row_records j rows = map (row_fields j) (written_rows rows)

-- the records of the file
abbrev pub file_records : ℕ → List (List ℕ) → List PlainRow → List (List (List ℕ))
file_records j columns rows = first_fields columns ∷ row_records j rows

-- the bytes of records
abbrev pub records_text : List (List (List ℕ)) → List ℕ
records_text records = flat_map (row_text default_writer) records

-- whether the text of the condition at a position, with the old names of nulls, is within both bounds of a file
abbrev pub is_narrow : List Node → ℕ → Bool
is_narrow nodes k = nat_le (length (text_of term_text (node_condition nodes k))) 65536 && nat_le (nest_of (node_condition nodes k)) 64

-- the conditions at these positions are printed forms of those of the rows, each within both bounds of a file
pub record AreForms (words : List ℕ) (rows : List CRow) (nodes : List Node) (ks : List ℕ) : Type 0 where
  pub within : IsTrue (list_all are_children_within nodes)
  pub truth : AllZip (λ k place. SameTruth (node_condition nodes k) (condition_at words place)) ks (map (λ r. r.cond) rows)
  pub short : AllZip (λ k place. KeepsWithin (node_condition nodes k) (condition_at words place)) ks (map (λ r. r.cond) rows)
  pub narrow : IsTrue (list_all (is_narrow nodes) ks)

-- what the printed form of the conditions of rows keeps to
pub record ArePrinted (words : List ℕ) (rows : List CRow) (nodes : List Node) (ks : List ℕ) : Type 0 where
  pub truth : AllZip (λ k place. SameTruth (node_condition nodes k) (condition_at words place)) ks (map (λ r. r.cond) rows)
  pub bytes : (texts : Term → List ℕ) → NoneIsEmpty texts
      → AllZip (λ k place. length (text_of texts (node_condition nodes k)) ≤ wide (λ t. length (texts t)) (condition_at words place)) ks (map (λ r. r.cond) rows)
  pub nests : AllZip (λ k place. nest_of (node_condition nodes k) ≤ deep (condition_at words place)) ks (map (λ r. r.cond) rows)
  pub placed : IsTrue (list_all (is_position nodes) ks)
  pub ordered : IsOrdered nodes
  pub within : IsTrue (list_all are_children_within nodes)

-- a table whose terms can be written: each null is named by a word or fresh, and each value is a number or a text
pub record CanBeExported (words : List ℕ) (columns : List (List ℕ)) (rows : List CRow) : Type 0 where
  pub formed : IsWellFormed words
  pub names : IsTrue (list_all is_name columns)
  pub some : 1 ≤ length columns
  pub are : AreRows words (length columns) rows
  pub writable : RowsFrom words rows (λ t. IsTrue (is_writable_term t))

-- each of these nulls has at one valuation the value that its new one has at another
abbrev pub Renames : ℕ → (Term → Type 0) → World → World → Type 0
Renames j among v u = (n : Null) → among (term.Null n) → value_of_null u (renamed_null j n) ≡ value_of_null v n

-- no two of these nulls get one new name
abbrev pub KeepsApart : ℕ → (Term → Type 0) → Type 0
KeepsApart j among = (m n : Null) → among (term.Null m) → among (term.Null n) → renamed_null j m ≡ renamed_null j n → m ≡ n

-- the bytes are a file of the table: the records of its rows with printed forms of their conditions, in order; these rows,
-- shown where each new null has the value of the old one, are the table's value; the new names keep the table's nulls apart,
-- so each valuation of the old nulls is that of some valuation of the new ones, and the other way round
pub record IsExported (words : List ℕ) (columns : List (List ℕ)) (rows : List CRow) (bytes : List ℕ) : Type 0 where
  pub underscores : ℕ
  pub least : IsLeastFree underscores (TermOfRows words rows)
  pub nodes : List Node
  pub positions : List ℕ
  pub forms : AreForms words rows nodes positions
  pub bytes_are : bytes ≡ records_text (file_records underscores columns (printed_rows words nodes rows positions))
  pub written : List PlainRow
  pub file : IsFile bytes columns written
  pub apart : KeepsApart underscores (TermOfRows words rows)
  pub each_old : (v : World) → (u : World) × Renames underscores (TermOfRows words rows) v u
  pub each_new : (u : World) → (v : World) × Renames underscores (TermOfRows words rows) v u
  pub shown : (v u : World) → Renames underscores (TermOfRows words rows) v u → SameSet (shown_rows u written) (value_of_rows words v rows)

-- the bounds on the text of a condition's form are past those of a file
abbrev pub MayBeWide : Condition → Type 0
MayBeWide c = (65536 < wide (λ t. length (term_text t)) c) ⊎ (64 < deep c)

-- with some printed forms of the rows' conditions, the row with this number, from 1, is the first whose form is past a bound of
-- a file; so one of the bounds on the text of that condition's form is
pub record IsTooWide (words : List ℕ) (rows : List CRow) (number : ℕ) : Type 0 where
  pub index : ℕ
  pub number_is : number ≡ index + 1
  pub below : index < length rows
  pub nodes : List Node
  pub positions : List ℕ
  pub forms : ArePrinted words rows nodes positions
  pub before : IsTrue (list_all (is_narrow nodes) (take index positions))
  pub past : IsFalse (is_narrow nodes (slice_index_or positions index 0))
  pub wide : MayBeWide (condition_at words (slice_index_or (map (λ r. r.cond) rows) index 0))

-- why there is no file of a table; want of memory may come at any time
abbrev pub WhyNoExport : List ℕ → List CRow → WideError → Type 0
WhyNoExport words rows (fault.TooWide number) = IsTooWide words rows number
WhyNoExport words rows fault.Memory = Unit {0}

-- the law: what is written of a table with printed forms of its conditions is a file of it
abbrev pub FormsAreExported : Type 0
FormsAreExported =
    (words : List ℕ) (columns : List (List ℕ)) (rows : List CRow) (nodes : List Node) (ks : List ℕ) (j : ℕ) → CanBeExported words columns rows → AreForms words rows nodes ks
    → IsLeastFree j (TermOfRows words rows) → AreTexts (file_records j columns (printed_rows words nodes rows ks))
    → IsExported words columns rows (records_text (file_records j columns (printed_rows words nodes rows ks)))
