-- What is imported.
use Rattle.std.specs.Prelude.{◌≡◌, ℕ, List, drop}
use Rattle.ct_word.specs.declared.values.CRow.{CRow}
use Rattle.ct_word.specs.Change.{PlainRow}
use Rattle.ct_csv.specs.declared.error.ImportError.{ImportError}
use Rattle.ct_csv.specs.declared.error.ImportError.TheVariants as fault
use Rattle.ct_csv.specs.Csv.{IsCsv}
use Rattle.ct_csv.specs.Exported.{IsExported}
use Rattle.ct_csv.specs.File.{IsFile}
use Rattle.ct_csv.specs.Refusing.{Refuses}
use Rattle.ct_csv.specs.Script.{script_of}

-- the text is the script of the file that the bytes are, under the table's name
pub record IsImported (name bytes text : List ℕ) : Type 0 where
  pub columns : List (List ℕ)
  pub rows : List PlainRow
  pub file : IsFile bytes columns rows
  pub script : text ≡ script_of name columns (drop 1 file.records)

-- the law: bytes have one list of records at most
abbrev pub HaveOneList : Type 0
HaveOneList = (bytes : List ℕ) (rs ss : List (List (List ℕ))) → IsCsv bytes rs → IsCsv bytes ss → rs ≡ ss

-- the laws: a file is refused for want of memory alone, and other bytes for one cause
abbrev pub RefusesNoFile : Type 0
RefusesNoFile = (bytes : List ℕ) (columns : List (List ℕ)) (rows : List PlainRow) (e : ImportError) → IsFile bytes columns rows → Refuses bytes e → e ≡ fault.Memory

abbrev pub RefusesForOne : Type 0
RefusesForOne = (bytes : List ℕ) (e f : ImportError) → Refuses bytes e → Refuses bytes f → (e ≡ fault.Memory → ⊥) → (f ≡ fault.Memory → ⊥) → e ≡ f

-- the law: bytes are a file of one list of columns and one list of rows at most
abbrev pub SaysOneTable : Type 0
SaysOneTable = (bytes : List ℕ) (cs ds : List (List ℕ)) (rs ss : List PlainRow) → IsFile bytes cs rs → IsFile bytes ds ss → (cs ≡ ds) × (rs ≡ ss)

-- the law: what was exported is refused for want of memory alone, and what is imported of it has its columns and its rows, in order
abbrev pub TakesExports : Type 0
TakesExports =
    (words : List ℕ) (columns : List (List ℕ)) (rows : List CRow) (bytes : List ℕ) → (is : IsExported words columns rows bytes)
    → ((e : ImportError) → Refuses bytes e → e ≡ fault.Memory) × ((name text : List ℕ) → (i : IsImported name bytes text) → (i.columns ≡ columns) × (i.rows ≡ is.written))
