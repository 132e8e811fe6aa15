-- Why bytes are refused.
use Rattle.std.specs.Prelude.{◌≡◌, ℕ, ◌+◌, ◌<◌, ◌≤◌, List, [], length, slice_index_or, None, IsSome}
use Rattle.ct_word.specs.Condition.{Condition}
use Rattle.ct_lex.specs.declared.token.Token.{Token}
use Rattle.ct_csv.specs.declared.error.ImportError.{ImportError}
use Rattle.ct_csv.specs.declared.error.ImportError.TheVariants as fault
use Rattle.ct_csv.specs.Csv.{IsCsv}
use Rattle.ct_csv.specs.Fields.{header, columns_of, cell_of, HasCondition}

-- the field is one of a condition
abbrev pub IsCondition : List ℕ → Type 0
IsCondition field = (tokens : List Token) × (c : Condition) × HasCondition field tokens c

-- the field at a position is a cell, or a condition where it is the last
abbrev pub IsRight : List (List ℕ) → ℕ → Type 0
IsRight fields k =
    (k + 1 < length fields → IsSome (cell_of (slice_index_or fields k []))) × (k + 1 ≡ length fields → IsCondition (slice_index_or fields k []))

-- each field of a record is so
abbrev pub AreRight : List (List ℕ) → Type 0
AreRight fields = (k : ℕ) → k < length fields → IsRight fields k

-- the first field of a record that is not so stands at this position
abbrev pub IsFirstWrong : List (List ℕ) → ℕ → Type 0
IsFirstWrong fields k = (k < length fields) × ((j : ℕ) → j < k → IsRight fields j) × (IsRight fields k → ⊥)

-- below the first record the first such field is that with this number in the record with this number, both from 1
pub data IsFirstBad : List (List (List ℕ)) → ℕ → ℕ → Type 0 where
  first_bad : {records : List (List (List ℕ))} (i k : ℕ) → 1 ≤ i → i < length records
      → ((j : ℕ) → 1 ≤ j → j < i → AreRight (slice_index_or records j [])) → IsFirstWrong (slice_index_or records i []) k
      → IsFirstBad records (i + 1) (k + 1)

-- why a first record names no columns
abbrev pub IsUnnamed : List (List ℕ) → ImportError → Type 0
IsUnnamed fields fault.BadHeader = columns_of fields ≡ None
IsUnnamed fields fault.Memory = Unit {0}
IsUnnamed fields _ = ⊥

-- why a record with this number is no row
abbrev pub WhyNoRow : ℕ → List (List ℕ) → ImportError → Type 0
WhyNoRow number fields (fault.BadCell n field) = (n ≡ number) × (k : ℕ) × (field ≡ k + 1) × IsFirstWrong fields k
WhyNoRow number fields fault.Memory = Unit {0}
WhyNoRow number fields _ = ⊥

-- each record has a field
abbrev pub HaveSome : List (List (List ℕ)) → Type 0
HaveSome records = (i : ℕ) → i < length records → 0 < length (slice_index_or records i [])

-- each record below the first is a row
abbrev pub AreRows : List (List (List ℕ)) → Type 0
AreRows records = (i : ℕ) → 1 ≤ i → i < length records → AreRight (slice_index_or records i [])

-- why the records below the first are no rows
abbrev pub WhyNoRows : List (List (List ℕ)) → ImportError → Type 0
WhyNoRows records (fault.BadCell number field) = IsFirstBad records number field
WhyNoRows records fault.Memory = Unit {0}
WhyNoRows records _ = ⊥

-- why these records are no file
abbrev pub WhyNoFile : List (List (List ℕ)) → ImportError → Type 0
WhyNoFile records fault.NotCsv = ⊥
WhyNoFile records fault.BadHeader = header records ≡ None
WhyNoFile records (fault.BadCell number field) = IsSome (header records) × IsFirstBad records number field
WhyNoFile records fault.Memory = Unit {0}

-- why these bytes are refused: no records, or what is wrong with them; want of memory may come at any time
abbrev pub Refuses : List ℕ → ImportError → Type 0
Refuses bytes fault.NotCsv = (records : List (List (List ℕ))) → IsCsv bytes records → ⊥
Refuses bytes fault.BadHeader = (records : List (List (List ℕ))) × IsCsv bytes records × WhyNoFile records fault.BadHeader
Refuses bytes (fault.BadCell number field) = (records : List (List (List ℕ))) × IsCsv bytes records × WhyNoFile records (fault.BadCell number field)
Refuses bytes fault.Memory = Unit {0}
