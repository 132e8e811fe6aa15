-- The records of CSV bytes.
use Rattle.std.specs.Prelude.{◌≡◌, ℕ, List, [], ◌∷◌, length, IsUtf8}
use Rattle.csv.specs.Reading.{AreRecords, default_config, strip_bom}
use Rattle.csv.specs.Records.{AllText}
use Rattle.csv.specs.declared.parser.State.TheVariants.{StartRecord}
use Rattle.csv.specs.declared.error.ErrorKind.{ErrorKind}
use Rattle.csv.specs.declared.error.ErrorKind.TheVariants as kind
use Rattle.ct_csv.specs.declared.error.ImportError.{ImportError}
use Rattle.ct_csv.specs.declared.error.ImportError.TheVariants as fault

-- each field of each record is text
abbrev pub AreTexts : List (List (List ℕ)) → Type 0
AreTexts [] = Unit {0}
AreTexts (r ∷ rs) = AllText r × AreTexts rs

-- each record has this many fields
abbrev pub HaveFields : ℕ → List (List (List ℕ)) → Type 0
HaveFields n [] = Unit {0}
HaveFields n (r ∷ rs) = (length r ≡ n) × HaveFields n rs

-- each record is as long as the first
abbrev pub AreEven : List (List (List ℕ)) → Type 0
AreEven [] = Unit {0}
AreEven (r ∷ rs) = HaveFields (length r) rs

-- the bytes are text, and these are all their records; a byte order mark at the start is passed over
pub record IsCsv (bytes : List ℕ) (records : List (List (List ℕ))) : Type 0 where
  pub utf8 : IsUtf8 bytes
  pub all : AreRecords default_config StartRecord (strip_bom bytes) records
  pub texts : AreTexts records
  pub even : AreEven records

-- what a refusal of the reader says of the bytes
abbrev pub cause_of : ErrorKind → ImportError
cause_of (kind.Utf8 pos err) = fault.NotCsv
cause_of (kind.UnequalLengths pos expected len) = fault.NotCsv
cause_of (kind.Io e) = fault.Memory
cause_of kind.OutOfMemory = fault.Memory
cause_of (kind.Serialize text) = fault.Memory
cause_of (kind.Deserialize pos err) = fault.Memory
