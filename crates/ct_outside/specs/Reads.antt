-- What a read of one script, or of many, gave.
use Rattle.std.specs.Prelude.{◌≡◌, ◌≤◌, ◌<◌, ℕ, List, [], ◌∷◌, ◌++◌, map, length, take, slice_index_or, All, Option, Some, IfSome, Result, Ok, Err, Vec}
use Rattle.std.specs.Borrow.{Bor}
use Rattle.std.specs.declared.alloc.Global.{Global}
use Rattle.ct_outside.specs.Outside.{Held, Holds, HoldsMore}
use Rattle.ct_outside.specs.declared.scripts.ReadError.{ReadError}
use Rattle.ct_outside.specs.declared.scripts.ReadError.TheVariants as fault

-- a fact that holds unless memory was wanting
abbrev pub UnlessMemory : {T : Type 0} → Result T ReadError → Type 0 → Type 0
UnlessMemory (Ok text) fact = fact
UnlessMemory (Err fault.Failed) fact = fact
UnlessMemory (Err fault.TooLong) fact = fact
UnlessMemory (Err fault.Memory) fact = Unit {0}

-- a fact that holds unless the source failed
abbrev pub UnlessFailed : {T : Type 0} → Result T ReadError → Type 0 → Type 0
UnlessFailed (Ok text) fact = fact
UnlessFailed (Err fault.Failed) fact = Unit {0}
UnlessFailed (Err fault.TooLong) fact = fact
UnlessFailed (Err fault.Memory) fact = fact

-- a fact that holds where memory was wanting
abbrev pub OnMemory : {T : Type 0} → Result T ReadError → Type 0 → Type 0
OnMemory (Err fault.Memory) fact = fact
OnMemory _ fact = Unit {0}

-- where a source tells, these texts are what it holds under these names, in their order
abbrev pub HoldsAll : Option Held → List (List ℕ) → List (List ℕ) → Type 0
HoldsAll told names texts = IfSome told (λ held. map held names ≡ map Some texts)

-- the names that references point to
abbrev pub names_of : List (Bor (List ℕ)) → List (List ℕ)
names_of files = map (λ file. file.now) files

-- the bytes of texts
abbrev pub bytes_in : List (Vec ℕ Global) → List (List ℕ)
bytes_in texts = map (λ text. text.items) texts

-- one more text was read: where the source tells, the one under this name; and within the limit
pub record IsOneMore (told : Option Held) (name : List ℕ) (limit : ℕ) (before now : List (List ℕ)) : Type 0 where
  pub text : List ℕ
  pub added : now ≡ before ++ text ∷ []
  pub held : Holds told name text
  pub within : length text ≤ limit

-- texts of all these files: where the source tells, those under their names; and within the limit
pub record AreOfAll (told : Option Held) (files : List (List ℕ)) (limit : ℕ) (texts : List (List ℕ)) : Type 0 where
  pub count : length texts ≡ length files
  pub held : HoldsAll told files texts
  pub within : All (λ text. length text ≤ limit) texts

-- texts of the first of these files, up to one that was not read: where the source tells, those under their names, and
-- too long only what it holds more of under the name of that one; and within the limit
pub record AreBeforeFault (told : Option Held) (files : List (List ℕ)) (limit : ℕ) (texts : List (List ℕ)) (why : ReadError) : Type 0 where
  pub fewer : length texts < length files
  pub held : HoldsAll told (take (length texts) files) texts
  pub within : All (λ text. length text ≤ limit) texts
  pub too_long : why ≡ fault.TooLong → HoldsMore told (slice_index_or files (length texts) []) limit
