-- What `import` does: a session for the script of a table, and then that of a file.
use Rattle.std.specs.Prelude.{◌≡◌, ℕ, ◌<◌, ◌≤◌, ◌⊎◌, List, [], ◌∷◌, ◌++◌, length, map, Option, IfSome, MatchOption}
use Rattle.ct_csv.specs.declared.error.ImportError.{ImportError}
use Rattle.ct_csv.specs.declared.error.ImportError.TheVariants as fault
use Rattle.ct_csv.specs.Importing.{IsImported}
use Rattle.ct_csv.specs.Refusing.{Refuses}
use Rattle.ct_outside.specs.Outside.{Held, Holds, Rose, Added}
use Rattle.ct_transcript.specs.declared.transcript.Transcript.{Transcript}
use Rattle.ct_run.specs.declared.ending.Status.{Status}
use Rattle.ct_run.specs.declared.ending.Status.TheVariants as status
use Rattle.ct_serve.specs.Lawful.{Lawful}
use Rattle.ct_serve.specs.Within.{IsWithin}
use Rattle.ct_run.specs.Scripts.{SCRIPT_BYTES, IsScript}
use Rattle.ct_run.specs.Runs.{Asking, Taking, PrintedWhole, IsNothingDone}

-- the script of a table with this name: where a source tells, of the CSV file that it holds under the file's name
pub record IsTableOf (told : Option Held) (name csv imported : List ℕ) : Type 0 where
  pub bytes : List ℕ
  pub short : length bytes ≤ SCRIPT_BYTES
  pub held : Holds told csv bytes
  pub is_imported : IsImported name bytes imported

-- bytes are no table: too many, or refused, and not for want of memory
pub data IsNoTable (bytes : List ℕ) : Type 0 where
  long : SCRIPT_BYTES < length bytes → IsNoTable bytes
  refused : (e : ImportError) → (e ≡ fault.Memory → ⊥) → Refuses bytes e → IsNoTable bytes

-- where a source tells, bytes are held under the name, and they are no table
abbrev pub HoldsNoTable : Option Held → List ℕ → Type 0
HoldsNoTable told csv = IfSome told (λ held. MatchOption (held csv) ⊥ IsNoTable)

-- where a source tells, bytes are held under the name, and behind these they are no script
abbrev pub HoldsNoEnd : Option Held → List ℕ → List ℕ → Type 0
HoldsNoEnd told imported file = IfSome told (λ held. MatchOption (held file) ⊥ (λ own. IsScript (imported ++ own) → ⊥))

-- a script is that of a table and then, where the source tells, the bytes that it holds under the file's name
pub record IsBehind (told : Option Held) (name csv file script : List ℕ) : Type 0 where
  pub imported : List ℕ
  pub own : List ℕ
  pub table : IsTableOf told name csv imported
  pub held : Holds told file own
  pub joined : script ≡ imported ++ own
  pub is_script : IsScript script

-- a lawful transcript with one session, of such a script, whose words are within the bounds of its statements; both files
-- were asked once, the table's first
pub record IsServedBehind (name csv file : List ℕ) (a : Asking) (t : Transcript) : Type 0 where
  pub lawful : Lawful t 262144
  pub within : IsWithin t 262144
  pub script : List ℕ
  pub behind : IsBehind a.held name csv file script
  pub scripts : map (λ s. s.script) t.sessions ≡ script ∷ []
  pub asked_all : Added a.asked a.asked' (csv ∷ file ∷ [])

-- the last file that was asked is that of the table, or there is a table, and it is the other one
pub data IsUnreadBehind (name csv file : List ℕ) (a : Asking) : Type 0 where
  no_csv : Added a.asked a.asked' (csv ∷ []) → IsUnreadBehind name csv file a
  no_file : (imported : List ℕ) → IsTableOf a.held name csv imported → Added a.asked a.asked' (csv ∷ file ∷ []) → IsUnreadBehind name csv file a

-- the file of the table was asked alone, and holds none; or there is a table, and behind its script the other file holds
-- the end of no script
pub data IsNoScriptBehind (name csv file : List ℕ) (a : Asking) : Type 0 where
  no_table : HoldsNoTable a.held csv → Added a.asked a.asked' (csv ∷ []) → IsNoScriptBehind name csv file a
  no_end : (imported : List ℕ) → IsTableOf a.held name csv imported → HoldsNoEnd a.held imported file → Added a.asked a.asked' (csv ∷ file ∷ [])
      → IsNoScriptBehind name csv file a

-- what was done for a file behind a table with this name, on a log of 262,144 words
abbrev pub ImportPromise : List ℕ → List ℕ → List ℕ → Asking → Taking → Status → Transcript → Type 0
ImportPromise name csv file a k status.Done t = IsServedBehind name csv file a t × PrintedWhole k t status.Done
ImportPromise name csv file a k status.Refused t = IsServedBehind name csv file a t × PrintedWhole k t status.Refused
ImportPromise name csv file a k status.WriteFault t = IsServedBehind name csv file a t × PrintedWhole k t status.WriteFault
ImportPromise name csv file a k status.Memory t = IsNothingDone k t ⊎ (IsServedBehind name csv file a t × PrintedWhole k t status.Memory)
ImportPromise name csv file a k status.ReadFault t = IsNothingDone k t × IsUnreadBehind name csv file a × Rose a.faults a.faults'
ImportPromise name csv file a k status.Script t = IsNothingDone k t × IsNoScriptBehind name csv file a
ImportPromise name csv file a k status.Words t = ⊥
