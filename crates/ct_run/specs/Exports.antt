-- What `export` does: a session for the script of a file, and then the CSV file of a table.
use Rattle.std.specs.Prelude.{◌≡◌, ℕ, ◌⊎◌, List, [], ◌∷◌, None}
use Rattle.ct_query.specs.Fits.{columns_in}
use Rattle.ct_query.specs.Schema.{schema}
use Rattle.ct_rewrite.specs.History.{plain_history}
use Rattle.ct_session.specs.Exporting.{IsWideTable}
use Rattle.ct_outside.specs.Outside.{Rose}
use Rattle.ct_transcript.specs.declared.transcript.Transcript.{Transcript}
use Rattle.ct_serve.specs.TableFiles.{IsTableFile}
use Rattle.ct_run.specs.declared.ending.Status.{Status}
use Rattle.ct_run.specs.declared.ending.Status.TheVariants as status
use Rattle.ct_run.specs.Scripts.{IsUnread, IsNoScript}
use Rattle.ct_run.specs.Runs.{Asking, Taking, IsServed, IsWritten, IsWriteFault, IsUntouched, IsNothingDone}

-- no commit of a transcript makes a table with this name, or a row of the table has too wide a condition for a file
abbrev pub HasNoFile : Transcript → List ℕ → Type 0
HasNoFile t name =
    (columns_in (schema (plain_history t.history) []).tables name ≡ None) ⊎ ((row : ℕ) × IsWideTable t.words (plain_history t.history) name row)

-- how the file of the table was written, by one call
abbrev pub Exported : List ℕ → Taking → Transcript → Status → Type 0
Exported name k t status.Done = (bytes : List ℕ) × IsWritten k (bytes ∷ []) × IsTableFile t name bytes
Exported name k t status.Refused = IsUntouched k × HasNoFile t name
Exported name k t status.WriteFault = (bytes : List ℕ) × IsWriteFault k (bytes ∷ []) × IsTableFile t name bytes
Exported name k t status.Memory = IsUntouched k
Exported name k t status.Words = ⊥
Exported name k t status.ReadFault = ⊥
Exported name k t status.Script = ⊥

-- what was done for the table with this name after the script of a file, on a log of 262,144 words
abbrev pub ExportPromise : List ℕ → List ℕ → Asking → Taking → Status → Transcript → Type 0
ExportPromise name file a k status.Done t = IsServed 262144 (file ∷ []) a t × Exported name k t status.Done
ExportPromise name file a k status.Refused t = IsServed 262144 (file ∷ []) a t × Exported name k t status.Refused
ExportPromise name file a k status.WriteFault t = IsServed 262144 (file ∷ []) a t × Exported name k t status.WriteFault
ExportPromise name file a k status.Memory t = IsNothingDone k t ⊎ (IsServed 262144 (file ∷ []) a t × Exported name k t status.Memory)
ExportPromise name file a k status.ReadFault t = IsNothingDone k t × IsUnread a.held a.asked a.asked' (file ∷ []) × Rose a.faults a.faults'
ExportPromise name file a k status.Script t = IsNothingDone k t × IsNoScript a.held a.asked a.asked' (file ∷ [])
ExportPromise name file a k status.Words t = ⊥
