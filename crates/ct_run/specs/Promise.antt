-- What a run does, by what its words ask for.
use Rattle.std.specs.Prelude.{◌≡◌, ℕ, ◌⊎◌, List, [], ◌∷◌, map, Option, Some, None}
use Rattle.ct_fill.specs.Script.{script_of}
use Rattle.ct_words.specs.Asked.{Task}
use Rattle.ct_words.specs.Asked as task
use Rattle.ct_transcript.specs.declared.transcript.Transcript.{Transcript}
use Rattle.ct_run.specs.declared.ending.Status.{Status}
use Rattle.ct_run.specs.declared.ending.Status.TheVariants as status
use Rattle.ct_serve.specs.Lawful.{Lawful}
use Rattle.ct_serve.specs.Within.{IsWithin}
use Rattle.ct_run.specs.Runs.{Asking, Taking, Printed, IsNothingDone, RunPromise}
use Rattle.ct_run.specs.Summary.{summary}
use Rattle.ct_run.specs.Certificates.{CheckPromise, ProvePromise}
use Rattle.ct_run.specs.Imports.{ImportPromise}
use Rattle.ct_run.specs.Exports.{ExportPromise}

-- the scripts that are made with n, those of the sessions 1 to 4
unfoldable pub generated : ℕ → List (List ℕ)
generated n = script_of 1 n ∷ script_of 2 n ∷ script_of 3 n ∷ script_of 4 n ∷ []

-- a lawful transcript of the scripts that are made with n, on a log of 262,144 words, which are within the bounds of the
-- statements
pub record IsGenerated (n : ℕ) (t : Transcript) : Type 0 where
  pub lawful : Lawful t 262144
  pub within : IsWithin t 262144
  pub scripts : map (λ s. s.script) t.sessions ≡ generated n

-- how the summary of a transcript was printed
abbrev pub PrintedSummary : ℕ → Taking → Transcript → Status → Type 0
PrintedSummary n k t = Printed k (summary n t) t.sessions

-- what was done for the scripts that are made with n; no source is asked, so none fails, and none has a file that is no script
abbrev pub FillPromise : ℕ → Taking → Status → Transcript → Type 0
FillPromise n k status.Done t = IsGenerated n t × PrintedSummary n k t status.Done
FillPromise n k status.Refused t = IsGenerated n t × PrintedSummary n k t status.Refused
FillPromise n k status.WriteFault t = IsGenerated n t × PrintedSummary n k t status.WriteFault
FillPromise n k status.Memory t = IsNothingDone k t ⊎ (IsGenerated n t × PrintedSummary n k t status.Memory)
FillPromise n k status.Words t = ⊥
FillPromise n k status.ReadFault t = ⊥
FillPromise n k status.Script t = ⊥

-- what was done for words that are not understood
abbrev pub NothingPromise : Taking → Status → Transcript → Type 0
NothingPromise k status.Words t = IsNothingDone k t
NothingPromise k status.Memory t = IsNothingDone k t
NothingPromise k _ t = ⊥

-- what was done for words that ask for this, where they are understood
abbrev pub Promise : Option Task → Asking → Taking → Status → Transcript → Type 0
Promise None a k status t = NothingPromise k status t
Promise (Some (task.run N files alone workers)) a k status t = RunPromise N files a k status t
Promise (Some (task.fill n)) a k status t = FillPromise n k status t
Promise (Some (task.check file)) a k status t = CheckPromise file a k status t
Promise (Some (task.prove K file)) a k status t = ProvePromise K file a k status t
Promise (Some (task.import name csv file)) a k status t = ImportPromise name csv file a k status t
Promise (Some (task.export name file)) a k status t = ExportPromise name file a k status t

-- the files that are asked for
abbrev pub files_in : Option Task → List (List ℕ)
files_in None = []
files_in (Some (task.run N files alone workers)) = files
files_in (Some (task.fill n)) = []
files_in (Some (task.check file)) = file ∷ []
files_in (Some (task.prove K file)) = file ∷ []
files_in (Some (task.import name csv file)) = csv ∷ file ∷ []
files_in (Some (task.export name file)) = file ∷ []
