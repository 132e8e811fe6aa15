-- What the words of the command line ask for.
use Rattle.std.specs.Prelude.{ℕ, Bool, true, false, List, [], ◌∷◌, length, Option, Some, None, codes, nat_le, if◌then◌else◌, map, option_map, option_and_then}
use Rattle.std.specs.Borrow.{Bor}
use Rattle.clap.specs.Words.{Row, Text, first_of, all_of}
use Rattle.ct_word.specs.Value.{same_text}
use Rattle.ct_word.specs.Writable.{is_name}
use Rattle.ct_lex.specs.Spelling.{lowered}
use Rattle.ct_words.specs.Numbers.{is_within, number_within}
use Rattle.ct_words.specs.Commands.{run_app, fill_app, check_app, prove_app, import_app, export_app, found}
use Rattle.ct_words.specs.declared.task.Asked.{Asked}
use Rattle.ct_words.specs.declared.task.Asked.TheVariants as asked

-- a run of these files on a log of this capacity, where the first file's session may have to end before the others, and with
-- so many workers; scripts to generate with this number, a certificate to check, that of a
-- reply to a script, a script for the table with this name of a CSV file, or a table with this name after a script
pub data Task : Type 0 where
  run : (capacity : ℕ) (files : List Text) (is_first_alone : Bool) (workers : ℕ) → Task
  fill : (number : ℕ) → Task
  check : (file : Text) → Task
  prove : (reply : ℕ) (file : Text) → Task
  import : (name csv file : Text) → Task
  export : (name file : Text) → Task

-- the texts behind references
abbrev pub texts_of : List (Bor Text) → List Text
texts_of words = map (λ word. word.now) words

-- what a value asks for
abbrev pub task_of : Asked → Task
task_of (asked.Run capacity files alone workers) = run capacity (texts_of files.items) alone workers
task_of (asked.Fill number) = fill number
task_of (asked.Check file) = check file.now
task_of (asked.Prove reply file) = prove reply file.now
task_of (asked.Import name csv file) = import name csv.now file.now
task_of (asked.Export name file) = export name file.now

-- whether a flag stands, by the text that is found for it
abbrev pub is_set : Option Text → Bool
is_set None = false
is_set (Some text) = same_text text (codes "true")

-- the most files that a run names whose log has so many words
abbrev pub files_most : ℕ → ℕ
files_most capacity = if nat_le capacity 1048576 then 64 else 16

-- a run of one file up to so many
abbrev pub run_of_files : ℕ → Bool → ℕ → List Text → Option Task
run_of_files capacity alone workers files =
    if is_within 1 (files_most capacity) (length files) then Some (run capacity files alone workers) else None

-- the run that a capacity, the flag, a number of workers and files spell
abbrev pub run_of : Option Text → Option Text → Option Text → Option (List Text) → Option Task
run_of arena first workers files =
    option_and_then (λ capacity. option_and_then (λ count. option_and_then (run_of_files capacity (is_set first) count) files)
    (option_and_then (number_within 1 16) workers)) (option_and_then (number_within 64 4194304) arena)

-- the run by what was found for the arguments of its command
abbrev pub run_by : List Row → Option Task
run_by rows =
    run_of (first_of (codes "arena") rows) (first_of (codes "first") rows) (first_of (codes "workers") rows) (all_of (codes "file") rows)

-- the fill that a number spells
abbrev pub fill_of : Option Text → Option Task
fill_of number = option_map fill (option_and_then (number_within 1 2000) number)

-- the fill by what was found for the argument of its command
abbrev pub fill_by : List Row → Option Task
fill_by rows = fill_of (first_of (codes "n") rows)

-- the check of a file
abbrev pub check_of : Option Text → Option Task
check_of file = option_map check file

-- the check by what was found for the argument of its command
abbrev pub check_by : List Row → Option Task
check_by rows = check_of (first_of (codes "file") rows)

-- the certificate that the number of a reply and a file spell
abbrev pub prove_of : Option Text → Option Text → Option Task
prove_of reply file =
    option_and_then (λ number. option_map (prove number) file) (option_and_then (number_within 1 65535) reply)

-- the certificate by what was found for the arguments of its command
abbrev pub prove_by : List Row → Option Task
prove_by rows = prove_of (first_of (codes "reply") rows) (first_of (codes "file") rows)

-- the name that a whole word is, in lower case
abbrev pub name_in : Text → Option Text
name_in word = if is_name (lowered word) then Some (lowered word) else None

-- the import that a name and two files spell
abbrev pub import_of : Option Text → Option Text → Option Text → Option Task
import_of name csv file =
    option_and_then (λ n. option_and_then (λ c. option_map (import n c) file) csv) (option_and_then name_in name)

-- the import by what was found for the arguments of its command
abbrev pub import_by : List Row → Option Task
import_by rows = import_of (first_of (codes "name") rows) (first_of (codes "csv") rows) (first_of (codes "file") rows)

-- the export that a name and a file spell
abbrev pub export_of : Option Text → Option Text → Option Task
export_of name file = option_and_then (λ n. option_map (export n) file) (option_and_then name_in name)

-- the export by what was found for the arguments of its command
abbrev pub export_by : List Row → Option Task
export_by rows = export_of (first_of (codes "name") rows) (first_of (codes "file") rows)

-- what these words behind each of the commands ask for
abbrev pub task_of_run : List Text → Option Task
task_of_run words = option_and_then run_by (found run_app words)

abbrev pub task_of_fill : List Text → Option Task
task_of_fill words = option_and_then fill_by (found fill_app words)

abbrev pub task_of_check : List Text → Option Task
task_of_check words = option_and_then check_by (found check_app words)

abbrev pub task_of_prove : List Text → Option Task
task_of_prove words = option_and_then prove_by (found prove_app words)

abbrev pub task_of_import : List Text → Option Task
task_of_import words = option_and_then import_by (found import_app words)

abbrev pub task_of_export : List Text → Option Task
task_of_export words = option_and_then export_by (found export_app words)

-- what the words ask for, where they are understood
abbrev pub task : List Text → Option Task
task [] = None
task (command ∷ words) =
    if same_text command (codes "run") then task_of_run words
    else (if same_text command (codes "fill") then task_of_fill words
    else (if same_text command (codes "check") then task_of_check words
    else (if same_text command (codes "prove") then task_of_prove words
    else (if same_text command (codes "import") then task_of_import words
    else (if same_text command (codes "export") then task_of_export words else None)))))
