-- The numbers of what words ask for are within their bounds.
use Rattle.std.proofs.Common.{◌≡◌, ◌≤◌, ℕ, Bool, true, false, List, [], ◌∷◌, Option, Some, None, length, codes, refl, ap, ap₂, sym, ◌∙◌, subst, arith}
use Rattle.std.specs.Prelude.{⊤, nat_le, IfSome, option_and_then, option_map, if◌then◌else◌}
use Rattle.std.{proofs.lemmas.Bool.{and_parts, leb-true}, proofs.lemmas.Bool.Decides.nat_tests, specs.Char.to_ascii_lowercase}
use Rattle.clap.specs.Words.{Text, first_of, all_of}
use Rattle.ct_word.specs.Value.{same_text}
use Rattle.ct_words.specs.Numbers.{is_within, number_within, number_of}
use Rattle.ct_word.specs.Names.{is_name}
use Rattle.ct_lex.specs.Spelling.{lowered}
use Rattle.ct_words.specs.Commands.{run_app, fill_app, check_app, prove_app, import_app, export_app, found}
use Rattle.ct_words.specs.declared.task.Asked.{Asked}
use Rattle.ct_words.specs.Asked.{Task, task, task_of, is_set, files_most, run_of_files, run_by, fill_by, check_by, prove_by, import_by, export_by, name_in, task_of_run, task_of_fill, task_of_check, task_of_prove, task_of_import, task_of_export}
use Rattle.ct_words.specs.Asked as task

abbrev IsBetween : ℕ → ℕ → ℕ → Type 0
IsBetween least most n = (least ≤ n) × (n ≤ most)

-- a name in lower case
abbrev pub IsLowName : List ℕ → Type 0
IsLowName n = (is_name (lowered n) ≡ true) × (lowered n ≡ n)

-- what holds of the numbers and names of a task
abbrev pub IsBounded : Task → Type 0
IsBounded (task.run capacity files alone workers) = IsBetween 64 4194304 capacity × IsBetween 1 64 (length files) × IsBetween 1 16 workers
IsBounded (task.fill number) = IsBetween 1 2000 number
IsBounded (task.check file) = ⊤
IsBounded (task.prove reply file) = IsBetween 1 65535 reply
IsBounded (task.import name csv file) = IsLowName name
IsBounded (task.export name file) = ⊤

between : (least most n : ℕ) → is_within least most n ≡ true → IsBetween least most n
between least most n e = let both = and_parts _ _ e in (leb-true least n both.0, leb-true n most both.1)

module _ {X Y : Type 0} (P : Y → Type 0) where
  chained : (f : X → Option Y) (o : Option X) → ((x : X) → IfSome (f x) P) → IfSome (option_and_then f o) P
  chained f None all = tt
  chained f (Some x) all = all x

  mapped : (f : X → Y) (o : Option X) → ((x : X) → P (f x)) → IfSome (option_map f o) P
  mapped f None all = tt
  mapped f (Some x) all = all x

  -- by what is known of the value that the function is put to
  chained_by : (Q : X → Type 0) (f : X → Option Y) (o : Option X) → IfSome o Q → ((x : X) → Q x → IfSome (f x) P) → IfSome (option_and_then f o) P
  chained_by Q f None known all = tt
  chained_by Q f (Some x) known all = all x known

  mapped_by : (Q : X → Type 0) (f : X → Y) (o : Option X) → IfSome o Q → ((x : X) → Q x → P (f x)) → IfSome (option_map f o) P
  mapped_by Q f None known all = tt
  mapped_by Q f (Some x) known all = all x known

module _ {X : Type 0} (P : X → Type 0) where
  either : (b : Bool) (x y : Option X) → IfSome x P → IfSome y P → IfSome (if b then x else y) P
  either true x y h k = h
  either false x y h k = k

  given : (b : Bool) (x : X) → (b ≡ true → P x) → IfSome (if b then Some x else None) P
  given true x h = h refl
  given false x h = tt

numbers : (least most : ℕ) (o : Option Text) → IfSome (option_and_then (number_within least most) o) (IsBetween least most)
numbers least most o =
    chained (IsBetween least most) (number_within least most) o (λ text.
    chained (IsBetween least most) _ (number_of text) (λ n. given (IsBetween least most) (is_within least most n) n (between least most n)))

few_files : (capacity n : ℕ) → IsBetween 1 (files_most capacity) n → IsBetween 1 64 n
few_files capacity n h = by (nat_le capacity 1048576) h where
  by : (b : Bool) → IsBetween 1 (if b then 64 else 16) n → IsBetween 1 64 n
  by true h = h
  by false h = let most : n ≤ 16 = h.1 in (h.0, omega (arith, most))

run_bounded : (words : List Text) → IfSome (task_of_run words) IsBounded
run_bounded words =
    chained IsBounded run_by (found run_app words) (λ rows.
    chained_by IsBounded (IsBetween 64 4194304) _ _ (numbers 64 4194304 (first_of (codes "arena") rows)) (λ capacity within.
    chained_by IsBounded (IsBetween 1 16) _ _ (numbers 1 16 (first_of (codes "workers") rows)) (λ workers few.
    let alone = is_set (first_of (codes "first") rows) in
    chained IsBounded (run_of_files capacity alone workers) (all_of (codes "file") rows) (λ files.
    given IsBounded (is_within 1 (files_most capacity) (length files)) (task.run capacity files alone workers) (λ e.
    (within, few_files capacity (length files) (between 1 (files_most capacity) (length files) e), few))))))

fill_bounded : (words : List Text) → IfSome (task_of_fill words) IsBounded
fill_bounded words =
    chained IsBounded fill_by (found fill_app words) (λ rows.
    mapped_by IsBounded (IsBetween 1 2000) task.fill _ (numbers 1 2000 (first_of (codes "n") rows)) (λ n within. within))

check_bounded : (words : List Text) → IfSome (task_of_check words) IsBounded
check_bounded words =
    chained IsBounded check_by (found check_app words) (λ rows. mapped IsBounded task.check (first_of (codes "file") rows) (λ file. tt))

prove_bounded : (words : List Text) → IfSome (task_of_prove words) IsBounded
prove_bounded words =
    chained IsBounded prove_by (found prove_app words) (λ rows.
    chained_by IsBounded (IsBetween 1 65535) _ _ (numbers 1 65535 (first_of (codes "reply") rows)) (λ reply within.
    mapped IsBounded (task.prove reply) (first_of (codes "file") rows) (λ file. within)))

byte_low : (b : ℕ) → to_ascii_lowercase (to_ascii_lowercase b) ≡ to_ascii_lowercase b
byte_low b = grind (arith, nat_tests)

low_again : (w : List ℕ) → lowered (lowered w) ≡ lowered w
low_again [] = refl
low_again (b ∷ w) = ap₂ (λ (c : ℕ) (cs : List ℕ). c ∷ cs) (byte_low b) (low_again w)

low_name : (w : List ℕ) → is_name (lowered w) ≡ true → IsLowName (lowered w)
low_name w e = (ap is_name (low_again w) ∙ e, low_again w)

names : (o : Option Text) → IfSome (option_and_then name_in o) IsLowName
names o = chained IsLowName name_in o (λ w. given IsLowName (is_name (lowered w)) (lowered w) (low_name w))

import_bounded : (words : List Text) → IfSome (task_of_import words) IsBounded
import_bounded words =
    chained IsBounded import_by (found import_app words) (λ rows.
    chained_by IsBounded IsLowName _ _ (names (first_of (codes "name") rows)) (λ n low.
    chained IsBounded _ (first_of (codes "csv") rows) (λ csv.
    mapped IsBounded (task.import n csv) (first_of (codes "file") rows) (λ file. low))))

export_bounded : (words : List Text) → IfSome (task_of_export words) IsBounded
export_bounded words =
    chained IsBounded export_by (found export_app words) (λ rows.
    chained IsBounded _ (option_and_then name_in (first_of (codes "name") rows)) (λ n.
    mapped IsBounded (task.export n) (first_of (codes "file") rows) (λ file. tt)))

pub bounded : (words : List Text) → IfSome (task words) IsBounded
bounded [] = tt
bounded (command ∷ words) =
    either IsBounded (same_text command (codes "run")) _ _ (run_bounded words)
    (either IsBounded (same_text command (codes "fill")) _ _ (fill_bounded words)
    (either IsBounded (same_text command (codes "check")) _ _ (check_bounded words)
    (either IsBounded (same_text command (codes "prove")) _ _ (prove_bounded words)
    (either IsBounded (same_text command (codes "import")) _ _ (import_bounded words)
    (either IsBounded (same_text command (codes "export")) _ _ (export_bounded words) tt)))))

-- what words ask for is within its bounds
pub of_asked : (words : List Text) (o : Option Asked) (a : Asked) → o ≡ Some a → option_map task_of o ≡ task words → IsBounded (task_of a)
of_asked words o a found is = subst (λ x. IfSome x IsBounded) (sym is ∙ ap (option_map task_of) found) (bounded words)
