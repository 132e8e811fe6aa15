use Rattle.std.{proofs.Common.{◌≡◌, ◌≤◌, ℕ, List, length, Some, ap, sym, ◌∙◌, subst}, specs.Prelude.IsTrue, proofs.lemmas.List.{length-map}}
use Rattle.ct_word.specs.Names.{is_name}
use Rattle.ct_lex.specs.Spelling.{lowered}
use Rattle.ct_words.specs.Asked.{texts_of}
use Rattle.ct_run.proofs.Bounds.{of_asked}
use Rattle.ct_run.proofs.driving.run.Goals as goal

pub run_files-requires-clause-least : goal.run_files-requires-clause-least
run_files-requires-clause-least g c κs within = (of_asked (texts_of c.args.words.now) _ _ (c.in-Ok-Some-Run.field-0-is ∙ ap Some c.in-Ok-Some-Run.field-0-0-is) c.in-Ok-Some-Run.ensures).0.0

pub run_files-requires-clause-most : goal.run_files-requires-clause-most
run_files-requires-clause-most g c κs within = (of_asked (texts_of c.args.words.now) _ _ (c.in-Ok-Some-Run.field-0-is ∙ ap Some c.in-Ok-Some-Run.field-0-0-is) c.in-Ok-Some-Run.ensures).0.1

pub run_files-requires-clause-some : goal.run_files-requires-clause-some
run_files-requires-clause-some g c κs within = subst (λ (n : ℕ). 1 ≤ n) (length-map c.in-Ok-Some-Run.files.items _ ∙ ap length (sym c.as_slice-files.ensures.value)) (of_asked (texts_of c.args.words.now) _ _ (c.in-Ok-Some-Run.field-0-is ∙ ap Some c.in-Ok-Some-Run.field-0-0-is) c.in-Ok-Some-Run.ensures).1.0

pub run_files-requires-clause-most_files : goal.run_files-requires-clause-most_files
run_files-requires-clause-most_files g c κs within = subst (λ (n : ℕ). n ≤ 64) (length-map c.in-Ok-Some-Run.files.items _ ∙ ap length (sym c.as_slice-files.ensures.value)) (of_asked (texts_of c.args.words.now) _ _ (c.in-Ok-Some-Run.field-0-is ∙ ap Some c.in-Ok-Some-Run.field-0-0-is) c.in-Ok-Some-Run.ensures).1.1

pub new-workers-requires-clause-least : goal.new-workers-requires-clause-least
new-workers-requires-clause-least g c = (of_asked (texts_of c.args.words.now) _ _ (c.in-Ok-Some-Run.field-0-is ∙ ap Some c.in-Ok-Some-Run.field-0-0-is) c.in-Ok-Some-Run.ensures).2.0

pub new-workers-requires-clause-most : goal.new-workers-requires-clause-most
new-workers-requires-clause-most g c = (of_asked (texts_of c.args.words.now) _ _ (c.in-Ok-Some-Run.field-0-is ∙ ap Some c.in-Ok-Some-Run.field-0-0-is) c.in-Ok-Some-Run.ensures).2.1

pub fill-requires-after_bounds : goal.fill-requires-after_bounds
fill-requires-after_bounds g c κs within = (of_asked (texts_of c.args.words.now) _ _ (c.in-Ok-Some-Fill.field-0-is ∙ ap Some c.in-Ok-Some-Fill.field-0-0-is) c.in-Ok-Some-Fill.ensures).1

pub prove-requires-after_bounds : goal.prove-requires-after_bounds
prove-requires-after_bounds g c κs within = (of_asked (texts_of c.args.words.now) _ _ (c.in-Ok-Some-Prove.field-0-is ∙ ap Some c.in-Ok-Some-Prove.field-0-0-is) c.in-Ok-Some-Prove.ensures).0

pub import_table-requires-clause-name : goal.import_table-requires-clause-name
import_table-requires-clause-name g c κs within = subst (λ (n : List ℕ). IsTrue (is_name (lowered n))) (sym c.as_str-name.ensures) (of_asked (texts_of c.args.words.now) _ _ (c.in-Ok-Some-Import.field-0-is ∙ ap Some c.in-Ok-Some-Import.field-0-0-is) c.in-Ok-Some-Import.ensures).0

pub import_table-requires-clause-low : goal.import_table-requires-clause-low
import_table-requires-clause-low g c κs within = subst (λ (n : List ℕ). lowered n ≡ n) (sym c.as_str-name.ensures) (of_asked (texts_of c.args.words.now) _ _ (c.in-Ok-Some-Import.field-0-is ∙ ap Some c.in-Ok-Some-Import.field-0-0-is) c.in-Ok-Some-Import.ensures).1
