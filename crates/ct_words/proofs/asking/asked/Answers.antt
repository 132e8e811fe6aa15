use Rattle.std.{proofs.Common.{◌≡◌, true, false, rules, codes, ◌∙◌}, proofs.lemmas.List.nil_from_length, proofs.lemmas.Option.MatchOption-at_none}
use Rattle.std.proofs.lemmas.Result.{IfOk-weaker}
use Rattle.ct_word.specs.Value.{same_text}
use Rattle.ct_words.proofs.Tasks.{no_words, run_words, fill_words, check_words, prove_words, import_words, export_words, other_words}
use Rattle.ct_words.proofs.asking.asked.Goals as goal

pub returns-in_default : goal.returns-in_default
returns-in_default c =
    no_words c.args.words.now (nil_from_length c.args.words.now (MatchOption-at_none _ _ c.in_default.is c.split_first.ensures.cases))

pub returns-then-eq : goal.returns-then-eq
returns-then-eq c =
    let run : same_text c.in-Some.command.now.now (codes "run") ≡ true = search rules in
    IfOk-weaker c.asked_of_run.result _ _
    (λ asked told. told ∙ run_words c.args.words.now c.in-Some.command.now c.in-Some.words.now c.in-Some.ensures.cases.0 run)
    c.asked_of_run.ensures

pub returns-then-eq-2 : goal.returns-then-eq-2
returns-then-eq-2 c =
    let run : same_text c.in-Some.command.now.now (codes "run") ≡ false = search rules in
    let fill : same_text c.in-Some.command.now.now (codes "fill") ≡ true = search rules in
    IfOk-weaker c.asked_of_fill.result _ _
    (λ asked told. told ∙ fill_words c.args.words.now c.in-Some.command.now c.in-Some.words.now c.in-Some.ensures.cases.0 run fill)
    c.asked_of_fill.ensures

pub returns-then-eq-3 : goal.returns-then-eq-3
returns-then-eq-3 c =
    let run : same_text c.in-Some.command.now.now (codes "run") ≡ false = search rules in
    let fill : same_text c.in-Some.command.now.now (codes "fill") ≡ false = search rules in
    let check : same_text c.in-Some.command.now.now (codes "check") ≡ true = search rules in
    IfOk-weaker c.asked_of_check.result _ _
    (λ asked told. told ∙ check_words c.args.words.now c.in-Some.command.now c.in-Some.words.now c.in-Some.ensures.cases.0 run fill check)
    c.asked_of_check.ensures

pub returns-then-eq-4 : goal.returns-then-eq-4
returns-then-eq-4 c =
    let run : same_text c.in-Some.command.now.now (codes "run") ≡ false = search rules in
    let fill : same_text c.in-Some.command.now.now (codes "fill") ≡ false = search rules in
    let check : same_text c.in-Some.command.now.now (codes "check") ≡ false = search rules in
    let prove : same_text c.in-Some.command.now.now (codes "prove") ≡ true = search rules in
    IfOk-weaker c.asked_of_prove.result _ _
    (λ asked told. told ∙ prove_words c.args.words.now c.in-Some.command.now c.in-Some.words.now c.in-Some.ensures.cases.0 run fill check prove)
    c.asked_of_prove.ensures

pub returns-then-eq-5 : goal.returns-then-eq-5
returns-then-eq-5 c =
    let run : same_text c.in-Some.command.now.now (codes "run") ≡ false = search rules in
    let fill : same_text c.in-Some.command.now.now (codes "fill") ≡ false = search rules in
    let check : same_text c.in-Some.command.now.now (codes "check") ≡ false = search rules in
    let prove : same_text c.in-Some.command.now.now (codes "prove") ≡ false = search rules in
    let imports : same_text c.in-Some.command.now.now (codes "import") ≡ true = search rules in
    IfOk-weaker c.asked_of_import.result _ _
    (λ asked told. told ∙ import_words c.args.words.now c.in-Some.command.now c.in-Some.words.now c.in-Some.ensures.cases.0 run fill check prove imports)
    c.asked_of_import.ensures

pub returns-then-eq-6 : goal.returns-then-eq-6
returns-then-eq-6 c =
    let run : same_text c.in-Some.command.now.now (codes "run") ≡ false = search rules in
    let fill : same_text c.in-Some.command.now.now (codes "fill") ≡ false = search rules in
    let check : same_text c.in-Some.command.now.now (codes "check") ≡ false = search rules in
    let prove : same_text c.in-Some.command.now.now (codes "prove") ≡ false = search rules in
    let imports : same_text c.in-Some.command.now.now (codes "import") ≡ false = search rules in
    let exports : same_text c.in-Some.command.now.now (codes "export") ≡ true = search rules in
    IfOk-weaker c.asked_of_export.result _ _
    (λ asked told. told ∙ export_words c.args.words.now c.in-Some.command.now c.in-Some.words.now c.in-Some.ensures.cases.0 run fill check prove imports exports)
    c.asked_of_export.ensures

pub returns-else-eq-6 : goal.returns-else-eq-6
returns-else-eq-6 c =
    let run : same_text c.in-Some.command.now.now (codes "run") ≡ false = search rules in
    let fill : same_text c.in-Some.command.now.now (codes "fill") ≡ false = search rules in
    let check : same_text c.in-Some.command.now.now (codes "check") ≡ false = search rules in
    let prove : same_text c.in-Some.command.now.now (codes "prove") ≡ false = search rules in
    let imports : same_text c.in-Some.command.now.now (codes "import") ≡ false = search rules in
    let exports : same_text c.in-Some.command.now.now (codes "export") ≡ false = search rules in
    other_words c.args.words.now c.in-Some.command.now c.in-Some.words.now c.in-Some.ensures.cases.0 run fill check prove imports exports
