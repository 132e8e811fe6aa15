use Rattle.std.{proofs.Common.{◌∙◌, subst, sym}, specs.Prelude.slice_get}
use Rattle.ct_word.specs.Reading.{meanings}
use Rattle.ct_condition.{specs.Worth.IsWorth, proofs.Values.{text_is, term_is, condition_is, equal_terms}}
use Rattle.ct_condition.specs.declared.valued.Worth.TheVariants as worth
use Rattle.ct_condition.proofs.valued.worth_at.Goals as goal

pub returns-in-Text : goal.returns-in-Text
returns-in-Text c =
    let ws = c.args.words.now in
    let steps = c.args.nulls.now.steps.keys in
    let pairs = c.args.nulls.now.pairs.entries in
    let v = c.args.world.now in
    let word = c.word_at-word.result in
    subst (IsWorth steps v (slice_get (meanings ws) c.args.place)) (sym c.text_worth.ensures)
    (text_is ws steps pairs v c.requires.nulls c.args.worths.now c.requires.worths c.args.place c.requires.earlier word.kind word.left word.right c.word_at-word.ensures (sym c.class.ensures ∙ c.in-Text.is))

pub returns-in-Term : goal.returns-in-Term
returns-in-Term c =
    let ws = c.args.words.now in
    let steps = c.args.nulls.now.steps.keys in
    let pairs = c.args.nulls.now.pairs.entries in
    let v = c.args.world.now in
    let word = c.word_at-word.result in
    subst (IsWorth steps v (slice_get (meanings ws) c.args.place)) (sym c.term_worth.ensures)
    (term_is ws steps pairs v c.requires.nulls c.args.worths.now c.requires.worths c.args.place c.requires.earlier word.kind word.left word.right c.word_at-word.ensures (sym c.class.ensures ∙ c.in-Term.is))

pub truth-requires-clause-first : goal.truth-requires-clause-first
truth-requires-clause-first c = λ e.
    let word = c.word_at-word.result in
    (equal_terms c.args.words.now c.args.nulls.now.steps.keys c.args.nulls.now.pairs.entries c.args.world.now c.requires.nulls c.args.worths.now c.requires.worths c.args.place c.requires.earlier
    word.kind word.left word.right c.word_at-word.ensures e).0

pub truth-requires-clause-second : goal.truth-requires-clause-second
truth-requires-clause-second c = λ e.
    let word = c.word_at-word.result in
    (equal_terms c.args.words.now c.args.nulls.now.steps.keys c.args.nulls.now.pairs.entries c.args.world.now c.requires.nulls c.args.worths.now c.requires.worths c.args.place c.requires.earlier
    word.kind word.left word.right c.word_at-word.ensures e).1

pub returns-in_ok-truth-in-Cond : goal.returns-in_ok-truth-in-Cond
returns-in_ok-truth-in-Cond c =
    let ws = c.args.words.now in
    let steps = c.args.nulls.now.steps.keys in
    let pairs = c.args.nulls.now.pairs.entries in
    let v = c.args.world.now in
    let word = c.word_at-word.result in
    subst (λ b. IsWorth steps v (slice_get (meanings ws) c.args.place) (worth.Truth b)) (sym c.in_ok-truth-in-Cond.ensures)
    (condition_is ws steps pairs v c.requires.nulls c.args.worths.now c.requires.worths c.args.place c.requires.earlier word.kind word.left word.right c.word_at-word.ensures (sym c.class.ensures ∙ c.in-Cond.is))
