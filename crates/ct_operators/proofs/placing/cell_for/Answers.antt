use Rattle.std.proofs.Common.{sym, ◌∙◌}
use Rattle.ct_word.proofs.Prefixes.{place_within}
use Rattle.ct_operators.{specs.Placing.column_of, proofs.Placed.{term_itself, cell_itself, column_itself}}
use Rattle.ct_word.specs.declared.kinds.Class.TheVariants as class
use Rattle.ct_operators.proofs.placing.cell_for.Goals as goal

pub word_at-word-requires : goal.word_at-word-requires
word_at-word-requires c = place_within c.args.words.now class.Term c.args.term c.requires.term

pub returns-in-Some-get : goal.returns-in-Some-get
returns-in-Some-get c =
    let found = c.in-Some-get.ensures.lookup.3 in
    cell_itself c.args.words.now c.requires.formed c.args.term c.word_at-word.result c.word_at-word.ensures c.args.cells.now c.requires.term c.in-Some.position c.in-Some-get.cell.now
    (sym (c.in-Some.ensures ∙ (λ i. column_of (c.kind.ensures i) (c.left.ensures.value i)))) (sym (found.1 0)) found.0 c.requires.cells

pub returns-in-None-get : goal.returns-in-None-get
returns-in-None-get c =
    column_itself c.args.words.now c.requires.formed c.args.term c.word_at-word.result c.word_at-word.ensures c.args.cells.now c.requires.term c.in-Some.position
    (sym (c.in-Some.ensures ∙ (λ i. column_of (c.kind.ensures i) (c.left.ensures.value i)))) c.in-None-get.ensures.lookup.3

pub returns-in-None : goal.returns-in-None
returns-in-None c =
    term_itself c.args.words.now c.requires.formed c.args.term c.word_at-word.result c.word_at-word.ensures c.args.cells.now c.requires.term
    (sym (c.in-None.ensures ∙ (λ i. column_of (c.kind.ensures i) (c.left.ensures.value i))))
