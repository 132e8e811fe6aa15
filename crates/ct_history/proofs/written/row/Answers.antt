use Rattle.std.proofs.Common.{◌∙◌, ap, map, sym, subst}
use Rattle.ct_word.specs.Reading.{condition_at, term_at}
use Rattle.ct_history.{specs.Rows.AreTerms, proofs.ItemLists.{cells_read, row_word, row_is_list}}
use Rattle.ct_history.proofs.written.row.Goals as goal

pub items-requires-clause-list : goal.items-requires-clause-list
items-requires-clause-list c =
    row_is_list c.args.words.now c.word_at-word.result.left (row_word c.args.words.now c.args.place c.word_at-word.result c.word_at-word.ensures c.requires.place).1

pub returns-clause-same : goal.returns-clause-same
returns-clause-same c =
    let words = c.args.words.now in
    let word = c.word_at-word.result in
    let says = row_word words c.args.place word c.word_at-word.ensures c.requires.place in
    let read = cells_read words word.left c.in_ok-cells.cells.items c.in_ok-cells.ensures says.1 in
    (λ i. record { cells = (ap (map (term_at words)) c.from_vec.ensures ∙ sym read.0) i; condition = condition_at words word.right }) ∙ sym says.0

pub returns-clause-placed : goal.returns-clause-placed
returns-clause-placed c =
    let words = c.args.words.now in
    let word = c.word_at-word.result in
    let says = row_word words c.args.place word c.word_at-word.ensures c.requires.place in
    let read = cells_read words word.left c.in_ok-cells.cells.items c.in_ok-cells.ensures says.1 in
    record { terms = subst (AreTerms words) (sym c.from_vec.ensures) read.1; condition = says.2 }
