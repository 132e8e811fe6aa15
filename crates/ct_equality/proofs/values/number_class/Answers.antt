use Rattle.std.proofs.Common.{◌+◌, ◌++◌, ◌∷◌, [], ◌∙◌, sym, subst, arith}
use Rattle.ct_equality.{specs.Valued.AreNumberedTo, specs.Indexed.{AreIndexed, IsTable}, proofs.Numbers.{numbered_to, table_numbered, table_ends, all_taken}, proofs.Indexed.numbered_indexed}
use Rattle.ct_equality.proofs.values.number_class.Goals as goal

pub least_number-number-requires-clause-ends : goal.least_number-number-requires-clause-ends
least_number-number-requires-clause-ends c = table_ends c.args.members.now c.args.next c.args.taken.now c.requires.taken c.requires.below

pub returns-clause-numbers : goal.returns-clause-numbers
returns-clause-numbers c = λ first done are above.
    let number = c.least_number-number in
    let ms = c.args.members.now in
    let table = c.requires.taken in
    let free = sym (table.taken number.result number.ensures.past number.ensures.within) ∙ number.ensures.free in
    subst (λ ns. AreNumberedTo c.args.words.now first ns (done ++ c.args.place ∷ []) (number.result + 1)) (sym c.give.ensures)
    (numbered_to c.args.words.now first ms done are c.args.place number.result free
    (omega (arith, number.ensures.within, table.count, c.requires.few)) c.requires.there (sym c.is_constant.ensures.place ∙ c.if-is_constant.false)
    (sym c.class_of.ensures ∙ c.if-class_of-place.false) above
    (all_taken ms c.args.next c.args.taken.now table c.requires.below number.result (omega (arith, number.ensures.within)) number.ensures.least))

pub returns-clause-indexed : goal.returns-clause-indexed
returns-clause-indexed c =
    subst (AreIndexed c.args.found.now.words) (sym c.give.ensures) (numbered_indexed c.args.found.now.words c.args.members.now c.requires.indexed c.args.place c.least_number-number.result)

pub returns-clause-taken : goal.returns-clause-taken
returns-clause-taken c = λ first done are above.
    let number = c.least_number-number in
    let ms = c.args.members.now in
    let table = c.requires.taken in
    let free = sym (table.taken number.result number.ensures.past number.ensures.within) ∙ number.ensures.free in
    subst (λ ns. IsTable ns (number.result + 1) c.args.taken.now) (sym c.give.ensures)
    (table_numbered c.args.words.now first ms done are c.args.place number.result free
    (omega (arith, number.ensures.within, table.count, c.requires.few)) c.requires.there (sym c.is_constant.ensures.place ∙ c.if-is_constant.false)
    (sym c.class_of.ensures ∙ c.if-class_of-place.false) above
    (all_taken ms c.args.next c.args.taken.now table c.requires.below number.result (omega (arith, number.ensures.within)) number.ensures.least)
    c.args.next c.args.taken.now number.ensures.past table)
