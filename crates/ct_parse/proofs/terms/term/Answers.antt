use Rattle.std.proofs.Common.{◌≡◌, rules, to_z, of_z, w64}
use Rattle.ct_parse.proofs.TermSteps.{number_reads, text_reads, null_reads, column_reads, no_term_left}
use Rattle.ct_parse.proofs.terms.term.Goals as goal

pub returns-in_default-clause-none : goal.returns-in_default-clause-none
returns-in_default-clause-none c = λ memory. no_term_left c.in_default.ensures.none

pub returns-in-Number-clause-ok : goal.returns-in-Number-clause-ok
returns-in-Number-clause-ok c =
    let e : to_z w64 (of_z w64 c.in-Number.number) ≡ c.in-Number.number = search rules in
    rw e (number_reads c.in-Some.ensures.some c.in-Number.is)

pub returns-in_ok-clone-in-Text-clause-ok : goal.returns-in_ok-clone-in-Text-clause-ok
returns-in_ok-clone-in-Text-clause-ok c = rw c.in_ok-clone-in-Text.ensures.cases (text_reads c.in-Some.ensures.some c.in-Text.is)

pub returns-in_ok-clone-in-Null-clause-ok : goal.returns-in_ok-clone-in-Null-clause-ok
returns-in_ok-clone-in-Null-clause-ok c = rw c.in_ok-clone-in-Null.ensures.cases (null_reads c.in-Some.ensures.some c.in-Null.is)

pub returns-in_ok-column-in_default-first-clause-ok : goal.returns-in_ok-column-in_default-first-clause-ok
returns-in_ok-column-in_default-first-clause-ok c = column_reads c.in_ok-column-in_default-first.ensures.ok
