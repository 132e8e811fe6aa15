use Rattle.std.proofs.Common.{◌≡◌, rules, to_z, of_z, w64}
use Rattle.ct_parse.proofs.RowSteps.{number_reads, text_reads, null_reads, new_null_reads}
use Rattle.ct_parse.proofs.rows.CellPart.read.Goals as goal

pub returns-in-Number-clause-ok : goal.returns-in-Number-clause-ok
returns-in-Number-clause-ok c =
    let e : to_z w64 (of_z w64 c.in-Number.number) ≡ c.in-Number.number = search rules in
    rw e (number_reads c.in-Some-front.ensures.some c.in-Number.is)

pub returns-in_ok-clone-in-Text-clause-ok : goal.returns-in_ok-clone-in-Text-clause-ok
returns-in_ok-clone-in-Text-clause-ok c = rw c.in_ok-clone-in-Text.ensures.cases (text_reads c.in-Some-front.ensures.some c.in-Text.is)

pub returns-in_ok-clone-in-Null-clause-ok : goal.returns-in_ok-clone-in-Null-clause-ok
returns-in_ok-clone-in-Null-clause-ok c = rw c.in_ok-clone-in-Null.ensures.cases (null_reads c.in-Some-front.ensures.some c.in-Null.is)

pub returns-in-Some-clause-ok : goal.returns-in-Some-clause-ok
returns-in-Some-clause-ok c = new_null_reads c.in-Some.ensures.some
