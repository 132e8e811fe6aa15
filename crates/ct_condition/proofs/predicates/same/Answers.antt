use Rattle.std.{proofs.lemmas.Result.{IfOk-weaker, err_from_is_err_and}, proofs.Common.arith}
use Rattle.ct_word.proofs.Prefixes.{prefix_of_prefix, place_in_prefix, place_within}
use Rattle.ct_condition.{proofs.Placed.{term_fewer, on_ok}, proofs.OnRows.equal_on_row, proofs.Reached.formed_before, proofs.Named.equal_terms, proofs.Writes.{writes_both, writes_within}}
use Rattle.ct_word.specs.declared.kinds.Class.TheVariants as class
use Rattle.ct_condition.proofs.predicates.same.Goals as goal

pub returns-clause-truth : goal.returns-clause-truth
returns-clause-truth g c =
    IfOk-weaker c.eq.result _ _
    (λ place h. equal_on_row (g.I.Interner.list c.args.pass.now) (g.I.Interner.list c.place_on.new.pass) (g.I.Interner.list c.place_on-2.new.pass) (g.I.Interner.list c.eq.new.pass)
    c.args.row.now c.args.s.now c.args.t.now c.in_ok-left.left c.in_ok-right.right place c.in_ok-left.ensures.writes.longer c.in_ok-right.ensures.writes.longer c.requires.row
    c.in_ok-left.ensures.worth c.in_ok-left.ensures.place c.in_ok-right.ensures.worth h) c.eq.ensures.truth

pub returns-clause-terms : goal.returns-clause-terms
returns-clause-terms g c =
    let mid = g.I.Interner.list c.place_on.new.pass in
    let last = g.I.Interner.list c.place_on-2.new.pass in
    let new = g.I.Interner.list c.eq.new.pass in
    let left = c.in_ok-left.left in
    IfOk-weaker c.eq.result _ _
    (λ place from. equal_terms (g.I.Interner.list c.args.pass.now) mid last new c.args.row.now c.in_ok-left.ensures.writes.longer c.in_ok-right.ensures.writes.longer (formed_before last new c.eq.ensures.longer c.eq.ensures.formed)
    c.requires.row c.args.s.now c.args.t.now left c.in_ok-right.right place (place_within mid class.Term left c.in_ok-left.ensures.place) c.in_ok-left.ensures.terms c.in_ok-right.ensures.terms from) c.eq.ensures.terms

pub eq-requires-clause-left : goal.eq-requires-clause-left
eq-requires-clause-left g c =
    place_in_prefix (g.I.Interner.list c.place_on.new.pass) (g.I.Interner.list c.place_on-2.new.pass) class.Term c.in_ok-left.left c.in_ok-right.ensures.writes.longer c.in_ok-left.ensures.place

pub returns-clause-writes : goal.returns-clause-writes
returns-clause-writes g c =
    let later = term_fewer (g.I.Interner.list c.args.pass.now) (g.I.Interner.list c.place_on.new.pass) c.args.row.now c.in_ok-left.ensures.writes.longer c.args.t.now in
    writes_within _ (omega (arith, later)) (writes_both c.in_ok-left.ensures.writes (writes_both c.in_ok-right.ensures.writes c.eq.ensures.writes))

pub returns-in_err-left-clause-writes : goal.returns-in_err-left-clause-writes
returns-in_err-left-clause-writes g c =
    rw (err_from_is_err_and c.from_residual.result c.from_residual.ensures.1).1 (writes_within _ (omega arith) c.in_err-left.ensures.writes)

pub returns-in_err-right-clause-writes : goal.returns-in_err-right-clause-writes
returns-in_err-right-clause-writes g c =
    let later = term_fewer (g.I.Interner.list c.args.pass.now) (g.I.Interner.list c.place_on.new.pass) c.args.row.now c.in_ok-left.ensures.writes.longer c.args.t.now in
    rw (err_from_is_err_and c.from_residual-in_err-right.result c.from_residual-in_err-right.ensures.1).1
    (writes_within _ (omega (arith, later)) (writes_both c.in_ok-left.ensures.writes c.in_err-right.ensures.writes))

pub returns-clause-placed : goal.returns-clause-placed
returns-clause-placed g c =
    let mid = g.I.Interner.list c.place_on.new.pass in
    let last = g.I.Interner.list c.place_on-2.new.pass in
    let new = g.I.Interner.list c.eq.new.pass in
    let cells = c.args.row.now in
    let left = term_fewer mid new cells (prefix_of_prefix mid last new c.in_ok-right.ensures.writes.longer c.eq.ensures.longer) c.args.s.now in
    on_ok c.eq.result (omega (arith, left, term_fewer last new cells c.eq.ensures.longer c.args.t.now, c.in_ok-left.ensures.placed, c.in_ok-right.ensures.placed))
