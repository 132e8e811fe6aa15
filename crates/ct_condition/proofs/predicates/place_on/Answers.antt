use Rattle.std.{proofs.Common.{sym}, proofs.lemmas.Result.IfOk-weaker}
use Rattle.ct_condition.{proofs.OnRows.{cell_worth, cell_place, term_worth}, proofs.Pasts.past_fits, proofs.Named.{cell_terms, own_terms}}
use Rattle.ct_condition.proofs.Placed.{cell_zero, placed_zero, place_from, term_made}
use Rattle.ct_condition.proofs.Writes.{writes_of}
use Rattle.ct_condition.proofs.predicates.place_on.Goals as goal

pub returns-in-Some-clause-worth : goal.returns-in-Some-clause-worth
returns-in-Some-clause-worth g c = cell_worth (g.I.Interner.list c.args.pass.now) c.args.row.now c.args.t.now c.in-Some.place (sym c.in-Some.ensures)

pub returns-in-Some-clause-place : goal.returns-in-Some-clause-place
returns-in-Some-clause-place g c = cell_place (g.I.Interner.list c.args.pass.now) c.args.row.now c.args.t.now c.in-Some.place (sym c.in-Some.ensures) c.requires.row

pub returns-in-None-clause-worth : goal.returns-in-None-clause-worth
returns-in-None-clause-worth g c =
    IfOk-weaker c.term.result _ _
    (λ place stands. term_worth (g.I.Interner.list c.args.pass.now) (g.I.Interner.list c.term.new.pass) c.args.row.now c.args.t.now place (sym c.in-None.ensures) stands) c.term.ensures.stands

pub term-requires : goal.term-requires
term-requires g c = record { fields = past_fits c.args.row.now c.args.t.now (sym c.in-None.ensures) c.requires.fields }

pub returns-in-Some-clause-terms : goal.returns-in-Some-clause-terms
returns-in-Some-clause-terms g c = cell_terms (g.I.Interner.list c.args.pass.now) c.args.row.now c.args.t.now c.in-Some.place (sym c.in-Some.ensures)

pub returns-in-None-clause-terms : goal.returns-in-None-clause-terms
returns-in-None-clause-terms g c =
    IfOk-weaker c.term.result _ _
    (λ place from. own_terms (g.I.Interner.list c.args.pass.now) (g.I.Interner.list c.term.new.pass) c.args.row.now c.args.t.now place (sym c.in-None.ensures) from) c.term.ensures.terms

pub returns-in-Some-clause-placed : goal.returns-in-Some-clause-placed
returns-in-Some-clause-placed g c = cell_zero (g.I.Interner.list c.args.pass.now) c.args.row.now c.args.t.now c.in-Some.place (sym c.in-Some.ensures)

pub returns-in-None-clause-writes : goal.returns-in-None-clause-writes
returns-in-None-clause-writes g c =
    writes_of c.term.ensures.writes
    (term_made (g.I.Interner.made c.args.pass.now) (g.I.Interner.made c.term.new.pass) (g.I.Interner.list c.args.pass.now) c.args.row.now c.args.t.now c.term.result (sym c.in-None.ensures)
    (λ e. ((c.term.ensures.known e).0, (c.term.ensures.known e).2)) c.term.ensures.writes.made)

pub returns-in-None-clause-placed : goal.returns-in-None-clause-placed
returns-in-None-clause-placed g c =
    let new = g.I.Interner.list c.term.new.pass in
    IfOk-weaker c.term.result _ _ (λ place stands. placed_zero new c.args.row.now c.args.t.now (place_from new place c.args.t.now stands)) c.term.ensures.stands
