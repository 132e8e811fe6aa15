use Rattle.std.proofs.Common.{sym, subst}
use Rattle.ct_cut.{specs.Cut.{all_hints, HaveEarlier}, proofs.Accepted.{have_earlier, cut_accepted}}
use Rattle.ct_decide.proofs.deciding.refuted.Goals as goal

pub derivation-requires-clause-earlier : goal.derivation-requires-clause-earlier
derivation-requires-clause-earlier c =
    let a = c.args.asking.now in
    let ask = c.requires.asking in
    let log = c.log-entries.ensures.log in
    subst (λ es. HaveEarlier (all_hints es)) (sym c.log-entries.ensures.entries)
    (have_earlier c.args.words.now c.args.aim.root a.atoms.items ask.nodes ask.terms ask.distinct a.origins.items a.solver.entries ask.clauses (log.narrow _ ask.within) log.follow)

pub returns : goal.returns
returns c =
    let a = c.args.asking.now in
    let ask = c.requires.asking in
    let log = c.log-entries.ensures.log in
    cut_accepted c.args.words.now c.args.aim.root a.atoms.items ask.nodes ask.terms ask.distinct a.origins.items a.solver.entries ask.clauses (log.narrow _ ask.within) log.follow
    c.requires.condition c.requires.refuted c.in_ok-derivation.derivation (rw (c.as_slice.ensures.value, c.as_slice-2.ensures.value, c.log-entries.ensures.entries) at c.in_ok-derivation.ensures)
