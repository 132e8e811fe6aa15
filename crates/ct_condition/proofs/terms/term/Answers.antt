use Rattle.std.proofs.Common.{◌≡◌, rules, subst}
use Rattle.ct_word.{specs.Reading.IsTerm, specs.Stands.StandsAt}
use Rattle.ct_condition.{proofs.Reached.{formed_before, as_named, both_of, only_term, under_none}, proofs.Known.column_there, proofs.Placed.place_found}
use Rattle.ct_word.specs.declared.kinds.Kind.TheVariants as kind
use Rattle.ct_word.specs.declared.values.Term.TheVariants as term
use Rattle.ct_condition.proofs.terms.term.Goals as goal

pub returns-in-Null-clause-terms : goal.returns-in-Null-clause-terms
returns-in-Null-clause-terms g c = as_named (g.I.Interner.list c.marked_null.new.pass) c.marked_null.result _ (c.args.term.now) c.marked_null.ensures.terms cc

pub returns-in-Value-clause-terms : goal.returns-in-Value-clause-terms
returns-in-Value-clause-terms g c = as_named (g.I.Interner.list c.value.new.pass) c.value.result _ (c.args.term.now) c.value.ensures.terms cc

pub returns-in-Column-clause-terms : goal.returns-in-Column-clause-terms
returns-in-Column-clause-terms g c =
    let new = g.I.Interner.list c.put.new.pass in
    both_of c.put.result _ _ _ (λ p stands from. only_term new p kind.Column 0 0 (c.args.term.now) (under_none new) stands from) (Prim.search rules) c.put.ensures.terms

pub returns-in-Column-clause-known : goal.returns-in-Column-clause-known
returns-in-Column-clause-known g c e =
    let old = g.I.Interner.list c.args.pass.now in
    let wf = formed_before old (g.I.Interner.list c.put.new.pass) c.put.ensures.longer c.put.ensures.formed in
    let is : c.args.term.now ≡ term.Column c.in-Column.k = cc in
    let at = place_found old c.args.term.now e in
    c.put.ensures.known (column_there old wf at.0 c.in-Column.k (subst (λ t. StandsAt old at.0 (IsTerm t)) is at.1))

pub returns-in-Null-clause-known : goal.returns-in-Null-clause-known
returns-in-Null-clause-known g c e =
    let old = g.I.Interner.list c.args.pass.now in
    let is : c.args.term.now ≡ term.Null c.in-Null.n = cc in
    let at = place_found old c.args.term.now e in
    c.marked_null.ensures.known at.0 (subst (λ t. StandsAt old at.0 (IsTerm t)) is at.1)

pub returns-in-Value-clause-known : goal.returns-in-Value-clause-known
returns-in-Value-clause-known g c e =
    let old = g.I.Interner.list c.args.pass.now in
    let is : c.args.term.now ≡ term.Value c.in-Value.x = cc in
    let at = place_found old c.args.term.now e in
    c.value.ensures.known at.0 (subst (λ t. StandsAt old at.0 (IsTerm t)) is at.1)
