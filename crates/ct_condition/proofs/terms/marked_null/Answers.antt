use Rattle.std.proofs.Common.{◌≡◌, rules, subst}
use Rattle.ct_word.{specs.Reading.IsTerm, specs.Stands.StandsAt}
use Rattle.ct_condition.{proofs.Reached.{formed_before, as_named, both_of, only_term, under_none}, proofs.Known.fresh_there}
use Rattle.ct_word.specs.declared.kinds.Kind.TheVariants as kind
use Rattle.ct_word.specs.declared.values.Null.TheVariants as null
use Rattle.ct_word.specs.declared.values.Term.TheVariants as term
use Rattle.ct_condition.proofs.terms.marked_null.Goals as goal

pub returns-in-Named-clause-terms : goal.returns-in-Named-clause-terms
returns-in-Named-clause-terms g c = as_named (g.I.Interner.list c.over_text.new.pass) c.over_text.result _ (term.Null c.args.marked.now) c.over_text.ensures.terms cc

pub returns-in-Fresh-clause-terms : goal.returns-in-Fresh-clause-terms
returns-in-Fresh-clause-terms g c =
    let new = g.I.Interner.list c.put.new.pass in
    both_of c.put.result _ _ _ (λ p stands from. only_term new p kind.FreshNull 0 0 (term.Null c.args.marked.now) (under_none new) stands from) (Prim.search rules) c.put.ensures.terms

pub returns-in-Fresh-clause-known : goal.returns-in-Fresh-clause-known
returns-in-Fresh-clause-known g c p s =
    let old = g.I.Interner.list c.args.pass.now in
    let wf = formed_before old (g.I.Interner.list c.put.new.pass) c.put.ensures.longer c.put.ensures.formed in
    let is : c.args.marked.now ≡ null.Fresh c.in-Fresh.session c.in-Fresh.number = cc in
    c.put.ensures.known (fresh_there old wf p c.in-Fresh.session c.in-Fresh.number (subst (λ n. StandsAt old p (IsTerm (term.Null n))) is s))
