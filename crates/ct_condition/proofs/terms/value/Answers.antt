use Rattle.std.proofs.Common.{◌≡◌, rules, subst}
use Rattle.ct_word.{specs.Reading.IsTerm, specs.Stands.StandsAt}
use Rattle.ct_condition.{proofs.Reached.{formed_before, as_named, as_stands, both_of, only_term, under_none}, proofs.Known.other_there}
use Rattle.ct_word.specs.declared.kinds.Kind.TheVariants as kind
use Rattle.ct_word.specs.declared.values.Value.TheVariants as val
use Rattle.ct_word.specs.declared.values.Term.TheVariants as term
use Rattle.ct_condition.proofs.terms.value.Goals as goal

pub returns-in-Int-clause-terms : goal.returns-in-Int-clause-terms
returns-in-Int-clause-terms g c =
    as_stands (g.I.Interner.list c.number.new.pass) c.number.result _ (term.Value c.args.value.now) c.number.ensures.stands (Prim.search rules) c.number.ensures.terms

pub returns-in-Text-clause-terms : goal.returns-in-Text-clause-terms
returns-in-Text-clause-terms g c = as_named (g.I.Interner.list c.over_text.new.pass) c.over_text.result _ (term.Value c.args.value.now) c.over_text.ensures.terms cc

pub returns-in-Other-clause-terms : goal.returns-in-Other-clause-terms
returns-in-Other-clause-terms g c =
    let new = g.I.Interner.list c.put.new.pass in
    both_of c.put.result _ _ _ (λ p stands from. only_term new p kind.OtherValue 0 0 (term.Value c.args.value.now) (under_none new) stands from) (Prim.search rules) c.put.ensures.terms

pub returns-in-Other-clause-known : goal.returns-in-Other-clause-known
returns-in-Other-clause-known g c p s =
    let old = g.I.Interner.list c.args.pass.now in
    let wf = formed_before old (g.I.Interner.list c.put.new.pass) c.put.ensures.longer c.put.ensures.formed in
    let is : c.args.value.now ≡ val.Other c.in-Other.k = cc in
    c.put.ensures.known (other_there old wf p c.in-Other.k (subst (λ x. StandsAt old p (IsTerm (term.Value x))) is s))
