use Rattle.std.proofs.Common.{◌≡◌, true, List, ℤ, length, take, ap, ◌∙◌, sym, subst, refl}
use Rattle.std.proofs.lemmas.List.{take_more, Elements.Contains-get_or}
use Rattle.ct_derivation.specs.Variables.{is_clause}
use Rattle.ct_cnf.specs.Encoding.{through}
use Rattle.ct_decide.proofs.{Parts.{adds_none, adds_then, clause_begins, literal_put}, Clauses.stored_literal}
use Rattle.ct_decide.proofs.part.clause.Goals as goal

pub loop-k-init : goal.loop-k-init
loop-k-init c =
    let begins = clause_begins c.args.part.now.posed.atoms.items c.new-clause.result.items c.new-clause.ensures.items in
    record { part = c.requires.part; adds = adds_none c.args.part.now c.args.part.now refl; within = begins.0; is = begins.1 }

pub literal-requires-clause-of : goal.literal-requires-clause-of
literal-requires-clause-of c = c.requires.of _ (Contains-get_or c.args.literals.now c.loop-k.k _ c.loop-k-test.true)

pub loop-k-preserved : goal.loop-k-preserved
loop-k-preserved c =
    let i = c.loop-k.invariant in
    let next = c.in_ok-next.ensures in
    let old = c.loop-k.part in
    let new = c.literal.new.part in
    let ls = c.loop-k.clause.items in
    let put = literal_put old new ls (take c.loop-k.k c.args.literals.now) _ c.in_ok-next.next next.adds i.within i.is next.named in
    let pushed = c.in_ok-push.ensures.items ∙ stored_literal (length new.posed.atoms.items) c.in_ok-next.next ls next.part.posed.few next.named.within in
    record {
      part = next.part;
      adds = adds_then c.args.part.now old new i.adds next.adds;
      within = subst (λ (xs : List ℤ). is_clause (length new.posed.atoms.items) xs ≡ true) (sym pushed) put.0;
      is = ap (through new.posed.atoms.items) pushed ∙ put.1 ∙ sym (take_more c.args.literals.now c.loop-k.k _ c.loop-k-test.true);
    }
