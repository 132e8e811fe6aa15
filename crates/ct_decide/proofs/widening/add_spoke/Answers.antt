use Rattle.std.proofs.Common.{◌≤◌, ℕ, subst}
use Rattle.std.proofs.lemmas.Result.{on_ok_weaker}
use Rattle.ct_decide.{specs.Asking.left, proofs.Askings.atom_left, proofs.Pairs.terms_of}
use Rattle.ct_decide.proofs.widening.add_spoke.Goals as goal

pub add_end-requires-clause-first : goal.add_end-requires-clause-first
add_end-requires-clause-first c = (terms_of c.args.words.now c.args.aim c.args.asking.now c.requires c.args.first c.args.middle (c.is_next.ensures c.if-not-is_next.false).begins).first

pub add_end-requires-clause-second : goal.add_end-requires-clause-second
add_end-requires-clause-second c = (terms_of c.args.words.now c.args.aim c.args.asking.now c.requires c.args.middle c.args.last (c.is_next.ensures c.if-not-is_next.false).goes_on).second

pub returns-clause-fewer : goal.returns-clause-fewer
returns-clause-fewer c =
    on_ok_weaker _ (λ le. subst (λ (n : ℕ). left c.add_known.new.asking ≤ n) (atom_left c.args.asking.now c.add_end.new.asking c.in_ok-add_end.ensures.adds.adds) le) c.add_known.ensures.fewer
