use Rattle.std.proofs.Common.{List, ℕ, sym, subst}
use Rattle.ct_word.proofs.Items.{sole_item}
use Rattle.ct_decide.{specs.Part.{AreConditionsBelow, IsAtomOf}, proofs.Nearby.{reached_below, root_below}}
use Rattle.ct_decide.proofs.near.begin_part.Goals as goal

pub define_all-requires-clause-below : goal.define_all-requires-clause-below
define_all-requires-clause-below c =
    subst (λ (ps : List ℕ). AreConditionsBelow c.args.words.now c.args.aim.root ps) (sym c.as_slice.ensures.value)
    (reached_below c.args.words.now c.args.aim.root c.args.asked.now c.in_ok-conditions.conditions.items c.requires.asked c.in_ok-conditions.ensures)

pub add_clause-requires-clause-of : goal.add_clause-requires-clause-of
add_clause-requires-clause-of c l h =
    subst (λ x. IsAtomOf c.args.words.now c.args.aim.root x.atom) (sole_item c.yes.result l h)
    (subst (λ x. IsAtomOf c.args.words.now c.args.aim.root x.atom) (sym c.yes.ensures) (root_below c.args.words.now c.args.aim.root c.requires.condition))
