use Rattle.std.proofs.Common.{[], ◌∷◌, ap, subst, ◌∙◌}
use Rattle.ct_word.specs.Value.{value_of_null}
use Rattle.ct_condition.specs.Terms.{BelowSome}
use Rattle.ct_tidy.specs.Nulls.{AreNullsOf}
use Rattle.ct_certain.specs.Answered.{IsSettled}
use Rattle.ct_questions.proofs.Rooted.{shown_never, shown_own}
use Rattle.ct_questions.proofs.rows.shown.Goals as goal

pub returns-in-Refuted : goal.returns-in-Refuted
returns-in-Refuted c = λ old global is. shown_never old c.args.words.now global c.args.row.now c.args.root is c.requires.formed c.in-Refuted.field-0 (subst (IsSettled c.args.words.now c.args.root) c.in-Refuted.is c.requires.right).0

pub returns-in_ok-world-in-World : goal.returns-in_ok-world-in-World
returns-in_ok-world-in-World c = λ old global is.
    let words = c.args.words.now in
    let row = c.args.row.now in
    let root = c.args.root in
    let v = c.in-World.world in
    let ns = c.in_ok-own-in-World.own.keys in
    let below = subst (λ cs. AreNullsOf (BelowSome words (root ∷ cs)) ns) c.as_slice.ensures c.in_ok-own-in-World.ensures in
    shown_own old words global row root is c.requires.formed ns c.new-none.result.keys below c.new-none.ensures.empty v c.in_ok-world-in-World.world (subst (IsSettled words root) c.in-World.is c.requires.right)
    (λ n. c.in_ok-world-in-World.ensures.same n ∙ ap (λ p. value_of_null p n) c.in_ok-part-in-World.ensures) c.in_ok-world-in-World.ensures.tidy
