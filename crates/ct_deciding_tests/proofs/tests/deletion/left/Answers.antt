use Rattle.std.proofs.Common.{sym, subst}
use Rattle.ct_word.specs.Stands.{TermBelow}
use Rattle.ct_word.specs.declared.values.Term.TheVariants as term
use Rattle.ct_deciding_tests.proofs.tests.deletion.left.Goals as goal

pub delete-requires-clause-columns : goal.delete-requires-clause-columns
delete-requires-clause-columns g c k t =
    absurd (c.no_columns.ensures c.if-not-no_columns.false c.args.cond k
    (subst (λ words. TermBelow words c.args.cond (term.Column k)) (sym c.words-2.ensures.words) t))
