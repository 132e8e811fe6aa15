use Rattle.std.{proofs.Common.{◌<◌, ◌∙◌, length, sym, subst}, specs.Prelude.{All, IsTrue}}
use Rattle.ct_word.{specs.Stands.TermBelow, specs.WellFormed.is_place_of}
use Rattle.ct_word.specs.declared.kinds.Class.TheVariants as class
use Rattle.ct_word.specs.declared.values.Term.TheVariants as term
use Rattle.ct_deciding_tests.proofs.Updated.{IsSetOf, fits_update}
use Rattle.ct_deciding_tests.proofs.tests.updating.changed.Goals as goal

pub update-requires-clause-update : goal.update-requires-clause-update
update-requires-clause-update g c =
    let words = c.args.pass.now.words in
    let sets = c.args.sets.now in
    fits_update words (length c.args.table.now.columns) sets c.args.cond
    (subst (λ n. All (IsSetOf words n) sets) c.len-width.ensures
    (subst (λ ws. All (IsSetOf ws c.len-width.result) sets) c.words-2.ensures.words (c.are_sets.ensures c.if-not-are_sets.false)))
    (subst (λ ws. IsTrue (is_place_of ws class.Cond c.args.cond)) c.words.ensures.words (sym c.is_place.ensures ∙ c.if-not-is_place.false))
    (λ p k t. subst (λ n. k < n) c.len-width.ensures
    (c.are_columns_within.ensures c.if-not-are_columns_within.false p k (subst (λ ws. TermBelow ws p (term.Column k)) (sym c.words-3.ensures.words) t)))
