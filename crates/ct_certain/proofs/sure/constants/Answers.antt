use Rattle.std.{proofs.Common.{[], ◌∷◌, ◌++◌, ◌&&◌, map, take, get_or, ap, sym, ◌∙◌}, proofs.lemmas.List.{map-append, map_more, take_all}}
use Rattle.std.proofs.lemmas.List.Folds.{list_all_more}
use Rattle.ct_word.{specs.Reading.term_at, specs.Value.{at, tuple_at}}
use Rattle.ct_certain.specs.Constants.{are_constants, is_constant}
use Rattle.ct_certain.proofs.sure.constants.Goals as goal

pub loop-cell-preserved : goal.loop-cell-preserved
loop-cell-preserved c =
    let cells = c.args.cells.now in
    let i = c.loop-cell.cell-index in
    let term = term_at c.args.words.now in
    let done = map term (take i cells) in
    let is = sym c.in-Value.is ∙ c.in_ok-value.ensures in (
      (λ v. c.in_ok-push.ensures.items ∙ ap (λ l. l ++ c.in-Value.value ∷ []) (c.loop-cell.invariant.0 v)
          ∙ ap (λ t. tuple_at v done ++ at v [] t ∷ []) is
          ∙ sym (map-append (at v []) done (term (get_or cells i 0) ∷ [])) ∙ ap (tuple_at v) (sym (map_more term cells i 0 c.loop-cell-test.true))),
      list_all_more (λ p. is_constant (term p)) cells i 0 c.loop-cell-test.true ∙ ap (λ b. b && is_constant (term (get_or cells i 0))) c.loop-cell.invariant.1 ∙ ap is_constant (sym is),
    )

pub returns-clause-values : goal.returns-clause-values
returns-clause-values c = λ v. c.from_vec.ensures ∙ c.loop-cell.invariant.0 v ∙ ap (λ ps. tuple_at v (map (term_at c.args.words.now) ps)) (take_all c.loop-cell.cell-index c.args.cells.now c.loop-cell-test.false)

pub returns-clause-told : goal.returns-clause-told
returns-clause-told c = sym c.loop-cell.invariant.1 ∙ ap (are_constants c.args.words.now) (take_all c.loop-cell.cell-index c.args.cells.now c.loop-cell-test.false)
