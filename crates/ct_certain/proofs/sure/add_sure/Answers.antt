use Rattle.std.{proofs.Common.{◌≡◌, [], ◌∷◌, ◌++◌, map, ap, sym, subst, ◌∙◌}, specs.Prelude.{IfSome, is_some}, specs.Cmp.Lexicographic.pointwise}
use Rattle.ct_word.{specs.Reading.term_at, specs.Value.{World, same_tuple, tuple_at}}
use Rattle.ct_operators.specs.Tables.{firsts}
use Rattle.ct_certain.specs.{Missing.IsSure, Constants.are_constants}
use Rattle.ct_certain.proofs.{Always.{all_put, row_sure}, Candidates.first_put, Constants.{sure_one, under_true}}
use Rattle.ct_word.specs.contracts.values.ValuePartialEq.TheImpl as value_eq
use Rattle.ct_certain.proofs.sure.add_sure.Goals as goal

pub returns-in_ok-insert-clause-sure : goal.returns-in_ok-insert-clause-sure
returns-in_ok-insert-clause-sure c = λ rs among all.
    let words = c.args.words.now in
    let row = c.args.row.now in
    let same : (v : World) → c.in-Some.tuple ≡ tuple_at v (map (term_at words) c.as_slice.result.now) =
    subst (λ o. IfSome o (λ t. (v : World) → t ≡ tuple_at v (map (term_at words) c.as_slice.result.now))) c.in-Some.is c.in_ok-tuple.ensures.values in
    all_put (IsSure words rs) (pointwise value_eq.ghosts.eq) c.args.sure.now.keys c.insert.new.self.keys c.in-Some.tuple c.in_ok-insert.ensures.keys
    (row_sure words c.requires.begins c.requires.formed rs row among c.if-row-ne-TRUE_PLACE.false c.in-Some.tuple (λ v. same v ∙ ap (λ ps. tuple_at v (map (term_at words) ps)) c.as_slice.ensures)) all

pub returns-in_ok-insert-clause-puts : goal.returns-in_ok-insert-clause-puts
returns-in_ok-insert-clause-puts c = λ before e.
    let words = c.args.words.now in
    let row = c.args.row.now in
    let same : (v : World) → c.in-Some.tuple ≡ tuple_at v (map (term_at words) c.as_slice.result.now) =
    subst (λ o. IfSome o (λ t. (v : World) → t ≡ tuple_at v (map (term_at words) c.as_slice.result.now))) c.in-Some.is c.in_ok-tuple.ensures.values in
    let is = same [] ∙ ap (λ ps. tuple_at [] (map (term_at words) ps)) c.as_slice.ensures in
    let all = ap (are_constants words) (sym c.as_slice.ensures) ∙ sym c.in_ok-tuple.ensures.told ∙ ap is_some c.in-Some.is in
    first_put before c.in-Some.tuple c.args.sure.now.keys c.insert.new.self.keys e c.in_ok-insert.ensures.keys
    ∙ ap (λ t. firsts same_tuple (before ++ t ∷ [])) is
    ∙ ap (firsts same_tuple) (sure_one words row before (under_true words row c.if-row-ne-TRUE_PLACE.false ∙ all))
