use Rattle.std.{proofs.Common.{[], ◌∷◌, sym, subst, ◌∙◌}, proofs.lemmas.List.Elements.{All-nil, All-cons}, specs.Prelude.IsTrue}
use Rattle.ct_word.{specs.WellFormed.is_place_of, proofs.Prefixes.{prefix_of_prefix, place_in_prefix}}
use Rattle.ct_history.specs.Rows.{AreTerms}
use Rattle.ct_word.specs.declared.kinds.Class.TheVariants as class
use Rattle.ct_log_tests.proofs.tests.changes.row.Goals as goal

pub returns-clause-row : goal.returns-clause-row
returns-clause-row g c =
    let first = c.placed.new.pass.words in
    let mid = c.placed-2.new.pass.words in
    let new = c.eq.new.pass.words in
    let one = place_in_prefix first new class.Term c.in_ok-one.one (prefix_of_prefix first mid new c.in_ok-x.ensures.longer c.in_ok-cond.ensures.longer) c.in_ok-one.ensures.place in
    let x = place_in_prefix mid new class.Term c.in_ok-x.x c.in_ok-cond.ensures.longer c.in_ok-x.ensures.place in
    record {
      terms =
          subst (AreTerms new) (sym (c.from_vec-cells.ensures ∙ c.in_ok-from_array.ensures.items))
          (All-cons (λ p. IsTrue (is_place_of new class.Term p)) c.in_ok-one.one (c.in_ok-x.x ∷ []) one (All-cons (λ p. IsTrue (is_place_of new class.Term p)) c.in_ok-x.x [] x (All-nil (λ p. IsTrue (is_place_of new class.Term p)))));
      condition = c.in_ok-cond.ensures.truth.class;
    }
