use Rattle.std.{proofs.Common.{◌≡◌, ◌+◌, ◌*◌, length, sym, subst, arith}, proofs.lemmas.List.nil_from_length, proofs.lemmas.Result.err_from_is_err_and}
use Rattle.ct_query.{specs.Bounds.ops, specs.Plain.Select, specs.Pred.condition_of, specs.Terms.condition_terms}
use Rattle.ct_condition.specs.Places.{new_terms}
use Rattle.ct_operators.proofs.Growing.{rows_grow}
use Rattle.ct_algebra.{specs.Evaluates.Evaluates, proofs.Putting.{literals_fit, none_new}, proofs.Growing.answer_grows, proofs.Operators.{select_answers, none_selected}, proofs.Appending.{after_literals, refused_within}}
use Rattle.ct_algebra.proofs.answering.filtered.Goals as goal

pub returns-then-len-eq0-clause-evaluates : goal.returns-then-len-eq0-clause-evaluates
returns-then-len-eq0-clause-evaluates g c =
    λ old db q s.
    let ws = c.args.pass.now.words in
    let none = nil_from_length c.args.table.rows (omega (arith, c.if-len-eq0.true, c.len.ensures)) in
    subst (Evaluates old ws db (Select (condition_of c.args.p.now) q)) (sym c.in_ok-into_table.ensures) (none_selected old ws ws db q c.args.table s (condition_of c.args.p.now) none)

pub put_literals-requires : goal.put_literals-requires
put_literals-requires g c = record { fits = literals_fit (length c.args.table.columns) (condition_of c.args.p.now) c.requires.predicate.fields }

pub returns-in_err-put_literals-clause-grows : goal.returns-in_err-put_literals-clause-grows
returns-in_err-put_literals-clause-grows g c =
    let p = condition_of c.args.p.now in
    let exit = err_from_is_err_and c.from_residual-in_err-put_literals.result c.from_residual-in_err-put_literals.ensures.1 in
    rw (exit.1, exit.2)
    (refused_within _ _ _ (condition_terms p) (condition_terms p) 0 (length c.args.table.rows * (ops p + 1)) (λ t h. h) (omega arith) c.in_err-put_literals.ensures.grows)

pub select-requires : goal.select-requires
select-requires g c = record {
  rows = rows_grow c.args.pass.now.words c.put_literals.new.pass.words c.in_ok-put_literals.ensures.grows.writes.longer c.words.ensures.formed (length c.args.table.columns) c.args.table.rows c.requires.rows;
  predicate = c.requires.predicate;
}

pub returns-clause-evaluates : goal.returns-clause-evaluates
returns-clause-evaluates g c =
    λ old db q s.
    let mid = c.put_literals.new.pass.words in
    let later = answer_grows old c.args.pass.now.words mid db q c.args.table c.in_ok-put_literals.ensures.grows.writes.longer c.words.ensures.formed s in
    select_answers old mid c.select.new.pass.words db q c.args.table later (condition_of c.args.p.now) c.select.result c.select.ensures.columns c.select.ensures.rows c.select.ensures.tuples c.select.ensures.part c.select.ensures.terms

pub returns-clause-grows : goal.returns-clause-grows
returns-clause-grows g c =
    let p = condition_of c.args.p.now in
    let mid = c.put_literals.new.pass.words in
    let most = length c.args.table.rows * (ops p + 1) in
    let nothing : new_terms mid p ≡ 0 = none_new mid p c.in_ok-put_literals.ensures.placed in
    after_literals _ c.put_literals.new.pass _ (condition_terms p) _ c.select.result (new_terms mid p + most) most c.in_ok-put_literals.ensures.grows c.select.ensures.writes
    (omega (arith, nothing))
