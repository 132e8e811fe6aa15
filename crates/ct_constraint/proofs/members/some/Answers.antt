use Rattle.std.{proofs.Common.{◌≡◌, ◌≤◌, ◌*◌, length, take, sym, subst, refl, arith, inr}, proofs.lemmas.List.take_all, proofs.lemmas.Result.err_from_is_err_and}
use Rattle.ct_word.proofs.Prefixes.{place_within}
use Rattle.ct_condition.proofs.{Writes.{writes_none, writes_within, writes_as, writes_more, writes_last}, Denied.below_literal}
use Rattle.ct_operators.{specs.Building.HoldsWhere, specs.Tables.value_of_rows, specs.Terms.TermOfRows, proofs.Selecting.{turn}}
use Rattle.ct_operators.proofs.{Holding.{holds_as, holds_itself, holds_later, holds_false, holds_or}, Reaching.{foremost, below_before, from_two}}
use Rattle.ct_query.specs.Assertions.{has_member}
use Rattle.ct_constraint.proofs.Shown.{member_more}
use Rattle.ct_word.specs.declared.kinds.Class.TheVariants as class
use Rattle.ct_constraint.proofs.members.some.Goals as goal

pub loop-row-init : goal.loop-row-init
loop-row-init g c = record {
  writes = writes_none _ c.words.ensures.formed c.words.ensures.room;
  holds = holds_false _ c.words.ensures.begins c.words.ensures.formed;
  from = λ t h. absurd (below_literal _ c.words.ensures.formed c.words.ensures.begins 1 (inr refl) t h);
  none = λ z. refl;
}

pub or-requires-clause-left : goal.or-requires-clause-left
or-requires-clause-left g c = c.loop-row.invariant.holds.class

pub or-requires-clause-right : goal.or-requires-clause-right
or-requires-clause-right g c =
    (turn _ _ _ _ _ _ c.loop-row.invariant.writes.longer c.words.ensures.formed c.requires.rows.each _ c.as_slice-row-items.ensures c.loop-row-test.true c.row-item.is).is.condition

pub loop-row-preserved : goal.loop-row-preserved
loop-row-preserved g c =
    let old = g.I.Interner.list c.args.pass.now in
    let now = g.I.Interner.list c.loop-row.pass in
    let new = g.I.Interner.list c.or.new.pass in
    let rows = c.args.table.now.rows in
    let i = c.loop-row.row-index in
    let r = c.row-item.result in
    let any = c.loop-row.any in
    let place = c.in_ok-any.any in
    let grown = c.loop-row.invariant.writes.longer in
    let formed = c.words.ensures.formed in
    let t = turn old now _ rows i r grown formed c.requires.rows.each _ c.as_slice-row-items.ensures c.loop-row-test.true c.row-item.is in
    let within = place_within old class.Cond r.cond t.was.condition in
    record {
      writes = writes_more _ i c.loop-row.invariant.writes c.in_ok-any.ensures.writes;
      holds = subst (λ d. HoldsWhere new place (λ v. has_member (value_of_rows old v d))) t.done
          (holds_as new place _ _ (λ v. sym (member_more old (take i rows) r v))
          (holds_or now new any r.cond place _ _ c.loop-row.invariant.holds (holds_later old now r.cond _ grown (holds_itself old r.cond t.was.condition)) c.in_ok-any.ensures.truth));
      from = from_two now new any r.cond place (TermOfRows old rows) c.loop-row.invariant.from
          (λ u h. record { row = r; among = t.among; below = record { place = r.cond; among = foremost r.cond r.cells; below = below_before old now grown formed r.cond u within h } })
          c.in_ok-any.ensures.terms;
      none = λ z. absurd (omega (arith, z, t.within));
    }

pub returns-clause-holds : goal.returns-clause-holds
returns-clause-holds g c =
    let old = g.I.Interner.list c.args.pass.now in
    subst (λ d. HoldsWhere (g.I.Interner.list c.loop-row.pass) c.loop-row.any (λ v. has_member (value_of_rows old v d)))
    (take_all c.loop-row.row-index c.args.table.now.rows (subst (λ l. length l ≤ c.loop-row.row-index) c.as_slice-row-items.ensures c.loop-row-test.false)) c.loop-row.invariant.holds

pub returns-clause-writes : goal.returns-clause-writes
returns-clause-writes g c =
    let le : c.loop-row.row-index ≤ length c.args.table.now.rows = subst (λ l. c.loop-row.row-index ≤ length l) c.as_slice-row-items.ensures c.loop-row.auto.row-index-end in
    writes_within _ (omega (arith, le)) c.loop-row.invariant.writes

pub returns-in_err-any-clause-writes : goal.returns-in_err-any-clause-writes
returns-in_err-any-clause-writes g c =
    let n : length c.args.table.now.rows * 1 ≡ length c.args.table.now.rows = omega arith in
    let t = turn _ _ _ _ _ _ c.loop-row.invariant.writes.longer c.words.ensures.formed c.requires.rows.each _ c.as_slice-row-items.ensures c.loop-row-test.true c.row-item.is in
    rw (err_from_is_err_and c.from_residual.result c.from_residual.ensures.1).1 (writes_as n (writes_last _ _ c.loop-row.invariant.writes _ t.within c.in_err-any.ensures.writes))
