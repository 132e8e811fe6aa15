use Rattle.std.{proofs.Common.{◌≡◌, ◌≤◌, ◌*◌, [], length, sym, subst, arith}, proofs.lemmas.List.take_all, proofs.lemmas.Result.err_from_is_err_and}
use Rattle.ct_word.proofs.Prefixes.{place_in_prefix}
use Rattle.ct_condition.proofs.Writes.{writes_none, writes_within, writes_as, writes_more, writes_last}
use Rattle.ct_certain.proofs.Listing.{row_of}
use Rattle.ct_questions.{specs.Roots.AreRowRoots, proofs.Rooted.{roots_turn, row_root}}
use Rattle.ct_word.specs.declared.kinds.Class.TheVariants as class
use Rattle.ct_questions.proofs.rows.row_roots.Goals as goal

pub loop-row-init : goal.loop-row-init
loop-row-init g c =
    let words = g.I.Interner.list c.args.pass.now in
    record {
      writes = writes_none _ c.words.ensures.formed c.words.ensures.room;
      roots = subst (AreRowRoots words words c.args.global []) (sym c.new-roots.ensures.items) tt;
    }

pub and-requires-clause-left : goal.and-requires-clause-left
and-requires-clause-left g c =
    let words = g.I.Interner.list c.args.pass.now in
    place_in_prefix words (g.I.Interner.list c.loop-row.pass) class.Cond c.args.global c.loop-row.invariant.writes.longer
    (row_of words c.args.global c.args.rows.now c.loop-row.row-index c.row-item.result c.loop-row-test.true c.row-item.is c.requires).global_is

pub and-requires-clause-right : goal.and-requires-clause-right
and-requires-clause-right g c =
    let words = g.I.Interner.list c.args.pass.now in
    place_in_prefix words (g.I.Interner.list c.loop-row.pass) class.Cond c.row-item.result.cond c.loop-row.invariant.writes.longer
    (row_of words c.args.global c.args.rows.now c.loop-row.row-index c.row-item.result c.loop-row-test.true c.row-item.is c.requires).condition

pub loop-row-preserved : goal.loop-row-preserved
loop-row-preserved g c =
    let words = g.I.Interner.list c.args.pass.now in
    let now = g.I.Interner.list c.loop-row.pass in
    let new = g.I.Interner.list c.and.new.pass in
    let rows = c.args.rows.now in
    let i = c.loop-row.row-index in
    let row = c.row-item.result in
    let root = c.in_ok-root.root in
    let are = row_of words c.args.global rows i row c.loop-row-test.true c.row-item.is c.requires in
    record {
      writes = writes_more _ i c.loop-row.invariant.writes c.in_ok-root.ensures.writes;
      roots = roots_turn words now new c.in_ok-root.ensures.longer c.in_ok-root.ensures.formed c.args.global rows i row c.loop-row.roots.items c.push.new.self.items root c.loop-row-test.true c.row-item.is c.in_ok-push.ensures.items c.loop-row.invariant.roots
          (row_root words now new c.loop-row.invariant.writes.longer c.loop-row.invariant.writes.formed c.args.global row are root c.in_ok-root.ensures.longer c.in_ok-root.ensures.truth c.in_ok-root.ensures.terms);
    }

pub returns-clause-roots : goal.returns-clause-roots
returns-clause-roots g c =
    let words = g.I.Interner.list c.args.pass.now in
    let new = g.I.Interner.list c.loop-row.pass in
    let done = take_all c.loop-row.row-index c.args.rows.now c.loop-row-test.false in
    subst (AreRowRoots words new c.args.global c.args.rows.now) (sym c.from_vec.ensures) (subst (λ d. AreRowRoots words new c.args.global d c.loop-row.roots.items) done c.loop-row.invariant.roots)

pub returns-clause-writes : goal.returns-clause-writes
returns-clause-writes g c = let le : c.loop-row.row-index ≤ length c.args.rows.now = c.loop-row.auto.row-index-end in writes_within _ (omega (arith, le)) c.loop-row.invariant.writes

pub returns-in_err-root-clause-writes : goal.returns-in_err-root-clause-writes
returns-in_err-root-clause-writes g c =
    let exit = err_from_is_err_and c.from_residual.result c.from_residual.ensures.1 in
    let n : length c.args.rows.now * 1 ≡ length c.args.rows.now = omega arith in
    rw (exit.1, exit.2) (writes_as n (writes_last _ _ c.loop-row.invariant.writes _ c.loop-row-test.true c.in_err-root.ensures.writes))

pub returns-in_err-push-clause-writes : goal.returns-in_err-push-clause-writes
returns-in_err-push-clause-writes g c =
    let exit = err_from_is_err_and c.from_residual-in_err-push.result c.from_residual-in_err-push.ensures.1 in
    let n : length c.args.rows.now * 1 ≡ length c.args.rows.now = omega arith in
    rw (exit.1, exit.2) (writes_as n (writes_last _ _ c.loop-row.invariant.writes _ c.loop-row-test.true c.in_ok-root.ensures.writes))
