use Rattle.std.{proofs.Common.{◌≤◌, ◌<◌, [], length, sym, subst, arith}, proofs.lemmas.List.take_all, proofs.lemmas.List.Elements.All-get_or}
use Rattle.std.proofs.lemmas.Result.{err_from_is_err_and}
use Rattle.ct_condition.proofs.Writes.{writes_none, writes_all, writes_more, writes_last}
use Rattle.ct_certain.{specs.Missing.{AreListed, IsAskedOf}, proofs.Always.sure_later, proofs.Candidates.{asked_later, asked_now}, proofs.Certainties.{listed_none, listed_turn, refutations, takes_before}, proofs.Nearby.near_grows}
use Rattle.ct_certain.proofs.certainty.each_certain.Goals as goal

pub loop-tuple-init : goal.loop-tuple-init
loop-tuple-init g c =
    let words = g.I.Interner.list c.args.pass.now in
    record {
      writes = writes_none _ c.words.ensures.formed c.words.ensures.room;
      lists = subst (AreListed words words c.args.global c.args.table.now.rows []) (sym c.new.ensures.items) (listed_none words c.args.global c.args.table.now.rows words);
      pool = c.requires.pool;
    }

pub try_tuple-requires-clause-asked : goal.try_tuple-requires-clause-asked
try_tuple-requires-clause-asked g c =
    let words = g.I.Interner.list c.args.pass.now in
    let now = g.I.Interner.list c.loop-tuple.pass in
    let width = length c.args.table.now.columns in
    let rows = c.args.table.now.rows in
    let tuple = c.tuple-item.result in
    let asked = subst (IsAskedOf words words c.args.global width rows) (sym c.tuple-item.is) (All-get_or (IsAskedOf words words c.args.global width rows) c.args.candidates.now c.loop-tuple.tuple-index tuple c.loop-tuple-test.true c.requires.asked) in
    asked_now words now c.args.global width rows tuple c.loop-tuple.invariant.writes.formed (asked_later words words now c.args.global width rows tuple c.loop-tuple.invariant.writes.longer asked)

pub try_tuple-requires-clause-near : goal.try_tuple-requires-clause-near
try_tuple-requires-clause-near g c =
    near_grows (g.I.Interner.list c.args.pass.now) (g.I.Interner.list c.loop-tuple.pass) c.loop-tuple.invariant.writes.longer c.loop-tuple.invariant.writes.formed c.words.ensures.formed c.args.global c.args.near.now c.requires.near

pub try_tuple-requires-clause-sure : goal.try_tuple-requires-clause-sure
try_tuple-requires-clause-sure g c =
    let words = g.I.Interner.list c.args.pass.now in
    let now = g.I.Interner.list c.loop-tuple.pass in
    let width = length c.args.table.now.columns in
    let rows = c.args.table.now.rows in
    let tuple = c.tuple-item.result in
    let asked = subst (IsAskedOf words words c.args.global width rows) (sym c.tuple-item.is) (All-get_or (IsAskedOf words words c.args.global width rows) c.args.candidates.now c.loop-tuple.tuple-index tuple c.loop-tuple-test.true c.requires.asked) in
    sure_later words now c.args.global width rows tuple (asked_later words words now c.args.global width rows tuple c.loop-tuple.invariant.writes.longer asked) c.args.sure.now.keys c.requires.sure

pub try_tuple-requires-clause-listed : goal.try_tuple-requires-clause-listed
try_tuple-requires-clause-listed g c =
    refutations (g.I.Interner.list c.args.pass.now) c.args.global c.args.table.now.rows (g.I.Interner.list c.loop-tuple.pass) c.loop-tuple.list.rows.items c.loop-tuple.invariant.lists.refuted

pub loop-tuple-preserved : goal.loop-tuple-preserved
loop-tuple-preserved g c =
    let words = g.I.Interner.list c.args.pass.now in
    let now = g.I.Interner.list c.loop-tuple.pass in
    let new = g.I.Interner.list c.try_tuple.new.pass in
    let width = length c.args.table.now.columns in
    let rows = c.args.table.now.rows in
    let global = c.args.global in
    let i = c.loop-tuple.tuple-index in
    let tuple = c.tuple-item.result in
    let list = c.loop-tuple.list.rows.items in
    let out = c.try_tuple.new.list.rows.items in
    let asked = subst (IsAskedOf words words global width rows) (sym c.tuple-item.is) (All-get_or (IsAskedOf words words global width rows) c.args.candidates.now i tuple c.loop-tuple-test.true c.requires.asked) in
    let takes = takes_before words global rows now new width tuple list out (asked_later words words now global width rows tuple c.loop-tuple.invariant.writes.longer asked) c.in_ok-try_tuple.ensures.takes in
    record {
      writes = writes_more _ i c.loop-tuple.invariant.writes c.in_ok-try_tuple.ensures.writes;
      lists = listed_turn words global rows now new c.args.candidates.now i tuple list out c.in_ok-try_tuple.ensures.writes.longer c.loop-tuple-test.true c.tuple-item.is c.loop-tuple.invariant.lists takes;
      pool = c.in_ok-try_tuple.ensures.pool;
    }

pub returns-clause-lists : goal.returns-clause-lists
returns-clause-lists g c =
    let words = g.I.Interner.list c.args.pass.now in
    let now = g.I.Interner.list c.loop-tuple.pass in
    let done = take_all c.loop-tuple.tuple-index c.args.candidates.now c.loop-tuple-test.false in
    let all = subst (λ d. AreListed words now c.args.global c.args.table.now.rows d c.loop-tuple.list.rows.items) done c.loop-tuple.invariant.lists in
    subst (AreListed words now c.args.global c.args.table.now.rows c.args.candidates.now) (sym c.from_vec.ensures) all

pub returns-clause-writes : goal.returns-clause-writes
returns-clause-writes g c =
    let end : c.loop-tuple.tuple-index ≤ length c.args.candidates.now = c.loop-tuple.auto.tuple-index-end in
    let few : length c.args.candidates.now ≤ length c.args.table.now.rows = c.requires.few in
    let le : c.loop-tuple.tuple-index ≤ length c.args.table.now.rows = omega (arith, end, few) in
    writes_all _ c.loop-tuple.tuple-index c.loop-tuple.invariant.writes (length c.args.table.now.rows) le

pub returns-in_err-try_tuple-clause-writes : goal.returns-in_err-try_tuple-clause-writes
returns-in_err-try_tuple-clause-writes g c =
    let exit = err_from_is_err_and c.from_residual.result c.from_residual.ensures.1 in
    let lt : c.loop-tuple.tuple-index < length c.args.candidates.now = c.loop-tuple-test.true in
    let few : length c.args.candidates.now ≤ length c.args.table.now.rows = c.requires.few in
    let le : c.loop-tuple.tuple-index < length c.args.table.now.rows = omega (arith, lt, few) in
    rw (exit.1, exit.2) (writes_last _ _ c.loop-tuple.invariant.writes _ le c.in_err-try_tuple.ensures.writes)
