use Rattle.std.{proofs.Common.{◌≡◌, ◌≤◌, ◌<◌, ◌+◌, ◌∙◌, [], ◌∷◌, ◌++◌, filter, length, take, ap, sym, subst, arith}, specs.Prelude.All, proofs.lemmas.List.{take_all, take_more}}
use Rattle.std.proofs.lemmas.{List.Elements.{All-get_or, All-nil, filter-append}, Result.err_from_is_err_and}
use Rattle.ct_condition.proofs.Writes.{writes_none, writes_all, writes_more, writes_last}
use Rattle.ct_certain.{specs.Missing.{IsAskedOf, is_in_each}, proofs.Candidates.{asked_later, asked_now}, proofs.Always.sure_later}
use Rattle.ct_questions.{specs.Candidates.{IsCandidate, tuples_of}}
use Rattle.ct_questions.proofs.tuples.candidates_in.Goals as goal

pub loop-tuple-init : goal.loop-tuple-init
loop-tuple-init g c =
    let words = g.I.Interner.list c.args.pass.now in
    record {
      writes = writes_none _ c.words.ensures.formed c.words.ensures.room;
      tuples = ap tuples_of c.new-list.ensures.items;
      roots = subst (All (IsCandidate words words c.args.global c.args.table.now.rows)) (sym c.new-list.ensures.items) (All-nil _);
    }

pub add_candidate-requires-clause-sure : goal.add_candidate-requires-clause-sure
add_candidate-requires-clause-sure g c =
    let words = g.I.Interner.list c.args.pass.now in
    let now = g.I.Interner.list c.loop-tuple.pass in
    let width = length c.args.table.now.columns in
    let rows = c.args.table.now.rows in
    let asked = subst (IsAskedOf words words c.args.global width rows) (sym c.tuple-item.is) (All-get_or (IsAskedOf words words c.args.global width rows) c.args.tuples.now c.loop-tuple.tuple-index c.tuple-item.result c.loop-tuple-test.true c.requires.asked) in
    sure_later words now c.args.global width rows c.tuple-item.result (asked_later words words now c.args.global width rows c.tuple-item.result c.loop-tuple.invariant.writes.longer asked) c.args.sure.now.keys c.requires.sure

pub add_candidate-requires-clause-asked : goal.add_candidate-requires-clause-asked
add_candidate-requires-clause-asked g c =
    let words = g.I.Interner.list c.args.pass.now in
    let now = g.I.Interner.list c.loop-tuple.pass in
    let width = length c.args.table.now.columns in
    let rows = c.args.table.now.rows in
    let asked = subst (IsAskedOf words words c.args.global width rows) (sym c.tuple-item.is) (All-get_or (IsAskedOf words words c.args.global width rows) c.args.tuples.now c.loop-tuple.tuple-index c.tuple-item.result c.loop-tuple-test.true c.requires.asked) in
    asked_now words now c.args.global width rows c.tuple-item.result c.loop-tuple.invariant.writes.formed (asked_later words words now c.args.global width rows c.tuple-item.result c.loop-tuple.invariant.writes.longer asked)

pub loop-tuple-preserved : goal.loop-tuple-preserved
loop-tuple-preserved g c =
    let words = g.I.Interner.list c.args.pass.now in
    let now = g.I.Interner.list c.loop-tuple.pass in
    let width = length c.args.table.now.columns in
    let rows = c.args.table.now.rows in
    let tuples = c.args.tuples.now in
    let tuple = c.tuple-item.result in
    let i = c.loop-tuple.tuple-index in
    let test = is_in_each c.args.known.now in
    let asked = subst (IsAskedOf words words c.args.global width rows) (sym c.tuple-item.is) (All-get_or (IsAskedOf words words c.args.global width rows) tuples i tuple c.loop-tuple-test.true c.requires.asked) in
    let done : take i tuples ++ tuple ∷ [] ≡ take (i + 1) tuples = ap (λ x. take i tuples ++ x ∷ []) c.tuple-item.is ∙ sym (take_more tuples i tuple c.loop-tuple-test.true) in
    record {
      writes = writes_more _ i c.loop-tuple.invariant.writes c.in_ok-add_candidate.ensures.writes;
      tuples = c.in_ok-add_candidate.ensures.tuples ∙ ap (λ l. l ++ filter test (tuple ∷ [])) c.loop-tuple.invariant.tuples ∙ sym (filter-append test (take i tuples) (tuple ∷ [])) ∙ ap (filter test) done;
      roots = c.in_ok-add_candidate.ensures.roots words (asked_later words words now c.args.global width rows tuple c.loop-tuple.invariant.writes.longer asked) c.loop-tuple.invariant.roots;
    }

pub returns-clause-tuples : goal.returns-clause-tuples
returns-clause-tuples g c =
    ap tuples_of c.from_vec.ensures ∙ c.loop-tuple.invariant.tuples ∙ ap (filter (is_in_each c.args.known.now)) (take_all c.loop-tuple.tuple-index c.args.tuples.now c.loop-tuple-test.false)

pub returns-clause-writes : goal.returns-clause-writes
returns-clause-writes g c =
    let end : c.loop-tuple.tuple-index ≤ length c.args.tuples.now = c.loop-tuple.auto.tuple-index-end in
    let few : length c.args.tuples.now ≤ length c.args.table.now.rows = c.requires.few in
    let le : c.loop-tuple.tuple-index ≤ length c.args.table.now.rows = omega (arith, end, few) in
    writes_all _ c.loop-tuple.tuple-index c.loop-tuple.invariant.writes (length c.args.table.now.rows) le

pub returns-in_err-add_candidate-clause-writes : goal.returns-in_err-add_candidate-clause-writes
returns-in_err-add_candidate-clause-writes g c =
    let exit = err_from_is_err_and c.from_residual.result c.from_residual.ensures.1 in
    let lt : c.loop-tuple.tuple-index < length c.args.tuples.now = c.loop-tuple-test.true in
    let few : length c.args.tuples.now ≤ length c.args.table.now.rows = c.requires.few in
    let le : c.loop-tuple.tuple-index < length c.args.table.now.rows = omega (arith, lt, few) in
    rw (exit.1, exit.2) (writes_last _ _ c.loop-tuple.invariant.writes _ le c.in_err-add_candidate.ensures.writes)
