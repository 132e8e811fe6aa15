use Rattle.std.{proofs.Common.{◌≡◌, ◌≤◌, ◌*◌, ◌+◌, ◌++◌, ◌∷◌, ◌∙◌, [], length, take, ap, sym, subst, arith}, proofs.lemmas.List.take_more}
use Rattle.std.{proofs.lemmas.List.Elements.All-get_or, proofs.lemmas.Result.err_from_is_err_and}
use Rattle.ct_condition.proofs.Writes.{writes_none, writes_within, writes_as, writes_more, writes_last}
use Rattle.ct_certain.{specs.Missing.{AreOfTuple, IsAtHand}, proofs.Values.{at_hand_grows, are_turn}}
use Rattle.ct_certain.proofs.absence.places.Goals as goal

pub loop-value-init : goal.loop-value-init
loop-value-init g c = record {
  writes = writes_none _ c.words.ensures.formed c.words.ensures.room;
  places = subst (AreOfTuple (g.I.Interner.list c.args.pass.now) []) (sym c.new-places.ensures.items) tt;
}

pub place_of-requires : goal.place_of-requires
place_of-requires g c =
    let old = g.I.Interner.list c.args.pass.now in
    at_hand_grows old (g.I.Interner.list c.loop-value.pass) c.value-item.result c.loop-value.invariant.writes.longer
    (subst (IsAtHand old) (sym c.value-item.is) (All-get_or (IsAtHand old) c.args.tuple.now c.loop-value.value-index c.value-item.result c.loop-value-test.true c.requires))

pub loop-value-preserved : goal.loop-value-preserved
loop-value-preserved g c =
    let xs = c.args.tuple.now in
    let i = c.loop-value.value-index in
    let x = c.value-item.result in
    let done : take i xs ++ x ∷ [] ≡ take (i + 1) xs = ap (λ y. take i xs ++ y ∷ []) c.value-item.is ∙ sym (take_more xs i x c.loop-value-test.true) in
    record {
      writes = writes_more _ i c.loop-value.invariant.writes c.in_ok-place.ensures.writes;
      places = subst (AreOfTuple (g.I.Interner.list c.place_of.new.pass) (take (i + 1) xs)) (sym c.in_ok-push.ensures.items)
          (are_turn (g.I.Interner.list c.loop-value.pass) (g.I.Interner.list c.place_of.new.pass) xs i x c.loop-value.places.items c.in_ok-place.place c.in_ok-place.ensures.writes.longer c.in_ok-place.ensures.writes.formed done
          c.loop-value.invariant.places c.in_ok-place.ensures.place);
    }

pub returns-clause-writes : goal.returns-clause-writes
returns-clause-writes g c = let le : c.loop-value.value-index ≤ length c.args.tuple.now = c.loop-value.auto.value-index-end in writes_within _ (omega (arith, le)) c.loop-value.invariant.writes

pub returns-in_err-place-clause-writes : goal.returns-in_err-place-clause-writes
returns-in_err-place-clause-writes g c =
    let exit = err_from_is_err_and c.from_residual.result c.from_residual.ensures.1 in
    let n : length c.args.tuple.now * 1 ≡ length c.args.tuple.now = omega arith in
    rw (exit.1, exit.2) (writes_as n (writes_last _ _ c.loop-value.invariant.writes _ c.loop-value-test.true c.in_err-place.ensures.writes))

pub returns-in_err-push-clause-writes : goal.returns-in_err-push-clause-writes
returns-in_err-push-clause-writes g c =
    let exit = err_from_is_err_and c.from_residual-in_err-push.result c.from_residual-in_err-push.ensures.1 in
    let n : length c.args.tuple.now * 1 ≡ length c.args.tuple.now = omega arith in
    rw (exit.1, exit.2) (writes_as n (writes_last _ _ c.loop-value.invariant.writes _ c.loop-value-test.true c.in_ok-place.ensures.writes))
