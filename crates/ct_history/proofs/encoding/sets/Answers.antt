use Rattle.std.{proofs.lemmas.List.Sums.{sum_by_more_le, sum_by_more, sum_by-take-le}, proofs.Common.{◌∙◌, ◌++◌, ◌∷◌, [], Some, ap, arith, refl, sym, take}}
use Rattle.std.proofs.lemmas.{Bool.and_from, List.take_more}
use Rattle.ct_word.{specs.Reading.IsSetList, proofs.Prefixes.{place_in_prefix, prefix_of_prefix}}
use Rattle.ct_history.{specs.Encodes.set_words, proofs.Lists.{set_put, set_added}, proofs.Frames.refused}
use Rattle.ct_word.specs.declared.kinds.Class.TheVariants as class
use Rattle.ct_condition.proofs.Writes.{writes_both, writes_within}
use Rattle.ct_history.proofs.encoding.sets.Goals as goal

pub put-requires-in-loop-set-2-clause-formed : goal.put-requires-in-loop-set-2-clause-formed
put-requires-in-loop-set-2-clause-formed g c =
    let old = c.loop-set.pass.words in
    let terms = c.term.new.pass.words in
    let now = c.put-in-loop-set.new.pass.words in
    let grown = prefix_of_prefix old terms now c.in_ok-item.ensures.longer c.in_ok-word.ensures.longer in
    and_from _ _ (and_from _ _ (place_in_prefix old now class.SetList c.loop-set.place grown c.loop-set.invariant.class) c.in_ok-word.ensures.place) refl

pub loop-set-preserved : goal.loop-set-preserved
loop-set-preserved g c =
    let old = c.loop-set.pass.words in
    let terms = c.term.new.pass.words in
    let mid = c.put-in-loop-set.new.pass.words in
    let new = c.put-in-loop-set-2.new.pass.words in
    let sets = c.args.sets.now in
    let at = c.loop-set.set-index in
    let set = c.set-item.result in
    let item = c.in_ok-item.item in
    let word = c.in_ok-word.word in
    let later = c.in_ok-place-2.ensures.longer in
    let grown = prefix_of_prefix old mid new (prefix_of_prefix old terms mid c.in_ok-item.ensures.longer c.in_ok-word.ensures.longer) later in
    record {
      stands =
          set_added old mid new (take at sets) set.0 set.1 c.loop-set.place word c.in_ok-place-2.place
          c.loop-set.invariant.stands c.loop-set.invariant.class grown
          (set_put terms mid set.0 set.1 item word c.in_ok-item.ensures.stands c.in_ok-item.ensures.place c.in_ok-word.ensures.longer c.in_ok-word.ensures.stands)
          c.in_ok-word.ensures.place later c.in_ok-place-2.ensures.stands
          ∙ ap (λ ss. Some (IsSetList ss)) (ap (λ s. take at sets ++ s ∷ []) c.set-item.is ∙ sym (take_more sets at set c.loop-set-test.true));
      class = c.in_ok-place-2.ensures.place;
      small = c.in_ok-place-2.ensures.small;
      writes =
          (let more = sum_by_more set_words sets at set c.loop-set-test.true in
          let same = ap set_words c.set-item.is in
          writes_within _ (omega (arith, more, same)) (writes_both c.loop-set.invariant.writes (writes_both c.in_ok-item.ensures.writes (writes_both c.in_ok-word.ensures.writes c.in_ok-place-2.ensures.writes))));
    }

pub returns-in_err-place-clause-writes : goal.returns-in_err-place-clause-writes
returns-in_err-place-clause-writes g c = refused _ c.from_residual.result c.from_residual.ensures.1 (omega arith) c.in_err-place.ensures.writes

pub returns-in_err-item-clause-writes : goal.returns-in_err-item-clause-writes
returns-in_err-item-clause-writes g c =
    let most = sum_by_more_le set_words c.args.sets.now c.loop-set.set-index c.set-item.result c.loop-set-test.true in
    let same = ap set_words c.set-item.is in
    refused _ c.from_residual-in_err-item.result c.from_residual-in_err-item.ensures.1 (omega (arith, most, same)) (writes_both c.loop-set.invariant.writes c.in_err-item.ensures.writes)

pub returns-in_err-word-clause-writes : goal.returns-in_err-word-clause-writes
returns-in_err-word-clause-writes g c =
    let most = sum_by_more_le set_words c.args.sets.now c.loop-set.set-index c.set-item.result c.loop-set-test.true in
    let same = ap set_words c.set-item.is in
    refused _ c.from_residual-in_err-word.result c.from_residual-in_err-word.ensures.1 (omega (arith, most, same)) (writes_both c.loop-set.invariant.writes (writes_both c.in_ok-item.ensures.writes c.in_err-word.ensures.writes))

pub returns-in_err-place-2-clause-writes : goal.returns-in_err-place-2-clause-writes
returns-in_err-place-2-clause-writes g c =
    let most = sum_by_more_le set_words c.args.sets.now c.loop-set.set-index c.set-item.result c.loop-set-test.true in
    let same = ap set_words c.set-item.is in
    refused _ c.from_residual-in_err-place-2.result c.from_residual-in_err-place-2.ensures.1 (omega (arith, most, same))
    (writes_both c.loop-set.invariant.writes (writes_both c.in_ok-item.ensures.writes (writes_both c.in_ok-word.ensures.writes c.in_err-place-2.ensures.writes)))

pub returns-clause-writes : goal.returns-clause-writes
returns-clause-writes g c = writes_within _ (omega (arith, sum_by-take-le set_words c.args.sets.now c.loop-set.set-index)) c.loop-set.invariant.writes
