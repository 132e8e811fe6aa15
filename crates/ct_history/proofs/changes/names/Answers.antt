use Rattle.std.{proofs.lemmas.List.Sums.{sum_by_more_le, sum_by_more, sum_by-take-le}, proofs.Common.{arith, take, ap, sym, ◌∙◌, Some}}
use Rattle.ct_word.{proofs.Prefixes.{place_in_prefix, prefix_of_prefix}, specs.Reading.IsNameList}
use Rattle.ct_history.{specs.Encodes.name_words, proofs.Frames.refused, proofs.Lists.{name_added, take_one}}
use Rattle.ct_condition.proofs.Writes.{writes_both, writes_within}
use Rattle.ct_history.proofs.changes.names.Goals as goal

pub loop-name-preserved : goal.loop-name-preserved
loop-name-preserved g c =
    let old = c.loop-name.pass.words in
    let mid = c.text.new.pass.words in
    let new = c.put-in-loop-name.new.pass.words in
    let grown = prefix_of_prefix old mid new c.in_ok-word.ensures.longer c.in_ok-place-2.ensures.longer in
    record {
      stands =
          name_added old mid new (take c.loop-name.name-index c.args.names.now) c.as_str.result.now c.loop-name.place c.in_ok-word.word c.in_ok-place-2.place
          c.loop-name.invariant.stands c.loop-name.invariant.class grown c.in_ok-word.ensures.stands c.in_ok-word.ensures.place c.in_ok-place-2.ensures.longer c.in_ok-place-2.ensures.stands
          ∙ ap (λ ns. Some (IsNameList ns)) (sym (take_one c.args.names.now c.loop-name.name-index c.as_str.result.now c.name-item.result c.loop-name-test.true c.as_str.ensures c.name-item.is));
      class = c.in_ok-place-2.ensures.place;
      small = c.in_ok-place-2.ensures.small;
      writes =
          (let more = sum_by_more name_words c.args.names.now c.loop-name.name-index c.name-item.result c.loop-name-test.true in
          let same = ap name_words (c.as_str.ensures ∙ c.name-item.is) in
          writes_within _ (omega (arith, more, same)) (writes_both c.loop-name.invariant.writes (writes_both c.in_ok-word.ensures.writes c.in_ok-place-2.ensures.writes)));
    }

pub put-requires-in-loop-name-clause-formed : goal.put-requires-in-loop-name-clause-formed
put-requires-in-loop-name-clause-formed g c = grind (arith, place_in_prefix)

pub returns-in_err-place-clause-writes : goal.returns-in_err-place-clause-writes
returns-in_err-place-clause-writes g c = refused _ c.from_residual.result c.from_residual.ensures.1 (omega arith) c.in_err-place.ensures.writes

pub returns-in_err-word-clause-writes : goal.returns-in_err-word-clause-writes
returns-in_err-word-clause-writes g c =
    let most = sum_by_more_le name_words c.args.names.now c.loop-name.name-index c.name-item.result c.loop-name-test.true in
    let same = ap name_words (c.as_str.ensures ∙ c.name-item.is) in
    refused _ c.from_residual-in_err-word.result c.from_residual-in_err-word.ensures.1 (omega (arith, most, same)) (writes_both c.loop-name.invariant.writes c.in_err-word.ensures.writes)

pub returns-in_err-place-2-clause-writes : goal.returns-in_err-place-2-clause-writes
returns-in_err-place-2-clause-writes g c =
    let most = sum_by_more_le name_words c.args.names.now c.loop-name.name-index c.name-item.result c.loop-name-test.true in
    let same = ap name_words (c.as_str.ensures ∙ c.name-item.is) in
    refused _ c.from_residual-in_err-place-2.result c.from_residual-in_err-place-2.ensures.1 (omega (arith, most, same)) (writes_both c.loop-name.invariant.writes (writes_both c.in_ok-word.ensures.writes c.in_err-place-2.ensures.writes))

pub returns-clause-writes : goal.returns-clause-writes
returns-clause-writes g c = writes_within _ (omega (arith, sum_by-take-le name_words c.args.names.now c.loop-name.name-index)) c.loop-name.invariant.writes
