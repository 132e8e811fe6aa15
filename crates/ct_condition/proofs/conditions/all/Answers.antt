use Rattle.std.{proofs.Common.{true, arith, get_or, subst, inl}, specs.Prelude.IsTrue, proofs.lemmas.List.Elements.All-get_or, proofs.lemmas.Result.err_from_is_err_and}
use Rattle.ct_word.{specs.WellFormed.is_place_of, proofs.Prefixes.prefix_same}
use Rattle.ct_condition.{specs.Truth.{HasTruth, truth_at}, proofs.Truths.itself, proofs.Runs.{truth_in_prefix, one_more}, proofs.Denied.below_literal}
use Rattle.ct_condition.{proofs.Reached.all_below, proofs.Writes.{writes_none, writes_both, writes_within}}
use Rattle.ct_word.specs.declared.kinds.Class.TheVariants as class
use Rattle.ct_word.specs.declared.connectives.Connective.TheVariants as connective
use Rattle.ct_condition.proofs.conditions.all.Goals as goal

pub loop-c-preserved : goal.loop-c-preserved
loop-c-preserved g c =
    let first = g.I.Interner.list c.args.pass.now in
    let old = g.I.Interner.list c.loop-c.pass in
    let new = g.I.Interner.list c.and.new.pass in
    let item = get_or c.args.list.now c.loop-c.c-index 0 in
    let place = All-get_or (λ p. IsTrue (is_place_of first class.Cond p)) c.args.list.now c.loop-c.c-index 0 c.loop-c-test.true c.requires in
    record {
      truth =
          one_more connective.And (truth_at first) c.args.list.now c.loop-c.c-index 0 c.loop-c-test.true old old new c.loop-c.place item c.in_ok-place.place (prefix_same old)
          (truth_in_prefix first old item (truth_at first item) c.loop-c.invariant.writes.longer (itself first item c.words.ensures.small place))
          c.loop-c.invariant.truth c.in_ok-place.ensures.truth;
      terms =
          all_below first old new c.loop-c.invariant.writes.longer c.loop-c.invariant.writes.formed c.args.list.now c.loop-c.c-index 0 c.loop-c-test.true c.requires c.loop-c.place c.in_ok-place.place
          c.loop-c.invariant.terms c.in_ok-place.ensures.terms;
      writes = writes_both c.loop-c.invariant.writes c.in_ok-place.ensures.writes;
    }

pub loop-c-init : goal.loop-c-init
loop-c-init g c = record {
  truth = subst (λ ws. HasTruth ws c.literal-place.result (λ v r. true)) c.words.ensures.words c.literal-place.ensures.truth;
  terms = λ t h. absurd (below_literal (g.I.Interner.list c.args.pass.now) c.words.ensures.formed c.words.ensures.begins c.literal-place.result (inl c.literal-place.ensures.place) t h);
  writes = writes_none _ c.words.ensures.formed c.words.ensures.room;
}

pub returns-clause-writes : goal.returns-clause-writes
returns-clause-writes g c = writes_within _ (omega arith) c.loop-c.invariant.writes

pub returns-in_err-place-clause-writes : goal.returns-in_err-place-clause-writes
returns-in_err-place-clause-writes g c =
    rw (err_from_is_err_and c.from_residual.result c.from_residual.ensures.1).1 (writes_within _ (omega arith) (writes_both c.loop-c.invariant.writes c.in_err-place.ensures.writes))
