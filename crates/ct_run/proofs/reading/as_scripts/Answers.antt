use Rattle.std.{proofs.Common.{◌≤◌, [], refl, ap, sym, subst, ◌∙◌, length, arith}, specs.Prelude.{All, ℕ, List}, specs.Vec.Iter.into_iter_items}
use Rattle.std.{proofs.lemmas.Result.err_from_is_err_and, proofs.lemmas.List.Elements.{All-nil, All-head, All-tail, All-push}}
use Rattle.ct_outside.specs.Reads.{bytes_in}
use Rattle.ct_run.{specs.Scripts.{SCRIPT_BYTES, IsScript}, proofs.Reached.{one_more_script, none_here, none_left}}
use Rattle.ct_run.proofs.reading.as_scripts.Goals as goal

abbrev IsShort : List ℕ → Type 0
IsShort text = length text ≤ SCRIPT_BYTES

pub loop-bytes-init : goal.loop-bytes-init
loop-bytes-init c =
    let gives = c.into_iter-bytes-iterator.ensures.into_iter_gives in
    record {
      split = rw (c.new-scripts.ensures.items, gives.0) refl;
      scripts = subst (All IsScript) (sym c.new-scripts.ensures.items) (All-nil IsScript);
      short = subst (λ ts. All IsShort (bytes_in ts)) (sym gives.0) c.requires.short;
      count = omega (arith, gives.1, ap length gives.0, c.args.texts.ok.0);
    }

pub as_script-requires : goal.as_script-requires
as_script-requires c = record {
  short = All-head IsShort c.in-Some.bytes.items (bytes_in (into_iter_items c.next.new.self)) (subst (λ ts. All IsShort (bytes_in ts)) c.in-Some.ensures.steps.0 c.loop-bytes.invariant.short);
}

pub returns-in_err-as_script-clause-no_script : goal.returns-in_err-as_script-clause-no_script
returns-in_err-as_script-clause-no_script c =
    let p = err_from_is_err_and c.from_residual.result c.from_residual.ensures.1 in
    let i = c.loop-bytes.invariant in
    rw (p.1, p.2) (λ e. none_here _ c.loop-bytes.scripts.items [] _ _ c.in-Some.bytes i.split c.in-Some.ensures.steps.0 i.scripts (c.in_err-as_script.ensures.no_script e))

pub loop-bytes-preserved : goal.loop-bytes-preserved
loop-bytes-preserved c =
    let i = c.loop-bytes.invariant in
    let steps = c.in-Some.ensures.steps in
    let pushed = c.in_ok-push.ensures.items in
    record {
      split = one_more_script _ c.loop-bytes.scripts.items c.push.new.self.items _ _ c.in-Some.bytes i.split steps.0 _ pushed c.in_ok-as_script.ensures.same;
      scripts = subst (All IsScript) (sym pushed) (All-push IsScript c.loop-bytes.scripts.items _ i.scripts c.in_ok-as_script.ensures.script);
      short = All-tail IsShort c.in-Some.bytes.items (bytes_in (into_iter_items c.next.new.self)) (subst (λ ts. All IsShort (bytes_in ts)) steps.0 i.short);
      count = omega (arith, i.count, steps.1, ap length steps.0);
    }

pub returns-clause-same : goal.returns-clause-same
returns-clause-same c = none_left _ c.loop-bytes.scripts.items _ c.loop-bytes.invariant.split (sym c.loop-bytes.invariant.count ∙ c.in-None.ensures.steps.0)

pub returns-clause-scripts : goal.returns-clause-scripts
returns-clause-scripts c = c.loop-bytes.invariant.scripts
