use Rattle.std.proofs.Common.{◌≡◌, ◌<◌, ◌∙◌, ◌+◌, ap, length, arith}
use Rattle.ct_outside.proofs.Texts.{added_at, asked_up_to, front_at, still_more, hold_at, within_more, count_more}
use Rattle.ct_outside.proofs.drive.read_all.Goals as goal

pub returns-in-Err-clause-names : goal.returns-in-Err-clause-names
returns-in-Err-clause-names g c = front_at (λ f. f.now) c.args.files.now c.loop-name.name-index _ _ _ _ (omega arith) c.loop-name.invariant.names c.read_next.ensures.names

pub returns-in-Err-clause-last : goal.returns-in-Err-clause-last
returns-in-Err-clause-last g c =
    let same : length c.read_next.new.texts.items ≡ c.loop-name.name-index = ap length c.in-Err.ensures.err ∙ c.loop-name.invariant.count in
    asked_up_to (Unit {0}) (λ f. f.now) c.args.files.now c.loop-name.name-index _ _ _ _ _ c.in-Err.fault (omega arith) same c.loop-name.invariant.names c.in-Err.ensures.asked

pub loop-name-preserved : goal.loop-name-preserved
loop-name-preserved g c =
    let i = c.loop-name.invariant in
    let e = c.in_default.ensures in
    let lt : c.loop-name.name-index < length c.args.files.now = omega arith in
    record {
      quiet = e.quiet ∙ i.quiet;
      held = still_more _ _ _ i.held c.read_next.ensures.held;
      names = added_at (λ f. f.now) c.args.files.now c.loop-name.name-index _ _ _ _ lt i.names e.asked;
      texts = hold_at (λ f. f.now) c.args.files.now c.loop-name.name-index _ _ _ _ _ _ lt i.texts i.held e.ok;
      count = count_more _ _ _ _ _ e.ok ∙ ap (λ n. n + 1) i.count;
      within = within_more _ _ _ _ _ i.within e.ok;
    }
