use Rattle.std.{proofs.Common.{◌≡◌, ap, sym, ◌∙◌, subst, length, replicate, arith}, specs.Prelude.IfOk, proofs.lemmas.List.length-replicate}
use Rattle.ct_trail.specs.{Log.clauses_in, Look.IsFalsifiedAt, Trail.truths_of, Learning.IsLesson, Analysis.ArePut}
use Rattle.ct_trail.specs.declared.marks.Mark.TheVariants as mark
use Rattle.ct_trail.proofs.learning.learn_from.Goals as goal

pub learn_by-requires : goal.learn_by-requires
learn_by-requires c =
    let top = c.args.top in
    let log = clauses_in c.args.entries.now in
    let trail = c.args.trail.now in
    let is : c.deref_mut.result.now ≡ replicate top mark.Clear = c.deref_mut.ensures.value ∙ c.in_ok-marks.ensures in
    let long : length c.deref_mut.result.now ≡ top = ap length is ∙ length-replicate top mark.Clear in
    record {
      vars = omega (arith, long, c.requires.top);
      unmarked = is ∙ ap (λ n. replicate n mark.Clear) (sym long);
      trail = subst (λ n. ArePut n log trail) (sym long) c.requires.trail;
      falsified = subst (λ n. IsFalsifiedAt (truths_of n trail) log c.args.conflict) (sym long) c.requires.falsified;
    }

pub returns : goal.returns
returns c =
    let long : length c.deref_mut.result.now ≡ c.args.top = ap length (c.deref_mut.ensures.value ∙ c.in_ok-marks.ensures) ∙ length-replicate c.args.top mark.Clear in
    subst (λ n. IfOk c.learn_by.result (λ l. IsLesson n (clauses_in c.args.entries.now) c.args.trail.now l)) long c.learn_by.ensures
