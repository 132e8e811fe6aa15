use Rattle.std.proofs.Common.{◌≡◌, ◌++◌, ◌∷◌, ◌+◌, ◌<◌, [], true, false, List, length, drop, get_or, map, ap, ◌∙◌, arith}
use Rattle.std.proofs.lemmas.List.{get_or_default}
use Rattle.ct_derivation.specs.declared.steps.Step.{Step}
use Rattle.ct_trail.specs.declared.log.Entry.{Entry}
use Rattle.ct_trail.specs.declared.log.Entry.TheVariants as entry
use Rattle.ct_cut.{specs.Translation.{entry_step, origin_count, origin_at, steps_of}, specs.Cut.{step_by, cut}, proofs.Kept.kept_turn, proofs.Steps.{steps_turn, entry_within, count_one}}
use Rattle.ct_cut.proofs.translating.steps.Goals.{then-marks-k+in_ok-step+in_ok-push, else-marks-k}
use Rattle.ct_cut.proofs.translating.steps.Goals as goal

abbrev none : Entry
none = entry.Added []

pub step-requires : goal.step-requires
step-requires c = entry_within (length c.args.atoms.now) c.args.entries.now c.loop-k.k c.index-entries-k.result c.requires.within c.loop-k-test.true c.index-entries-k.is

pub loop-k-preserved : goal.loop-k-preserved
loop-k-preserved c =
    let atoms = c.args.atoms.now in
    let ws = c.args.origins.now in
    let es = c.args.entries.now in
    let ms = c.args.marks.now in
    let k = c.loop-k.k in
    let next = c.loop-k.next in
    let e = get_or es k none in
    let old = c.loop-k.steps.items in
    let by = step_by c.args.numbers.now in
    let x = by (entry_step atoms (origin_at ws next) e) in
    let rest : List Step = map by (steps_of atoms (drop (next + origin_count e) ws) (drop (k + 1) es)) in
    let all : List Step = map by (steps_of atoms (drop next ws) (drop k es)) in
    let in_marks : k < length ms = omega (arith, c.loop-k-test.true, c.requires.marks) in
    let left : all ≡ x ∷ rest = ap (map by) (steps_turn atoms ws es next k none c.loop-k-test.true) in
    let e_is = λ (v : Entry) (is : v ≡ get_or es k v). is ∙ get_or_default es k v none c.loop-k-test.true in
    let count : c.origin_count-next.result ≡ origin_count e = c.origin_count-next.ensures ∙ ap origin_count (e_is c.index-entries-k-in-loop-k.result c.index-entries-k-in-loop-k.is) in
    record {
      so_far =
          ap (λ n. c.if-marks-k.steps.items ++ cut c.args.numbers.now (drop (k + 1) ms) (steps_of atoms (drop (next + n) ws) (drop (k + 1) es))) count
          ∙ elim c.if-marks-k.branch [
            | then-marks-k+in_ok-step+in_ok-push w ↦
                let x_is = w.in_ok-step.ensures ∙ ap (λ v. by (entry_step atoms (origin_at ws next) v)) (e_is w.index-entries-k.result w.index-entries-k.is) in
                kept_turn ms k true old c.if-marks-k.steps.items x all rest in_marks w.if-marks-k.true left
                (ap (λ v. v.items) w.steps-is ∙ w.in_ok-push.ensures.items ∙ ap (λ s. old ++ s ∷ []) x_is) ∙ c.loop-k.invariant.so_far
            | else-marks-k w ↦ kept_turn ms k false old c.if-marks-k.steps.items x all rest in_marks w.if-marks-k.false left (ap (λ v. v.items) w.steps-is) ∙ c.loop-k.invariant.so_far
          ];
      few = omega (arith, c.loop-k.invariant.few, count, count_one e);
    }
