use Rattle.std.{proofs.Common.{sym, ◌∙◌, ap, ◌+◌, arith, length, []}, specs.Prelude.if◌then◌else◌}
use Rattle.ct_word.{specs.Reading.meanings, proofs.Growth.length-read}
use Rattle.ct_query.specs.Reads.{last}
use Rattle.ct_history.{specs.Commits.commits_before, proofs.Writers.{first_commits, all_commits, next_commit, no_next}}
use Rattle.ct_history.proofs.latest.last.Goals.{in-Commit+then-list_writes, in-Commit+else-list_writes, in_default}
use Rattle.ct_history.proofs.latest.last.Goals as goal

pub loop-place-preserved : goal.loop-place-preserved
loop-place-preserved c =
    let words = c.args.words.now in
    let word = c.word_at-word.result in
    let inv = c.loop-place.invariant in
    let n = length (commits_before words c.loop-place.place) in
    let before = last (commits_before words c.loop-place.place) c.args.table.now in
    elim c.match-word.branch [
      | in-Commit+then-list_writes w ↦
          let next = next_commit words c.loop-place.place word c.args.table.now c.word_at-word.ensures w.in-Commit.is in
          rw (w.seen-is, w.found-is)
          record {
            seen = next.count ∙ ap (λ n. n + 1) inv.seen;
            few = omega (arith, inv.few, c.if-seen-upto.false);
            found = sym (next.last_is ∙ ap (λ b. if b then n + 1 else before) (sym w.if-list_writes.ensures) ∙ ap (λ k. k + 1) inv.seen);
          }
      | in-Commit+else-list_writes w ↦
          let next = next_commit words c.loop-place.place word c.args.table.now c.word_at-word.ensures w.in-Commit.is in
          rw (w.seen-is, w.found-is)
          record {
            seen = next.count ∙ ap (λ n. n + 1) inv.seen;
            few = omega (arith, inv.few, c.if-seen-upto.false);
            found = inv.found ∙ sym (next.last_is ∙ ap (λ b. if b then n + 1 else before) (sym w.if-list_writes.ensures));
          }
      | in_default w ↦
          let same = no_next words c.loop-place.place word c.word_at-word.ensures w.in_default.not-Commit in
          rw (w.seen-is, w.found-is, same) inv
    ]

pub returns-after-loop-place : goal.returns-after-loop-place
returns-after-loop-place c =
    let words = c.args.words.now in
    let inv = c.loop-place.invariant in
    inv.found ∙ ap (λ h. last h c.args.table.now)
    (sym (all_commits (meanings words) c.loop-place.place c.args.upto (omega (arith, length-read [] words, c.loop-place-test.false)) (omega (arith, inv.seen, inv.few))))

pub returns-then-seen-upto : goal.returns-then-seen-upto
returns-then-seen-upto c =
    let inv = c.loop-place.invariant in
    inv.found ∙ ap (λ h. last h c.args.table.now) (sym (first_commits (meanings c.args.words.now) c.loop-place.place c.args.upto (inv.seen ∙ c.if-seen-upto.true)))
