use Rattle.std.{proofs.Common.{◌+◌, ◌∙◌, ◌++◌, ◌∷◌, [], ap, map, sym, subst}, proofs.lemmas.List.{append_assoc, append-nil, map_push}}
use Rattle.std.proofs.lemmas.List.Elements.{All-nil, All-push}
use Rattle.ct_word.{specs.Reading.{IsCommit, meanings}, specs.StandsFor.SameCommits}
use Rattle.ct_rewrite.specs.History.{IsCommitFormed, plain_commit}
use Rattle.ct_history.{specs.Commits.commits_before, proofs.Printed.commits_longer, proofs.Writers.{commits_more, no_next}}
use Rattle.ct_history.proofs.printing.commits_between.Goals.{in-Commit+in_ok-next-in-Commit+in_ok-push-in-Commit, in_default}
use Rattle.ct_history.proofs.printing.commits_between.Goals as goal

pub loop-place-init : goal.loop-place-init
loop-place-init c =
    rw (c.new-commits.ensures.items)
    record {
      stands = λ xs same. subst (λ l. SameCommits l (commits_before c.args.words.now c.args.from)) (sym (append-nil xs)) same;
      formed = All-nil _;
    }

pub loop-place-preserved : goal.loop-place-preserved
loop-place-preserved c =
    let words = c.args.words.now in
    let p = c.loop-place.place in
    let word = c.word_at-word.result in
    let before = c.loop-place.commits.items in
    let inv = c.loop-place.invariant in
    elim c.match-word.branch [
      | in-Commit+in_ok-next-in-Commit+in_ok-push-in-Commit w ↦
          let is = w.in_ok-next-in-Commit.ensures in
          let next = w.in_ok-next-in-Commit.next in
          let more = commits_more (meanings words) p (IsCommit is.commit) is.stands in
          rw (ap (λ v. v.items) w.commits-is ∙ w.in_ok-push-in-Commit.ensures.items)
          record {
            stands = λ xs same.
                let last = append_assoc xs (map plain_commit before) (plain_commit next ∷ []) ∙ ap (λ l. xs ++ l) (sym (map_push plain_commit before next)) in
                subst (λ l. SameCommits l (commits_before words (p + 1))) last
                (subst (SameCommits ((xs ++ map plain_commit before) ++ plain_commit next ∷ [])) (sym more)
                (commits_longer (xs ++ map plain_commit before) (commits_before words p) (plain_commit next) is.commit (inv.stands xs same) is.session is.number is.changes));
            formed = All-push IsCommitFormed before next inv.formed is.formed;
          }
      | in_default w ↦
          rw (ap (λ v. v.items) w.commits-is)
          record {
            stands = λ xs same. subst (SameCommits (xs ++ map plain_commit before)) (sym (no_next words p word c.word_at-word.ensures w.in_default.not-Commit)) (inv.stands xs same);
            formed = inv.formed;
          }
    ]
