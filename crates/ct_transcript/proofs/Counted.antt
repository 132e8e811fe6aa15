-- The lines of two lists of sessions, or of commits, one after the other.
use Rattle.std.{proofs.Common.{◌≡◌, ℕ, ◌+◌, List, [], ◌∷◌, ◌++◌, length, ap, sym, ◌∙◌, append_assoc, arith}, specs.Prelude.{codes, decimal}}
use Rattle.ct_rewrite.specs.declared.history.Commit.{Commit}
use Rattle.ct_transcript.{specs.declared.reply.SessionLog.SessionLog, specs.NodeText.line}
use Rattle.ct_transcript.specs.Text.{replies_from, sessions_from, printed_commit, commit_lines, commits_from}

pub sessions_after : (m : ℕ) (front back : List SessionLog) → sessions_from m (front ++ back) ≡ sessions_from m front ++ sessions_from (m + length front) back
sessions_after m [] back = ap (λ k. sessions_from k back) {x = m} {y = m + 0} (omega arith)
sessions_after m (s ∷ ss) back =
    let own = line (codes "session " ++ decimal m) ∷ replies_from 1 s.replies in
    ap (λ ls. own ++ ls) (sessions_after (m + 1) ss back ∙ ap (λ k. sessions_from (m + 1) ss ++ sessions_from k back) {x = m + 1 + length ss} {y = m + length (s ∷ ss)} (omega arith))
    ∙ sym (append_assoc own (sessions_from (m + 1) ss) (sessions_from (m + length (s ∷ ss)) back))

pub commits_after : (m : ℕ) (front back : List Commit) → commits_from m (front ++ back) ≡ commits_from m front ++ commits_from (m + length front) back
commits_after m [] back = ap (λ k. commits_from k back) {x = m} {y = m + 0} (omega arith)
commits_after m (c ∷ cs) back =
    let own = commit_lines m c (printed_commit c) in
    ap (λ ls. own ++ ls) (commits_after (m + 1) cs back ∙ ap (λ k. commits_from (m + 1) cs ++ commits_from k back) {x = m + 1 + length cs} {y = m + length (c ∷ cs)} (omega arith))
    ∙ sym (append_assoc own (commits_from (m + 1) cs) (commits_from (m + length (c ∷ cs)) back))
