-- The transcript of sessions that have ended.
use Rattle.std.{proofs.Common.{◌≡◌, ℕ, zero, suc, ◌+◌, ◌≤◌, arith, List, [], ◌∷◌, ◌++◌, length, map, take, refl, ap, sym, subst, ◌∙◌}, proofs.lemmas.List.length-map}
use Rattle.std.{specs.Prelude.{Option, Some, None, IsSome, IsTrue, All, filter_map, is_some, sum_by}, specs.List.{range_with_len, AllZip}, proofs.lemmas.List.Sums.sum_by-cons}
use Rattle.std.{proofs.lemmas.List.FromFn.length-range_with_len, proofs.lemmas.List.Elements.{All-head, All-tail}}
use Rattle.ct_word.{specs.Value.World, specs.Change.{PlainChange, PlainCommit}, specs.Reading.commits_of, specs.StandsFor.StandsFor}
use Rattle.ct_word.specs.WellFormed.{IsWellFormed}
use Rattle.ct_query.{specs.Database.Database, proofs.Keeping.same_throughout, proofs.Laws.after_changes-append}
use Rattle.ct_query.specs.Worlds.{admits, after_changes, changes_of}
use Rattle.ct_arena.{specs.Seen.Seen, specs.Counts.{opening, AreNumbered, AreOfSessions}}
use Rattle.ct_rewrite.{specs.declared.history.Commit.Commit, specs.History.{plain_history, IsCommitFormed}}
use Rattle.ct_transcript.specs.declared.reply.SessionLog.{SessionLog}
use Rattle.ct_transaction.{specs.Answers.{commits_by, committed_of}, proofs.Own.{own_commits_stay, same_by}, proofs.Sameness.sessions_same}
use Rattle.ct_lex.specs.Texts.{texts}
use Rattle.ct_transaction.specs.State.{beginning}
use Rattle.ct_serve.{specs.Progress.HasEnded, specs.Sessions.{IsLawfulSession, AreLawfulSessions}, specs.Lawful.Lawful, specs.Within.{IsSessionWithin, AreSessionsWithin, IsWithin}}
use Rattle.ct_serve.{proofs.Answered.no_commits, proofs.Progress.lawful_within}
use mathlib.Core.List.{IsPrefix}

abbrev pub head_or : {X : Type 0} → X → List X → X
head_or d [] = d
head_or d (x ∷ xs) = x

abbrev pub tail_of : {X : Type 0} → List X → List X
tail_of [] = []
tail_of (x ∷ xs) = xs

-- what a history admits, its beginnings admit
module _ (v : World) where
  none_stays : (xs : List PlainChange) → after_changes v None xs ≡ None
  none_stays [] = refl
  none_stays (x ∷ xs) = none_stays xs

  some_before : (w : Option Database) (xs : List PlainChange) → IsSome (after_changes v w xs) → IsTrue (is_some w)
  some_before None xs some = subst IsSome (none_stays xs) some
  some_before (Some d) xs some = refl

  front_admits : (w : Option Database) (h : List PlainCommit) (m : ℕ) → IsSome (after_changes v w (changes_of h)) → IsTrue (is_some (after_changes v w (changes_of (take m h))))
  front_admits w h zero some = some_before w (changes_of h) some
  front_admits w [] (suc m) some = some_before w [] some
  front_admits w (c ∷ h) (suc m) some =
      subst (λ x. IsTrue (is_some x)) (sym (after_changes-append v w c.changes (changes_of (take m h))))
      (front_admits (after_changes v w c.changes) h m (subst IsSome (after_changes-append v w c.changes (changes_of h)) some))

opens : (words : List ℕ) → IsPrefix opening words → take 2 words ≡ opening
unfolding opening
opens words p = ap (take 2) (sym p.1)

-- as many passes as logs
same_count : (N : ℕ) (passes : List Seen) (logs : List SessionLog) → AllZip (HasEnded N) passes logs → length logs ≡ length passes
same_count N [] [] z = refl
same_count N (p ∷ ps) (l ∷ ls) z = ap suc (same_count N ps ls z.1)
same_count N [] (l ∷ ls) z = absurd z
same_count N (p ∷ ps) [] z = absurd z

-- as many passes as numbers
pub as_many : (passes : List Seen) (n : ℕ) → map (λ p. p.session) passes ≡ range_with_len 1 n → length passes ≡ n
as_many passes n e = sym (length-map passes (λ p. p.session)) ∙ ap length e ∙ length-range_with_len 1 n

-- a log that was closed, and a history that stands for it
module _ (N : ℕ) (words : List ℕ) (formed : IsWellFormed words) (fits : length words ≤ N) (history : List Commit) (stands : StandsFor (plain_history history) words) where
  abbrev H : List PlainCommit
  H = plain_history history

  -- a session whose commits in the log are as many as it made, and whose words the log begins with, is lawful
  lawful_one : (s : ℕ) (p : Seen) (l : SessionLog) → p.session ≡ s → HasEnded N p l → AreNumbered p.session p.mine words → IsPrefix p.words words → IsLawfulSession H words N s l
  lawful_one s p l number e numbered seen = subst (λ n. IsLawfulSession H words N n l) number (record {
    last = e.answered.last;
    replies = let made = e.answered.progress.within words (record { log = seen; formed = formed; room = fits }) H stands in
        lawful_within H words N (beginning p.session) e.answered.last (texts l.script) l.replies made.total made.bounds;
    commits =
        same_by p.session 1 H (commits_of words) stands ∙ own_commits_stay p.session p.mine p.words words seen e.numbered numbered
        ∙ e.answered.progress.commits ∙ ap (λ cs. commits_by p.session 1 cs ++ filter_map committed_of l.replies) no_commits;
    full = e.answered.progress.full;
  })

  lawful_all : (s : ℕ) (passes : List Seen) (logs : List SessionLog) → map (λ p. p.session) passes ≡ range_with_len s (length passes) → AllZip (HasEnded N) passes logs
      → All (λ p. AreNumbered p.session p.mine words) passes → All (λ p. IsPrefix p.words words) passes → AreLawfulSessions H words N s logs
  lawful_all s [] [] numbers z numbered seen = tt
  lawful_all s (p ∷ ps) (l ∷ ls) numbers z numbered seen = (
    lawful_one s p l (ap (head_or 0) numbers) z.0 (All-head (λ p. AreNumbered p.session p.mine words) p ps numbered) (All-head (λ p. IsPrefix p.words words) p ps seen),
    lawful_all (s + 1) ps ls (ap tail_of numbers) z.1 (All-tail (λ p. AreNumbered p.session p.mine words) p ps numbered) (All-tail (λ p. IsPrefix p.words words) p ps seen),
  )
  lawful_all s [] (l ∷ ls) numbers z numbered seen = absurd z
  lawful_all s (p ∷ ps) [] numbers z numbered seen = absurd z

  -- the words that the sessions made are within the sum of the bounds of their statements
  pub within_all : (s : ℕ) (passes : List Seen) (logs : List SessionLog) → map (λ p. p.session) passes ≡ range_with_len s (length passes) → AllZip (HasEnded N) passes logs
      → All (λ p. IsPrefix p.words words) passes → (total : ℕ) × AreSessionsWithin H words N s logs total × (sum_by (λ p. p.made) passes ≤ total)
  within_all s [] [] numbers z seen = (0, refl, omega arith)
  within_all s (p ∷ ps) (l ∷ ls) numbers z seen =
      let made = z.0.answered.progress.within words (record { log = All-head (λ q. IsPrefix q.words words) p ps seen; formed = formed; room = fits }) H stands in
      let rest = within_all (s + 1) ps ls (ap tail_of numbers) z.1 (All-tail (λ q. IsPrefix q.words words) p ps seen) in
      let own : IsSessionWithin H words N s l made.total = subst (λ n. IsSessionWithin H words N n l made.total) (ap (head_or 0) numbers) (z.0.answered.last, made.bounds) in
      let few = made.few in
      let others = rest.2 in
      let sum = sum_by-cons (λ (q : Seen). q.made) p ps in
      (made.total + rest.0, (made.total, own, rest.0, refl, rest.1), omega (arith, few, others, sum))
  within_all s [] (l ∷ ls) numbers z seen = absurd z
  within_all s (p ∷ ps) [] numbers z seen = absurd z

  pub within_closed : (passes : List Seen) (logs : List SessionLog) (sessions : ℕ) → map (λ p. p.session) passes ≡ range_with_len 1 sessions → AllZip (HasEnded N) passes logs
      → All (λ p. IsPrefix p.words words) passes → length words ≡ 2 + sum_by (λ p. p.made) passes → IsWithin (record { sessions = logs; history = history; words = words }) N
  within_closed passes logs sessions numbers z seen whole =
      let all = within_all 1 passes logs (numbers ∙ ap (range_with_len 1) (sym (as_many passes sessions numbers))) z seen in
      record { total = all.0; sessions = all.1; words = let few = all.2 in omega (arith, few, whole) }

  pub lawful_closed : (passes : List Seen) (logs : List SessionLog) (sessions : ℕ) → IsPrefix opening words → All IsCommitFormed history → map (λ p. p.session) passes ≡ range_with_len 1 sessions
      → AllZip (HasEnded N) passes logs → All (λ p. AreNumbered p.session p.mine words) passes → All (λ p. IsPrefix p.words words) passes
      → AreOfSessions sessions words → (v : World) × IsTrue (admits v (commits_of words) []) → Lawful (record { sessions = logs; history = history; words = words }) N
  lawful_closed passes logs sessions begins well numbers z numbered seen known admitted = record {
    begins = opens words begins;
    fits = fits;
    formed = formed;
    stands = stands;
    commits_formed = well;
    sessions = lawful_all 1 passes logs (numbers ∙ ap (range_with_len 1) (sym count)) z numbered seen;
    no_others = sessions_same (λ n. (1 ≤ n) × (n ≤ length logs)) H (commits_of words) stands (subst (λ n. AreOfSessions n words) (sym count ∙ sym (same_count N passes logs z)) known);
    worlds = λ m le. (admitted.0, front_admits admitted.0 (Some []) H m whole);
  } where
    count : length passes ≡ sessions
    count = as_many passes sessions numbers

    whole : IsSome (after_changes admitted.0 (Some []) (changes_of H))
    whole = subst IsSome (sym ((same_throughout H (commits_of words) stands).whole.worlds admitted.0 [])) admitted.1
