-- What a session has done before its first statement, and after one statement more.
use Rattle.std.proofs.Common.{◌≡◌, ℕ, suc, ◌+◌, ◌<◌, ◌≤◌, List, [], ◌∷◌, ◌++◌, length, map, take, get_or, refl, ap, sym, subst, ◌∙◌, arith, length-append}
use Rattle.std.{specs.Prelude.{Option, Some, None, IfSome, nat_eq, if◌then◌else◌, Bool, true, false}, specs.Option.option_to_list}
use Rattle.std.{proofs.lemmas.List.{take_more, take-map, map-append}, proofs.lemmas.List.FromFn.length-range_with_len}
use Rattle.ct_word.{specs.Word.kind_with, specs.Change.PlainCommit, specs.Reading.{commits_of, meaning_of}}
use Rattle.ct_arena.specs.Counts.{opening, numbers_by, AreNumbered}
use Rattle.ct_transcript.specs.declared.reply.Reply.{Reply}
use Rattle.ct_arena.specs.Seen.{Seen}
use Rattle.ct_keeper.specs.Served.{first_pass}
use Rattle.ct_transaction.{specs.State.SessionState, specs.Answers.{Answers, commits_by, committed_of}, specs.Bounded.IsBounded}
use Rattle.ct_serve.{specs.Progress.{Progress, ClientView, HasAnswered, HasExecuted, HasRun}, proofs.Progress.progress_push}

pub no_commits : commits_of opening ≡ []
unfolding opening meaning_of kind_with
no_commits = refl

-- how many commits of a session there are, by their numbers and by their places
by_numbers : (s m : ℕ) (cs : List PlainCommit) → length (commits_by s m cs) ≡ length (numbers_by s cs)
by_numbers s m [] = refl
by_numbers s m (c ∷ cs) = by_test (nat_eq c.session s) (by_numbers s (m + 1) cs) where
  by_test : (b : Bool) → length (commits_by s (m + 1) cs) ≡ length (numbers_by s cs)
      → length (if b then m ∷ commits_by s (m + 1) cs else commits_by s (m + 1) cs) ≡ length (if b then c.number ∷ numbers_by s cs else numbers_by s cs)
  by_test true rest = ap suc rest
  by_test false rest = rest

-- a statement commits at most once
pub one_more : (N : ℕ) (s next : SessionState) (words words' x : List ℕ) (r : Reply) → Answers N s next words words' x r → AreNumbered s.session s.commits words → AreNumbered next.session next.commits words' → next.commits ≤ s.commits + 1
one_more N s next words words' x r a before after = by_reply (committed_of r) refl where
  counted : (n : ℕ) (k : ℕ) (ws : List ℕ) → AreNumbered n k ws → length (commits_by n 1 (commits_of ws)) ≡ k
  counted n k ws e = by_numbers n 1 (commits_of ws) ∙ ap length e ∙ length-range_with_len 0 k

  same_length : length (commits_by s.session 1 (commits_of words')) ≡ next.commits
  same_length = subst (λ n. length (commits_by n 1 (commits_of words')) ≡ next.commits) a.same (counted next.session next.commits words' after)

  by_reply : (o : Option ℕ) → committed_of r ≡ o → next.commits ≤ s.commits + 1
  by_reply o e =
      let sum : next.commits ≡ s.commits + length (option_to_list o) = sym same_length ∙ ap length a.commits ∙ length-append (commits_by s.session 1 (commits_of words)) (option_to_list (committed_of r))
      ∙ ap (λ n. n + length (option_to_list (committed_of r))) (counted s.session s.commits words before) ∙ ap (λ p. s.commits + length (option_to_list p)) e in
      let most : length (option_to_list o) ≤ 1 = at_most_one o in omega (arith, sum, most) where
        at_most_one : (p : Option ℕ) → length (option_to_list p) ≤ 1
        at_most_one None = omega arith
        at_most_one (Some m) = omega arith

-- one statement more
pub answered : {A : Type 0} (f : A → List ℕ) (xs : List A) (i : ℕ) (d : A) (N : ℕ) (first s next : SessionState) (pass mid pass' : Seen) (rs : List Reply) (r : Reply) → i < length xs
    → Progress N first s pass mid (take i (map f xs)) rs → Answers N s next mid.words pass'.words (f (get_or xs i d)) r → IsBounded N s pass'.words (f (get_or xs i d)) r mid.made pass'.made
    → Progress N first next pass pass' (take (i + 1) (map f xs)) (rs ++ r ∷ [])
answered f xs i d N first s next pass mid pass' rs r lt p a bounded =
    subst (λ ts. Progress N first next pass pass' ts (rs ++ r ∷ [])) (sym more) (progress_push N first s next pass mid pass' (take i (map f xs)) rs (f (get_or xs i d)) r p a bounded) where
      more : take (i + 1) (map f xs) ≡ take i (map f xs) ++ f (get_or xs i d) ∷ []
      more = take-map f (i + 1) xs ∙ ap (map f) (take_more xs i d lt) ∙ map-append f (take i xs) (get_or xs i d ∷ []) ∙ ap (λ l. l ++ f (get_or xs i d) ∷ []) (sym (take-map f i xs))

-- what a client did from the beginning of the log on is all that its session did
pub has_run : (N : ℕ) (before after : ClientView) (n : ℕ) → before.pass ≡ first_pass n → HasExecuted N before after → HasRun N after
has_run N before after n start done =
    subst (λ k. IfSome after.replies (HasAnswered N (first_pass k) after.pass after.script)) (sym (done.number ∙ ap (λ (p : Seen). p.session) start))
    (subst (λ x. IfSome after.replies (HasAnswered N (first_pass n) after.pass x)) (sym done.script_is)
    (subst (λ p. IfSome after.replies (HasAnswered N p after.pass before.script)) start done.answered))
