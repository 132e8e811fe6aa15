-- One more reply.
use Rattle.std.proofs.Common.{◌≡◌, ℕ, ◌+◌, ◌≤◌, Bool, true, false, ◌||◌, List, [], ◌∷◌, ◌++◌, length, refl, ap, sym, subst, ◌∙◌, arith, length-append}
use Rattle.std.{specs.Prelude.{filter_map, Option, Some, None, IsSome}, specs.Option.option_to_list, specs.List.{list_any, cons_option}}
use Rattle.std.{proofs.lemmas.Bool.false≢true, proofs.Math.Bool.or-false, proofs.lemmas.List.append_assoc, proofs.lemmas.List.Folds.list_any-append}
use Rattle.std.proofs.lemmas.List.Elements.{All-nil, All-push, filter_map-append}
use Rattle.ct_word.{specs.Change.PlainCommit, specs.Reading.commits_of, proofs.Prefixes.prefix_of_prefix}
use Rattle.ct_transcript.specs.declared.reply.Reply.{Reply}
use Rattle.ct_arena.specs.Seen.{Seen}
use Rattle.ct_condition.specs.Writes.{charge}
use Rattle.ct_transaction.{specs.State.SessionState, specs.LawfulReply.LawfulReply, specs.Answers.{committed_of, commits_by, is_full, is_unasked, Answers}, specs.Bounded.{HasBound, IsBounded}}
use Rattle.ct_serve.{specs.Sessions.{AreLawful, IsNoCommit, EndsAtFull}, specs.Within.AreWithin, specs.Progress.{MadeWithin, Progress}}
use mathlib.Core.List.{IsPrefix}
use Rattle.ct_transcript.specs.declared.reply.Reply.TheVariants as reply
use Rattle.ct_transcript.specs.declared.reply.Refusal.TheVariants as refusal

-- replies that are lawful with bounds on the words of their texts, and one more
module _ (H : List PlainCommit) (W : List ℕ) (N : ℕ) where
  within_push : (s t u : SessionState) (xs : List (List ℕ)) (rs : List Reply) (x : List ℕ) (r : Reply) (total b : ℕ)
      → AreWithin H W N s xs rs t total → LawfulReply H W N t x r u → HasBound H t x b → (is_unasked r ≡ true → b ≡ 0) → AreWithin H W N s (xs ++ x ∷ []) (rs ++ r ∷ []) u (total + b)
  within_push s t u [] [] x r total b are is has named =
      let none = are.1 in
      (u, subst (λ st. LawfulReply H W N st x r u) (sym are.0) is, b, subst (λ st. HasBound H st x b) (sym are.0) has, named, 0, omega (arith, none), (refl, refl))
  within_push s t u (y ∷ xs) (q ∷ rs) x r total b (next, one, own, bound, none, rest, sum, are) is has named =
      (next, one, own, bound, none, rest + b, omega (arith, sum), within_push next t u xs rs x r rest b are is has named)
  within_push s t u [] (q ∷ rs) x r total b are is has named = absurd are
  within_push s t u (y ∷ xs) [] x r total b are is has named = absurd are

  -- the replies are lawful, the bounds left out
  pub lawful_within : (s last : SessionState) (xs : List (List ℕ)) (rs : List Reply) (total : ℕ) → AreWithin H W N s xs rs last total → AreLawful H W N s xs rs last
  lawful_within s last [] [] total are = are.0
  lawful_within s last (x ∷ xs) (r ∷ rs) total (next, one, own, bound, none, rest, sum, are) = (next, one, lawful_within next last xs rs rest are)
  lawful_within s last [] (r ∷ rs) total are = absurd are
  lawful_within s last (x ∷ xs) [] total are = absurd are

  -- what was made is within the sum of the bounds, with a further one
  made_push : (s t u : SessionState) (xs : List (List ℕ)) (rs : List Reply) (x : List ℕ) (r : Reply) (made mid made' : ℕ) → MadeWithin H W N s t xs rs made mid → LawfulReply H W N t x r u
      → (b : ℕ) × HasBound H t x b × (is_unasked r ≡ true → b ≡ 0) × (made' + charge (is_full r) ≤ mid + b) → MadeWithin H W N s u (xs ++ x ∷ []) (rs ++ r ∷ []) made made'
  made_push s t u xs rs x r made mid made' m is (b, has, named, few) = record {
    total = m.total + b;
    bounds = within_push s t u xs rs x r m.total b m.bounds is has named;
    few = let first = m.few in omega (arith, first, few);
  }

-- the last reply, after none that says that the log is full
ends_one : (r : Reply) → EndsAtFull (r ∷ [])
ends_one (reply.Refused at refusal.Full) = All-nil IsNoCommit
ends_one _ = tt

-- no Committed reply follows one that says that the log is full
full_push : (rs : List Reply) (r : Reply) → EndsAtFull rs → (list_any is_full rs ≡ true → IsNoCommit r) → EndsAtFull (rs ++ r ∷ [])
full_push [] r ends none = ends_one r
full_push (reply.Refused at refusal.Full ∷ rs) r ends none = All-push IsNoCommit rs r ends (none refl)
full_push (q ∷ rs) r ends none = full_push rs r ends none

any_push : (rs : List Reply) (r : Reply) → list_any is_full (rs ++ r ∷ []) ≡ (list_any is_full rs || is_full r)
any_push rs r = list_any-append is_full rs (r ∷ []) ∙ ap (λ b. list_any is_full rs || b) (or-false (is_full r))

not_committed : (r : Reply) → (IsSome (committed_of r) → ⊥) → IsNoCommit r
not_committed (reply.Committed m) never = never refl
not_committed _ never = tt

-- the commits that came to the words, and one more reply
commits_push : (old mid new : List ℕ) (rs : List Reply) (r : Reply) → mid ≡ old ++ filter_map committed_of rs → new ≡ mid ++ option_to_list (committed_of r)
    → new ≡ old ++ filter_map committed_of (rs ++ r ∷ [])
commits_push old mid new rs r e f =
    f
    ∙ ap (λ l. l ++ option_to_list (committed_of r)) e
    ∙ append_assoc old (filter_map committed_of rs) (option_to_list (committed_of r))
    ∙ ap (λ l. old ++ l) (ap (λ l. filter_map committed_of rs ++ l) (one_listed (committed_of r)) ∙ sym (filter_map-append committed_of rs (r ∷ []))) where
      one_listed : (o : Option ℕ) → option_to_list o ≡ cons_option o []
      one_listed None = refl
      one_listed (Some m) = refl

longer_full : (N : ℕ) (words words' : List ℕ) → IsPrefix words words' → length words ≡ N → length words' ≤ N → length words' ≡ N
longer_full N words words' p e le = let sum : length (words ++ p.0) ≡ length words' = ap length p.1 in omega (arith, length-append words p.0, sum)

pub progress_push : (N : ℕ) (first s next : SessionState) (pass mid pass' : Seen) (xs : List (List ℕ)) (rs : List Reply) (x : List ℕ) (r : Reply)
    → Progress N first s pass mid xs rs → Answers N s next mid.words pass'.words x r → IsBounded N s pass'.words x r mid.made pass'.made → Progress N first next pass pass' (xs ++ x ∷ []) (rs ++ r ∷ [])
progress_push N first s next pass mid pass' xs rs x r p a bounded = record {
  within = λ W g H stands. made_push H W N first s next xs rs x r pass.made mid.made pass'.made
      (p.within W (record { log = prefix_of_prefix mid.words pass'.words W a.longer g.log; formed = g.formed; room = g.room }) H stands) (a.lawful W g H stands) (bounded W g H stands);
  longer = prefix_of_prefix pass.words mid.words pass'.words p.longer a.longer;
  same = a.same ∙ p.same;
  commits = commits_push (commits_by first.session 1 (commits_of pass.words)) (commits_by first.session 1 (commits_of mid.words)) (commits_by first.session 1 (commits_of pass'.words)) rs r p.commits
      (subst (λ k. commits_by k 1 (commits_of pass'.words) ≡ commits_by k 1 (commits_of mid.words) ++ option_to_list (committed_of r)) p.same a.commits);
  full = full_push rs r p.full (λ e. not_committed r (λ some. let lt = a.not_full some in let eq = p.filled e in omega arith));
  filled = λ e. by_test (list_any is_full rs) (is_full r) refl refl (sym (any_push rs r) ∙ e);
} where
  by_test : (b c : Bool) → list_any is_full rs ≡ b → is_full r ≡ c → (list_any is_full rs || is_full r) ≡ true → length pass'.words ≡ N
  by_test true c p' q' e = longer_full N mid.words pass'.words a.longer (p.filled p') a.room
  by_test false true p' q' e = a.full q'
  by_test false false p' q' e = absurd (false≢true (sym (λ i. p' i || q' i) ∙ e))
