-- An action as it is proposed, and its step, over the words that came with each.
use Rattle.std.{proofs.Common.{◌≡◌, ◌≤◌, ◌+◌, ℕ, Bool, length, arith, sym, subst, ◌∙◌}, specs.Prelude.{Option, Ok, Err}}
use Rattle.ct_word.{specs.Reading.commits_of, proofs.Prefixes.prefix_of_prefix}
use Rattle.ct_arena.specs.Seen.{Seen}
use Rattle.ct_condition.specs.Writes.{charge, kept_of}
use Rattle.ct_query.{specs.Bounds.change_words, specs.Patterns.count, specs.Plain.PlainAction, specs.Schema.schema, specs.Views.action_of}
use Rattle.ct_transcript.specs.declared.reply.Refusal.{Refusal}
use Rattle.ct_statement.{specs.declared.proposing.Proposal.Proposal, specs.declared.sight.Sight.Sight, specs.declared.stepping.Step.Step}
use Rattle.ct_statement.{specs.Drawing.drawn, specs.Making.{says_full, widths_in}, specs.Proposals.{IsProposal, listed}, specs.Sight.{actions_before, history_of}, specs.Unmet.IsUnmet, proofs.Sights.history_stays}
use Rattle.ct_transaction.{specs.Bounded.step_words, specs.Prepared.{IsStepIf, Prepares, needs_step}, proofs.Bounded.changed_within, proofs.Proposed.proposal_grows}
use mathlib.Core.List.{IsPrefix}
use Rattle.ct_query.specs.Plain as plain
use Rattle.ct_transaction.specs.declared.preparing.Prepared.TheVariants as prepared

-- an action that was proposed, over the words that came with that
module _ (N : ℕ) (old mid : Seen) (longer : IsPrefix old.words mid.words) (kept : kept_of mid ≡ kept_of old) (s : Sight) (within : s.version ≤ length (commits_of old.words)) (list : Option ℕ) (fresh : ℕ) (a : PlainAction)
    (first : mid.made + 0 + 1 ≤ old.made + change_words (count (history_of old.words s) (actions_before s)) (widths_in (schema (history_of old.words s) (actions_before s)).tables) a)
    (p : Proposal) (same : action_of p.action ≡ a) (draws : p.fresh ≡ fresh + drawn a) (proposes : IsProposal mid.words (history_of old.words s) (actions_before s) (listed old.words list) a p.changes) where
  -- it is so at the words that came
  pub proposed_there : IsProposal mid.words (history_of mid.words s) (actions_before s) (listed old.words list) (action_of p.action) p.changes
  proposed_there =
      subst (λ h. IsProposal mid.words h (actions_before s) (listed old.words list) (action_of p.action) p.changes) (history_stays old.words mid.words longer s within)
      (subst (λ b. IsProposal mid.words (history_of old.words s) (actions_before s) (listed old.words list) b p.changes) (sym same) proposes)

  -- and its step was made, or is wanting, over further ones
  module _ (inside : Bool) (new : Seen) (more : IsPrefix mid.words new.words) (still : kept_of new ≡ kept_of mid) where
    made_all : (made : ℕ) → made ≤ mid.made + step_words inside (count (history_of mid.words s) (actions_before s)) (action_of p.action)
        → made ≤ mid.made + step_words inside (count (history_of old.words s) (actions_before s)) a
    made_all made rest =
        subst (λ h. made ≤ mid.made + step_words inside (count h (actions_before s)) a) (sym (history_stays old.words mid.words longer s within))
        (subst (λ b. made ≤ mid.made + step_words inside (count (history_of mid.words s) (actions_before s)) b) same rest)

    pub change_prepared : (step : Option Step) → IsStepIf new.words s (action_of p.action) step → needs_step inside (prepared.Change p step)
        → new.made + 0 ≤ mid.made + step_words inside (count (history_of mid.words s) (actions_before s)) (action_of p.action) → Prepares inside N old new s list fresh (plain.Act a) (Ok (prepared.Change p step))
    change_prepared step is needs rest = record {
      longer = prefix_of_prefix old.words mid.words new.words longer more;
      kept = still ∙ kept;
      made = changed_within inside (count (history_of old.words s) (actions_before s)) (widths_in (schema (history_of old.words s) (actions_before s)).tables) a old.made mid.made (new.made + 0) (omega (arith, first)) (made_all (new.made + 0) rest);
      ok = record {
        action = same;
        proposes = proposal_grows mid.words new.words more (history_of old.words s) (actions_before s) (listed old.words list) a p.changes proposes;
        draws = draws;
        steps = subst (λ b. IsStepIf new.words s b step) same is;
      };
      steps = needs;
      err = tt;
    }

    pub change_unmet : (why : Refusal) → IsUnmet (history_of mid.words s) (actions_before s) N new.words (plain.Act (action_of p.action)) why
        → new.made + charge (says_full why) ≤ mid.made + step_words inside (count (history_of mid.words s) (actions_before s)) (action_of p.action) → Prepares inside N old new s list fresh (plain.Act a) (Err why)
    change_unmet why unmet rest = record {
      longer = prefix_of_prefix old.words mid.words new.words longer more;
      kept = still ∙ kept;
      made = changed_within inside (count (history_of old.words s) (actions_before s)) (widths_in (schema (history_of old.words s) (actions_before s)).tables) a old.made mid.made (new.made + charge (says_full why)) (omega (arith, first))
          (made_all (new.made + charge (says_full why)) rest);
      ok = tt;
      steps = tt;
      err = subst (λ h. IsUnmet h (actions_before s) N new.words (plain.Act a) why) (sym (history_stays old.words mid.words longer s within))
          (subst (λ b. IsUnmet (history_of mid.words s) (actions_before s) N new.words (plain.Act b) why) same unmet);
    }
