-- What is seen stays so in longer words, and what is seen after a step.
use Rattle.std.{proofs.Common.{◌≡◌, ◌≤◌, ℕ, List, [], ◌∷◌, ◌++◌, length, map, take, ap, sym, subst, ◌∙◌, arith, length-append}, specs.Arc.arc_value}
use Rattle.std.{specs.Prelude.{All, Option, Some, None, option_map, unwrap_or}, proofs.lemmas.List.{map-append, take-append-le}}
use Rattle.std.proofs.lemmas.List.Elements.{All-push}
use Rattle.ct_word.{specs.Value.World, specs.Reading.commits_of, specs.WellFormed.IsWellFormed, proofs.Prefixes.commits_prefix}
use Rattle.ct_query.{specs.Plain.PlainAction, specs.Views.action_of, specs.declared.action.Action.Action}
use Rattle.ct_resolve.specs.Writing.{WritesAction}
use Rattle.ct_condition.proofs.Reached.{formed_before}
use Rattle.ct_table.{specs.Denotes.Denotes, specs.Snapshot.{commits_to, IsGlobal, IsKeptWorld}, proofs.Changing.denotes_grows}
use Rattle.ct_table.proofs.Snapshots.{global_grows, kept_grows}
use Rattle.ct_keeper.specs.Effects.{tables_after, global_after}
use Rattle.ct_statement.{specs.declared.sight.Sight.Sight, specs.declared.stepping.Step.Step, specs.Proposals.{IsStep, kept_after}}
use Rattle.ct_statement.specs.Sight.{IsNarrow, IsSight, actions_before, history_of}
use mathlib.Core.List.{IsPrefix}

module _ (old new : List ℕ) (longer : IsPrefix old new) (s : Sight) where
  -- the commits of the version are the same in longer words
  pub history_stays : s.version ≤ length (commits_of old) → history_of old s ≡ history_of new s
  history_stays within =
      let p = commits_prefix old new longer in
      sym (take-append-le s.version (commits_of old) p.0 within) ∙ ap (take s.version) p.1

  -- and what is seen is seen in them
  pub sight_grows : IsWellFormed new → IsSight old s → IsSight new s
  sight_grows formed is =
      let p = commits_prefix old new longer in
      let same = history_stays is.within in
      let h = history_of old s in
      let actions = actions_before s in
      record {
        within = subst (λ cs. s.version ≤ length cs) p.1 (omega (arith, is.within, length-append (commits_of old) p.0));
        denotes = subst (λ g. Denotes new g actions s.tables) same (denotes_grows old new longer (formed_before old new longer formed) h actions s.tables is.denotes);
        condition = subst (λ g. IsGlobal new g actions s.global) same (global_grows old new longer formed h actions s.global is.condition);
        world = subst (λ g. IsKeptWorld new g actions (arc_value s.kept)) same (kept_grows old new longer formed h actions (arc_value s.kept) is.world);
        written = is.written;
        narrow = is.narrow;
      }

-- another world where there is one, else the one before
pub kept_is : {A : Type 0} (value : A → World) (kept next : A) (o : Option A) (other : Option World) → option_map value o ≡ other → next ≡ unwrap_or o kept → value next ≡ kept_after (value kept) other
kept_is value kept next None other e is = ap value is ∙ ap (kept_after (value kept)) e
kept_is value kept next (Some x) other e is = ap value is ∙ ap (kept_after (value kept)) e

-- one action more, in the room that was made for it
pub one_more : (before room after : List Action) (a : Action) → room ≡ before → after ≡ room ++ a ∷ [] → map action_of after ≡ map action_of before ++ action_of a ∷ []
one_more before room after a same pushed = ap (map action_of) (pushed ∙ ap (λ xs. xs ++ a ∷ []) same) ∙ map-append action_of before (a ∷ [])

-- what is seen after a step
pub sight_after : (words : List ℕ) (s next : Sight) (x : PlainAction) (step : Step) → next.version ≡ s.version → actions_before next ≡ actions_before s ++ x ∷ []
    → next.tables ≡ tables_after s.tables step.effect → next.global ≡ global_after s.global step.effect → arc_value next.kept ≡ kept_after (arc_value s.kept) step.kept
    → IsSight words s → IsStep words s x step → IsSight words next
sight_after words s next x step v a t g k is after =
    let actions = actions_before s ++ x ∷ [] in
    record {
      within = subst (λ n. n ≤ length (commits_of words)) (sym v) is.within;
      denotes = subst (λ n. Denotes words (commits_to words n) (actions_before next) next.tables) (sym v)
          (subst (λ xs. Denotes words (history_of words s) xs next.tables) (sym a) (subst (Denotes words (history_of words s) actions) (sym t) after.denotes));
      condition = subst (λ n. IsGlobal words (commits_to words n) (actions_before next) next.global) (sym v)
          (subst (λ xs. IsGlobal words (history_of words s) xs next.global) (sym a) (subst (IsGlobal words (history_of words s) actions) (sym g) after.condition));
      world = subst (λ n. IsKeptWorld words (commits_to words n) (actions_before next) (arc_value next.kept)) (sym v)
          (subst (λ xs. IsKeptWorld words (history_of words s) xs (arc_value next.kept)) (sym a) (subst (IsKeptWorld words (history_of words s) actions) (sym k) after.world));
      written = subst (All WritesAction) (sym a) (All-push WritesAction (actions_before s) x is.written after.written);
      narrow = subst (All IsNarrow) (sym a) (All-push IsNarrow (actions_before s) x is.narrow after.narrow);
    }
