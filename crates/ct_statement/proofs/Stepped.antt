-- The step of an action: what its effect leads to, and why there is none.
use Rattle.std.{proofs.Common.{◌≡◌, ◌≤◌, ℕ, List, [], ◌∷◌, ◌++◌, map, true, Option, refl, ap, ap₂, sym, subst, ◌∙◌, ◌&&◌}, specs.Arc.arc_value, specs.Prelude.IsTrue}
use Rattle.ct_word.{specs.Value.World, specs.Condition.{Condition, holds_at}, specs.Change.{PlainChange, Assert, PlainCommit}}
use Rattle.ct_word.{specs.Reading.condition_at, specs.WellFormed.IsWellFormed, proofs.Prefixes.{condition_in_prefix, place_in_prefix, place_within}}
use Rattle.ct_query.{specs.Plain.PlainAction, specs.Agrees.AgreesWith, specs.Bounds.applying_words, specs.Fits.FitsChange, specs.Patterns.count, specs.Schema.schema}
use Rattle.ct_history.{specs.declared.written.Written.Written, specs.Written.{IsWritten, plain_written}}
use Rattle.ct_resolve.specs.Writing.{WritesAction}
use Rattle.ct_table.{specs.Denotes.{Denotes, heading_of}, specs.Snapshot.{IsGlobal, IsKeptWorld}}
use Rattle.ct_table.proofs.Snapshots.{global_grows, kept_grows}
use Rattle.ct_keeper.{specs.declared.effects.Effect.Effect, specs.Doing.HasTermsFor, specs.Effects.{DoesChange, FitsEffect, effect_words, tables_after, global_after}}
use Rattle.ct_keeper.proofs.Doing.{tables_do, global_does, world_does, world_narrows}
use Rattle.ct_transcript.specs.declared.reply.Refusal.{Refusal}
use Rattle.ct_statement.{specs.declared.sight.Sight.Sight, specs.Narrowing.{IsEffectFor, IsBothWith, asserted, CanNarrow, IsWorldless, IsKeptFor, IsUnkept}}
use Rattle.ct_statement.{specs.Proposals.{IsProposal, IsStep, kept_after}, specs.Sight.{IsNarrow, IsSight, actions_before, history_of}, specs.Sources.is_assertion, specs.Unmet.IsUnmet}
use Rattle.ct_statement.{specs.Making.IsLight, proofs.Making.effect_within, proofs.Sights.history_stays}
use mathlib.Core.List.{IsPrefix}
use Rattle.ct_word.specs.declared.kinds.Class.TheVariants as class
use Rattle.ct_query.specs.Plain as plain
use Rattle.ct_history.specs.declared.written.Written.TheVariants as written
use Rattle.ct_keeper.specs.declared.effects.Effect.TheVariants as effect
use Rattle.ct_transcript.specs.declared.reply.Refusal.TheVariants as refusal

module _ (old new : List ℕ) (longer : IsPrefix old new) (formed : IsWellFormed new) (s : Sight) (is : IsSight old s) (a : PlainAction) where
  abbrev h : List PlainCommit
  h = history_of old s

  abbrev actions : List PlainAction
  actions = actions_before s

  same_history : h ≡ history_of new s
  same_history = history_stays old new longer s is.within

  module _ (w : Written) (e : Effect) (f : IsEffectFor old new s a w e) where
    tables_then : Denotes new h (actions ++ a ∷ []) (tables_after s.tables e)
    tables_then = tables_do old new longer formed s.tables s.global w f.placed e f.does h actions a f.agrees f.terms is.denotes

    global_then : IsGlobal new h (actions ++ a ∷ []) (global_after s.global e)
    global_then = global_does old new longer formed s.tables s.global w f.placed e f.does h actions a f.agrees f.terms is.condition

  world_then : (w : Written) (e : Effect) → IsEffectFor old new s a w e → (next : Option World) → IsKeptFor new e (arc_value s.kept) next → IsKeptWorld new h (actions ++ a ∷ []) (kept_after (arc_value s.kept) next)
  world_then w (effect.Grows growth) f next k =
      subst (λ o. IsKeptWorld new h (actions ++ a ∷ []) (kept_after (arc_value s.kept) o)) (sym k)
      (world_does old new longer formed s.tables s.global w f.placed (effect.Grows growth) f.does h actions a f.agrees f.terms growth (arc_value s.kept) refl is.world)
  world_then w (effect.Narrows place) f next k =
      world_narrows old new longer formed s.tables s.global w f.placed (effect.Narrows place) f.does h actions a f.agrees f.terms place (kept_after (arc_value s.kept) next) refl is.condition
      k.holds (k.values (kept_grows old new longer formed h actions (arc_value s.kept) is.world).values)

  -- the step
  pub step_made : (w : Written) (e : Effect) → IsEffectFor old new s a w e → FitsEffect s.tables e → WritesAction a → IsNarrow a → (next : Option World) → IsKeptFor new e (arc_value s.kept) next
      → IsStep new s a (record { effect = e; kept = next })
  step_made w e f fits own few next k = record {
    fits = fits;
    denotes = subst (λ g. Denotes new g (actions ++ a ∷ []) (tables_after s.tables e)) same_history (tables_then w e f);
    condition = subst (λ g. IsGlobal new g (actions ++ a ∷ []) (global_after s.global e)) same_history (global_then w e f);
    world = subst (λ g. IsKeptWorld new g (actions ++ a ∷ []) (kept_after (arc_value s.kept) next)) same_history (world_then w e f next k);
    written = own;
    narrow = few;
  }

  -- the kept world satisfies the global condition over the longer words too
  pub kept_holds : IsTrue (holds_at (arc_value s.kept) (condition_at new s.global))
  kept_holds = (global_grows old new longer formed h actions s.global is.condition).holds (arc_value s.kept) ∙ is.world.admitted

  -- the place of another global condition is that of both the one before and the asserted one
  both_then : (w : Written) (place : ℕ) → IsEffectFor old new s a w (effect.Narrows place) → IsBothWith new s.global (asserted w) place
  both_then (written.Assert cond) place f =
      let g = global_then (written.Assert cond) (effect.Narrows place) f in
      let within = place_within old class.Cond s.global is.condition.place in
      record {
        global_is = place_in_prefix old new class.Cond s.global longer is.condition.place;
        own_is = place_in_prefix old new class.Cond cond longer f.placed;
        holds = λ v. f.does.truth.truth_is v [] ∙ sym (ap₂ (λ x y. holds_at v x && holds_at v y) (condition_in_prefix old new s.global longer within) (condition_in_prefix old new cond longer (place_within old class.Cond cond f.placed)));
        decidable = record { condition = g.place; plain = g.plain };
      }
  both_then _ place f = absurd f.does

  pub can_narrow : (w : Written) (e : Effect) → IsEffectFor old new s a w e → CanNarrow new s.global w e
  can_narrow w (effect.Grows growth) f = tt
  can_narrow w (effect.Narrows place) f = both_then w place f

-- after an assertion more
module _ (new : List ℕ) (h : List PlainCommit) (actions : List PlainAction) (a : PlainAction) (assertion : is_assertion a ≡ true) (place room : ℕ) (g : IsGlobal new h (actions ++ a ∷ []) place) where
  worldless_unmet : (why : Refusal) → IsWorldless new place why → IsUnmet h actions room new (plain.Act a) why
  worldless_unmet (refusal.Inconsistent proof) w = record {
    action = a;
    asserts = refl;
    is = assertion;
    none_satisfies = λ v. sym (g.holds v) ∙ w.2 v;
    accepted = w.1;
    root = λ v. ap (λ p. holds_at v (condition_at new p)) w.0 ∙ g.holds v;
  }
  worldless_unmet refusal.Memory w = tt
  worldless_unmet _ w = absurd w

-- an action with which an assertion agrees is one
asserts_itself : (h : List PlainCommit) (before : List PlainAction) (a : PlainAction) (c : Condition) → AgreesWith h before a (Assert c) → is_assertion a ≡ true
asserts_itself h before (plain.Assert p) c agrees = refl
asserts_itself h before (plain.AssertQuery wanted q) c agrees = refl
asserts_itself h before (plain.AssertKey name columns) c agrees = refl
asserts_itself h before _ c agrees = absurd agrees

module _ (old new : List ℕ) (longer : IsPrefix old new) (formed : IsWellFormed new) (s : Sight) (is : IsSight old s) (room : ℕ) where
  -- where the global condition is another one, the action is an assertion
  of_assertion : (change : Written) (a : PlainAction) (place : ℕ) → DoesChange old new s.tables s.global change (effect.Narrows place)
      → AgreesWith (history_of old s) (actions_before s) a (plain_written old change) → IsGlobal new (history_of old s) (actions_before s ++ a ∷ []) place
      → (why : Refusal) → IsWorldless new place why → IsUnmet (history_of old s) (actions_before s) room new (plain.Act a) why
  of_assertion (written.Assert cond) a place does agrees g why w =
      worldless_unmet new (history_of old s) (actions_before s) a (asserts_itself (history_of old s) (actions_before s) a (condition_at old cond) agrees) place room g why w
  of_assertion _ a place does agrees g why w = absurd does

  pub unkept_unmet : (a : PlainAction) (w : Written) (e : Effect) → IsEffectFor old new s a w e → (why : Refusal) → IsUnkept new e why → IsUnmet (history_of old s) (actions_before s) room new (plain.Act a) why
  unkept_unmet a w (effect.Grows growth) f why u = absurd u
  unkept_unmet a w (effect.Narrows place) f why u =
      of_assertion w a place f.does f.agrees (global_then old new longer formed s is a w (effect.Narrows place) f) why u

-- the last change of a proposal, over the words before its effect
module _ (old : List ℕ) (s : Sight) (is : IsSight old s) (a : PlainAction) (list : List PlainChange) (changes : ℕ) (p : IsProposal old (history_of old s) (actions_before s) list a changes)
    (w : Written) (same : plain_written old w ≡ p.change) where
  pub fits_tables : FitsChange (map heading_of s.tables) (plain_written old w)
  fits_tables = subst (λ hs. FitsChange hs (plain_written old w)) (sym is.denotes.worth.headings)
      (subst (FitsChange (schema (history_of old s) (actions_before s)).tables) (sym same) p.fits)

  pub effect_is : (new : List ℕ) (e : Effect) → IsWritten old w → DoesChange old new s.tables s.global w e → IsEffectFor old new s a w e
  effect_is new e placed does = record {
    placed = placed;
    does = does;
    agrees = subst (AgreesWith (history_of old s) (actions_before s) a) (sym same) p.agrees;
    terms = subst (HasTermsFor (history_of old s) (actions_before s) a) (sym same) p.terms;
  }

  -- it makes no more words than are counted for the action
  pub effect_light : effect_words s.tables (plain_written old w) ≤ applying_words (count (history_of old s) (actions_before s)) a
  effect_light =
      let counts = count (history_of old s) (actions_before s) in
      effect_within old (history_of old s) (actions_before s) s.tables is.denotes a (plain_written old w) (subst (IsLight counts a) (sym same) p.light)
