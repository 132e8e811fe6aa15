-- Changes that are proposed, and what a session sees after one.
use Rattle.std.specs.Prelude.{◌≡◌, ℕ, List, [], ◌∷◌, ◌++◌, Option, Some, None, IsTrue}
use Rattle.std.specs.Arc.{arc_value}
use Rattle.ct_word.specs.declared.kinds.Class.TheVariants as class
use Rattle.ct_word.specs.Value.{World}
use Rattle.ct_word.specs.Change.{PlainChange, PlainCommit}
use Rattle.ct_word.specs.Reading.{change_list_at}
use Rattle.ct_word.specs.WellFormed.{is_place_of}
use Rattle.ct_word.specs.Writable.{is_writable}
use Rattle.ct_query.specs.Plain.{PlainAction}
use Rattle.ct_query.specs.Agrees.{AgreesWith}
use Rattle.ct_query.specs.Fits.{FitsChange}
use Rattle.ct_query.specs.Patterns.{count}
use Rattle.ct_query.specs.Schema.{schema}
use Rattle.ct_resolve.specs.Writing.{WritesAction}
use Rattle.ct_keeper.specs.Doing.{HasTermsFor}
use Rattle.ct_keeper.specs.Effects.{FitsEffect, tables_after, global_after}
use Rattle.ct_table.specs.Denotes.{Denotes}
use Rattle.ct_table.specs.Snapshot.{IsGlobal, IsKeptWorld}
use Rattle.ct_statement.specs.declared.sight.Sight.{Sight}
use Rattle.ct_statement.specs.declared.stepping.Step.{Step}
use Rattle.ct_statement.specs.Making.{IsLight}
use Rattle.ct_statement.specs.Sight.{actions_before, history_of, IsNarrow}

-- the changes of a list that may not have been begun
abbrev pub listed : List ℕ → Option ℕ → List PlainChange
listed words None = []
listed words (Some place) = change_list_at words place

-- a change list is this one with the change of an action added, which agrees with the action and is light for it, fits the
-- tables that the statement sees, and can be written, as the action can
pub record IsProposal (words : List ℕ) (h : List PlainCommit) (before : List PlainAction) (list : List PlainChange) (a : PlainAction) (changes : ℕ) : Type 0 where
  pub change : PlainChange
  pub place : IsTrue (is_place_of words class.ChangeList changes)
  pub list_is : change_list_at words changes ≡ list ++ change ∷ []
  pub agrees : AgreesWith h before a change
  pub light : IsLight (count h before) a change
  pub fits : FitsChange (schema h before).tables change
  pub writable : IsTrue (is_writable change)
  pub terms : HasTermsFor h before a change
  pub written : WritesAction a

-- the kept world after a step: a new one, or the one before
abbrev pub kept_after : World → Option World → World
kept_after kept None = kept
kept_after kept (Some other) = other

-- a step leads from what a statement sees to what is seen after its action, which can be written, and whose table has no more
-- columns than a word can tell apart
pub record IsStep (words : List ℕ) (s : Sight) (a : PlainAction) (step : Step) : Type 0 where
  pub fits : FitsEffect s.tables step.effect
  pub denotes : Denotes words (history_of words s) (actions_before s ++ a ∷ []) (tables_after s.tables step.effect)
  pub condition : IsGlobal words (history_of words s) (actions_before s ++ a ∷ []) (global_after s.global step.effect)
  pub world : IsKeptWorld words (history_of words s) (actions_before s ++ a ∷ []) (kept_after (arc_value s.kept) step.kept)
  pub written : WritesAction a
  pub narrow : IsNarrow a
