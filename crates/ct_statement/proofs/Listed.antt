-- The proposal that a change list is, over the words at each call that leads to it.
use Rattle.std.{proofs.Common.{◌≡◌, ◌≤◌, ℕ, List, [], ◌∷◌, ◌++◌, Option, map, length, ap, sym, subst, ◌∙◌}, specs.Prelude.IsTrue, proofs.lemmas.List.length-map}
use Rattle.ct_word.{specs.declared.values.CRow.CRow, specs.Reading.{as_change_list, change_list_at, plain_crow}, specs.WellFormed.{IsWellFormed, is_place_of}}
use Rattle.ct_word.proofs.Prefixes.{place_within, change_list_in_prefix}
use Rattle.ct_query.{specs.Agrees.AgreesWith, specs.Fits.FitsAction, specs.Patterns.count, specs.Plain.PlainAction, specs.Schema.schema}
use Rattle.ct_condition.proofs.Reached.{formed_before}
use Rattle.ct_history.specs.Encodes.{Adds}
use Rattle.ct_keeper.specs.Doing.{HasTermsFor}
use Rattle.ct_resolve.specs.Writing.{WritesAction}
use Rattle.ct_statement.{specs.declared.sight.Sight.Sight, specs.Proposals.{IsProposal, listed}, specs.Sight.{IsSight, actions_before, history_of}}
use Rattle.ct_statement.{specs.Making.taken_rows, proofs.Making.light_for}
use Rattle.ct_statement.{specs.Sources.AreTakenFor, proofs.Proposed.{agrees_then, has_sources, change_fits, change_written}, proofs.Sights.history_stays}
use mathlib.Core.List.{IsPrefix}
use Rattle.ct_word.specs.declared.kinds.Class.TheVariants as class

-- old are the words before, started those when the list is begun
module _ (old started : List ℕ) (longer : IsPrefix old started) (s : Sight) (is : IsSight old s) (a : PlainAction)
    (fits : FitsAction (schema (history_of old s) (actions_before s)).tables a) where
  pub fits_started : FitsAction (schema (history_of started s) (actions_before s)).tables a
  fits_started = subst (λ h. FitsAction (schema h (actions_before s)).tables a) (history_stays old started longer s is.within) fits

  -- taken are those when the rows of a query are there, new those with the change
  pub proposal : (taken new : List ℕ) → IsPrefix started taken → IsPrefix taken new → IsWellFormed new → WritesAction a → (list : Option ℕ) (begun place : ℕ) (rs : List CRow)
      → IsTrue (is_place_of started class.ChangeList begun) → change_list_at started begun ≡ listed old list → AreTakenFor taken s.global (history_of started s) (actions_before s) a rs
      → length rs ≤ taken_rows (count (history_of started s) (actions_before s)) a
      → Adds taken new begun place a rs → IsTrue (is_place_of new class.ChangeList place) → IsProposal new (history_of old s) (actions_before s) (listed old list) a place
  proposal taken new second third formed own list begun place rs is_begun listed_is its few adds is_place =
      let h = history_of old s in
      let actions = actions_before s in
      let formed_taken = formed_before taken new third formed in
      let rows : AreTakenFor taken s.global h actions a rs = subst (λ g. AreTakenFor taken s.global g actions a rs) (sym (history_stays old started longer s is.within)) its in
      let agrees : AgreesWith h actions a adds.change = agrees_then taken formed_taken s.global h actions a rs adds.change adds.does rows in
      let terms : HasTermsFor h actions a adds.change = has_sources taken formed_taken s.global h actions a rs adds.change adds.does adds.from rows in
      record {
        change = adds.change;
        place = is_place;
        list_is = ap as_change_list adds.list_is
            ∙ ap (λ xs. xs ++ adds.change ∷ []) (change_list_in_prefix started taken begun second (place_within started class.ChangeList begun is_begun) ∙ listed_is);
        agrees = agrees;
        light = light_for (count h actions) a (map (plain_crow taken) rs) adds.change adds.does adds.few
            (subst (λ n. n ≤ taken_rows (count h actions) a) (sym (length-map rs (plain_crow taken))) (subst (λ g. length rs ≤ taken_rows (count g actions) a) (sym (history_stays old started longer s is.within)) few));
        fits = change_fits taken formed_taken s.global h actions a rs adds.change fits adds.does adds.from rows;
        writable = change_written h actions is.denotes.writable is.written a adds.change own agrees terms;
        terms = terms;
        written = own;
      }
