-- Tables keep their columns, so an action has one bound at all versions from one on at which it fits.
use Rattle.std.proofs.Common.{◌≡◌, ℕ, ◌+◌, ◌*◌, ◌≤◌, ◌++◌, List, [], length, take, drop, refl, ap, sym, subst, ◌∙◌, arith, length-take}
use Rattle.std.{specs.Prelude.{Option, IsSome}, proofs.lemmas.List.take-append-drop, proofs.lemmas.List.Elements.All-nil}
use Rattle.ct_word.specs.Change.{PlainCommit}
use Rattle.ct_query.{specs.Bounds.{bound, catalogue_words}, specs.Fits.{columns_in, count_of, FitsAction}, specs.Patterns.count, specs.Plain.PlainAction, specs.Reads.last}
use Rattle.ct_query.{specs.Schema.schema, proofs.Frame.same_for_actions}
use Rattle.ct_statement.specs.Making.{widths_in}
use Rattle.ct_transaction.proofs.Going.{front_taken}
use Rattle.ct_query.specs.Plain as plain

module _ (H : List PlainCommit) (at later : ℕ) (le : at ≤ later) (within : later ≤ length H) where
  -- the commits of the first version are those before the others of the second
  pub first : take at H ≡ take at (take later H)
  first = front_taken at (take later H) H (drop later H, take-append-drop later H) (let short = length-take later H in omega (arith, le, within, short))

  pub columns_stay : (t : List ℕ) → IsSome (columns_in (schema (take at H) []).tables t) → columns_in (schema (take later H) []).tables t ≡ columns_in (schema (take at H) []).tables t
  columns_stay t there =
      let h = take later H in
      let front = take at h in
      let named = (same_for_actions front (drop at h) [] (All-nil (λ r. last (front ++ drop at h) r ≤ length front))).named t (subst (λ g. IsSome (columns_in (schema g []).tables t)) first there) in
      ap (λ g. columns_in (schema g []).tables t) (sym (take-append-drop at h)) ∙ named ∙ ap (λ g. columns_in (schema g []).tables t) (sym first)

  -- an assertion of a key, whose table is there
  pub key_bound : (own : Option (List PlainAction)) (name : List ℕ) (ks : List ℕ) → IsSome (columns_in (schema (take at H) []).tables name)
      → bound (count H []) (widths_in (schema (take later H) []).tables) own (plain.Act (plain.AssertKey name ks)) ≡ bound (count H []) (widths_in (schema (take at H) []).tables) own (plain.Act (plain.AssertKey name ks))
  key_bound own name ks there =
      ap (λ w. count H [] name * count H [] name * (2 * w + 3) + 6 + 1 + catalogue_words (count H []) own (plain.AssertKey name ks)) (ap count_of (columns_stay name there))

  pub one_bound : (own : Option (List PlainAction)) (a : PlainAction) → FitsAction (schema (take at H) []).tables a
      → bound (count H []) (widths_in (schema (take later H) []).tables) own (plain.Act a) ≡ bound (count H []) (widths_in (schema (take at H) []).tables) own (plain.Act a)
  one_bound own (plain.AssertKey name ks) fits = key_bound own name ks fits.0
  one_bound own _ fits = refl
