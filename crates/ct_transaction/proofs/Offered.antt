-- The offer of an open transaction whose change list was begun.
use Rattle.std.{proofs.Common.{◌≡◌, ℕ, ◌<◌, List, [], ◌∷◌, ◌++◌, length, map, refl, ap, sym, subst, ◌∙◌, arith}, specs.Prelude.{Some, IsTrue, All}}
use Rattle.std.{specs.Arc.arc_value, specs.List.{AllByRecursion, Contains, list_all}, proofs.lemmas.Bool.false≢true}
use Rattle.std.proofs.lemmas.List.Elements.{All-from_recursion, recursion_from_All}
use Rattle.ct_word.{specs.Change.{PlainChange, Create, Assert, PlainCommit}, specs.Reading.change_list_at, specs.WellFormed.is_place_of}
use Rattle.ct_word.specs.Writable.{is_writable}
use Rattle.ct_query.{specs.Plain.PlainAction, specs.declared.action.Read.Read, specs.Agrees.{AgreesWith, AgreesAfter, Agrees}, specs.Fits.FitAfter}
use Rattle.ct_query.{specs.Frame.{creates, reads_of_actions}, specs.Reads.{action_reads, tables_of}, specs.Worlds.admits, proofs.Committed.commit_does}
use Rattle.ct_query.proofs.Within.{all_parts, of_added}
use Rattle.ct_arena.specs.Seen.{Seen}
use Rattle.ct_table.specs.Snapshot.{IsKeptValue}
use Rattle.ct_keeper.{specs.Offers.{IsOffer, commit_for, has_assertion, kept_in}, specs.declared.catalogue.Offer.Offer}
use Rattle.ct_statement.{specs.declared.sight.Sight.Sight, specs.Proposals.listed, specs.Sight.{actions_before, history_of, IsSight}}
use Rattle.ct_transaction.{specs.declared.state.Open.Open, specs.Sessions.{IsBegunList, IsOpen}}
use Rattle.ct_word.specs.declared.kinds.Class.TheVariants as class
use Rattle.ct_query.specs.Plain as plain
use Rattle.ct_query.specs.declared.action.Read.TheVariants as read

-- changes that agree with actions create what these read, and assert only where they read the worlds
module _ (h : List PlainCommit) (P : Read → Type 0) where
  pub creates_all : (before actions : List PlainAction) (xs : List PlainChange) → AgreesAfter h before actions xs → AllByRecursion P (reads_of_actions actions) → AllByRecursion P (creates xs)
  creates_all before [] [] f all = tt
  creates_all before (a ∷ actions) (x ∷ xs) f all =
      let parts = all_parts P (action_reads a) (reads_of_actions actions) all in
      by_first a x f.0 parts.0 (creates_all (before ++ a ∷ []) actions xs f.1 parts.1) where
        by_first : (b : PlainAction) (y : PlainChange) → AgreesWith h before b y → AllByRecursion P (action_reads b) → AllByRecursion P (creates xs) → AllByRecursion P (creates (y ∷ xs))
        by_first (plain.Create n cs) (Create n' cs') g own rest = (subst (λ m. P (read.Table m)) (sym g.0) own.0, rest)
        by_first _ (Create n' cs') g own rest = absurd g
        by_first _ _ g own rest = rest
  creates_all before _ _ f all = absurd f

  pub asserts_read : (before actions : List PlainAction) (xs : List PlainChange) → AgreesAfter h before actions xs → AllByRecursion P (reads_of_actions actions) → has_assertion xs → P read.Worlds
  asserts_read before [] [] f all some = absurd (false≢true some)
  asserts_read before (a ∷ actions) (x ∷ xs) f all some =
      let parts = all_parts P (action_reads a) (reads_of_actions actions) all in
      by_first a x f.0 parts.0 (asserts_read (before ++ a ∷ []) actions xs f.1 parts.1) some where
        by_first : (b : PlainAction) (y : PlainChange) → AgreesWith h before b y → AllByRecursion P (action_reads b) → (has_assertion xs → P read.Worlds) → has_assertion (y ∷ xs) → P read.Worlds
        by_first (plain.Assert c) (Assert c') g own rest some' = own.0
        by_first (plain.AssertQuery wanted q) (Assert c') g own rest some' =
            let tables = map (λ (t : List ℕ). read.Table t) (tables_of q) in
            (all_parts P tables (read.Worlds ∷ []) (of_added P [] (tables ++ read.Worlds ∷ []) own).1).1.0
        by_first (plain.AssertKey n ks) (Assert c') g own rest some' = own.1.0
        by_first _ (Assert c') g own rest some' = absurd g
        by_first _ _ g own rest some' = rest some'
  asserts_read before _ _ f all some = absurd f

-- changes that agree with no action are none, and those that are none agree with no action
pub none_agree : (h : List PlainCommit) (actions : List PlainAction) (xs : List PlainChange) → Agrees h actions xs → xs ≡ [] → actions ≡ []
none_agree h [] xs f e = refl
none_agree h (a ∷ actions) [] f e = absurd f
none_agree h (a ∷ actions) (x ∷ xs) f e = absurd (let bad = ap length e in omega (arith, bad))

pub some_agree : (h : List PlainCommit) (actions : List PlainAction) (xs : List PlainChange) → Agrees h actions xs → (xs ≡ [] → ⊥) → 0 < length actions
some_agree h [] [] f some = absurd (some refl)
some_agree h [] (x ∷ xs) f some = absurd f
some_agree h (a ∷ actions) xs f some = omega arith

-- an open transaction whose change list was begun at this place
pub record IsBegun (words : List ℕ) (sight : Sight) (changes : ℕ) (reads : List Read) : Type 0 where
  pub sight_is : IsSight words sight
  pub place : IsTrue (is_place_of words class.ChangeList changes)
  pub agrees : Agrees (history_of words sight) (actions_before sight) (change_list_at words changes)
  pub fits : FitAfter (history_of words sight) (change_list_at words changes)
  pub writable : IsTrue (list_all is_writable (change_list_at words changes))
  pub reads_are : All (Contains reads) (reads_of_actions (actions_before sight))

pub is_begun : (words : List ℕ) (o : Open) (changes : ℕ) → o.changes ≡ Some changes → IsOpen words o → IsBegun words o.sight changes o.reads
is_begun words o changes e open' = record {
  sight_is = open'.sight;
  place = subst (λ l. IsBegunList words l (actions_before o.sight)) e open'.list;
  agrees = subst (λ l. Agrees (history_of words o.sight) (actions_before o.sight) (listed words l)) e open'.agrees;
  fits = subst (λ l. FitAfter (history_of words o.sight) (listed words l)) e open'.fits;
  writable = subst (λ l. IsTrue (list_all is_writable (listed words l))) e open'.writable;
  reads_are = open'.reads;
}

-- its offer is one that the keeper takes
pub is_offer : (pass : Seen) (sight : Sight) (changes : ℕ) (reads : List Read) (like : Offer) → IsBegun pass.words sight changes reads → kept_in like ≡ arc_value sight.kept
    → IsOffer pass (record { base = sight.version; reads = reads; changes = changes; kept = like.kept })
is_offer pass sight changes reads like b same =
    let h = history_of pass.words sight in
    let actions = actions_before sight in
    let xs = change_list_at pass.words changes in
    let all = recursion_from_All (Contains reads) (reads_of_actions actions) b.reads_are in
    record {
      seen = b.sight_is.within;
      place = b.place;
      fits = b.fits;
      writable = b.writable;
      creations = All-from_recursion (Contains reads) (creates xs) (creates_all h (Contains reads) [] actions xs b.agrees all);
      leaves = λ some. record {
        reads = asserts_read h (Contains reads) [] actions xs b.agrees all some;
        world = record {
          admitted = sym ((commit_does h actions (commit_for pass offered) b.agrees).admitted (kept_in like)) ∙ subst (λ v. IsTrue (admits v h actions)) (sym same) b.sight_is.world.admitted;
          values = subst (λ v. All (λ p. IsKeptValue pass.words p.1) v) (sym same) b.sight_is.world.values;
        };
      };
    } where
      offered : Offer
      offered = record { base = sight.version; reads = reads; changes = changes; kept = like.kept }
