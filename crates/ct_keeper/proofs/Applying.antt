-- An offer that is unchanged can be applied to all commits, and what its changes make is what stands after them.
use Rattle.std.proofs.Common.{◌≡◌, ℕ, suc, ◌+◌, ◌≤◌, Bool, true, false, List, [], ◌∷◌, ◌++◌, length, map, take, drop, refl, ap, sym, subst, ◌∙◌, arith, length-append, take_all, filter_map}
use Rattle.std.{specs.Prelude.{Option, Some, None, IsTrue, All, is_some, option_and_then, if◌then◌else◌}, specs.Arc.arc_value, proofs.lemmas.Bool.false≢true}
use Rattle.std.{specs.List.{Contains, cons_option, list_any, list_all}, proofs.lemmas.List.{take-append-drop, length-take-le}}
use Rattle.std.{proofs.lemmas.List.Elements.{All-contains, All-weaker}, proofs.lemmas.Grind.flat_map-append}
use Rattle.ct_word.{specs.Value.World, specs.Condition.holds_at, specs.Change.{PlainChange, Assert, PlainCommit}, specs.WellFormed.IsWellFormed}
use Rattle.ct_word.{specs.Reading.{Meaning, as_commit, meanings, commits_of, change_list_at}, specs.Writable.is_writable, proofs.Growth.length-read}
use Rattle.ct_query.{specs.declared.action.Read.Read, specs.Database.Database, specs.Step.step_change, specs.Reads.{writes, last}, specs.Fits.FitAfter}
use Rattle.ct_query.{specs.Worlds.{world, admits, after_changes, changes_of}, specs.Frame.creates, proofs.Within.{Unwritten, later_unwritten, changes_admit}}
use Rattle.ct_query.{proofs.Laws.{after_changes-append, last_commit, world_commit}, proofs.Frame.fit_later}
use Rattle.ct_arena.{specs.declared.tally.Tally.Tally, specs.Counts.commit_of, specs.Seen.pass_of}
use Rattle.ct_history.{specs.declared.written.Written.Written, specs.Written.{IsWritten, plain_written}}
use Rattle.ct_table.{specs.Denotes.Denotes, specs.Snapshot.{IsGlobal, IsKeptWorld, commits_to, IsSnapshot}, proofs.Snapshots.{kept_grows, snapshot_of_all}}
use Rattle.ct_keeper.{specs.declared.catalogue.Offer.Offer, specs.declared.latest.Latest.Latest, specs.Latest.IsLatest, specs.Writers.last_in}
use Rattle.ct_keeper.{specs.Offers.{IsOffer, Leaves, IsUnchanged, kept_in}, specs.Steps.{IsMade, CanApply, is_assertion}, proofs.Noting.asserted_same}
use mathlib.Core.List.{IsPrefix}
use Rattle.ct_query.specs.declared.action.Read.TheVariants as read

-- there are no more commits than words
few : (ms : List Meaning) → length (filter_map as_commit ms) ≤ length ms
few [] = omega arith
few (m ∷ ms) = by_first (as_commit m) (few ms) where
  by_first : (o : Option PlainCommit) → length (filter_map as_commit ms) ≤ length ms → length (cons_option o (filter_map as_commit ms)) ≤ suc (length ms)
  by_first None le = omega arith
  by_first (Some c) le = omega arith

pub few_commits : (words : List ℕ) → length (commits_of words) ≤ length words
few_commits words = let le = few (meanings words) in omega (arith, le, length-read [] words)

-- changes admit the same after two databases, if both are there
module _ (v : World) where
  step_admits : (x : PlainChange) (o o' : Option Database) → is_some o ≡ is_some o' → is_some (option_and_then (λ d. step_change v d x) o) ≡ is_some (option_and_then (λ d. step_change v d x) o')
  step_admits x None None e = refl
  step_admits x None (Some d') e = absurd (false≢true e)
  step_admits x (Some d) None e = absurd (false≢true (sym e))
  step_admits (Assert c) (Some d) (Some d') e = by_test (holds_at v c) where
    by_test : (b : Bool) → is_some (if b then Some d else None) ≡ is_some (if b then Some d' else None)
    by_test true = refl
    by_test false = refl
  step_admits _ (Some d) (Some d') e = refl

  all_admit : (xs : List PlainChange) (o o' : Option Database) → is_some o ≡ is_some o' → is_some (after_changes v o xs) ≡ is_some (after_changes v o' xs)
  all_admit [] o o' e = e
  all_admit (x ∷ xs) o o' e = all_admit xs (option_and_then (λ d. step_change v d x) o) (option_and_then (λ d. step_change v d x) o') (step_admits x o o' e)

  -- a commit without an assertion admits what was admitted
  quiet_admits : (h : List PlainCommit) (c : PlainCommit) → Unwritten c.changes read.Worlds → admits v (h ++ c ∷ []) [] ≡ admits v h []
  quiet_admits h c free = ap is_some (world_commit v h c) ∙ changes_admit v c.changes free (world v h [])

  -- so later commits without one admit the same, and the same with a commit behind them
  module _ (h k : List PlainCommit) (old : last (h ++ k) read.Worlds ≤ length h) where
    later_admit : admits v (h ++ k) [] ≡ admits v h []
    later_admit =
        ap is_some (ap (after_changes v (Some [])) (flat_map-append (λ (c : PlainCommit). c.changes) h k) ∙ after_changes-append v (Some []) (changes_of h) (changes_of k))
        ∙ changes_admit v (changes_of k) (later_unwritten read.Worlds h k old) (world v h [])

    commit_admits : (c : PlainCommit) → admits v ((h ++ k) ++ c ∷ []) [] ≡ admits v (h ++ c ∷ []) []
    commit_admits c =
        ap is_some (world_commit v (h ++ k) c) ∙ all_admit c.changes (world v (h ++ k) []) (world v h []) later_admit ∙ ap is_some (sym (world_commit v h c))

module _ (old : List ℕ) (guest : Tally) (offer : Offer) (changes : List Written) (is : IsOffer (pass_of guest old) offer) (unchanged : IsUnchanged old offer)
    (placed : All (IsWritten old) changes) (same : map (plain_written old) changes ≡ change_list_at old offer.changes) where
  abbrev h : List PlainCommit
  h = commits_of old

  abbrev xs : List PlainChange
  xs = change_list_at old offer.changes

  abbrev base : List PlainCommit
  base = take offer.base h

  abbrev since : List PlainCommit
  since = drop offer.base h

  all : base ++ since ≡ h
  all = take-append-drop offer.base h

  older : (r : Read) → last h r ≤ offer.base → last (base ++ since) r ≤ length base
  older r le = subst (λ g. last g r ≤ length base) (sym all) (subst (λ n. last h r ≤ n) (sym (length-take-le offer.base h is.seen)) le)

  read_older : (r : Read) → Contains offer.reads r → last (base ++ since) r ≤ length base
  read_older r among = older r (All-contains (λ s. last h s ≤ offer.base) offer.reads r unchanged among)

  fits_now : FitAfter h xs
  fits_now =
      subst (λ g. FitAfter g xs) all
      (fit_later base since xs (All-weaker (Contains offer.reads) (λ r. last (base ++ since) r ≤ length base) read_older (creates xs) is.creations) is.fits)

  module _ (l : Latest) (latest : IsLatest old l) where
    whole : commits_to old l.version ≡ h
    whole = take_all l.version h (omega (arith, latest.version))

    pub can_apply : CanApply old l.content changes
    can_apply = record {
      written = placed;
      fits = subst (FitAfter h) (sym same) fits_now;
      writable = subst (λ ys. IsTrue (list_all is_writable ys)) (sym same) is.writable;
      denotes = subst (λ g. Denotes old g [] l.content.tables) whole latest.is.denotes;
      condition = subst (λ g. IsGlobal old g [] l.content.global) whole latest.is.condition;
    }

    abbrev c : PlainCommit
    c = commit_of old guest.session guest.mine offer.changes

    -- without an assertion the kept world stays
    kept_stays : Unwritten xs read.Worlds → IsKeptWorld old (h ++ c ∷ []) [] (arc_value l.kept)
    kept_stays free =
        let was = latest.is.world in
        record { admitted = quiet_admits (arc_value l.kept) h c free ∙ subst (λ g. IsTrue (admits (arc_value l.kept) g [])) whole was.admitted; values = was.values }

    -- with one it is that of the offer, which stood at its base
    kept_offered : Leaves (pass_of guest old) offer → IsKeptWorld old (h ++ c ∷ []) [] (kept_in offer)
    kept_offered left =
        let with_commit = commit_admits (kept_in offer) base since (read_older read.Worlds left.reads) c in
        record {
          admitted = subst (λ g. IsTrue (admits (kept_in offer) (g ++ c ∷ []) [])) all (with_commit ∙ left.world.admitted);
          values = left.world.values;
        }

    kept_next : (b : Bool) → list_any is_assertion changes ≡ b → IsKeptWorld old (h ++ c ∷ []) [] (if b then kept_in offer else arc_value l.kept)
    kept_next true e = kept_offered (is.leaves (ap (list_any (λ x. writes x read.Worlds)) (sym same) ∙ asserted_same old changes ∙ e))
    kept_next false e = kept_stays (ap (list_any (λ x. writes x read.Worlds)) (sym same) ∙ asserted_same old changes ∙ e)

    -- after the commit
    module _ (new : List ℕ) (longer : IsPrefix old new) (formed : IsWellFormed new) (commits : commits_of new ≡ h ++ c ∷ []) (next : Latest)
        (made : IsMade new h (map (plain_written old) changes) next.content) (kept : arc_value next.kept ≡ (if list_any is_assertion changes then kept_in offer else arc_value l.kept))
        (version : next.version ≡ l.version + 1)
        (noted : (r : Read) → last_in next.writers r ≡ (if list_any (λ x. writes x r) (map (plain_written old) changes) then next.version else last_in l.writers r)) where
      pub latest_next : IsLatest new next
      latest_next =
          let one_more : next.version ≡ suc (length h) = omega (arith, version, latest.version) in
          let number : length (commits_of new) ≡ next.version = ap (λ g. length g) commits ∙ length-append h (c ∷ []) ∙ ap (λ n. n + 1) (sym latest.version) ∙ sym version in
          let world = subst (λ g. IsKeptWorld new g [] (arc_value next.kept)) (sym commits)
          (kept_grows old new longer formed (h ++ c ∷ []) [] (arc_value next.kept) (subst (IsKeptWorld old (h ++ c ∷ []) []) (sym kept) (kept_next (list_any is_assertion changes) refl))) in
          record {
            version = sym number;
            writers = λ r. noted r ∙ (λ i. if list_any (λ x. writes x r) (same i) then one_more i else latest.writers r i) ∙ sym (ap (λ g. last g r) commits ∙ last_commit h c r);
            is =
                subst (λ n. IsSnapshot new n next.content.tables next.content.global (arc_value next.kept)) number
                (snapshot_of_all new next.content.tables next.content.global (arc_value next.kept)
                (subst (λ g. Denotes new g [] next.content.tables) (sym commits) (made.denotes c (sym same)))
                (subst (λ g. IsGlobal new g [] next.content.global) (sym commits) (made.condition c (sym same)))
                world);
          }
