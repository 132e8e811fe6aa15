-- The offer of an action that was prepared outside a transaction.
use Rattle.std.{proofs.Common.{◌≡◌, ℕ, Bool, true, false, ◌&&◌, List, [], ◌∷◌, ◌++◌, refl, ap, sym, subst, ◌∙◌}, specs.Arc.arc_value}
use Rattle.std.{specs.Prelude.{Option, Some, None, IsTrue, IsSome}, specs.List.{AllByRecursion, Contains, list_all}, proofs.lemmas.Bool.false≢true}
use Rattle.std.{proofs.lemmas.List.append-nil, proofs.lemmas.List.Elements.{All-from_recursion, recursion_from_All, All-contains_itself}}
use Rattle.ct_word.{specs.Change.{PlainChange, Assert, PlainCommit}, specs.Reading.change_list_at}
use Rattle.ct_word.specs.Writable.{is_writable}
use Rattle.ct_query.{specs.Agrees.{AgreesWith, Agrees}, specs.Fits.FitChanges, specs.Frame.{creates, reads_of_actions}, specs.Reads.{action_reads, reads_of}}
use Rattle.ct_query.{specs.Plain.{PlainAction, PlainStatement}, specs.Schema.schema, specs.Views.action_of, specs.declared.action.Read.Read}
use Rattle.ct_query.proofs.Committed.{commit_does}
use Rattle.ct_arena.specs.Seen.{Seen}
use Rattle.ct_keeper.{specs.Offers.{IsOffer, commit_for, has_assertion, kept_in}, specs.declared.catalogue.Offer.Offer}
use Rattle.ct_table.specs.Snapshot.{IsKeptWorld}
use Rattle.ct_parse.specs.declared.tree.Statement.{Statement}
use Rattle.ct_statement.{specs.declared.proposing.Proposal.Proposal, specs.declared.sight.Sight.Sight, specs.declared.stepping.Step.Step}
use Rattle.ct_statement.{specs.Sight.{actions_before, history_of, IsSight}, specs.Sources.is_assertion}
use Rattle.ct_transaction.{specs.Prepared.{IsPrepared, IsPreparedFor, IsStepIf, needs_step}, proofs.Actions.{ForAction, prepared_action}}
use Rattle.ct_transaction.proofs.Offered.{creates_all, asserts_read}
use Rattle.ct_session.{specs.Offering.IsReadyToOffer, specs.Outcomes.world_offered}
use Rattle.ct_query.specs.Plain as plain
use Rattle.ct_transaction.specs.declared.preparing.Prepared.TheVariants as prepared

-- an action whose change asserts is an assertion
asserts : (h : List PlainCommit) (a : PlainAction) (x : PlainChange) → AgreesWith h [] a x → has_assertion (x ∷ []) → IsTrue (is_assertion a)
asserts h (plain.Assert c) (Assert c') f some = refl
asserts h (plain.AssertQuery wanted q) (Assert c') f some = refl
asserts h (plain.AssertKey n ks) (Assert c') f some = refl
asserts h _ (Assert c') f some = absurd f
asserts h _ _ f some = absurd (false≢true some)

-- a proposed action reads what its statement reads
pub its_reads : (words : List ℕ) (h : List PlainCommit) (before : List PlainAction) (list : List PlainChange) (fresh : ℕ) (s : Sight) (asked : PlainStatement) (p : Proposal) (step : Option Step)
    → IsPreparedFor words h before list fresh s asked (prepared.Change p step) → action_reads (action_of p.action) ≡ reads_of asked
its_reads words h before list fresh s (plain.Act a) p step is = ap action_reads is.action
its_reads words h before list fresh s _ p step is = absurd is

-- what was prepared outside a transaction is ready to be offered
module _ (pass : Seen) (fresh : ℕ) (sight : Sight) (sees : IsSight pass.words sight) (none : actions_before sight ≡ []) (st : Statement) (proposal : Proposal) (step : Option Step) (reads : List Read)
    (k : IsPrepared pass.words (history_of pass.words sight) (actions_before sight) [] pass.session fresh sight st (prepared.Change proposal step) reads)
    (needs : needs_step false (prepared.Change proposal step)) where
  abbrev h : List PlainCommit
  h = history_of pass.words sight

  abbrev xs : List PlainChange
  xs = change_list_at pass.words proposal.changes

  abbrev action : PlainAction
  action = action_of proposal.action

  f : ForAction pass.words h [] [] pass.session fresh sight st proposal step reads
  f = subst (λ before. ForAction pass.words h before [] pass.session fresh sight st proposal step reads) none (prepared_action pass.words h (actions_before sight) [] pass.session fresh sight st proposal step reads k)

  changes_agree : Agrees h (action ∷ []) xs
  changes_agree = subst (λ l. Agrees h (action ∷ []) l) (sym f.change.proposes.list_is) (f.change.proposes.agrees, tt)

  all_read : AllByRecursion (Contains reads) (reads_of_actions (action ∷ []))
  all_read =
      subst (λ l. AllByRecursion (Contains reads) l) (sym (append-nil (action_reads action)))
      (subst (λ l. AllByRecursion (Contains reads) l) f.reads_are (recursion_from_All (Contains reads) reads (All-contains_itself reads)))

  and_true : (b : Bool) → b ≡ true → (b && true) ≡ true
  and_true b e = ap (λ t. t && true) e

  -- a world is left by an assertion
  left_by : (o : Option Step) → IsSome o → IsStepIf pass.words sight action o → IsKeptWorld pass.words h (action ∷ []) (world_offered (arc_value sight.kept) o)
  left_by None some is = absurd (false≢true some)
  left_by (Some s) some is = subst (λ before. IsKeptWorld pass.words h (before ++ action ∷ []) (world_offered (arc_value sight.kept) (Some s))) none is.world

  module _ (like : Offer) (same : kept_in like ≡ world_offered (arc_value sight.kept) step) where
    abbrev offered : Offer
    offered = record { base = sight.version; reads = reads; changes = proposal.changes; kept = like.kept }

    -- the keeper takes it
    action_offer : IsOffer pass offered
    action_offer = record {
      seen = sees.within;
      place = f.change.proposes.place;
      fits = subst (λ l. FitChanges (schema h []).tables l) (sym f.change.proposes.list_is) (f.change.proposes.fits, tt);
      writable = subst (λ l. IsTrue (list_all is_writable l)) (sym f.change.proposes.list_is) (and_true (is_writable f.change.proposes.change) f.change.proposes.writable);
      creations = All-from_recursion (Contains reads) (creates xs) (creates_all h (Contains reads) [] (action ∷ []) xs changes_agree all_read);
      leaves = λ some.
          let is = asserts h action f.change.proposes.change f.change.proposes.agrees (subst has_assertion f.change.proposes.list_is some) in
          let world = left_by step (needs is) f.change.steps in
          record {
            reads = asserts_read h (Contains reads) [] (action ∷ []) xs changes_agree all_read some;
            world = subst (λ v. IsKeptWorld pass.words (h ++ commit_for pass offered ∷ []) [] v) (sym same) (record {
              admitted = sym ((commit_does h (action ∷ []) (commit_for pass offered) changes_agree).admitted (world_offered (arc_value sight.kept) step)) ∙ world.admitted;
              values = world.values;
            });
          };
    }

    pub ready_to_offer : IsReadyToOffer pass fresh (record { offer = record { base = sight.version; reads = reads; changes = proposal.changes; kept = like.kept }; fresh = proposal.fresh }) st
    ready_to_offer = record {
      action = action;
      change = f.change.proposes.change;
      resolves = f.resolves;
      agrees = f.change.proposes.agrees;
      light = f.change.proposes.light;
      list_is = f.change.proposes.list_is;
      reads_are = f.reads_are;
      draws = f.change.draws;
      takes = action_offer;
    }
