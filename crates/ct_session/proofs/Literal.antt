-- Actions whose change is all in their text.
use Rattle.std.{proofs.Common.{◌≡◌, ◌+◌, ℕ, true, List, [], sym, subst}, specs.Prelude.{None, IsTrue}, proofs.lemmas.Bool.false≢true}
use Rattle.ct_keeper.{specs.Offers.kept_in, specs.declared.catalogue.Offer.Offer}
use Rattle.ct_word.specs.WellFormed.{IsWellFormed}
use Rattle.ct_arena.specs.Seen.{Seen}
use Rattle.ct_condition.specs.Writes.{kept_of}
use Rattle.ct_history.specs.Encodes.{IsEncodable}
use Rattle.ct_parse.specs.declared.tree.Statement.{Statement}
use Rattle.ct_query.{specs.Plain.PlainAction, specs.Reads.reads_of, specs.Schema.schema, specs.Views.action_of, specs.declared.action.Read.Read}
use Rattle.ct_table.specs.Snapshot.{commits_to}
use Rattle.ct_statement.{proofs.Literal.literal_encodable, proofs.Sights.sight_grows, proofs.Wanting.want_unmet, specs.declared.proposing.Proposal.Proposal}
use Rattle.ct_statement.{specs.Drawing.drawn, specs.Proposals.IsProposal, specs.Sight.{actions_before, history_of}, specs.Sources.{is_assertion, is_literal}, specs.Unmet.IsWant}
use Rattle.ct_transcript.specs.declared.reply.Refusal.{Refusal}
use Rattle.ct_transaction.specs.Prepared.{IsRefused, unmet}
use Rattle.ct_session.{specs.Offering.{IsFoundAlone, IsReadyToOffer}, proofs.Ready.ready_to_offer, proofs.Outside.{prepared_on, refused_on}}
use mathlib.Core.List.{IsPrefix}
use Rattle.ct_query.specs.Plain as plain
use Rattle.ct_transaction.specs.declared.preparing.Prepared.TheVariants as prepared

-- none of these is an assertion
literal_asserts_none : (a : PlainAction) → is_literal a ≡ true → IsTrue (is_assertion a) → ⊥
literal_asserts_none (plain.Create name columns) literal asserts = false≢true asserts
literal_asserts_none (plain.InsertRows name rs c) literal asserts = false≢true asserts
literal_asserts_none _ literal asserts = false≢true literal

-- one that was found at what is seen, over the words that came with its change
module _ (begun now : Seen) (longer : IsPrefix begun.words now.words) (same : kept_of now ≡ kept_of begun) (fresh base : ℕ) (st : Statement) (a : PlainAction) (f : IsFoundAlone begun fresh base st (plain.Act a))
    (literal : is_literal a ≡ true) where
  -- a word has room for each of its numbers
  pub literal_encodes : IsEncodable a
  literal_encodes = literal_encodable (schema (history_of begun.words f.sight) (actions_before f.sight)).tables a f.found.fits literal

  -- its statement is refused where something is wanting
  pub literal_refused : (N : ℕ) (why : Refusal) → IsWant N now.words why → IsRefused (commits_to now.words base) [] N now.words now.session fresh st why
  literal_refused N why want = subst (λ b. IsRefused (commits_to now.words b) [] N now.words now.session fresh st why) (sym f.base_is)
      (refused_on begun now longer same f.sight f.sees.sight.within f.sees.none fresh st N why (unmet why (record {
        asked = plain.Act a;
        resolves = f.found.resolves;
        unmet = want_unmet (history_of begun.words f.sight) (actions_before f.sight) N now.words a why want;
      })))

  -- it is no assertion, so no step is needed for its offer
  pub literal_ready : IsWellFormed now.words → (p : Proposal) (reads : List Read) (like : Offer) → kept_in like ≡ [] → reads ≡ reads_of (plain.Act a) → action_of p.action ≡ a → p.fresh ≡ fresh + drawn a
      → IsProposal now.words (history_of begun.words f.sight) (actions_before f.sight) [] a p.changes
      → IsReadyToOffer now fresh (record { offer = record { base = base; reads = reads; changes = p.changes; kept = like.kept }; fresh = p.fresh }) st
  literal_ready formed p reads like empty reads_are is draws proposes =
      subst (λ b. IsReadyToOffer now fresh (record { offer = record { base = b; reads = reads; changes = p.changes; kept = like.kept }; fresh = p.fresh }) st) (sym f.base_is)
      (ready_to_offer now fresh f.sight (sight_grows begun.words now.words longer f.sight formed f.sees.sight) f.sees.none st p None reads
      (prepared_on begun now longer same f.sight f.sees.sight.within f.sees.none fresh st (prepared.Change p None) reads (record {
        asked = plain.Act a;
        resolves = f.found.resolves;
        reads_are = reads_are;
        prepared = record { action = is; proposes = proposes; draws = draws; steps = tt };
      })) (λ asserts. absurd (literal_asserts_none a literal (subst (λ b. IsTrue (is_assertion b)) is asserts))) like empty)
