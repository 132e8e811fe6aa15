-- An open transaction: when it begins, as words are added, and after one more statement.
use Rattle.std.{proofs.Common.{◌≡◌, ◌≤◌, ℕ, arith, length, max, List, [], ◌∷◌, ◌++◌, refl, ap, sym, subst}, specs.Prelude.{Option, Some, None, All, IsTrue}}
use Rattle.std.{specs.List.{Contains, list_all}, proofs.lemmas.List.Elements.All-nil, proofs.lemmas.Option.IfSome_then}
use Rattle.ct_word.{specs.Reading.commits_of, specs.Change.{PlainChange, PlainCommit}, specs.WellFormed.IsWellFormed, specs.Writable.is_writable}
use Rattle.ct_word.proofs.Prefixes.{place_within, place_in_prefix, change_list_in_prefix}
use Rattle.ct_query.{specs.Plain.PlainAction, specs.declared.action.Read.Read, specs.Agrees.Agrees, specs.Fits.FitAfter, specs.Reads.{with_reads, action_reads}}
use Rattle.ct_query.{specs.Frame.reads_of_actions, specs.Patterns.count}
use Rattle.ct_arena.specs.Seen.{Seen}
use Rattle.ct_condition.specs.Writes.{kept_of}
use Rattle.ct_table.specs.Snapshot.{commits_to}
use Rattle.ct_parse.specs.declared.tree.Statement.{Statement}
use Rattle.ct_transcript.specs.declared.reply.Refusal.{Refusal}
use Rattle.ct_statement.{specs.declared.sight.Sight.Sight, specs.Proposals.{IsProposal, listed}, specs.Sight.{actions_before, history_of, IsSight}}
use Rattle.ct_statement.{specs.Making.AreLight, proofs.Sights.{history_stays, sight_grows}}
use Rattle.ct_transaction.{specs.declared.state.Open.Open, specs.declared.preparing.Prepared.Prepared, specs.Prepared.{IsPrepared, IsRefused}}
use Rattle.ct_transaction.{specs.Replying.standing, specs.Sessions.{IsBegunList, IsOpen, IsSession}, proofs.Going.version_within, proofs.Light.light_push}
use Rattle.ct_transaction.proofs.Extended.{agrees_push, fits_push, writable_push, reads_push, reads_kept}
use mathlib.Core.List.{IsPrefix}
use Rattle.ct_word.specs.declared.kinds.Class.TheVariants as class
use Rattle.ct_transcript.specs.declared.reply.Refusal.TheVariants as refusal

-- a transaction of changes that are listed nowhere, or at a place
module _ (words : List ℕ) (sight : Sight) (changes : Option ℕ) (reads : List Read) (h : List PlainCommit) (actions : List PlainAction) (xs : List PlainChange)
    (eh : history_of words sight ≡ h) (ea : actions_before sight ≡ actions) (ex : listed words changes ≡ xs) where
  pub open_from : IsSight words sight → IsBegunList words changes actions → Agrees h actions xs → AreLight (count h actions) actions xs → FitAfter h xs → IsTrue (list_all is_writable xs) → All (Contains reads) (reads_of_actions actions)
      → IsOpen words (record { sight = sight; changes = changes; reads = reads })
  open_from s b a l f w r = record {
    sight = s;
    list = subst (IsBegunList words changes) (sym ea) b;
    agrees =
        subst (λ g. Agrees g (actions_before sight) (listed words changes)) (sym eh)
        (subst (λ l. Agrees h l (listed words changes)) (sym ea) (subst (Agrees h actions) (sym ex) a));
    light =
        subst (λ g. AreLight (count g (actions_before sight)) (actions_before sight) (listed words changes)) (sym eh)
        (subst (λ l. AreLight (count h l) l (listed words changes)) (sym ea) (subst (AreLight (count h actions) actions) (sym ex) l));
    fits = subst (λ g. FitAfter g (listed words changes)) (sym eh) (subst (FitAfter h) (sym ex) f);
    writable = subst (λ l. IsTrue (list_all is_writable l)) (sym ex) w;
    reads = subst (λ l. All (Contains reads) (reads_of_actions l)) (sym ea) r;
  }

-- a transaction without actions
pub open_begun : (words : List ℕ) (sight : Sight) → IsSight words sight → actions_before sight ≡ [] → IsOpen words (record { sight = sight; changes = None; reads = [] })
open_begun words sight s none = open_from words sight None [] (history_of words sight) [] [] refl none refl s refl tt tt tt refl (All-nil (Contains []))

module _ (old new : List ℕ) (longer : IsPrefix old new) where
  begun_grows : (changes : Option ℕ) (actions : List PlainAction) → IsBegunList old changes actions → IsBegunList new changes actions
  begun_grows None actions b = b
  begun_grows (Some place) actions b = place_in_prefix old new class.ChangeList place longer b

  -- its changes stay
  pub listed_stays : (changes : Option ℕ) (actions : List PlainAction) → IsBegunList old changes actions → listed new changes ≡ listed old changes
  listed_stays None actions b = refl
  listed_stays (Some place) actions b = change_list_in_prefix old new place longer (place_within old class.ChangeList place b)

  -- an open transaction over words is one over further ones
  pub open_grows : IsWellFormed new → (o : Open) → IsOpen old o → IsOpen new o
  open_grows formed o k =
      open_from new o.sight o.changes o.reads (history_of old o.sight) (actions_before o.sight) (listed old o.changes)
      (sym (history_stays old new longer o.sight k.sight.within)) refl (listed_stays o.changes (actions_before o.sight) k.list)
      (sight_grows old new longer o.sight formed k.sight) (begun_grows o.changes (actions_before o.sight) k.list) k.agrees k.light k.fits k.writable k.reads

module _ (words : List ℕ) (o : Open) (k : IsOpen words o) where
  -- after a query
  pub open_read : (more : List Read) → IsOpen words (record { sight = o.sight; changes = o.changes; reads = with_reads o.reads more })
  open_read more = record {
    sight = k.sight;
    list = k.list;
    agrees = k.agrees;
    light = k.light;
    fits = k.fits;
    writable = k.writable;
    reads = reads_kept o.reads more (reads_of_actions (actions_before o.sight)) k.reads;
  }

  module _ (sight : Sight) (s : IsSight words sight) (version : sight.version ≡ o.sight.version) where
    -- what is seen may be given back as another sight of the same
    pub open_again : actions_before sight ≡ actions_before o.sight → IsOpen words (record { sight = sight; changes = o.changes; reads = o.reads })
    open_again same =
        open_from words sight o.changes o.reads (history_of words o.sight) (actions_before o.sight) (listed words o.changes) (ap (commits_to words) version) same refl
        s k.list k.agrees k.light k.fits k.writable k.reads

    -- after one more action
    pub open_acted : (a : PlainAction) (changes : ℕ) → actions_before sight ≡ actions_before o.sight ++ a ∷ []
        → IsProposal words (history_of words o.sight) (actions_before o.sight) (listed words o.changes) a changes
        → IsOpen words (record { sight = sight; changes = Some changes; reads = with_reads o.reads (action_reads a) })
    open_acted a changes grown p =
        let h = history_of words o.sight in
        let actions = actions_before o.sight in
        let xs = listed words o.changes in
        open_from words sight (Some changes) (with_reads o.reads (action_reads a)) h (actions ++ a ∷ []) (xs ++ p.change ∷ []) (ap (commits_to words) version) grown p.list_is
        s p.place (agrees_push h actions xs a p.change k.agrees p.agrees) (light_push h actions xs a p.change k.light p.light) (fits_push h actions xs p.change k.agrees k.fits p.fits)
        (writable_push xs p.change k.writable p.writable) (reads_push o.reads actions a k.reads)

-- a session over words is one over further ones
pub session_grows : (old new : List ℕ) → IsPrefix old new → IsWellFormed new → (seen : ℕ) (open' : Option Open) → IsSession old seen open' → IsSession new seen open'
session_grows old new longer formed seen open' k = record {
  seen_is = version_within old new longer seen k.seen_is;
  open_is = IfSome_then open' k.open_is (open_grows old new longer formed);
}

-- what was prepared for a statement at what it sees, or why that was refused, is so over the further words
module _ (old new : Seen) (longer : IsPrefix old.words new.words) (kept : kept_of new ≡ kept_of old) (sight : Sight) (within : sight.version ≤ length (commits_of old.words)) (changes : Option ℕ)
    (begun : IsBegunList old.words changes (actions_before sight)) (fresh : ℕ) (st : Statement) where
  session_kept : old.session ≡ new.session
  session_kept = cc

  history_kept : history_of old.words sight ≡ history_of new.words sight
  history_kept = history_stays old.words new.words longer sight within

  listed_kept : listed old.words changes ≡ listed new.words changes
  listed_kept = sym (listed_stays old.words new.words longer changes (actions_before sight) begun)

  pub prepared_later : (p : Prepared) (reads : List Read) → IsPrepared new.words (history_of old.words sight) (actions_before sight) (listed old.words changes) old.session fresh sight st p reads
      → IsPrepared new.words (history_of new.words sight) (actions_before sight) (listed new.words changes) new.session fresh sight st p reads
  prepared_later p reads i =
      subst (λ h. IsPrepared new.words h (actions_before sight) (listed new.words changes) new.session fresh sight st p reads) history_kept
      (subst (λ l. IsPrepared new.words (history_of old.words sight) (actions_before sight) l new.session fresh sight st p reads) listed_kept
      (subst (λ n. IsPrepared new.words (history_of old.words sight) (actions_before sight) (listed old.words changes) n fresh sight st p reads) session_kept i))

  pub refused_later : (N : ℕ) (why : Refusal) → IsRefused (history_of old.words sight) (actions_before sight) N new.words old.session fresh st why
      → IsRefused (history_of new.words sight) (actions_before sight) N new.words new.session fresh st why
  refused_later N why i =
      subst (λ h. IsRefused h (actions_before sight) N new.words new.session fresh st why) history_kept
      (subst (λ n. IsRefused (history_of old.words sight) (actions_before sight) N new.words n fresh st why) session_kept i)

-- no refusal stands past what was seen and what the statement saw
pub standing_within : (seen version n : ℕ) (why : Refusal) → seen ≤ n → version ≤ n → max seen (standing seen version why) ≤ n
standing_within seen version n refusal.Memory p q = omega arith
standing_within seen version n _ p q = omega arith
