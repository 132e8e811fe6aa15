-- What a statement makes is within a bound on its words: that of a text, and that of a statement outside a transaction.
use Rattle.std.proofs.Common.{◌≡◌, ◌≢◌, ℕ, ◌+◌, ◌*◌, ◌≤◌, Bool, true, false, List, [], ◌∷◌, ◌++◌, length, take, drop, refl, ap, sym, subst, ◌∙◌, arith}
use Rattle.std.{specs.Prelude.{None, Ok}, proofs.lemmas.Bool.false≢true, proofs.lemmas.List.{take_all, take-append-drop}}
use Rattle.ct_word.{specs.Change.{PlainChange, Assert, PlainCommit}, specs.Reading.commits_of, proofs.Prefixes.commits_prefix}
use Rattle.ct_query.{specs.Agrees.AgreesWith, specs.Bounds.{bound, applying_words}, specs.Patterns.count, specs.Plain.{PlainAction, PlainStatement}, specs.Schema.schema}
use Rattle.ct_query.specs.declared.schema.{Heading.Heading, Schema.Schema}
use Rattle.ct_arena.specs.Seen.{Seen}
use Rattle.ct_condition.specs.Writes.{charge, kept_of}
use Rattle.ct_keeper.{specs.Offers.commit_for, specs.Bounds.{applied_words, offer_words}}
use Rattle.ct_parse.specs.declared.tree.Statement.{Statement}
use Rattle.ct_resolve.{specs.Found.Found, specs.Statements.resolved, proofs.Growing.{IsNewAmong, resolves_later}}
use Rattle.ct_table.specs.Snapshot.{commits_to}
use Rattle.ct_transcript.{specs.declared.reply.Reply.Reply, specs.declared.reply.Refusal.Refusal}
use Rattle.ct_statement.{specs.Sight.{actions_before, history_of}, specs.declared.sight.Sight.Sight, proofs.Sights.history_stays, specs.declared.replying.Answered.Answered, specs.Making.widths_in, proofs.Weights.{action_makes, bound_grows, change_grows, count_grows}}
use Rattle.ct_transaction.{specs.Answers.{Answers, is_full, is_unasked}, specs.Bounded.{by_version, no_words, HasBound, IsBounded, Makes, nothing, within, Performs, step_words}, specs.Replying.reply_of}
use Rattle.ct_transaction.specs.Statements.{ReadsAs, IsTextFault, number_range, open_text, stray_byte, too_deep, unspelled}
use Rattle.ct_transaction.{specs.State.{SessionState, own_actions}, specs.Prepared.{IsNoOrder, IsResolved}, specs.Seeing.Sees, specs.Sessions.state_of}
use Rattle.ct_transaction.{proofs.Going.{front_taken, onward, version_within, IsOnward}, proofs.Doubled.one_alone, proofs.Bounded.{sees_later, version_counts, makes_there, performs_less, performs_within, step_grows}}
use Rattle.ct_session.{specs.Offering.{Readies, idle, busy, IsReadyToOffer, inserts_rows}, specs.declared.offering.Offering.Offering, specs.Known.SeesAlone, proofs.Unasked.{found_refused, never_both, unasked_room}}
use mathlib.Core.List.{IsPrefix}
use Rattle.ct_query.specs.Plain as plain
use Rattle.ct_keeper.specs.Bounds as keeper
use Rattle.ct_transcript.specs.declared.reply.Reply.TheVariants as reply
use Rattle.ct_transcript.specs.declared.reply.Refusal.TheVariants as refusal
use Rattle.ct_statement.specs.declared.replying.Answered.TheVariants as answered

-- from the words now to all that follow; a statement that is refused for a name outside a transaction made nothing
module _ (N : ℕ) (s next : SessionState) (first words : List ℕ) (st : Statement) (x : List ℕ) (r : Reply) (made made' : ℕ) (reads : ReadsAs x st) (answers : Answers N s next first words x r)
    (unasked : s.transaction ≡ None → IsNoOrder st → is_unasked r ≡ true → made' ≡ made) where
  pub makes_bounded : Makes s words st made (made' + charge (is_full r)) → IsBounded N s words x r made made'
  makes_bounded (nothing le) W goes H stands = (0, no_words, λ is. refl, omega (arith, le))
  makes_bounded (within at actions asked le sees res few) W goes H stands = by_reply (is_unasked r) refl where
    on : IsOnward (commits_to words at) at H
    on = onward words at le W goes.log H stands

    there : ℕ
    there = bound (count H actions) (widths_in (schema (take at H) actions).tables) (own_actions s) asked

    most : made' + charge (is_full r) ≤ made + there
    most =
        let all = onward words (length (commits_of words)) (omega arith) W goes.log H stands in
        let whole = take_all (length (commits_of words)) (commits_of words) (omega arith) in
        let widths = widths_in (schema (commits_to words at) actions).tables in
        let more = bound_grows (count (commits_of words) actions) (count H actions) (λ t. subst (λ h. count h actions t ≤ count H actions t) whole (all.counts actions t)) widths (own_actions s) asked in
        let same = ap (λ (sch : Schema). bound (count H actions) (widths_in sch.tables) (own_actions s) asked) (on.keeps.schemas actions) in omega (arith, few, more, same)

    sees_on : Sees H s at actions
    sees_on = sees_later (commits_of words) H s.transaction s at actions on.within sees

    found : resolved (schema (take at H) actions) s.session s.fresh st ≡ Ok asked
    found = ap (λ sch. resolved sch s.session s.fresh st) (sym (on.keeps.schemas actions)) ∙ res

    by_reply : (b : Bool) → is_unasked r ≡ b → (n : ℕ) × HasBound H s x n × (is_unasked r ≡ true → n ≡ 0) × (made' + charge (is_full r) ≤ made + n)
    by_reply false e = (there, by_version at actions asked sees_on (record { statement = st; reads = reads; gives = found }), never_both (is_unasked r) e, most)
    by_reply true e =
        let outside = found_refused H W N s x st reads next r (answers.lawful W goes H stands) e at actions asked sees_on found in
        let none = unasked outside.0 outside.1 e in
        let room = ap charge (unasked_room r e) in (0, no_words, λ is. refl, omega (arith, none, room))

-- what was made over some words was made over longer ones
pub makes_longer : (s : SessionState) (words more : List ℕ) (st : Statement) (made made' : ℕ) → IsPrefix words more → Makes s words st made made' → Makes s more st made made'
makes_longer s words more st made made' longer (nothing few) = nothing few
makes_longer s words more st made made' longer (within at actions asked le sees res few) =
    let there = version_within words more longer at le in
    let front = sym (front_taken at (commits_of words) (commits_of more) (commits_prefix words more longer) le) in
    let widths = widths_in (schema (commits_to words at) actions).tables in
    within at actions asked there (sees_later (commits_of words) (commits_of more) s.transaction s at actions there sees) (subst (λ h. resolved (schema h actions) s.session s.fresh st ≡ Ok asked) front res)
    (let grown = bound_grows (count (commits_of words) actions) (count (commits_of more) actions) (count_grows (commits_of words) (commits_of more) (commits_prefix words more longer) actions) widths (own_actions s) asked in
    let same = ap (λ h. bound (count (commits_of more) actions) (widths_in (schema h actions).tables) (own_actions s) asked) front in
    omega (arith, few, grown, same))

-- no answer is charged
pub answered_room : (at plus : ℕ) (a : Answered) → is_full (reply_of at plus a) ≡ false
answered_room at plus (answered.Rows answer) = refl
answered_room at plus _ = refl

-- counts after fewer commits are no greater
further : (h g : List PlainCommit) → IsPrefix h g → (t : List ℕ) → count h [] t ≤ count g [] t
further h g p t = count_grows h g p [] t

pub one_asked : (x y : PlainStatement) → ◌≡◌ {A = Found PlainStatement} (Ok x) (Ok y) → x ≡ y
one_asked x y e = cc

-- an action outside a transaction makes no more words than are counted for it: with those of its step, where one is made, those
-- of applying its change in a commit of its own
committed_within : (h : List PlainCommit) (a : PlainAction) (x : PlainChange) → AgreesWith h [] a x → (counts own : List ℕ → ℕ) → applied_words own x ≤ 2 * applied_words counts x
    → applied_words counts x ≤ applying_words counts a → applied_words own x + step_words false counts a ≤ 2 * applying_words counts a
committed_within h (plain.Assert c) (Assert d) f counts own once light = omega arith
committed_within h (plain.Assert c) _ f counts own once light = absurd f
committed_within h (plain.AssertQuery wanted q) (Assert d) f counts own once light = omega arith
committed_within h (plain.AssertQuery wanted q) _ f counts own once light = absurd f
committed_within h (plain.AssertKey name ks) (Assert d) f counts own once light = omega arith
committed_within h (plain.AssertKey name ks) _ f counts own once light = absurd f
committed_within h _ x f counts own once light = omega (arith, once, light)

-- an action outside a transaction that is offered
module _ (pass : Seen) (fresh : ℕ) (o : Offering) (st : Statement) (f : IsReadyToOffer pass fresh o st) (pass' : Seen) (longer : IsPrefix pass.words pass'.words) where
  abbrev before : List PlainCommit
  before = commits_to pass.words o.offer.base

  abbrev after : List PlainCommit
  after = commits_of pass'.words

  goes_on : (t : List ℕ) → count before [] t ≤ count after [] t
  goes_on t =
      let first = version_counts pass.words o.offer.base [] t in
      let rest = further (commits_of pass.words) after (commits_prefix pass.words pass'.words longer) t in
      omega (arith, first, rest)

  pub alone_counted : offer_words pass'.words pass o.offer + step_words false (count after []) f.action ≤ 1 + 2 * applying_words (count after []) f.action
  alone_counted =
      let c = commit_for pass o.offer in
      let most = committed_within before f.action f.change f.agrees (count after []) (count (after ++ c ∷ []) []) (one_alone after c f.change f.list_is) (f.light (count after []) goes_on) in
      subst (λ xs. keeper.commit_words (count (after ++ c ∷ []) []) xs + step_words false (count after []) f.action ≤ 1 + 2 * applying_words (count after []) f.action) (sym f.list_is)
      (omega (arith, most))

  pub resolves_on : (session : ℕ) → pass.session ≡ session → resolved (schema (commits_to pass'.words o.offer.base) []) session fresh st ≡ Ok (plain.Act f.action)
  resolves_on session e =
      subst (λ n. resolved (schema (commits_to pass'.words o.offer.base) []) n fresh st ≡ Ok (plain.Act f.action)) e
      (subst (λ h. resolved (schema h []) pass.session fresh st ≡ Ok (plain.Act f.action))
      (sym (front_taken o.offer.base (commits_of pass.words) after (commits_prefix pass.words pass'.words longer) f.takes.seen)) f.resolves)

  -- what was made before the offer, and by it
  module _ (first : Seen) (seen : ℕ) (le : seen ≤ o.offer.base) (kept : kept_of pass ≡ kept_of first) (made' : ℕ) (few : made' ≤ pass.made + offer_words pass'.words pass o.offer) where
    same_session : pass.session ≡ first.session
    same_session = cc

    -- its base is the same in the further words
    there_too : commits_to pass'.words o.offer.base ≡ before
    there_too = front_taken o.offer.base (commits_of pass.words) after (commits_prefix pass.words pass'.words longer) f.takes.seen

    at_base : made' ≤ first.made + bound (count after []) (widths_in (schema before []).tables) None (plain.Act f.action) → Makes (state_of first seen fresh None) pass'.words st first.made made'
    at_base most =
        let there = version_within pass.words pass'.words longer o.offer.base f.takes.seen in
        within o.offer.base [] (plain.Act f.action) there (le, there, refl) (resolves_on first.session same_session)
        (subst (λ h. made' ≤ first.made + bound (count after []) (widths_in (schema h []).tables) None (plain.Act f.action)) (sym there_too) most)

    pub alone_makes : Readies pass.words o.offer.base pass.session fresh st first.made pass.made → Makes (state_of first seen fresh None) pass'.words st first.made made'
    alone_makes (idle none) = at_base (let counted = alone_counted in let one = action_makes (count after []) (widths_in (schema before []).tables) f.action in omega (arith, few, counted, none, one))
    alone_makes (busy asked res done) =
        at_base (
        let widths = widths_in (schema before []).tables in
        let own = subst (λ a. Performs false (count before []) widths a first.made pass.made) (one_asked asked (plain.Act f.action) (sym res ∙ f.resolves)) done in
        let changes = change_grows (count before []) (count after []) goes_on widths f.action in
        let steps = step_grows (count before []) (count after []) goes_on f.action in
        let counted = alone_counted in
        omega (arith, few, counted, own, changes, steps)
        )

-- an insertion of written rows by what an earlier one saw: it is resolved so at all commits that followed
new_never : (hs : List Heading) (a : PlainAction) → inserts_rows a ≡ true → IsNewAmong hs a
new_never hs (plain.Create name columns) is = absurd (false≢true is)
new_never hs _ is = tt

pub resolves_now : (words : List ℕ) (base session fresh : ℕ) (st : Statement) (a : PlainAction) → inserts_rows a ≡ true
    → resolved (schema (commits_to words base) []) session fresh st ≡ Ok (plain.Act a) → resolved (schema (commits_of words) []) session fresh st ≡ Ok (plain.Act a)
resolves_now words base session fresh st a is e =
    let cs = commits_of words in
    let whole = take-append-drop base cs in
    subst (λ h. resolved (schema h []) session fresh st ≡ Ok (plain.Act a)) whole
    (resolves_later (take base cs) (drop base cs) session fresh st a (new_never (schema (take base cs ++ drop base cs) []).tables a is) e)

-- what was made at what is seen outside a transaction, over the words that came with it
pub readies_on : (begun now : Seen) → IsPrefix begun.words now.words → kept_of now ≡ kept_of begun → (sight : Sight) → SeesAlone begun.words sight → (fresh : ℕ) (st : Statement) (asked : PlainStatement)
    → IsResolved (history_of begun.words sight) (actions_before sight) begun.session fresh st asked → (made made' : ℕ)
    → Performs false (count (history_of begun.words sight) (actions_before sight)) (widths_in (schema (history_of begun.words sight) (actions_before sight)).tables) asked made made' → Readies now.words sight.version now.session fresh st made made'
readies_on begun now longer kept sight sees fresh st asked found made made' few =
    let same : begun.session ≡ now.session = cc in
    let stays = history_stays begun.words now.words longer sight sees.sight.within in
    busy asked (
    subst (λ h. resolved (schema h []) now.session fresh st ≡ Ok asked) stays
    (subst (λ before. resolved (schema (history_of begun.words sight) before) now.session fresh st ≡ Ok asked) sees.none
    (subst (λ n. resolved (schema (history_of begun.words sight) (actions_before sight)) n fresh st ≡ Ok asked) same found.resolves))
    ) (
    subst (λ h. Performs false (count h []) (widths_in (schema h []).tables) asked made made') stays
    (subst (λ before. Performs false (count (history_of begun.words sight) before) (widths_in (schema (history_of begun.words sight) before).tables) asked made made') sees.none few)
    )

-- as much as is said, or less
pub readies_less : (words : List ℕ) (version session fresh : ℕ) (st : Statement) (made made' less : ℕ) → less ≤ made' → Readies words version session fresh st made made' → Readies words version session fresh st made less
readies_less words version session fresh st made made' less le (idle few) = idle (omega (arith, le, few))
readies_less words version session fresh st made made' less le (busy asked res few) =
    busy asked res (performs_less false (count (commits_to words version) []) (widths_in (schema (commits_to words version) []).tables) asked made made' less le few)

-- what a statement without an offer made
pub readies_makes : (first : Seen) (seen fresh : ℕ) (now : Seen) (version : ℕ) (st : Statement) (made' : ℕ) → seen ≤ version → version ≤ length (commits_of now.words) → kept_of now ≡ kept_of first
    → Readies now.words version now.session fresh st first.made made' → Makes (state_of first seen fresh None) now.words st first.made made'
readies_makes first seen fresh now version st made' low le kept (idle few) = nothing few
readies_makes first seen fresh now version st made' low le kept (busy asked res few) =
    let same : now.session ≡ first.session = cc in
    makes_there (state_of first seen fresh None) now.words st version [] asked first.made made' le (low, le, refl)
    (subst (λ n. resolved (schema (commits_to now.words version) []) n fresh st ≡ Ok asked) same res)
    (performs_within false (count (commits_to now.words version) []) (widths_in (schema (commits_to now.words version) []).tables) asked first.made made' few)

-- a text that is read as no statement finds no full log
text_room : (x : List ℕ) (at : ℕ) (why : Refusal) → IsTextFault x why → is_full (reply.Refused at why) ≡ false
text_room x at why (number_range f) = refl
text_room x at why (open_text f) = refl
text_room x at why (stray_byte f) = refl
text_room x at why (too_deep f) = refl
text_room x at why (unspelled f) = refl

pub unread_room : (x : List ℕ) (at : ℕ) (why : Refusal) → (why ≢ refusal.Memory → IsTextFault x why) → is_full (reply.Refused at why) ≡ false
unread_room x at refusal.Memory f = refl
unread_room x at why f = text_room x at why (f (λ e. cc))

-- a text that is read as no statement makes no word
pub unread_bounded : (N : ℕ) (s : SessionState) (words x : List ℕ) (at : ℕ) (why : Refusal) (made : ℕ) → (why ≢ refusal.Memory → IsTextFault x why) → IsBounded N s words x (reply.Refused at why) made made
unread_bounded N s words x at why made f W goes H stands = (0, no_words, λ is. refl, let room = ap charge (unread_room x at why f) in omega (arith, room))

-- what is charged only where another thing is
pub charged_less : (a b : Bool) → (a ≡ true → b ≡ true) → charge a ≤ charge b
charged_less true b then' = subst (λ x. charge true ≤ charge x) (sym (then' refl)) (omega arith)
charged_less false b then' = omega arith
