-- A session that exports a table after its last statement, alone on its log.
use Rattle.std.proofs.Common.{◌≡◌, ℕ, ◌+◌, ◌≤◌, List, [], ◌∷◌, ◌++◌, length, take, ap, sym, subst, ◌∙◌, arith, length-append, append-nil}
use Rattle.std.{specs.Prelude.{All, Result, Ok, Err, IfOk, IfErr, None, sum_by}, proofs.lemmas.List.{nil_from_length, take_all}, proofs.lemmas.List.Elements.All-head}
use Rattle.ct_word.{specs.Change.PlainCommit, specs.Reading.commits_of, specs.StandsFor.StandsFor, specs.WellFormed.IsWellFormed, proofs.Prefixes.prefix_of_prefix}
use Rattle.ct_query.proofs.Keeping.{same_throughout}
use Rattle.ct_arena.{specs.Counts.AreNumbered, specs.Seen.Seen}
use Rattle.ct_lex.specs.Texts.{texts}
use Rattle.ct_query.{specs.Fits.columns_in, specs.Schema.schema}
use Rattle.ct_rewrite.specs.History.{plain_history}
use Rattle.ct_transcript.{specs.declared.reply.Reply.Reply, specs.declared.transcript.Transcript.Transcript}
use Rattle.ct_transaction.{specs.State.{SessionState, beginning}, proofs.Going.prefix_short, proofs.Own.own_commits_stay}
use Rattle.ct_session.specs.Standing.{Standing, state_in}
use Rattle.ct_session.specs.Exporting.{HasLooked, IsNow, HasExported, HasNotExported, IsFileOf, IsWideTable, Later}
use Rattle.ct_session.specs.declared.exporting.ExportError.{ExportError}
use Rattle.ct_serve.{specs.Lawful.Lawful, specs.Progress.{MadeWithin, Progress, HasAnswered}, specs.TableFiles.{IsAfterAll, WhyNone, IsTableFile, WhyNoTable}}
use mathlib.Core.List.{IsPrefix}
use Rattle.ct_session.specs.declared.exporting.ExportError.TheVariants as fault

-- words that go on from others, and are no longer, are these
pub same_words : (xs ys : List ℕ) → IsPrefix xs ys → length ys ≤ length xs → xs ≡ ys
same_words xs ys p le =
    let none : length p.0 ≡ 0 = let sum = length-append xs p.0 in let same = ap length p.1 in omega (arith, sum, same, le) in
    sym (append-nil xs) ∙ ap (λ l. xs ++ l) (sym (nil_from_length p.0 none)) ∙ p.1

-- what a session has done, its words having gone on by none of its own
pub progress_later : (N : ℕ) (first last : SessionState) (pass mid now : Seen) (xs : List (List ℕ)) (rs : List Reply) (k : ℕ) → Progress N first last pass mid xs rs → IsPrefix mid.words now.words
    → now.made ≡ mid.made → length now.words ≤ N → AreNumbered first.session k mid.words → AreNumbered first.session k now.words → Progress N first last pass now xs rs
progress_later N first last pass mid now xs rs k p longer none room before after = record {
  within = λ W goes H stands. subst (λ m. MadeWithin H W N first last xs rs pass.made m) (sym none)
      (p.within W (record { log = prefix_of_prefix mid.words now.words W longer goes.log; formed = goes.formed; room = goes.room }) H stands);
  longer = prefix_of_prefix pass.words mid.words now.words p.longer longer;
  same = p.same;
  commits = own_commits_stay first.session k mid.words now.words longer before after ∙ p.commits;
  full = p.full;
  filled = λ e. let full = p.filled e in let short = prefix_short mid.words now.words longer in omega (arith, full, short, room);
}

-- an export after the last statement, by which the session had made all its commits
module _ (N : ℕ) (old new : Standing) (at : ℕ) (l : HasLooked old new at) (n : IsNow old new at) (counted : 2 + old.pass.made ≤ length old.pass.words) where
  after_all : (true_of : List PlainCommit → Type 0) → Later N new.pass.words at true_of → IsAfterAll N new.pass at true_of
  after_all true_of later = record {
    words = old.pass.words;
    front = l.longer;
    counted = subst (λ m. 2 + m ≤ length old.pass.words) (sym l.made) counted;
    newest = n.newest;
    later = later;
  }

pub file_after : (N : ℕ) (old new : Standing) (name : List ℕ) (at : ℕ) (bytes : List ℕ) → 2 + old.pass.made ≤ length old.pass.words → HasExported N old new name at bytes
    → IsAfterAll N new.pass at (λ h. IsFileOf new.pass.words h name bytes)
file_after N old new name at bytes counted h = after_all N old new at h.looked h.now counted (λ g. IsFileOf new.pass.words g name bytes) h.file

pub none_after : (N : ℕ) (old new : Standing) (name : List ℕ) (e : ExportError) → 2 + old.pass.made ≤ length old.pass.words → HasNotExported N old new name e → WhyNone N new.pass name e
none_after N old new name (fault.UnknownTable at) counted h = after_all N old new at h.0 h.1 counted _ h.2
none_after N old new name (fault.TooWide row) counted h = (h.0, after_all N old new h.0 h.1 h.2 counted _ h.3)
none_after N old new name fault.Memory counted h = tt

-- an export leaves the session as it was, whatever came of it
pub looked_any : {X : Type 0} (N : ℕ) (old new : Standing) (name : List ℕ) (r : Result X ExportError) (at_of : X → ℕ) (bytes_of : X → List ℕ)
    → IfOk r (λ x. HasExported N old new name (at_of x) (bytes_of x)) → IfErr r (HasNotExported N old new name) → (at : ℕ) × HasLooked old new at
looked_any N old new name (Ok x) at_of bytes_of ok err = (at_of x, ok.looked)
looked_any N old new name (Err (fault.UnknownTable at)) at_of bytes_of ok err = (at, err.0)
looked_any N old new name (Err (fault.TooWide row)) at_of bytes_of ok err = (err.0, err.1)
looked_any N old new name (Err fault.Memory) at_of bytes_of ok err = (err.0, err.2)

-- a session that has answered from its beginning on, and then exported
pub answered_after : (N : ℕ) (first old new : Standing) (at : ℕ) (script : List ℕ) → HasLooked old new at → state_in first ≡ beginning first.pass.session → old.pass.session ≡ first.pass.session → length new.pass.words ≤ N
    → AreNumbered old.pass.session old.pass.mine old.pass.words → AreNumbered new.pass.session new.pass.mine new.pass.words
    → (rs : List Reply) → Progress N (state_in first) (state_in old) first.pass old.pass (texts script) rs → HasAnswered N first.pass new.pass script rs
answered_after N first old new at script l begins number room before after rs p =
    let session : new.pass.session ≡ old.pass.session = ap (λ (s : SessionState). s.session) l.state in
    let mine : new.pass.mine ≡ old.pass.mine = ap (λ (s : SessionState). s.commits) l.state in
    let later = subst (λ m. AreNumbered first.pass.session m new.pass.words) mine (subst (λ n. AreNumbered n new.pass.mine new.pass.words) (session ∙ number) after) in
    let went_on = progress_later N (state_in first) (state_in old) first.pass old.pass new.pass (texts script) rs old.pass.mine p l.longer l.made room
    (subst (λ n. AreNumbered n old.pass.mine old.pass.words) number before) later in
    record {
      last = state_in old;
      progress = subst (λ s. Progress N s (state_in old) first.pass new.pass (texts script) rs) begins went_on;
    }

-- the session that it leaves has the same number
pub same_number : (old new : Standing) (at : ℕ) → HasLooked old new at → new.pass.session ≡ old.pass.session
same_number old new at l = ap (λ (s : SessionState). s.session) l.state

-- what is true after all of a pass is true of the whole history of a log that has no other session's words
module _ (N : ℕ) (pass : Seen) (W : List ℕ) (H : List PlainCommit) (formed : IsWellFormed W) (room : length W ≤ N) (stands : StandsFor H W) (front : IsPrefix pass.words W) (whole : length W ≡ 2 + pass.made) where
  module _ (at : ℕ) (true_of : List PlainCommit → Type 0) (a : IsAfterAll N pass at true_of) where
    all_words : a.words ≡ W
    all_words = same_words a.words W (prefix_of_prefix a.words pass.words W a.front front) (let c = a.counted in omega (arith, c, whole))

    pass_words : pass.words ≡ W
    pass_words = same_words pass.words W front (let short = prefix_short a.words pass.words a.front in let c = a.counted in omega (arith, short, c, whole))

    all_of : take at H ≡ H
    all_of =
        let same = (same_throughout H (commits_of W) stands).length in
        let most = a.newest in
        let there : length (commits_of a.words) ≡ length (commits_of W) = ap (λ w. length (commits_of w)) all_words in
        take_all at H (omega (arith, same, most, there))

    pub whole_later : true_of H
    whole_later = subst true_of all_of (a.later W (record { log = front; formed = formed; room = room }) H stands)

    pub whole_words : pass.words ≡ W
    whole_words = pass_words

-- the lawful transcript of one session, whose pass this is
module _ (N : ℕ) (t : Transcript) (lawful : Lawful t N) (passes : List Seen) (pass last : Seen) (alone : passes ≡ pass ∷ []) (same : pass ≡ last) (whole : length t.words ≡ 2 + sum_by (λ (p : Seen). p.made) passes)
    (seen : All (λ (p : Seen). IsPrefix p.words t.words) passes) where
  abbrev H : List PlainCommit
  H = plain_history t.history

  one : passes ≡ last ∷ []
  one = alone ∙ ap (λ (p : Seen). p ∷ []) same

  front : IsPrefix last.words t.words
  front = All-head (λ (p : Seen). IsPrefix p.words t.words) last [] (subst (All (λ (p : Seen). IsPrefix p.words t.words)) one seen)

  counted : length t.words ≡ 2 + last.made
  counted = let sum : length t.words ≡ 2 + sum_by (λ (p : Seen). p.made) (last ∷ []) = subst (λ ps. length t.words ≡ 2 + sum_by (λ (p : Seen). p.made) ps) one whole in omega (arith, sum)

  at_end : (at : ℕ) (true_of : List PlainCommit → Type 0) → IsAfterAll N last at true_of → true_of H
  at_end = whole_later N last t.words H lawful.formed lawful.fits lawful.stands front counted

  its_words : (at : ℕ) (true_of : List PlainCommit → Type 0) → IsAfterAll N last at true_of → last.words ≡ t.words
  its_words = whole_words N last t.words H lawful.formed lawful.fits lawful.stands front counted

  pub file_of_all : (name bytes : List ℕ) (at : ℕ) → IsAfterAll N last at (λ h. IsFileOf last.words h name bytes) → IsTableFile t name bytes
  file_of_all name bytes at a = subst (λ w. IsFileOf w H name bytes) (its_words at (λ h. IsFileOf last.words h name bytes) a) (at_end at (λ h. IsFileOf last.words h name bytes) a)

  pub none_of_all : (name : List ℕ) (e : ExportError) → WhyNone N last name e → WhyNoTable t name e
  none_of_all name (fault.UnknownTable at) a = at_end at (λ h. columns_in (schema h []).tables name ≡ None) a
  none_of_all name (fault.TooWide row) (at, a) = subst (λ w. IsWideTable w H name row) (its_words at (λ h. IsWideTable last.words h name row) a) (at_end at (λ h. IsWideTable last.words h name row) a)
  none_of_all name fault.Memory a = tt
