-- What the keeper's pass keeps of its fields, from call to call.
use Rattle.std.proofs.Common.{◌≡◌, ℕ, ◌+◌, ◌<◌, ◌≤◌, ◌^◌, ◌⊎◌, Bool, true, inl, inr, List, [], ◌∷◌, ◌++◌, Option, Some, None, refl, sym, ap, ◌∙◌, subst, arith}
use Rattle.std.{specs.Prelude.{All, Result, Ok, Err, IfOk, OnOk, OnErr, IsErr}, proofs.lemmas.List.Elements.All-push}
use Rattle.atomic_table.{specs.Table.Me, specs.Seated.TableId}
use Rattle.ct_word.{specs.Change.PlainCommit, specs.Reading.commits_of, proofs.Splits.some-injective, proofs.Prefixes.prefix_of_prefix}
use Rattle.ct_chain.specs.Seen.{Chained}
use Rattle.ct_arena.{proofs.Sole.commits_grow, specs.Name.LogName, specs.Counts.{opening, AreOfSessions, commit_word, commit_of}}
use Rattle.ct_arena.{specs.declared.sharing.View.View, specs.declared.tally.Tally.Tally, specs.Kept.{IsNamed, IsPass, IsKeeper, IsLent, list_of}}
use Rattle.ct_arena.specs.Sharing.{first_view, session_view, keeper_view, newcomer, enrolled, enrolled_by, kept, given, joined, longer, counts_word, IsSettled}
use Rattle.ct_arena.{specs.Own.{IsOwn, IsOutcome, with_seen, with_guest}, proofs.Opening.{opening_log, none_of}}
use Rattle.ct_arena.proofs.Keeping.{keeper_own, keeper_seat, keeper_after, known_stays, outcome_longer, outcome_session}
use Rattle.ct_arena.proofs.Entering.{IsEntered, enters, enrolled_seat, enrolled_keeper, left_seat, left_keeper, newcomer_own, known_more}
use mathlib.Core.List.{IsPrefix}

named_as : (log : LogName) (table table' : TableId) → IsNamed log table → table' ≡ table → IsNamed log table'
named_as log table table' named same = record { least = named.least; most = named.most; table = same ∙ named.table }

pub keeper_first : (log : LogName) (table : TableId) (me : Me ℕ View) (words : List ℕ) → IsNamed log table → me ≡ (first_view log.cap, []) → words ≡ opening → IsKeeper log table me words 0 None
keeper_first log table me words named seat is =
    subst (λ l. IsKeeper log table me l 0 None) (sym is)
    (record { named = named; seat = keeper_own me log.cap 0 None [] opening seat; list = opening_log log.cap named.least; most = omega arith; known = none_of 0; own = λ t e. absurd (cc) })

pub keeper_enrolled : (log : LogName) (table table' : TableId) (me me' : Me ℕ View) (words : List ℕ) (e : ℕ) (guest : Option Tally) → IsKeeper log table me words e guest → e < 1023 → table' ≡ table → me' ≡ (enrolled_by me.0, me.1)
    → IsKeeper log table' me' words (e + 1) guest
keeper_enrolled log table table' me me' words e guest k few same seat = record {
  named = named_as log table table' k.named same;
  seat = keeper_own me' log.cap (e + 1) guest me.0.ended words (enrolled_keeper me me' log.cap e guest me.0.ended words k.seat seat);
  list = k.list;
  most = omega arith;
  known = known_more e words k.known;
  own = λ t is. let h = k.own t is in (h.0, (let le = h.1 in omega arith));
}

pub pass_enrolled : (log : LogName) (table table' : TableId) (me me' : Me ℕ View) (words copy : List ℕ) (e : ℕ) (guest : Option Tally) → IsKeeper log table me words e guest → e < 1023 → table' ≡ table → me' ≡ (enrolled me.0, []) → copy ≡ words
    → IsPass log table' me' (newcomer (e + 1)) copy
pass_enrolled log table table' me me' words copy e guest k few same seat is =
    subst (λ l. IsPass log table' me' (newcomer (e + 1)) l) (sym is)
    (record {
      named = named_as log table table' k.named same;
      seat = enrolled_seat me me' log.cap e guest me.0.ended words k.seat seat;
      own = newcomer_own log.cap e words k.list k.known few;
    })

pub keeper_entered : (log : LogName) (table table' pass_table : TableId) (me pass me' : Me ℕ View) (words other now : List ℕ) (e : ℕ) (guest : Option Tally) (t : Tally) → IsKeeper log table me words e guest → guest ≡ None → IsPass log pass_table pass t other
    → IsSettled (joined me.0 pass.0) me' → table' ≡ table → now ≡ longer words other → IsKeeper log table' me' now e (Some t) × IsEntered log.cap e t words other now
keeper_entered log table table' pass_table me pass me' words other now e guest t k none_ p settled same is =
    let seat : me ≡ (keeper_view log.cap words e None me.0.ended, []) = subst (λ o. me ≡ (keeper_view log.cap words e o me.0.ended, [])) none_ k.seat in
    let done = enters log.cap e t me.0.ended words other me pass me' seat p.seat settled k.list p.own in
    let all : IsKeeper log table' me' (longer words other) e (Some t) = record {
      named = named_as log table table' k.named same;
      seat = keeper_own me' log.cap e (Some t) me.0.ended (longer words other) done.0;
      list = done.1.own.log;
      most = k.most;
      known = known_stays e words (longer words other) done.1.commits k.known;
      own = λ u e'. subst (λ x. IsOwn log.cap x (longer words other) × (x.session ≤ e)) (some-injective t u e') (done.1.own, done.1.enrolled);
    } in
    subst (λ l. IsKeeper log table' me' l e (Some t) × IsEntered log.cap e t words other l) (sym is) (all, done.1)

pub keeper_left : (log : LogName) (table table' : TableId) (me me' : Me ℕ View) (words : List ℕ) (e : ℕ) (guest : Option Tally) → IsKeeper log table me words e guest → table' ≡ table → me' ≡ (kept me.0, me.1) → IsKeeper log table' me' words e None
keeper_left log table table' me me' words e guest k same seat = record {
  named = named_as log table table' k.named same;
  seat = keeper_own me' log.cap e None me.0.ended words (left_keeper me me' log.cap e guest me.0.ended words k.seat seat);
  list = k.list;
  most = k.most;
  known = k.known;
  own = λ t is. absurd (cc);
}

pub pass_left : (log : LogName) (table table' : TableId) (me me' : Me ℕ View) (words copy : List ℕ) (e : ℕ) (guest : Option Tally) (t : Tally) → IsKeeper log table me words e guest → guest ≡ Some t → table' ≡ table → me' ≡ (given me.0, []) → copy ≡ words
    → IsPass log table' me' t copy
pass_left log table table' me me' words copy e guest t k there same seat is =
    subst (λ l. IsPass log table' me' t l) (sym is)
    (record {
      named = named_as log table table' k.named same;
      seat = subst (λ o. me' ≡ (session_view words o, [])) there (left_seat me me' log.cap e guest me.0.ended words k.seat seat);
      own = (k.own t there).0;
    })

pub keeper_put : (log : LogName) (table table' : TableId) (me me' : Me ℕ View) (words words' : List ℕ) (e : ℕ) (guest : Option Tally) (t t' : Tally) → IsKeeper log table me words e guest → guest ≡ Some t → table' ≡ table
    → me' ≡ (with_seen (with_guest me.0 t') words', []) → IsOwn log.cap t' words' → t'.session ≡ t.session → AreOfSessions e words' → IsKeeper log table' me' words' e (Some t')
keeper_put log table table' me me' words words' e guest t t' k there same seat own session known =
    let was : me ≡ (keeper_view log.cap words e (Some t) me.0.ended, []) = subst (λ o. me ≡ (keeper_view log.cap words e o me.0.ended, [])) there k.seat in
    let le = (k.own t there).1 in record {
      named = named_as log table table' k.named same;
      seat = keeper_own me' log.cap e (Some t') me.0.ended words' (keeper_after me me' log.cap e t t' me.0.ended words words' was seat);
      list = own.log;
      most = k.most;
      known = known;
      own = λ u is. subst (λ x. IsOwn log.cap x words' × (x.session ≤ e)) (some-injective t' u is) (own, (let s = session in omega arith));
    }

-- while a guest is entered, the keeper's list is the guest's
pub keeper_with : (log : LogName) (table : TableId) (me : Me ℕ View) (own : List ℕ) (o : Option Chained) (list : Chained) (e : ℕ) (guest : Option Tally) → o ≡ Some list → IsKeeper log table me (list_of own o) e guest → IsKeeper log table me list.words e guest
keeper_with log table me own o list e guest is k = subst (λ x. IsKeeper log table me (list_of own x) e guest) is k

pub words_with : (own : List ℕ) (o : Option Chained) (list : Chained) (words : List ℕ) → o ≡ Some list → list_of own o ≡ words → list.words ≡ words
words_with own o list words is e = sym (ap (list_of own) is) ∙ e

pub lent_with : (cap : ℕ) (own : List ℕ) (o : Option Chained) (list : Chained) (guest : Option Tally) → o ≡ Some list → IsLent cap own guest o → (list.room ≡ cap) × IsPrefix own list.words
lent_with cap own o list guest is l = by guest (subst (λ x. IsLent cap own guest x) is l) where
  by : (g : Option Tally) → IsLent cap own g (Some list) → (list.room ≡ cap) × IsPrefix own list.words
  by (Some t) l = l
  by None l = absurd l

-- the keeper at work for the guest that is entered
pub record IsAtWork (log : LogName) (table : TableId) (me : Me ℕ View) (plain words : List ℕ) (e : ℕ) (guest : Option Tally) (t : Tally) : Type 0 where
  pub keeper : IsKeeper log table me words e guest
  pub entered : guest ≡ Some t
  pub keeps : me.0.keeps ≡ true
  pub seat : me ≡ (with_seen (with_guest me.0 t) words, [])
  pub own : IsOwn log.cap t words
  pub enrolled : t.session ≤ e
  pub behind : IsPrefix plain words

pub at_work : (log : LogName) (table : TableId) (me : Me ℕ View) (plain : List ℕ) (o : Option Chained) (list : Chained) (e : ℕ) (guest : Option Tally) (t : Tally) → o ≡ Some list → guest ≡ Some t
    → IsKeeper log table me (list_of plain o) e guest → IsLent log.cap plain guest o → IsAtWork log table me plain list.words e guest t
at_work log table me plain o list e guest t is entered k lent =
    let keeper = keeper_with log table me plain o list e guest is k in
    let own = keeper.own t entered in
    record {
      keeper = keeper;
      entered = entered;
      keeps = ap (λ m. m.0.keeps) keeper.seat;
      seat = keeper_seat me log.cap e t me.0.ended list.words (subst (λ g. me ≡ (keeper_view log.cap list.words e g me.0.ended, [])) entered keeper.seat);
      own = own.0;
      enrolled = own.1;
      behind = (lent_with log.cap plain o list guest is lent).1;
    }

-- and once a word was put for the guest
pub work_put : {log : LogName} {table table' : TableId} {me me' : Me ℕ View} {plain words words' : List ℕ} {e cap w : ℕ} {guest : Option Tally} {t t' : Tally} → IsAtWork log table me plain words e guest t → cap ≡ log.cap → table' ≡ table
    → me' ≡ (with_seen (with_guest me.0 t') words', []) → IsOwn cap t' words' → IsOutcome me.0.keeps t t' words words' w → AreOfSessions e words' → IsKeeper log table' me' words' e (Some t') × IsPrefix plain words'
work_put {log} {table} {table'} {me} {me'} {plain} {words} {words'} {e} {cap} {w} {guest} {t} {t'} work room same seat own outcome known = (
  keeper_put log table table' me me' words words' e guest t t' work.keeper work.entered same seat (subst (λ n. IsOwn n t' words') room own) (outcome_session me.0.keeps t t' words words' w outcome) known,
  prefix_of_prefix plain words words' work.behind (outcome_longer me.0.keeps t t' words words' w outcome),
)

-- while none is entered, it is its own
own_list : (cap : ℕ) (own : List ℕ) (o : Option Chained) (guest : Option Tally) → guest ≡ None → IsLent cap own guest o → list_of own o ≡ own
own_list cap own None None e l = refl
own_list cap own (Some list) None e l = absurd l
own_list cap own o (Some t) e l = absurd (cc)

pub words_alone : (cap : ℕ) (own : List ℕ) (o : Option Chained) (guest : Option Tally) (words : List ℕ) → guest ≡ None → IsLent cap own guest o → list_of own o ≡ words → own ≡ words
words_alone cap own o guest words none l e = sym (own_list cap own o guest none l) ∙ e

pub keeper_alone : (log : LogName) (table : TableId) (me : Me ℕ View) (own : List ℕ) (o : Option Chained) (e : ℕ) (guest : Option Tally) → guest ≡ None → IsLent log.cap own guest o → IsKeeper log table me (list_of own o) e guest → IsKeeper log table me own e guest
keeper_alone log table me own o e guest none l k = subst (λ words. IsKeeper log table me words e guest) (own_list log.cap own o guest none l) k

pub keeper_alone_as : (log : LogName) (table : TableId) (me : Me ℕ View) (own words : List ℕ) (o : Option Chained) (e : ℕ) (guest : Option Tally) → words ≡ own → guest ≡ None → IsLent log.cap own guest o → IsKeeper log table me (list_of own o) e guest
    → IsKeeper log table me words e guest
keeper_alone_as log table me own words o e guest is none l k = subst (λ ws. IsKeeper log table me ws e guest) (sym is) (keeper_alone log table me own o e guest none l k)

pub known_put : (e : ℕ) (keeps : Bool) (t t' : Tally) (old new : List ℕ) (w b : ℕ) → keeps ≡ true → t.session ≤ 1023 → t.mine < 2 ^ 18 → b < 2 ^ 28 → w ≡ commit_word t.session t.mine b → 1 ≤ t.session → t.session ≤ e → IsOutcome keeps t t' old new w
    → AreOfSessions e old → AreOfSessions e new
known_put e keeps t t' old new w b k sl ml bl is least most o known = from o.what where
  from : ((new ≡ o.before) × (t' ≡ t)) ⊎ ((new ≡ o.before ++ w ∷ []) × (t' ≡ counts_word w t)) → AreOfSessions e new
  from (inl same) = known_stays e old new (ap commits_of same.0 ∙ o.commits k) known
  from (inr put) =
      let P : PlainCommit → Type 0 = λ c. (1 ≤ c.session) × (c.session ≤ e) in
      let grown : commits_of new ≡ commits_of o.before ++ commit_of o.before t.session t.mine b ∷ [] = ap commits_of put.0 ∙ ap (λ x. commits_of (o.before ++ x ∷ [])) is ∙ commits_grow t.session t.mine b o.before sl ml bl in
      subst (λ cs. All P cs) (sym grown) (All-push P (commits_of o.before) (commit_of o.before t.session t.mine b) (known_stays e old o.before (o.commits k) known) (least, most))

-- facts of an answer
pub both_ok : {E : Type 0} (r : Result ℕ E) (P Q R : ℕ → Type 0) → IfOk r P → IfOk r Q → ((p : ℕ) → P p → Q p → R p) → IfOk r R
both_ok (Ok p) P Q R a b f = f p a b
both_ok (Err e) P Q R a b f = tt

pub ok_then : {E : Type 0} (r : Result ℕ E) (P : ℕ → Type 0) (X : Type 0) → ((p : ℕ) → P p → X) → IfOk r P → OnOk r X
ok_then (Ok p) P X f a = f p a
ok_then (Err e) P X f a = tt

pub ok_more : {E : Type 0} (r : Result ℕ E) (P Q : ℕ → Type 0) → ((p : ℕ) → P p → Q p) → IfOk r P → IfOk r Q
ok_more (Ok p) P Q f a = f p a
ok_more (Err e) P Q f a = tt

pub err_then : {E : Type 0} (r : Result ℕ E) (X : Type 0) → (IsErr r → X) → OnErr r X
err_then (Ok p) X f = tt
err_then (Err e) X f = f refl
