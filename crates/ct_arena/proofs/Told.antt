-- What a moment of the shared log tells a seat of its own list.
use Rattle.std.proofs.Common.{◌≡◌, ◌≢◌, ℕ, zero, suc, ◌<◌, ◌≤◌, List, [], ◌∷◌, ◌++◌, length, get_or, Bool, true, false, Some, refl, sym, ap, ◌∙◌, subst, arith, length-append, eq-eqb, lt_of_not-le}
use Rattle.std.{specs.Prelude.{nat_eq, nat_lt, if◌then◌else◌, Contains, sum_by}, proofs.lemmas.Bool.{ltb-true, ltb-false}}
use Rattle.atomic_table.specs.Table.{Me}
use Rattle.ct_word.{specs.Reading.commits_of, proofs.Prefixes.{prefix_same, prefix_of_prefix}}
use Rattle.ct_arena.{specs.Counts.{opening, IsLog, AreNumbered}, specs.declared.sharing.View.View, specs.declared.tally.Tally.Tally, proofs.Tied.load_of}
use Rattle.ct_arena.{specs.Sharing.{total, held, as_list, weight, is_of, mine_of, longer, IsMoment, IsRead, IsSeen}, specs.Own.{IsOwn, IsWhole, with_seen}}
use Rattle.ct_arena.proofs.Totals.{total_one, total_by, term_le, nothing, whole_weight}
use Rattle.ct_arena.proofs.Fronts.{prefix_length, prefix_whole, shorter_front, commits_between, numbers_between, formed_front, last_new}
use mathlib.{Core.Option.some, Core.List.IsPrefix, Core.Logic.dite}
use native.Mathlib.Decide.{dec_le}
use lib.ListN.{get_elem?}

none_mine : (s : ℕ) (t : Tally) → is_of s t ≡ 0 → mine_of s t ≡ 0
none_mine s t e = by (nat_eq t.session s) t.mine e where
  by : (b : Bool) (n : ℕ) → (if b then suc zero else zero) ≡ zero → (if b then n else zero) ≡ zero
  by true n e = absurd (omega arith)
  by false n e = refl

is_own : (t : Tally) → is_of t.session t ≡ 1
is_own t = rw (eq-eqb t.session t.session refl) refl

mine_own : (t : Tally) → mine_of t.session t ≡ t.mine
mine_own t = rw (eq-eqb t.session t.session refl) refl

-- the commits of a session that a view holds are as many as its count
pub owner : (v : View) (m : IsMoment v) (k : ℕ) (t : Tally) → get_elem? (held v) k ≡ some t → AreNumbered t.session t.mine m.log
owner v m k t at =
    let s = t.session in
    let one : is_of s t ≡ 1 = is_own t in
    let part : is_of s t ≤ total (is_of s) (held v) = term_le (is_of s) (held v) k t at in
    let load : load_of (is_of s) v ≤ weight (is_of s) m.views = term_le (load_of (is_of s)) m.views m.id v m.at in
    let once = m.tied.counted.once s in
    let by_views : weight (mine_of s) m.views ≡ load_of (mine_of s) v =
    whole_weight (load_of (is_of s)) (load_of (mine_of s)) (λ u e. nothing (is_of s) (mine_of s) (none_mine s) (held u) e) m.views m.id v m.at (omega arith) in
    let by_list : total (mine_of s) (held v) ≡ mine_of s t = whole_weight (is_of s) (mine_of s) (none_mine s) (held v) k t at (omega arith) in
    subst (λ n. AreNumbered s n m.log) (by_views ∙ by_list ∙ mine_own t) (m.tied.counted.numbered s)

pub owner_guest : (v : View) (m : IsMoment v) (t : Tally) → v.guest ≡ Some t → AreNumbered t.session t.mine m.log
owner_guest v m t e = owner v m 0 t (ap (λ o. get_elem? (as_list o ++ v.ended) 0) e)

-- a session that is held was enrolled
pub was_enrolled : (v : View) (m : IsMoment v) (t : Tally) → v.guest ≡ Some t → t.session ≤ m.tied.enrolled
was_enrolled v m t e =
    let s = t.session in
    let at : get_elem? (held v) 0 ≡ some t = ap (λ o. get_elem? (as_list o ++ v.ended) 0) e in
    let one : is_of s t ≡ 1 = is_own t in
    let part : is_of s t ≤ total (is_of s) (held v) = term_le (is_of s) (held v) 0 t at in
    let load : load_of (is_of s) v ≤ weight (is_of s) m.views = term_le (load_of (is_of s)) m.views m.id v m.at in
    dite (dec_le s m.tied.enrolled) (λ le. le) (λ not_le. absurd (let p = m.tied.counted.past s (lt_of_not-le not_le) in omega arith))

-- a longer front of the log
pub log_grows : (cap : ℕ) (v : View) (m : IsMoment v) (words : List ℕ) → IsPrefix words m.log → IsPrefix v.seen words → length words ≤ cap → IsLog cap v.seen → IsLog cap words
log_grows cap v m words front more le log = record {
  formed = formed_front words m.log front m.formed;
  room = le;
  begins = (let a = log.begins in prefix_of_prefix opening v.seen words a more);
}

-- the keeper has each commit of it already
pub commits_grow_not : (v : View) (m : IsMoment v) (words : List ℕ) → v.keeps ≡ true → IsPrefix words m.log → IsPrefix v.seen words → commits_of words ≡ commits_of v.seen
commits_grow_not v m words keeps front more = commits_between v.seen words m.log more front (m.tied.fronted.keeper m.id v m.at keeps).1.commits

-- and a session each of its own
pub own_grows : (cap : ℕ) (v : View) (m : IsMoment v) (t : Tally) (words : List ℕ) → v.guest ≡ Some t → IsPrefix words m.log → IsPrefix v.seen words → length words ≤ cap → IsOwn cap t v.seen → IsOwn cap t words
own_grows cap v m t words guest front more le own = record {
  log = log_grows cap v m words front more le own.log;
  least = own.least;
  most = own.most;
  counted = omega (arith, own.counted, prefix_length v.seen words more);
  numbered = numbers_between t.session v.seen words m.log more front (own.numbered ∙ sym (owner_guest v m t guest)) ∙ own.numbered;
}

-- the keeper's own list and another are fronts of one log
pub both_fronts : (v : View) (m : IsMoment v) → IsPrefix v.seen (longer v.seen v.other) × IsPrefix v.other (longer v.seen v.other)
both_fronts v m = by (nat_lt (length v.seen) (length v.other)) refl where
  sees : IsPrefix v.seen m.log × IsPrefix v.other m.log
  sees = m.tied.fronted.fronts m.id v m.at

  by : (b : Bool) → nat_lt (length v.seen) (length v.other) ≡ b → IsPrefix v.seen (if b then v.other else v.seen) × IsPrefix v.other (if b then v.other else v.seen)
  by true e = let lt = ltb-true (length v.seen) (length v.other) e in (shorter_front v.seen v.other m.log sees.0 sees.1 (omega arith), prefix_same v.other)
  by false e = let le = ltb-false (length v.seen) (length v.other) e in (prefix_same v.seen, shorter_front v.other v.seen m.log sees.1 sees.0 (omega arith))

elem_at : (l : List Tally) (k : ℕ) (d : Tally) → k < length l → get_elem? l k ≡ some (get_or l k d)
elem_at [] k d lt = absurd (omega arith)
elem_at (x ∷ xs) zero d lt = refl
elem_at (x ∷ xs) (suc k) d lt = elem_at xs k d (omega arith)

-- the list that was read to the end, once each session was ended
pub whole_log : (v : View) (m : IsMoment v) → v.keeps ≡ true → m.log ≡ v.seen → IsWhole v v.seen
whole_log v m keeps whole all none_ =
    let held_is : held v ≡ v.ended = ap (λ o. as_list o ++ v.ended) none_ in
    let load : load_of (λ t. 1) v ≡ length v.ended = ap (λ l. total (λ t. 1) l) held_is ∙ total_one v.ended in
    let many = m.tied.counted.many in
    let is = (m.tied.fronted.keeper m.id v m.at keeps).1.many in
    let made : weight (λ t. t.made) m.views ≡ load_of (λ t. t.made) v =
    whole_weight (load_of (λ t. 1)) (load_of (λ t. t.made)) (λ u e. nothing (λ t. 1) (λ t. t.made) (λ t z. absurd (omega arith)) (held u) e) m.views m.id v m.at (omega arith) in
    let sum : load_of (λ t. t.made) v ≡ sum_by (λ t. t.made) v.ended = ap (λ l. total (λ t. t.made) l) held_is ∙ sym (total_by (λ t. t.made) v.ended) in
    let size : length v.seen ≡ length m.log = ap length (sym whole) in
    let count = m.tied.counted.made in (
      omega arith,
      λ k d lt.
          subst (λ l. AreNumbered (get_or v.ended k d).session (get_or v.ended k d).mine l) whole
          (owner v m k (get_or v.ended k d) (ap (λ l. get_elem? l k) held_is ∙ elem_at v.ended k d lt)),
    )

-- a list as long as the table is the whole log
pub full_log : (v : View) (m : IsMoment v) → v.keeps ≡ true → v.room ≤ length v.seen → m.log ≡ v.seen
full_log v m keeps le =
    let room = (m.tied.fronted.keeper m.id v m.at keeps).1.room in
    let most = m.tied.room in
    sym (prefix_whole v.seen m.log (m.tied.fronted.fronts m.id v m.at).0 (omega arith))

-- what a seat knows after it read one word more
pub record IsGrown (cap : ℕ) (v : View) (words : List ℕ) (w : ℕ) (after : Me ℕ View) : Type 0 where
  pub seat : after ≡ (with_seen v (words ++ w ∷ []), [])
  pub new : Contains words w → ⊥
  pub log : IsLog cap (words ++ w ∷ [])
  pub own : (t : Tally) → v.guest ≡ Some t → IsOwn cap t words → IsOwn cap t (words ++ w ∷ [])
  pub commits : v.keeps ≡ true → commits_of (words ++ w ∷ []) ≡ commits_of words

pub reads_one : (cap : ℕ) (v : View) (words : List ℕ) (w : ℕ) (after : Me ℕ View) → IsLog cap words → length words < cap → (after ≡ (with_seen v (words ++ w ∷ []), []))
    → (m : IsMoment (with_seen v words)) → IsPrefix (words ++ w ∷ []) m.log → IsGrown cap v words w after
reads_one cap v words w after log lt seat m front =
    let more : IsPrefix words (words ++ w ∷ []) = (w ∷ [], refl) in
    let le : length (words ++ w ∷ []) ≤ cap = omega (arith, length-append words (w ∷ [])) in
    let grown : IsLog cap (words ++ w ∷ []) = log_grows cap (with_seen v words) m (words ++ w ∷ []) front more le log in
    record {
      seat = seat;
      new = last_new words w grown.formed;
      log = grown;
      own = λ t e own. own_grows cap (with_seen v words) m t (words ++ w ∷ []) e front more le own;
      commits = λ k. commits_grow_not (with_seen v words) m (words ++ w ∷ []) k front more;
    }

-- a read that found a word
pub read_found : (cap : ℕ) (v : View) (words : List ℕ) (w : ℕ) (me after : Me ℕ View) → me ≡ (with_seen v words, []) → IsRead me.0 w after → w ≢ 0 → IsLog cap words → length words < cap → IsGrown cap v words w after
read_found cap v words w me after e read ne log lt =
    let P : Me ℕ View → Type 0 = λ x. IsRead x.0 w after → IsGrown cap v words w after in
    let there : P (with_seen v words, []) = (λ r. let h = r.some ne in reads_one cap v words w after log lt h.0 h.1.0 h.1.1) in
    subst P (sym e) there read

-- a read that found the end
pub read_none : (v : View) (words : List ℕ) (w : ℕ) (me after : Me ℕ View) → me ≡ (with_seen v words, []) → IsRead me.0 w after → w ≡ 0 → (after ≡ (with_seen v words, [])) × (v.keeps ≡ true → IsWhole v words)
read_none v words w me after e read z =
    let P : Me ℕ View → Type 0 = λ x. IsRead x.0 w after → (after ≡ (with_seen v words, [])) × (v.keeps ≡ true → IsWhole v words) in
    let there : P (with_seen v words, []) = (λ r. let h = r.none z in (h.0, λ k. whole_log (with_seen v words) h.1.0 k h.1.1)) in
    subst P (sym e) there read

-- a look at a full log
pub looked_full : (cap : ℕ) (v : View) (words : List ℕ) (me after : Me ℕ View) → me ≡ (with_seen v words, []) → IsSeen me.0 after → (after ≡ (with_seen v words, [])) × (cap ≤ length words → v.keeps ≡ true → v.room ≡ cap → IsWhole v words)
looked_full cap v words me after e seen =
    let P : Me ℕ View → Type 0 = λ x. IsSeen x.0 after → (after ≡ (with_seen v words, [])) × (cap ≤ length words → v.keeps ≡ true → v.room ≡ cap → IsWhole v words) in
    let there : P (with_seen v words, []) = (λ s. (s.0, λ le k room. whole_log (with_seen v words) s.1 k (full_log (with_seen v words) s.1 k (omega arith)))) in
    subst P (sym e) there seen
