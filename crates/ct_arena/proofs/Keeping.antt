-- The seats of passes and of the keeper, and what a word put for them tells.
use Rattle.std.proofs.Common.{◌≡◌, ℕ, ◌+◌, ◌<◌, ◌≤◌, ◌^◌, ◌⊎◌, not, List, [], ◌∷◌, ◌++◌, length, Bool, true, Option, Some, refl, sym, ap, ◌∙◌, subst, inl, inr, arith, length-append}
use Rattle.std.specs.Prelude.{IsTrue, Contains, slice_get, All, if◌then◌else◌}
use Rattle.atomic_table.specs.Table.{Me}
use Rattle.ct_word.{specs.Reading.{commits_of, change_list_at}, specs.WellFormed.{is_plain_word, is_commit_word, is_word_over}, proofs.Growth.word_over_grows}
use Rattle.ct_word.{proofs.Packed.{true_left, true_right, true_both}, proofs.Commits.commits_plain, proofs.Prefixes.change_list_in_prefix}
use Rattle.ct_word.proofs.Items.{contains_of_get, get_last}
use Rattle.ct_arena.{specs.Counts.{AreOfSessions, commit_word, commit_of}, specs.declared.sharing.View.View, specs.declared.tally.Tally.Tally}
use Rattle.ct_arena.{specs.Seen.{CountsWord, StandsLast}, specs.Sharing.{session_view, keeper_view, counts_word}, proofs.Putting.{plain_kind, commit_kind}}
use Rattle.ct_arena.{specs.Own.{IsOwn, with_seen, with_guest, IsOutcome}, proofs.Fronts.prefix_length}
use Rattle.ct_arena.proofs.Sole.{prefix_push, stands_last, commits_grow, fresh}
use mathlib.Core.List.{IsPrefix}

pub session_seat : (me : Me ℕ View) (t : Tally) (words : List ℕ) → me ≡ (session_view words (Some t), []) → me ≡ (with_seen (with_guest me.0 t) words, [])
session_seat me t words e = let P : Me ℕ View → Type 0 = λ x. x ≡ (with_seen (with_guest x.0 t) words, []) in subst P (sym e) refl

pub session_seen : (me : Me ℕ View) (t : Tally) (words : List ℕ) → me ≡ (session_view words (Some t), []) → me ≡ (with_seen me.0 words, [])
session_seen me t words e = let P : Me ℕ View → Type 0 = λ x. x ≡ (with_seen x.0 words, []) in subst P (sym e) refl

pub session_after : (me me' : Me ℕ View) (t t' : Tally) (words words' : List ℕ) → me ≡ (session_view words (Some t), []) → me' ≡ (with_seen (with_guest me.0 t') words', []) → me' ≡ (session_view words' (Some t'), [])
session_after me me' t t' words words' e =
    let P : Me ℕ View → Type 0 = λ x. me' ≡ (with_seen (with_guest x.0 t') words', []) → me' ≡ (session_view words' (Some t'), []) in
    subst P (sym e) (λ h. h)

pub session_read : (me me' : Me ℕ View) (t : Tally) (words words' : List ℕ) → me ≡ (session_view words (Some t), []) → me' ≡ (with_seen me.0 words', []) → me' ≡ (session_view words' (Some t), [])
session_read me me' t words words' e =
    let P : Me ℕ View → Type 0 = λ x. me' ≡ (with_seen x.0 words', []) → me' ≡ (session_view words' (Some t), []) in
    subst P (sym e) (λ h. h)

pub keeper_seat : (me : Me ℕ View) (room e : ℕ) (t : Tally) (ended : List Tally) (words : List ℕ) → me ≡ (keeper_view room words e (Some t) ended, []) → me ≡ (with_seen (with_guest me.0 t) words, [])
keeper_seat me room e t ended words is = let P : Me ℕ View → Type 0 = λ x. x ≡ (with_seen (with_guest x.0 t) words, []) in subst P (sym is) refl

pub keeper_seen : (me : Me ℕ View) (room e : ℕ) (guest : Option Tally) (ended : List Tally) (words : List ℕ) → me ≡ (keeper_view room words e guest ended, []) → me ≡ (with_seen me.0 words, [])
keeper_seen me room e guest ended words is = let P : Me ℕ View → Type 0 = λ x. x ≡ (with_seen x.0 words, []) in subst P (sym is) refl

-- the keeper's seat names its own list of those that were ended
pub keeper_own : (me : Me ℕ View) (room e : ℕ) (guest : Option Tally) (ended : List Tally) (words : List ℕ) → me ≡ (keeper_view room words e guest ended, []) → me ≡ (keeper_view room words e guest me.0.ended, [])
keeper_own me room e guest ended words is = let P : Me ℕ View → Type 0 = λ x. x ≡ (keeper_view room words e guest x.0.ended, []) in subst P (sym is) refl

pub keeper_after : (me me' : Me ℕ View) (room e : ℕ) (t t' : Tally) (ended : List Tally) (words words' : List ℕ) → me ≡ (keeper_view room words e (Some t) ended, []) → me' ≡ (with_seen (with_guest me.0 t') words', [])
    → me' ≡ (keeper_view room words' e (Some t') ended, [])
keeper_after me me' room e t t' ended words words' is =
    let P : Me ℕ View → Type 0 = λ x. me' ≡ (with_seen (with_guest x.0 t') words', []) → me' ≡ (keeper_view room words' e (Some t') ended, []) in
    subst P (sym is) (λ h. h)

-- what the outcome of a put tells
pub outcome_longer : (keeps : Bool) (t t' : Tally) (old new : List ℕ) (w : ℕ) → IsOutcome keeps t t' old new w → IsPrefix old new
outcome_longer keeps t t' old new w o = from o.what where
  from : ((new ≡ o.before) × (t' ≡ t)) ⊎ ((new ≡ o.before ++ w ∷ []) × (t' ≡ counts_word w t)) → IsPrefix old new
  from (inl same) = subst (λ l. IsPrefix old l) (sym same.0) o.longer
  from (inr put) = subst (λ l. IsPrefix old l) (sym put.0) (prefix_push old o.before w o.longer)

pub outcome_counts : (keeps : Bool) (t t' : Tally) (old new : List ℕ) (w : ℕ) → IsOutcome keeps t t' old new w → CountsWord t.made t'.made new w
outcome_counts keeps t t' old new w o = from o.what where
  from : ((new ≡ o.before) × (t' ≡ t)) ⊎ ((new ≡ o.before ++ w ∷ []) × (t' ≡ counts_word w t)) → CountsWord t.made t'.made new w
  from (inl same) = inl (ap (λ x. x.made) same.1)
  from (inr put) = inr (ap (λ x. x.made) put.1, (length o.before, subst (λ l. StandsLast l (length o.before) w) (sym put.0) (stands_last o.before w (length o.before) refl)))

pub outcome_session : (keeps : Bool) (t t' : Tally) (old new : List ℕ) (w : ℕ) → IsOutcome keeps t t' old new w → t'.session ≡ t.session
outcome_session keeps t t' old new w o = from o.what where
  from : ((new ≡ o.before) × (t' ≡ t)) ⊎ ((new ≡ o.before ++ w ∷ []) × (t' ≡ counts_word w t)) → t'.session ≡ t.session
  from (inl same) = ap (λ x. x.session) same.1
  from (inr put) = ap (λ x. x.session) put.1

pub outcome_mine : (keeps : Bool) (t t' : Tally) (old new : List ℕ) (w : ℕ) → IsTrue (is_plain_word old w) → IsOutcome keeps t t' old new w → t'.mine ≡ t.mine
outcome_mine keeps t t' old new w plain o = from o.what where
  from : ((new ≡ o.before) × (t' ≡ t)) ⊎ ((new ≡ o.before ++ w ∷ []) × (t' ≡ counts_word w t)) → t'.mine ≡ t.mine
  from (inl same) = ap (λ x. x.mine) same.1
  from (inr put) = ap (λ x. x.mine) put.1 ∙ ap (λ (b : Bool). t.mine + (if b then 1 else 0)) (plain_kind old w plain) ∙ (let z : t.mine + 0 ≡ t.mine = omega arith in z)

plain_grows : (words more : List ℕ) (w : ℕ) → IsPrefix words more → IsTrue (is_plain_word words w) → IsTrue (is_plain_word more w)
plain_grows words more w p plain =
    subst (λ l. IsTrue (is_plain_word l w)) p.1
    (true_both _ _ (word_over_grows words p.0 w (true_left (is_word_over words w) (not (is_commit_word w)) plain)) (true_right (is_word_over words w) (not (is_commit_word w)) plain))

pub outcome_commits : (keeps : Bool) (t t' : Tally) (old new : List ℕ) (w : ℕ) → IsTrue (is_plain_word old w) → keeps ≡ true → IsOutcome keeps t t' old new w → commits_of new ≡ commits_of old
outcome_commits keeps t t' old new w plain k o = from o.what where
  from : ((new ≡ o.before) × (t' ≡ t)) ⊎ ((new ≡ o.before ++ w ∷ []) × (t' ≡ counts_word w t)) → commits_of new ≡ commits_of old
  from (inl same) = ap commits_of same.0 ∙ o.commits k
  from (inr put) = ap commits_of put.0 ∙ commits_plain o.before w (plain_grows old o.before w o.longer plain) ∙ o.commits k

pub known_stays : (enrolled : ℕ) (old new : List ℕ) → commits_of new ≡ commits_of old → AreOfSessions enrolled old → AreOfSessions enrolled new
known_stays enrolled old new same known = subst (λ cs. All (λ c. (1 ≤ c.session) × (c.session ≤ enrolled)) cs) (sym same) known

pub plain_counts : (words : List ℕ) (w n : ℕ) → n ≡ 0 → IsTrue (is_plain_word words w) → n ≡ (if is_commit_word w then 1 else 0)
plain_counts words w n e plain = rw (plain_kind words w plain) e

pub commit_counts : (s m b w n : ℕ) → n ≡ 1 → s ≤ 1023 → m < 2 ^ 18 → b < 2 ^ 28 → w ≡ commit_word s m b → n ≡ (if is_commit_word w then 1 else 0)
commit_counts s m b w n e sl ml bl is = rw (ap is_commit_word is ∙ commit_kind s m b sl ml bl) e

-- at Ok the next commit of a session was put
pub outcome_put : (cap : ℕ) (keeps : Bool) (t t' : Tally) (old new : List ℕ) (w b place : ℕ) → IsOwn cap t' new → t.mine < 2 ^ 18 → b < 2 ^ 28 → w ≡ commit_word t.session t.mine b → slice_get new place ≡ Some w → (o : IsOutcome keeps t t' old new w)
    → (new ≡ o.before ++ w ∷ []) × (t' ≡ counts_word w t)
outcome_put cap keeps t t' old new w b place own ml bl is stands o = from o.what where
  from : ((new ≡ o.before) × (t' ≡ t)) ⊎ ((new ≡ o.before ++ w ∷ []) × (t' ≡ counts_word w t)) → (new ≡ o.before ++ w ∷ []) × (t' ≡ counts_word w t)
  from (inr put) = put
  from (inl same) =
      let mine : IsOwn cap t new = subst (λ x. IsOwn cap x new) same.1 own in
      absurd (fresh t.session t.mine b new mine.most ml bl mine.numbered (subst (λ x. Contains new x) is (contains_of_get new place w stands)))

-- what was put there
pub record IsCommitted (t t' : Tally) (old new : List ℕ) (b place : ℕ) : Type 0 where
  pub stands : StandsLast new place (commit_word t.session t.mine b)
  pub commits : commits_of new ≡ commits_of old ++ commit_of old t.session t.mine b ∷ []
  pub counted : t' ≡ record { session = t.session; made = t.made + 1; mine = t.mine + 1 }
  pub grows : length old < length new

pub outcome_commit : (cap : ℕ) (keeps : Bool) (t t' : Tally) (old new : List ℕ) (w b place : ℕ) → keeps ≡ true → IsOwn cap t' new → t.session ≤ 1023 → t.mine < 2 ^ 18 → b < 2 ^ 28 → b < length old → w ≡ commit_word t.session t.mine b
    → slice_get new place ≡ Some w → (t' ≡ t) ⊎ (length new ≡ place + 1) → IsOutcome keeps t t' old new w → IsCommitted t t' old new b place
outcome_commit cap keeps t t' old new w b place k own sl ml bl within is stands last o =
    let put = outcome_put cap keeps t t' old new w b place own ml bl is stands o in
    let changes : change_list_at o.before b ≡ change_list_at old b = change_list_in_prefix old o.before b o.longer within in
    record {
      stands = record { stands = stands ∙ ap (λ x. Some x) is; last = ends last };
      commits =
          ap commits_of put.0 ∙ ap (λ x. commits_of (o.before ++ x ∷ [])) is ∙ commits_grow t.session t.mine b o.before sl ml bl
          ∙ (λ i. o.commits k i ++ record { session = t.session; number = t.mine; changes = changes i } ∷ []);
      counted = put.1 ∙ (λ i. record { session = t.session; made = t.made + 1; mine = one i });
      grows = omega (arith, ap length put.0, length-append o.before (w ∷ []), prefix_length old o.before o.longer);
    }
  where
    ends : (t' ≡ t) ⊎ (length new ≡ place + 1) → length new ≡ place + 1
    ends (inr e) = e
    ends (inl same) =
        let mine : IsOwn cap t new = subst (λ x. IsOwn cap x new) same own in
        absurd (fresh t.session t.mine b new mine.most ml bl mine.numbered (subst (λ x. Contains new x) is (contains_of_get new place w stands)))

    one : t.mine + (if is_commit_word w then 1 else 0) ≡ t.mine + 1
    one = ap (λ (b : Bool). t.mine + (if b then 1 else 0)) (ap is_commit_word is ∙ commit_kind t.session t.mine b sl ml bl)

-- at Err nothing was put
pub outcome_none : (keeps : Bool) (t t' : Tally) (old new : List ℕ) (w : ℕ) → keeps ≡ true → (Contains new w → ⊥) → IsOutcome keeps t t' old new w → commits_of new ≡ commits_of old
outcome_none keeps t t' old new w k absent o = from o.what where
  from : ((new ≡ o.before) × (t' ≡ t)) ⊎ ((new ≡ o.before ++ w ∷ []) × (t' ≡ counts_word w t)) → commits_of new ≡ commits_of old
  from (inl same) = ap commits_of same.0 ∙ o.commits k
  from (inr put) = absurd (absent (subst (λ l. Contains l w) (sym put.0) (contains_of_get (o.before ++ w ∷ []) (length o.before) w (get_last o.before w (length o.before) refl))))
