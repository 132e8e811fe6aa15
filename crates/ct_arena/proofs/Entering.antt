-- Sessions come to the keeper and leave it.
use Rattle.std.proofs.Common.{◌≡◌, ◌≢◌, ℕ, zero, suc, ◌+◌, ◌<◌, ◌≤◌, ◌⊎◌, List, [], ◌∷◌, ◌++◌, length, take, Bool, true, false, Option, Some, None, refl, sym, ap, ◌∙◌, subst, inl, inr, arith, ne_eqb}
use Rattle.std.{specs.Prelude.{All, Contains, nat_lt, slice_index_or, if◌then◌else◌}, proofs.lemmas.Bool.ltb-true}
use Rattle.atomic_table.specs.Table.{Me}
use Rattle.ct_word.{specs.Change.PlainCommit, specs.Reading.commits_of, specs.WellFormed.IsWellFormed}
use Rattle.ct_arena.{specs.Counts.{opening, IsLog, AreOfSessions, numbers_by}, specs.declared.sharing.View.View, specs.declared.tally.Tally.Tally}
use Rattle.ct_arena.specs.Sharing.{session_view, keeper_view, newcomer, enrolled, enrolled_by, kept, given, joined, longer, IsKept, IsMoment, IsSettled}
use Rattle.ct_arena.{specs.Own.IsOwn, proofs.Fronts.{prefix_length, prefix_whole, commits_between, numbers_between, formed_front, last_new}, proofs.Opening.two}
use Rattle.ct_arena.proofs.Told.{owner_guest, was_enrolled, both_fronts}
use mathlib.Core.List.{IsPrefix}

pub enrolled_seat : (me me' : Me ℕ View) (room e : ℕ) (guest : Option Tally) (ended : List Tally) (words : List ℕ) → me ≡ (keeper_view room words e guest ended, []) → me' ≡ (enrolled me.0, []) → me' ≡ (session_view words (Some (newcomer (e + 1))), [])
enrolled_seat me me' room e guest ended words is =
    let P : Me ℕ View → Type 0 = λ x. me' ≡ (enrolled x.0, []) → me' ≡ (session_view words (Some (newcomer (e + 1))), []) in
    subst P (sym is) (λ h. h)

pub enrolled_keeper : (me me' : Me ℕ View) (room e : ℕ) (guest : Option Tally) (ended : List Tally) (words : List ℕ) → me ≡ (keeper_view room words e guest ended, []) → me' ≡ (enrolled_by me.0, me.1) → me' ≡ (keeper_view room words (e + 1) guest ended, [])
enrolled_keeper me me' room e guest ended words is =
    let P : Me ℕ View → Type 0 = λ x. me' ≡ (enrolled_by x.0, x.1) → me' ≡ (keeper_view room words (e + 1) guest ended, []) in
    subst P (sym is) (λ h. h)

pub left_seat : (me me' : Me ℕ View) (room e : ℕ) (guest : Option Tally) (ended : List Tally) (words : List ℕ) → me ≡ (keeper_view room words e guest ended, []) → me' ≡ (given me.0, []) → me' ≡ (session_view words guest, [])
left_seat me me' room e guest ended words is =
    let P : Me ℕ View → Type 0 = λ x. me' ≡ (given x.0, []) → me' ≡ (session_view words guest, []) in
    subst P (sym is) (λ h. h)

pub left_keeper : (me me' : Me ℕ View) (room e : ℕ) (guest : Option Tally) (ended : List Tally) (words : List ℕ) → me ≡ (keeper_view room words e guest ended, []) → me' ≡ (kept me.0, me.1) → me' ≡ (keeper_view room words e None ended, [])
left_keeper me me' room e guest ended words is =
    let P : Me ℕ View → Type 0 = λ x. me' ≡ (kept x.0, x.1) → me' ≡ (keeper_view room words e None ended, []) in
    subst P (sym is) (λ h. h)

-- no commit of a session that was not enrolled
no_numbers : (s e : ℕ) (cs : List PlainCommit) → All (λ c. (1 ≤ c.session) × (c.session ≤ e)) cs → e < s → numbers_by s cs ≡ []
no_numbers s e [] all lt = refl
no_numbers s e (c ∷ cs) all lt =
    let le : c.session ≤ e = (all 0 c (omega arith)).1 in
    let ne : c.session ≢ s = (λ h. omega arith) in
    rw (ne_eqb c.session s ne) (no_numbers s e cs (λ k d within. all (suc k) d (omega arith)) lt)

pub newcomer_own : (cap e : ℕ) (words : List ℕ) → IsLog cap words → AreOfSessions e words → e < 1023 → IsOwn cap (newcomer (e + 1)) words
newcomer_own cap e words log known lt = record {
  log = log;
  least = omega arith;
  most = omega arith;
  counted = omega (arith, two, prefix_length opening words log.begins);
  numbered = no_numbers (e + 1) e (commits_of words) known (omega arith);
}

pub known_more : (e : ℕ) (words : List ℕ) → AreOfSessions e words → AreOfSessions (e + 1) words
known_more e words known = λ k d lt. let h = known k d lt in (h.0, (let le = h.1 in omega arith))

-- what the keeper knows of the longer list
pub record IsEntered (cap e : ℕ) (t : Tally) (words other now : List ℕ) : Type 0 where
  pub longer : IsPrefix words now
  pub seen : IsPrefix other now
  pub commits : commits_of now ≡ commits_of words
  pub own : IsOwn cap t now
  pub enrolled : t.session ≤ e

took : (cap e : ℕ) (t : Tally) (ended : List Tally) (words other : List ℕ) (m : IsMoment (joined (keeper_view cap words e None ended) (session_view other (Some t)))) → IsLog cap words → IsOwn cap t other → IsEntered cap e t words other (longer words other)
took cap e t ended words other m log own = record {
  longer = fronts.0;
  seen = fronts.1;
  commits = commits_ (nat_lt (length words) (length other)) fronts;
  own = own_ (nat_lt (length words) (length other)) refl fronts;
  enrolled = omega (arith, was_enrolled v m t refl, keeper.many);
} where
  v : View
  v = joined (keeper_view cap words e None ended) (session_view other (Some t))

  fronts : IsPrefix words (longer words other) × IsPrefix other (longer words other)
  fronts = both_fronts v m

  sees : IsPrefix words m.log × IsPrefix other m.log
  sees = m.tied.fronted.fronts m.id v m.at

  keeper : IsKept m.cap m.tied.enrolled m.log v
  keeper = (m.tied.fronted.keeper m.id v m.at refl).1

  commits_ : (b : Bool) → IsPrefix words (if b then other else words) × IsPrefix other (if b then other else words) → commits_of (if b then other else words) ≡ commits_of words
  commits_ true f = commits_between words other m.log f.0 sees.1 keeper.commits
  commits_ false f = refl

  own_ : (b : Bool) → nat_lt (length words) (length other) ≡ b → IsPrefix words (if b then other else words) × IsPrefix other (if b then other else words) → IsOwn cap t (if b then other else words)
  own_ true e f = own
  own_ false e f = record {
    log = log;
    least = own.least;
    most = own.most;
    counted = omega (arith, own.counted, prefix_length other words f.1);
    numbered = numbers_between t.session other words m.log f.1 sees.0 (own.numbered ∙ sym (owner_guest v m t refl)) ∙ own.numbered;
  }

pub enters : (cap e : ℕ) (t : Tally) (ended : List Tally) (words other : List ℕ) (me pass me' : Me ℕ View) → me ≡ (keeper_view cap words e None ended, []) → pass ≡ (session_view other (Some t), []) → IsSettled (joined me.0 pass.0) me' → IsLog cap words → IsOwn cap t other
    → (me' ≡ (keeper_view cap (longer words other) e (Some t) ended, [])) × IsEntered cap e t words other (longer words other)
enters cap e t ended words other me pass me' is there settled_ log own =
    let P : Me ℕ View → Me ℕ View → Type 0 = λ x y. IsSettled (joined x.0 y.0) me' → (me' ≡ (keeper_view cap (longer words other) e (Some t) ended, [])) × IsEntered cap e t words other (longer words other) in
    let done : P (keeper_view cap words e None ended, []) (session_view other (Some t), []) = (λ s. (s.is, took cap e t ended words other s.moment log own)) in
    (subst (λ y. P me y) (sym there) (subst (λ x. P x (session_view other (Some t), [])) (sym is) done)) settled_

-- the longer of two lists, by their lengths
pub longer_first : (xs ys : List ℕ) → length ys ≤ length xs → longer xs ys ≡ xs
longer_first xs ys le = by (nat_lt (length xs) (length ys)) refl where
  by : (b : Bool) → nat_lt (length xs) (length ys) ≡ b → (if b then ys else xs) ≡ xs
  by true e = absurd (let lt = ltb-true (length xs) (length ys) e in omega arith)
  by false e = refl

pub longer_second : (xs ys : List ℕ) → IsPrefix ys (longer xs ys) → length xs ≤ length ys → longer xs ys ≡ ys
longer_second xs ys p le = sym (prefix_whole ys (longer xs ys) p (by (nat_lt (length xs) (length ys)))) where
  by : (b : Bool) → length (if b then ys else xs) ≤ length ys
  by true = omega arith
  by false = le

pub longer_either : (xs ys now : List ℕ) → now ≡ longer xs ys → (now ≡ xs) ⊎ (now ≡ ys)
longer_either xs ys now is = by (nat_lt (length xs) (length ys)) is where
  by : (b : Bool) → now ≡ (if b then ys else xs) → (now ≡ xs) ⊎ (now ≡ ys)
  by true e = inr e
  by false e = inl e

-- no word of a well formed list stands among those before it
front_at : (words : List ℕ) (i : ℕ) → i < length words → IsPrefix (take i words ++ slice_index_or words i 0 ∷ []) words
front_at [] i lt = absurd (omega arith)
front_at (x ∷ xs) zero lt = (xs, refl)
front_at (x ∷ xs) (suc i) lt = let rest = front_at xs i (omega arith) in (rest.0, ap (λ l. x ∷ l) rest.1)

pub new_at : (words : List ℕ) (i : ℕ) → IsWellFormed words → i < length words → Contains (take i words) (slice_index_or words i 0) → ⊥
new_at words i formed lt = last_new (take i words) (slice_index_or words i 0) (formed_front (take i words ++ slice_index_or words i 0 ∷ []) words (front_at words i lt) formed)
