-- Which terms have a place, as words are added, and the words that a condition is put by.
use Rattle.std.proofs.Common.{◌≡◌, ℕ, suc, ◌+◌, ◌≤◌, Bool, true, false, List, [], ◌∷◌, Option, Some, None, Result, Ok, Err, refl, ap, ◌∙◌, sym, arith}
use Rattle.std.{specs.Prelude.{◌||◌, slice_get, is_some, is_err, IsOk, OnOk, if◌then◌else◌}, specs.List.list_any, proofs.lemmas.Bool.{false≢true, or_left}}
use Rattle.std.{proofs.lemmas.List.Folds.list_any-append, proofs.lemmas.Option.none-some, proofs.lemmas.Map.Keys.any_passes_from_place}
use Rattle.ct_word.{specs.declared.values.Term.Term, specs.Condition.{Condition, Conditions, True, False, Same, Not, And, Or, none, also}}
use Rattle.ct_word.{specs.Reading.{Meaning, IsTerm, meanings}, specs.Stands.StandsAt, proofs.Alike.term_decides, proofs.Prefixes.meanings_prefix}
use Rattle.ct_query.specs.Bounds.{literal_words, column_words, over_equalities, over_all_equalities}
use Rattle.ct_condition.{specs.Places.{is_of_term, has_place, new_literal_words, new_terms}, specs.Rows.{cell_for, term_words, new_words, words_on}, specs.Writes.charge}
use mathlib.Core.List.{IsPrefix}

found : (f : Meaning → Bool) (ms : List Meaning) → list_any f ms ≡ true → (k : ℕ) × (m : Meaning) × (slice_get ms k ≡ Some m) × (f m ≡ true)
found f [] e = absurd (false≢true e)
found f (m ∷ ms) e = by_first (f m) refl e (found f ms) where
  by_first : (b : Bool) → f m ≡ b → (b || list_any f ms) ≡ true → (list_any f ms ≡ true → (k : ℕ) × (n : Meaning) × (slice_get ms k ≡ Some n) × (f n ≡ true))
      → (k : ℕ) × (n : Meaning) × (slice_get (m ∷ ms) k ≡ Some n) × (f n ≡ true)
  by_first true is e rest = (0, m, refl, is)
  by_first false is e rest = let r = rest e in (suc r.0, r.1, r.2, r.3)

of_term : (t : Term) (m : Meaning) → is_of_term t m ≡ true → m ≡ IsTerm t
of_term t (IsTerm s) e = ap IsTerm ((term_decides s t).0 e)
of_term t _ e = absurd (false≢true e)

-- a term that has a place stands there
pub place_found : (words : List ℕ) (t : Term) → has_place words t ≡ true → (p : ℕ) × StandsAt words p (IsTerm t)
place_found words t e =
    let f = found (is_of_term t) (meanings words) e in
    (f.0, f.2 ∙ ap (λ m. Some m) (of_term t f.1 f.3))

-- and a term that stands somewhere has a place
pub place_from : (words : List ℕ) (p : ℕ) (t : Term) → StandsAt words p (IsTerm t) → has_place words t ≡ true
place_from words p t stands = any_passes_from_place (is_of_term t) (meanings words) p (IsTerm t) stands ((term_decides t t).1 refl)

-- it keeps it as words are added
pub place_stays : (old new : List ℕ) (t : Term) → IsPrefix old new → has_place old t ≡ true → has_place new t ≡ true
place_stays old new t longer e =
    let more = meanings_prefix old new longer in
    ap (list_any (is_of_term t)) (sym more.1) ∙ list_any-append (is_of_term t) (meanings old) more.0 ∙ or_left (has_place old t) _ e

by_tests : (c a b : Bool) (n : ℕ) → (a ≡ true → b ≡ true) → (if c then 0 else if b then 0 else n) ≤ (if c then 0 else if a then 0 else n)
by_tests true a b n h = omega arith
by_tests false true true n h = omega arith
by_tests false true false n h = absurd (false≢true (h refl))
by_tests false false true n h = omega arith
by_tests false false false n h = omega arith

module _ (f g : Term → Term → ℕ) (less : (s t : Term) → f s t ≤ g s t) where
  mutual
    pub over_less : (c : Condition) → over_equalities f c ≤ over_equalities g c
    over_less True = omega arith
    over_less False = omega arith
    over_less (Same s t) = less s t
    over_less (Not c) = over_less c
    over_less (And cs) = over_all_less cs
    over_less (Or cs) = over_all_less cs

    over_all_less : (cs : Conditions) → over_all_equalities f cs ≤ over_all_equalities g cs
    over_all_less none = omega arith
    over_all_less (also c cs) = let a = over_less c in let b = over_all_less cs in omega (arith, a, b)

module _ (old new : List ℕ) (longer : IsPrefix old new) where
  literal_fewer : (t : Term) → new_literal_words new t ≤ new_literal_words old t
  literal_fewer t = by_tests false (has_place old t) (has_place new t) (literal_words t) (place_stays old new t longer)

  -- and the literals of a condition have no more words
  pub terms_fewer : (c : Condition) → new_terms new c ≤ new_terms old c
  terms_fewer c =
      over_less (λ s t. new_literal_words new s + new_literal_words new t) (λ s t. new_literal_words old s + new_literal_words old t)
      (λ s t. let a = literal_fewer s in let b = literal_fewer t in omega (arith, a, b)) c

module _ (old new cells : List ℕ) (longer : IsPrefix old new) where
  -- a term is put by no more words where words were added before
  pub term_fewer : (t : Term) → term_words new cells t ≤ term_words old cells t
  term_fewer t = by_tests (is_some (cell_for cells t)) (has_place old t) (has_place new t) (literal_words t + column_words t) (place_stays old new t longer)

  -- nor are the terms of a condition
  pub new_fewer : (c : Condition) → new_words new cells c ≤ new_words old cells c
  new_fewer c =
      over_less (λ s t. term_words new cells s + term_words new cells t) (λ s t. term_words old cells s + term_words old cells t)
      (λ s t. let a = term_fewer s in let b = term_fewer t in omega (arith, a, b)) c

  -- nor is a condition
  pub words_fewer : (c : Condition) → words_on new cells c ≤ words_on old cells c
  words_fewer c = let a = new_fewer c in omega (arith, a)

some_none : (b : Bool) (k x : ℕ) (o : Option ℕ) → o ≡ Some x → (if is_some o then 0 else if b then 0 else k) ≡ 0
some_none b k x o e = ap (λ p. if is_some p then 0 else if b then 0 else k) e

-- a term that a cell stands for is put by no word
pub cell_zero : (words cells : List ℕ) (t : Term) (p : ℕ) → cell_for cells t ≡ Some p → term_words words cells t ≡ 0
cell_zero words cells t p e = some_none (has_place words t) (literal_words t + column_words t) p (cell_for cells t) e

zero_by : (o : Option ℕ) (b : Bool) (k : ℕ) → b ≡ true → (if is_some o then 0 else if b then 0 else k) ≡ 0
zero_by (Some x) b k e = refl
zero_by None true k e = refl
zero_by None false k e = absurd (false≢true e)

-- nor is one that has a place
pub placed_zero : (words cells : List ℕ) (t : Term) → has_place words t ≡ true → term_words words cells t ≡ 0
placed_zero words cells t e = zero_by (cell_for cells t) (has_place words t) (literal_words t + column_words t) e

-- a term that is put where no cell stands for it, m words before and n after
module _ (m n : ℕ) where
  made_by : {E : Type 0} (o : Option ℕ) (b : Bool) (k : ℕ) (r : Result ℕ E) → o ≡ None → (b ≡ true → IsOk r × (n ≡ m)) → n + charge (is_err r) ≤ m + k → n + charge (is_err r) ≤ m + (if is_some o then 0 else if b then 0 else k)
  made_by (Some x) b k r e same most = absurd (none-some x (sym e))
  made_by None true k (Ok p) e same most = let s = (same refl).1 in omega (arith, s)
  made_by None true k (Err x) e same most = absurd (false≢true (same refl).0)
  made_by None false k r e same most = most

  pub term_made : {E : Type 0} (words cells : List ℕ) (t : Term) (r : Result ℕ E) → cell_for cells t ≡ None → (has_place words t ≡ true → IsOk r × (n ≡ m))
      → n + charge (is_err r) ≤ m + (literal_words t + column_words t) → n + charge (is_err r) ≤ m + term_words words cells t
  term_made words cells t r e same most = made_by (cell_for cells t) (has_place words t) (literal_words t + column_words t) r e same most

-- what holds in any case holds where there is a value
pub on_ok : {E P : Type 0} (r : Result ℕ E) → P → OnOk r P
on_ok (Ok x) p = p
on_ok (Err x) p = tt
