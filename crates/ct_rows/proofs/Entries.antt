-- Rows found by their cells, and conditions put at cells.
use Rattle.std.proofs.Common.{◌≡◌, ◌≢◌, ℕ, zero, suc, ◌<◌, Bool, true, false, List, [], ◌∷◌, ◌++◌, Option, None, Some, cond, length, get_or, set, refl, ap, sym, ◌∙◌, arith}
use Rattle.std.{specs.Prelude.{slice_get, if◌then◌else◌}, specs.Map.keys_of, proofs.lemmas.Bool.false≢true, proofs.lemmas.Option.get_or_from_slice_get}
use Rattle.ct_word.{specs.Value.same_text, proofs.Alike.text_decides}
use Rattle.ct_rows.{specs.Entries.{find, put}, specs.Links.IsFirst}

module _ (k : List ℕ) (c : ℕ) (e : List ℕ × ℕ) (es : List (List ℕ × ℕ)) where
  pub put_hit : same_text k e.0 ≡ true → put (e ∷ es) k c ≡ (e.0, c) ∷ es
  put_hit p = ap (λ b. if b then (e.0, c) ∷ es else e ∷ put es k c) p

  pub put_miss : same_text k e.0 ≡ false → put (e ∷ es) k c ≡ e ∷ put es k c
  put_miss p = ap (λ b. if b then (e.0, c) ∷ es else e ∷ put es k c) p

module _ (k : List ℕ) (e : List ℕ × ℕ) (es : List (List ℕ × ℕ)) where
  pub find_hit : same_text k e.0 ≡ true → find k (e ∷ es) ≡ Some e.1
  find_hit p = ap (λ b. cond b (Some e.1) (find k es)) p

  pub find_miss : same_text k e.0 ≡ false → find k (e ∷ es) ≡ find k es
  find_miss p = ap (λ b. cond b (Some e.1) (find k es)) p

pub same_self : (k : List ℕ) → same_text k k ≡ true
same_self k = (text_decides k k).1 refl

pub unlike : (a b : List ℕ) → b ≢ a → same_text a b ≡ false
unlike a b differ = by_test (same_text a b) refl where
  by_test : (r : Bool) → same_text a b ≡ r → same_text a b ≡ false
  by_test false p = p
  by_test true p = absurd (differ (sym ((text_decides a b).0 p)))

pub none_some : {A : Type 0} (c : ℕ) (o : Option ℕ) → o ≡ None → o ≡ Some c → A
none_some c o n s = let bad : None ≡ Some c = sym n ∙ s in absurd (none_is_not c bad) where
  none_is_not : (c : ℕ) → None ≡ Some c → ⊥
  none_is_not c e = cc

-- cells that are not among those of the entries
module _ (k : List ℕ) (p : List ℕ × ℕ) (ps : List (List ℕ × ℕ)) (none : find k (p ∷ ps) ≡ None) where
  pub not_first : same_text k p.0 ≡ false
  not_first = by_test (same_text k p.0) refl where
    by_test : (b : Bool) → same_text k p.0 ≡ b → same_text k p.0 ≡ false
    by_test true e = none_some p.1 (find k (p ∷ ps)) none (find_hit k p ps e)
    by_test false e = e

  pub not_later : find k ps ≡ None
  not_later = sym (find_miss k p ps not_first) ∙ none

-- new cells get a row of their own, which stands last
pub entry_last : (k : List ℕ) (c : ℕ) (es : List (List ℕ × ℕ)) → find k es ≡ None → put es k c ≡ es ++ (k, c) ∷ []
entry_last k c [] none = refl
entry_last k c (e ∷ es) none = put_miss k c e es (not_first k e es none) ∙ ap (λ l. e ∷ l) (entry_last k c es (not_later k e es none))

-- cells that are found nowhere stand at no place, and the other way round
pub nowhere : (k : List ℕ) (es : List (List ℕ × ℕ)) (p : ℕ) (d : List ℕ) → find k es ≡ None → p < length es → get_or (keys_of es) p d ≢ k
nowhere k [] p d none lt = absurd (omega arith)
nowhere k (e ∷ es) zero d none lt = λ same. false≢true (sym (not_first k e es none) ∙ (text_decides k e.0).1 (sym same))
nowhere k (e ∷ es) (suc p) d none lt = nowhere k es p d (not_later k e es none) (omega arith)

pub find_none : (k : List ℕ) (es : List (List ℕ × ℕ)) → ((p : ℕ) → p < length es → get_or (keys_of es) p [] ≢ k) → find k es ≡ None
find_none k [] none = refl
find_none k (e ∷ es) none = find_miss k e es (unlike k e.0 (none 0 (omega arith))) ∙ find_none k es (λ p lt. none (suc p) (omega arith))

-- the row that has the cells first
is_next : (k : List ℕ) (e : List ℕ × ℕ) (es : List (List ℕ × ℕ)) (p : ℕ) → IsFirst (e ∷ es) k (suc p) → IsFirst es k p
is_next k e es p first = record { within = omega (arith, first.within); stands = first.stands; first = λ q lt. first.first (suc q) (omega arith) }

pub find_first : (k : List ℕ) (es : List (List ℕ × ℕ)) (p : ℕ) (row : List ℕ) (c : ℕ) → IsFirst es k p → slice_get es p ≡ Some (row, c) → find k es ≡ Some c
find_first k es p row c first there = found k es p first ∙ ap (λ (e : List ℕ × ℕ). Some e.1) (get_or_from_slice_get es p (row, c) (row, c) there) where
  found : (k : List ℕ) (es : List (List ℕ × ℕ)) (p : ℕ) → IsFirst es k p → find k es ≡ Some (get_or es p (row, c)).1
  found k [] p first = absurd (omega (arith, first.within))
  found k (e ∷ es) zero first = find_hit k e es ((text_decides k e.0).1 (sym first.stands))
  found k (e ∷ es) (suc p) first = find_miss k e es (unlike k e.0 (first.first 0 (omega arith))) ∙ found k es p (is_next k e es p first)

pub put_first : (k : List ℕ) (c : ℕ) (es : List (List ℕ × ℕ)) (p : ℕ) → IsFirst es k p → set es p (k, c) ≡ put es k c
put_first k c [] p first = absurd (omega (arith, first.within))
put_first k c (e ∷ es) zero first = sym (put_hit k c e es ((text_decides k e.0).1 (sym first.stands)) ∙ ap (λ x. (x, c) ∷ es) first.stands)
put_first k c (e ∷ es) (suc p) first =
    ap (λ l. e ∷ l) (put_first k c es p (is_next k e es p first)) ∙ sym (put_miss k c e es (unlike k e.0 (first.first 0 (omega arith))))
