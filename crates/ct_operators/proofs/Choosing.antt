-- Predicates on the rows of a table.
use Rattle.std.proofs.Common.{◌≡◌, ℕ, ◌+◌, ◌<◌, Bool, true, false, List, length, subst, refl, ap, sym, ◌∙◌, arith, inl, inr}
use Rattle.std.{specs.Prelude.{Option, is_some, if◌then◌else◌}, proofs.lemmas.Option.slice_get-get_or}
use Rattle.ct_word.{specs.declared.values.Term.Term, specs.Condition.{Condition, Conditions, True, False, Same, Not, And, Or, none, also}}
use Rattle.ct_query.{specs.Bounds.{literal_words, over_equalities, over_all_equalities, ops}, specs.Fits.{IsColumnBelow, AreColumnsBelow, AreAllColumnsBelow}}
use Rattle.ct_condition.{specs.Terms.{IsNamed, IsNamedInSome}, specs.Places.{has_place, new_literal_words, new_terms}}
use Rattle.ct_condition.specs.Rows.{term_words, new_words, words_on}
use Rattle.ct_word.specs.declared.values.Term.TheVariants as term

either_way : (b : Bool) (n : ℕ) → (if b then n else n) ≡ n
either_way true n = refl
either_way false n = refl

module _ (words cells : List ℕ) where
  term_on_cells : (t : Term) → IsColumnBelow (length cells) t → term_words words cells t ≡ new_literal_words words t
  term_on_cells (term.Column k) lt =
      ap (λ (o : Option ℕ). if is_some o then 0 else if has_place words (term.Column k) then 0 else 1) (slice_get-get_or cells k 0 lt) ∙ sym (either_way (has_place words (term.Column k)) 0)
  term_on_cells (term.Null u) below =
      let n : literal_words (term.Null u) + 0 ≡ literal_words (term.Null u) = omega arith in
      ap (λ k. if has_place words (term.Null u) then 0 else k) n
  term_on_cells (term.Value x) below =
      let n : literal_words (term.Value x) + 0 ≡ literal_words (term.Value x) = omega arith in
      ap (λ k. if has_place words (term.Value x) then 0 else k) n

  abbrev on_cells_of : Term → Term → ℕ
  on_cells_of s t = term_words words cells s + term_words words cells t

  abbrev literals_of : Term → Term → ℕ
  literals_of s t = new_literal_words words s + new_literal_words words t

  mutual
    equalities_on_cells : (c : Condition) → AreColumnsBelow (length cells) c → over_equalities on_cells_of c ≡ over_equalities literals_of c
    equalities_on_cells True below = refl
    equalities_on_cells False below = refl
    equalities_on_cells (Same s t) below = λ i. term_on_cells s below.0 i + term_on_cells t below.1 i
    equalities_on_cells (Not c) below = equalities_on_cells c below
    equalities_on_cells (And cs) below = all_equalities_on_cells cs below
    equalities_on_cells (Or cs) below = all_equalities_on_cells cs below

    all_equalities_on_cells : (cs : Conditions) → AreAllColumnsBelow (length cells) cs → over_all_equalities on_cells_of cs ≡ over_all_equalities literals_of cs
    all_equalities_on_cells none below = refl
    all_equalities_on_cells (also c cs) below = λ i. equalities_on_cells c below.0 i + all_equalities_on_cells cs below.1 i

  -- so a condition on the row has no words of columns
  pub new_on_cells : (slice : List ℕ) (c : Condition) → slice ≡ cells → AreColumnsBelow (length cells) c → new_words words slice c ≡ new_terms words c
  new_on_cells slice c is below = ap (λ s. new_words words s c) is ∙ equalities_on_cells c below

  pub words_on_cells : (slice : List ℕ) (c : Condition) → slice ≡ cells → AreColumnsBelow (length cells) c → words_on words slice c ≡ new_terms words c + ops c
  words_on_cells slice c is below = ap (λ n. n + ops c) (new_on_cells slice c is below)

-- a column that a condition names is below the row's end, where its columns are
side_below : (n : ℕ) (s : Term) (k : ℕ) → IsColumnBelow n s → term.Column k ≡ s → k < n
side_below n s k below e = subst (IsColumnBelow n) (sym e) below

mutual
  pub named_below : (n : ℕ) (c : Condition) (k : ℕ) → AreColumnsBelow n c → IsNamed c (term.Column k) → k < n
  named_below n True k below h = elim h [ ]
  named_below n False k below h = elim h [ ]
  named_below n (Same s t) k below (inl e) = side_below n s k below.0 e
  named_below n (Same s t) k below (inr e) = side_below n t k below.1 e
  named_below n (Not c) k below h = named_below n c k below h
  named_below n (And cs) k below h = some_named_below n cs k below h
  named_below n (Or cs) k below h = some_named_below n cs k below h

  some_named_below : (n : ℕ) (cs : Conditions) (k : ℕ) → AreAllColumnsBelow n cs → IsNamedInSome cs (term.Column k) → k < n
  some_named_below n none k below h = elim h [ ]
  some_named_below n (also c cs) k below (inl h) = named_below n c k below.0 h
  some_named_below n (also c cs) k below (inr h) = some_named_below n cs k below.1 h
