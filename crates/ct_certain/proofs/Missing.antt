-- The root of the question whether a tuple is missing, by what `except` leaves of it.
use Rattle.std.proofs.Common.{◌≡◌, ◌≤◌, ℕ, Bool, true, false, ◌&&◌, ◌||◌, List, [], ◌∷◌, map, length, refl, ap, sym, ◌∙◌, arith, if◌then◌else◌}
use Rattle.std.specs.Prelude.{filter}
use Rattle.ct_word.{specs.declared.values.Value.Value, specs.declared.values.CRow.CRow, specs.Value.{World, tuple_at}, specs.Condition.holds_at}
use Rattle.ct_word.{specs.Reading.{as_term, condition_at, term_at, plain_crow}, specs.Sublist.{IsSublist, ended, left_out, taken}, proofs.Alike.tuple_decides}
use Rattle.ct_query.specs.Database.{has_tuple, SameSet}
use Rattle.ct_operators.{specs.Tables.{value_of_rows, cells_of}, specs.Building.HoldsWhere}
use Rattle.ct_certain.specs.Missing.{AreOfTuple, condition_of}
use Rattle.ct_word.specs.declared.values.Term.TheVariants as term

terms_of : (words : List ℕ) (xs : List Value) (ps : List ℕ) → AreOfTuple words xs ps → map (term_at words) ps ≡ map (λ x. term.Value x) xs
terms_of words [] [] are = refl
terms_of words (x ∷ xs) (p ∷ ps) are = λ i. as_term (are.0.stands i) ∷ terms_of words xs ps are.1 i
terms_of words [] (p ∷ ps) are = elim are [ ]
terms_of words (x ∷ xs) [] are = elim are [ ]

worth_of_values : (v : World) (xs : List Value) → tuple_at v (map (λ x. term.Value x) xs) ≡ xs
worth_of_values v [] = refl
worth_of_values v (x ∷ xs) = ap (λ l. x ∷ l) (worth_of_values v xs)

-- what one row is worth
abbrev pub one_or_none : Bool → List Value → List (List Value)
one_or_none b t = if b then t ∷ [] else []

pub one_row : (v : World) (words : List ℕ) (r : CRow) → value_of_rows words v (r ∷ []) ≡ one_or_none (holds_at v (condition_at words r.cond)) (tuple_at v (map (term_at words) r.cells))
one_row v words r = by (holds_at v (condition_at words r.cond)) where
  by : (b : Bool) → map (λ p. tuple_at v p.cells) (if b then plain_crow words r ∷ [] else []) ≡ one_or_none b (tuple_at v (map (term_at words) r.cells))
  by true = refl
  by false = refl

has_one : (b : Bool) (t : List Value) → has_tuple (one_or_none b t) t ≡ b
has_one true t = ap (λ b. b || false) ((tuple_decides t t).1 refl)
has_one false t = refl

filter_one : (p : List Value → Bool) (b : Bool) (t : List Value) → has_tuple (filter p (one_or_none b t)) t ≡ (b && p t)
filter_one p true t = has_one (p t) t
filter_one p false t = refl

sublist_length : {A : Type 0} {xs ys : List A} → IsSublist xs ys → length xs ≤ length ys
sublist_length ended = omega arith
sublist_length (left_out s) = let h = sublist_length s in omega (arith, h)
sublist_length (taken s) = let h = sublist_length s in omega (arith, h)

sole_cells : {A : Type 0} {x y : A} → IsSublist (x ∷ []) (y ∷ []) → x ≡ y
sole_cells (taken s) = refl
sole_cells (left_out s) = absurd (let h = sublist_length s in omega (arith, h))

-- what is left of one row, where a test passes its tuple
module _ (mid new : List ℕ) (cells : List ℕ) (global : ℕ) (tuple : List Value) (test : World → List Value → Bool)
    (worth : (v : World) → tuple_at v (map (term_at mid) cells) ≡ tuple) where
  kept_test : (v : World) → has_tuple (filter (test v) (value_of_rows mid v (record { cells = cells; cond = global } ∷ []))) tuple ≡ (holds_at v (condition_at mid global) && test v tuple)
  kept_test v =
      ap (λ l. has_tuple (filter (test v) l) tuple) (one_row v mid (record { cells = cells; cond = global }) ∙ ap (one_or_none (holds_at v (condition_at mid global))) (worth v))
      ∙ filter_one (test v) (holds_at v (condition_at mid global)) tuple

  pub left_truth : (out : List CRow) → HoldsWhere new 1 (λ v. false) → IsSublist (cells_of new out) (cells_of mid (record { cells = cells; cond = global } ∷ []))
      → ((v : World) → SameSet (value_of_rows new v out) (filter (test v) (value_of_rows mid v (record { cells = cells; cond = global } ∷ []))))
      → (v : World) → holds_at v (condition_at new (condition_of out)) ≡ (holds_at v (condition_at mid global) && test v tuple)
  left_truth [] never part same v = never.holds v ∙ same v tuple ∙ kept_test v
  left_truth (r ∷ []) never part same v =
      let is : tuple_at v (map (term_at new) r.cells) ≡ tuple = ap (tuple_at v) (sole_cells part) ∙ worth v in
      sym (has_one (holds_at v (condition_at new r.cond)) tuple)
      ∙ sym (ap (λ l. has_tuple l tuple) (one_row v new r ∙ ap (one_or_none (holds_at v (condition_at new r.cond))) is))
      ∙ same v tuple ∙ kept_test v
  left_truth (r ∷ s ∷ out) never part same v = absurd (let h = sublist_length part in omega (arith, h))

pub tuple_worth : (words : List ℕ) (xs : List Value) (ps : List ℕ) → AreOfTuple words xs ps → (v : World) → tuple_at v (map (term_at words) ps) ≡ xs
tuple_worth words xs ps are v = ap (tuple_at v) (terms_of words xs ps are) ∙ worth_of_values v xs
