-- What a condition is resolved to fits the rows of the tables in scope.
use Rattle.std.{proofs.Common.{◌≡◌, ◌+◌, ◌<◌, ℕ, suc, Bool, true, false, List, [], ◌∷◌, length, refl, arith}, proofs.lemmas.List.length-append}
use Rattle.std.{proofs.lemmas.List.Elements.{All-nil, All-cons, All-head, All-tail, All-append, All-weaker}, proofs.lemmas.Option.{none-some, same_Some}}
use Rattle.std.specs.Prelude.{All, Option, Some, None, Ok, IfOk, if◌then◌else◌}
use Rattle.ct_word.{specs.declared.values.Term.Term, specs.Value.same_text, specs.Condition.{Condition, listed}}
use Rattle.ct_query.{specs.declared.schema.Heading.Heading, specs.Fields.{FitsFieldsOn, AreAllFittingOn}}
use Rattle.ct_query.specs.Fits.{IsColumnBelow, AreAllColumnsBelow, FitsRows}
use Rattle.ct_parse.{specs.declared.tree.Column.Column, specs.declared.tree.Comparison.Comparison}
use Rattle.ct_parse.specs.declared.tree.Condition.{Condition', Row_of-Conjunction, end_of-Conjunction, more_of-Conjunction}
use Rattle.ct_parse.specs.declared.tree.Factor.{Factor, Row_of-Factor, end_of-Factor, more_of-Factor, more_of-Condition}
use Rattle.ct_resolve.{specs.Found.{Found, and_then, in_front}, specs.Queries.columns_of, proofs.FoundParts.{and_then_has, in_front_has}}
use Rattle.ct_resolve.specs.Names.{may_be_of, own_name, place_from, place_in, position_of, positions_from, only, column_at}
use Rattle.ct_resolve.specs.Conditions.{term_at, compared, comparison_of, negated, and_of, or_of, all_found, any_found, factor_at, factors_at, conjunctions_at, condition_at, condition_or_true}
use Rattle.ct_word.specs.declared.values.Term.TheVariants as term
use Rattle.ct_word.specs.Condition as plain
use Rattle.ct_parse.specs.declared.tree.Comparison.TheVariants as comparison
use Rattle.ct_parse.specs.declared.tree.Condition as tree
use Rattle.ct_parse.specs.declared.tree.Factor as factor
use Rattle.ct_parse.specs.declared.tree.Term as parsed
use Rattle.ct_parse.specs.declared.tree.Term.TheVariants as written

-- how many columns the tables in scope have
abbrev pub width_of : List Heading → ℕ
width_of scope = length (columns_of scope)

-- the place of a column in its table
first_below : (b : Bool) (o : Option ℕ) (k i n : ℕ) → (o ≡ Some i → i < k + 1 + n) → (if b then Some k else o) ≡ Some i → i < k + suc n
first_below true o k i n h e = omega (arith, same_Some k i e)
first_below false o k i n h e = omega (arith, h e)

pub place_from_below : (k : ℕ) (ds : List (List ℕ)) (c : List ℕ) (i : ℕ) → place_from k ds c ≡ Some i → i < k + length ds
place_from_below k [] c i e = absurd (none-some i e)
place_from_below k (d ∷ ds) c i e = first_below (same_text d c) (place_from (k + 1) ds c) k i (length ds) (place_from_below (k + 1) ds c i) e

chosen_below : (b : Bool) (o : Option ℕ) (i n : ℕ) → (o ≡ Some i → i < n) → (if b then o else None) ≡ Some i → i < n
chosen_below true o i n h e = h e
chosen_below false o i n h e = absurd (none-some i e)

place_below : (x : Heading) (c : Column) (i : ℕ) → place_in x c ≡ Some i → i < length x.columns
place_below x c i e =
    chosen_below (may_be_of c x.name) (place_from 0 x.columns (own_name c)) i (length x.columns) (λ f. omega (arith, place_from_below 0 x.columns (own_name c) i f)) e

-- its position among the columns of all tables
position_below : (k n : ℕ) (o : Option ℕ) → ((i : ℕ) → o ≡ Some i → i < n) → All (λ p. p < k + n) (position_of k o)
position_below k n None h = All-nil (λ p. p < k + n)
position_below k n (Some i) h = All-cons (λ p. p < k + n) (k + i) [] (omega (arith, h i refl)) (All-nil (λ p. p < k + n))

positions_below : (k : ℕ) (hs : List Heading) (c : Column) → All (λ p. p < k + width_of hs) (positions_from k hs c)
positions_below k [] c = All-nil (λ p. p < k + 0)
positions_below k (h ∷ hs) c =
    let many = length-append h.columns (columns_of hs) in
    let own = position_of k (place_in h c) in
    let others = positions_from (k + length h.columns) hs c in
    All-append (λ p. p < k + width_of (h ∷ hs)) own others
    (All-weaker (λ p. p < k + length h.columns) (λ p. p < k + width_of (h ∷ hs)) (λ p l. omega (arith, l, many)) own (position_below k (length h.columns) (place_in h c) (place_below h c)))
    (All-weaker (λ p. p < k + length h.columns + width_of hs) (λ p. p < k + width_of (h ∷ hs)) (λ p l. omega (arith, l, many)) others (positions_below (k + length h.columns) hs c))

only_has : (P : ℕ → Type 0) (ps : List ℕ) → All P ps → IfOk (only ps) P
only_has P [] all = tt
only_has P (k ∷ []) all = All-head P k [] all
only_has P (k ∷ l ∷ ls) all = tt

pub column_below : (scope : List Heading) (c : Column) → IfOk (column_at scope c) (λ k. k < width_of scope)
column_below scope c =
    only_has (λ k. k < width_of scope) (positions_from 0 scope c)
    (All-weaker (λ k. k < 0 + width_of scope) (λ k. k < width_of scope) (λ k l. omega (arith, l)) (positions_from 0 scope c) (positions_below 0 scope c))

-- a term that fits rows of so many cells
abbrev pub FitsTerm : ℕ → Term → Type 0
FitsTerm n t = FitsFieldsOn n t × IsColumnBelow n t

pub term_fits : (scope : List Heading) (t : parsed.Term) → IfOk (term_at scope t) (FitsTerm (width_of scope))
term_fits scope (written.Number i) = (tt, tt)
term_fits scope (written.Text t) = (tt, tt)
term_fits scope (written.Null n) = (tt, tt)
term_fits scope (written.Column c) =
    and_then_has (λ k. k < width_of scope) (FitsTerm (width_of scope)) (column_at scope c) (λ k. Ok (term.Column k)) (column_below scope c) (λ k l. (λ m. absurd (omega (arith, l, m)), l))

-- the parts of a condition
module _ (n : ℕ) where
  same_fits : (s t : Term) → FitsTerm n s → FitsTerm n t → FitsRows n (plain.Same s t)
  same_fits s t f g = record { fields = (f.0, g.0); columns = (f.1, g.1) }

  not_fits : (c : Condition) → FitsRows n c → FitsRows n (plain.Not c)
  not_fits c f = record { fields = f.fields; columns = f.columns }

  compared_fits : (o : Comparison) (s t : Term) → FitsTerm n s → FitsTerm n t → FitsRows n (compared o s t)
  compared_fits comparison.Equal s t f g = same_fits s t f g
  compared_fits comparison.Unequal s t f g = not_fits (plain.Same s t) (same_fits s t f g)

  listed_fit : (cs : List Condition) → All (FitsRows n) cs → AreAllFittingOn n (listed cs) × AreAllColumnsBelow n (listed cs)
  listed_fit [] all = (tt, tt)
  listed_fit (c ∷ cs) all =
      let first = All-head (FitsRows n) c cs all in
      let others = listed_fit cs (All-tail (FitsRows n) c cs all) in
      ((first.fields, others.0), (first.columns, others.1))

  and_fits : (cs : List Condition) → All (FitsRows n) cs → FitsRows n (and_of cs)
  and_fits [] all = record { fields = tt; columns = tt }
  and_fits (c ∷ []) all = All-head (FitsRows n) c [] all
  and_fits (c ∷ d ∷ cs) all = let fit = listed_fit (c ∷ d ∷ cs) all in record { fields = fit.0; columns = fit.1 }

  or_fits : (cs : List Condition) → All (FitsRows n) cs → FitsRows n (or_of cs)
  or_fits [] all = record { fields = tt; columns = tt }
  or_fits (c ∷ []) all = All-head (FitsRows n) c [] all
  or_fits (c ∷ d ∷ cs) all = let fit = listed_fit (c ∷ d ∷ cs) all in record { fields = fit.0; columns = fit.1 }

  comparison_fits : (o : Comparison) (s t : Found Term) → IfOk s (FitsTerm n) → IfOk t (FitsTerm n) → IfOk (comparison_of o s t) (FitsRows n)
  comparison_fits o s t f g =
      and_then_has (FitsTerm n) (FitsRows n) s (λ a. and_then t (λ b. Ok (compared o a b))) f
      (λ a fa. and_then_has (FitsTerm n) (FitsRows n) t (λ b. Ok (compared o a b)) g (λ b fb. compared_fits o a b fa fb))

  negated_fits : (m : Found Condition) → IfOk m (FitsRows n) → IfOk (negated m) (FitsRows n)
  negated_fits m f = and_then_has (FitsRows n) (FitsRows n) m (λ d. Ok (plain.Not d)) f not_fits

  pub all_found_fits : (m : Found (List Condition)) → IfOk m (All (FitsRows n)) → IfOk (all_found m) (FitsRows n)
  all_found_fits m f = and_then_has (All (FitsRows n)) (FitsRows n) m (λ ds. Ok (and_of ds)) f and_fits

  any_found_fits : (m : Found (List Condition)) → IfOk m (All (FitsRows n)) → IfOk (any_found m) (FitsRows n)
  any_found_fits m f = and_then_has (All (FitsRows n)) (FitsRows n) m (λ ds. Ok (or_of ds)) f or_fits

module _ (scope : List Heading) where
  mutual
    factor_fits : (f : Factor) → IfOk (factor_at scope f) (FitsRows (width_of scope))
    factor_fits (factor.Not' shape (more_of-Factor f rest)) = negated_fits (width_of scope) (factor_at scope f) (factor_fits f)
    factor_fits (factor.Nested' shape (more_of-Condition c rest)) = condition_fits c
    factor_fits factor.True = record { fields = tt; columns = tt }
    factor_fits factor.False = record { fields = tt; columns = tt }
    factor_fits (factor.Compare s o t) = comparison_fits (width_of scope) o (term_at scope s) (term_at scope t) (term_fits scope s) (term_fits scope t)

    factors_fit : {m : _} (row : Row_of-Factor m) → IfOk (factors_at scope row) (All (FitsRows (width_of scope)))
    factors_fit end_of-Factor = All-nil (FitsRows (width_of scope))
    factors_fit (more_of-Factor f rest) = in_front_has (FitsRows (width_of scope)) (factor_at scope f) (factors_at scope rest) (factor_fits f) (factors_fit rest)

    conjunctions_fit : {m : _} (row : Row_of-Conjunction m) → IfOk (conjunctions_at scope row) (All (FitsRows (width_of scope)))
    conjunctions_fit end_of-Conjunction = All-nil (FitsRows (width_of scope))
    conjunctions_fit (more_of-Conjunction f shape fs rest) =
        let first = in_front (factor_at scope f) (factors_at scope fs) in
        in_front_has (FitsRows (width_of scope)) (all_found first) (conjunctions_at scope rest)
        (all_found_fits (width_of scope) first (in_front_has (FitsRows (width_of scope)) (factor_at scope f) (factors_at scope fs) (factor_fits f) (factors_fit fs)))
        (conjunctions_fit rest)

    pub condition_fits : (c : tree.Condition) → IfOk (condition_at scope c) (FitsRows (width_of scope))
    condition_fits (Condition' f shape fs shapes rest) =
        let first = in_front (factor_at scope f) (factors_at scope fs) in
        any_found_fits (width_of scope) (in_front (all_found first) (conjunctions_at scope rest))
        (in_front_has (FitsRows (width_of scope)) (all_found first) (conjunctions_at scope rest)
        (all_found_fits (width_of scope) first (in_front_has (FitsRows (width_of scope)) (factor_at scope f) (factors_at scope fs) (factor_fits f) (factors_fit fs)))
        (conjunctions_fit rest))

  pub condition_or_true_fits : (c : Option tree.Condition) → IfOk (condition_or_true scope c) (FitsRows (width_of scope))
  condition_or_true_fits None = record { fields = tt; columns = tt }
  condition_or_true_fits (Some c) = condition_fits c
