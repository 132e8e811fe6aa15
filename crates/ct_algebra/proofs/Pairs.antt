-- The condition of a pair of rows.
use Rattle.std.proofs.Common.{◌≡◌, ◌≢◌, ℕ, ◌+◌, ◌≤◌, ◌<◌, Bool, true, false, ◌&&◌, List, [], ◌∷◌, ◌++◌, map, length, refl, ap, sym, subst, ◌∙◌, arith, inl, inr}
use Rattle.std.specs.Prelude.{Result, Ok, Err, IfOk, IsTrue}
use Rattle.std.proofs.lemmas.Bool.{and_right}
use Rattle.std.proofs.lemmas.List.{map-append, length-append}
use Rattle.ct_word.{specs.declared.values.CRow.CRow}
use Rattle.ct_word.{specs.Value.{World, at, tuple_at}, specs.Condition.{Condition, True, False, Same, Not, And, Or, holds, holds_at}, specs.WellFormed.{IsWellFormed, is_place_of}}
use Rattle.ct_word.{specs.Reading.{term_at, condition_at}, proofs.Prefixes.{place_within}}
use Rattle.ct_arena.specs.Counts.{opening}
use Rattle.ct_query.{specs.declared.query.Pred.Pred, specs.Pred.condition_of, specs.Bounds.ops, specs.Fits.FitsRows}
use Rattle.ct_condition.{specs.Truth.{HasTruth, and_at}, specs.Rows.{on_row, words_on}, specs.Places.new_terms, proofs.OnRows.on_cells}
use Rattle.ct_condition.specs.Terms.{TermsFrom, BelowEither, BelowSome, IsNamed, IsOnRow}
use Rattle.ct_operators.{specs.Building.HoldsWhere, specs.Tables.{IsRow}, proofs.Choosing.{words_on_cells, named_below}}
use Rattle.ct_operators.proofs.Holding.{holds_as, holds_itself, holds_later, holds_false, holds_and}
use Rattle.ct_operators.proofs.Reaching.{foremost, behind, some_among, from_two, from_later, no_cell_no_column}
use Rattle.ct_algebra.specs.Joining.{pair_tuple, pair_holds, pair_words, TermOfPair, ShownBeside, as_it_is, with_both}
use mathlib.Core.List.{IsPrefix}
use Rattle.ct_word.specs.declared.kinds.Class.TheVariants as class
use Rattle.ct_query.specs.declared.query.Pred.TheVariants as pred

-- the words of a pair
pub pair_words_within : (c : Condition) → pair_words c ≤ ops c + 2
pair_words_within True = omega arith
pair_words_within False = omega arith
pair_words_within (Same s t) = omega arith
pair_words_within (Not c) = omega arith
pair_words_within (And cs) = omega arith
pair_words_within (Or cs) = omega arith

pub other_words : (p : Pred) → p ≢ pred.True → ops (condition_of p) + 2 ≡ pair_words (condition_of p)
other_words pred.True no' = absurd (no' refl)
other_words pred.False no' = refl
other_words (pred.Same s t) no' = refl
other_words (pred.Not' shape c) no' = refl
other_words (pred.And' shape cs) no' = refl
other_words (pred.Or' shape cs) no' = refl

-- what the cells of a pair are worth
pub pair_tuple_is : (ws : List ℕ) (v : World) (l r : List ℕ) → tuple_at v (map (term_at ws) (l ++ r)) ≡ pair_tuple ws v l r
pair_tuple_is ws v l r = ap (tuple_at v) (map-append (term_at ws) l r) ∙ map-append (at v []) (map (term_at ws) l) (map (term_at ws) r)

-- two facts of a result as one
pub both_ok : {T E : Type 0} (r : Result T E) (P Q R : T → Type 0) → ((x : T) → P x → Q x → R x) → IfOk r P → IfOk r Q → IfOk r R
both_ok (Ok x) P Q R f p q = f x p q
both_ok (Err e) P Q R f p q = tt

-- a pair for which the condition never holds
pub pair_never : (ws now : List ℕ) (c : Condition) (l r : CRow) → IsPrefix opening now → IsWellFormed now → ((v : World) → holds v (pair_tuple ws v l.cells r.cells) c ≡ false)
    → HoldsWhere now 1 (pair_holds ws c l r)
pair_never ws now c l r begins formed never =
    holds_as now 1 (λ v. false) (pair_holds ws c l r)
    (λ v. sym (and_right (holds_at v (condition_at ws l.cond) && holds_at v (condition_at ws r.cond)) (holds v (pair_tuple ws v l.cells r.cells) c) (never v))) (holds_false now begins formed)

and_true : (b : Bool) → b ≡ (b && true)
and_true true = refl
and_true false = refl

module _ (old : List ℕ) (c : Condition) (l r : CRow) (left : IsRow old (length l.cells) l) (right : IsRow old (length r.cells) r) (formed : IsWellFormed old) where
  -- a pair of which nothing is asked
  pub both_hold : (new : List ℕ) (place : ℕ) → c ≡ True → HasTruth new place (and_at old l.cond r.cond) → HoldsWhere new place (pair_holds old c l r)
  both_hold new place e h = record {
    class = h.class;
    holds = λ v. h.truth_is v [] ∙ and_true (holds_at v (condition_at old l.cond) && holds_at v (condition_at old r.cond))
        ∙ ap (λ d. (holds_at v (condition_at old l.cond) && holds_at v (condition_at old r.cond)) && holds v (pair_tuple old v l.cells r.cells) d) (sym e);
  }

  left_from : TermsFrom old l.cond (TermOfPair old c l r)
  left_from t h = inl (record { place = l.cond; among = foremost l.cond (r.cond ∷ (l.cells ++ r.cells)); below = h })

  right_from : TermsFrom old r.cond (TermOfPair old c l r)
  right_from t h = inl (record { place = r.cond; among = behind l.cond (r.cond ∷ (l.cells ++ r.cells)) r.cond (foremost r.cond (l.cells ++ r.cells)); below = h })

  -- the terms of both conditions
  pub both_from : (now new : List ℕ) (place : ℕ) → IsPrefix old now → TermsFrom new place (BelowEither now l.cond r.cond) → TermsFrom new place (TermOfPair old c l r)
  both_from now new place grown =
      from_two now new l.cond r.cond place (TermOfPair old c l r)
      (from_later old now grown formed l.cond (TermOfPair old c l r) (place_within old class.Cond l.cond left.condition) left_from)
      (from_later old now grown formed r.cond (TermOfPair old c l r) (place_within old class.Cond r.cond right.condition) right_from)

  module _ (fits : FitsRows (length l.cells + length r.cells) c) (cells : List ℕ) (is : cells ≡ l.cells ++ r.cells) where
    long : length cells ≡ length l.cells + length r.cells
    long = ap (λ ps. length ps) is ∙ length-append l.cells r.cells

    -- the predicate put on the cells
    pub pred_holds : (mid : List ℕ) (place : ℕ) → HasTruth mid place (on_row old c cells) → HoldsWhere mid place (λ v. holds v (pair_tuple old v l.cells r.cells) c)
    pred_holds mid place h = record {
      class = h.class;
      holds = λ v. h.truth_is v [] ∙ on_cells old c cells v ∙ ap (λ ps. holds v (tuple_at v (map (term_at old) ps)) c) is ∙ ap (λ ts. holds v ts c) (pair_tuple_is old v l.cells r.cells);
    }

    pub pred_from : (mid : List ℕ) (place : ℕ) → TermsFrom mid place (IsOnRow old cells c) → TermsFrom mid place (TermOfPair old c l r)
    pred_from mid place from t h = elim (from t h) [
      | inl b ↦
          inl (some_among old (l.cells ++ r.cells) (l.cond ∷ r.cond ∷ (l.cells ++ r.cells)) t
          (λ p i. behind l.cond (r.cond ∷ (l.cells ++ r.cells)) p (behind r.cond (l.cells ++ r.cells) p i)) (subst (λ ps. BelowSome old ps t) is b))
      | inr y ↦
          inr (y.0, no_cell_no_column cells t y.1 (λ k q. subst (λ n. k < n) (sym long) (named_below (length l.cells + length r.cells) c k fits.columns (subst (IsNamed c) q y.0))))
    ]

    -- where it comes to the word false
    pub false_holds : (mid : List ℕ) (place : ℕ) → IsPrefix opening mid → IsWellFormed mid → place ≡ 1 → HasTruth mid place (on_row old c cells) → HoldsWhere mid place (pair_holds old c l r)
    false_holds mid place begins mid_formed e h =
        let never = holds_false mid begins mid_formed in
        subst (λ p. HoldsWhere mid p (pair_holds old c l r)) (sym e)
        (pair_never old mid c l r begins mid_formed (λ v. sym ((pred_holds mid place h).holds v) ∙ ap (λ p. holds_at v (condition_at mid p)) e ∙ never.holds v))

    -- all three
    pub all_hold : (mid last new : List ℕ) (put both place : ℕ) → IsPrefix old mid → IsPrefix mid last → HasTruth mid put (on_row old c cells) → HasTruth last both (and_at mid l.cond r.cond)
        → HasTruth new place (and_at last both put) → HoldsWhere new place (pair_holds old c l r)
    all_hold mid last new put both place grown longer h g f =
        holds_and last new both put place (λ v. holds_at v (condition_at old l.cond) && holds_at v (condition_at old r.cond)) (λ v. holds v (pair_tuple old v l.cells r.cells) c)
        (holds_and mid last l.cond r.cond both (λ v. holds_at v (condition_at old l.cond)) (λ v. holds_at v (condition_at old r.cond))
        (holds_later old mid l.cond (λ v. holds_at v (condition_at old l.cond)) grown (holds_itself old l.cond left.condition))
        (holds_later old mid r.cond (λ v. holds_at v (condition_at old r.cond)) grown (holds_itself old r.cond right.condition)) g)
        (holds_later mid last put (λ v. holds v (pair_tuple old v l.cells r.cells) c) longer (pred_holds mid put h)) f

    pub all_from : (mid last new : List ℕ) (put both place : ℕ) → IsPrefix old mid → IsPrefix mid last → IsWellFormed mid → IsTrue (is_place_of mid class.Cond put) → TermsFrom mid put (IsOnRow old cells c)
        → TermsFrom last both (BelowEither mid l.cond r.cond) → TermsFrom new place (BelowEither last both put) → TermsFrom new place (TermOfPair old c l r)
    all_from mid last new put both place grown longer mid_formed placed from either =
        from_two last new both put place (TermOfPair old c l r) (both_from mid last both grown either)
        (from_later mid last longer mid_formed put (TermOfPair old c l r) (place_within mid class.Cond put placed) (pred_from mid put from))

    -- the same where a predicate that comes to the word false is left as it is
    pub shown_holds : (mid new : List ℕ) (put place : ℕ) → IsPrefix old mid → IsPrefix opening mid → IsWellFormed mid → HasTruth mid put (on_row old c cells)
        → ShownBeside mid new l.cond r.cond put place → HoldsWhere new place (pair_holds old c l r)
    shown_holds mid new put place grown begins mid_formed h (as_it_is e same) = subst (λ ws. HoldsWhere ws put (pair_holds old c l r)) (sym same) (false_holds mid put begins mid_formed e h)
    shown_holds mid new put place grown begins mid_formed h (with_both last both p longer g from f either) = all_hold mid last new put both place grown longer h g f

    pub shown_from : (mid new : List ℕ) (put place : ℕ) → IsPrefix old mid → IsWellFormed mid → IsTrue (is_place_of mid class.Cond put) → TermsFrom mid put (IsOnRow old cells c)
        → ShownBeside mid new l.cond r.cond put place → TermsFrom new place (TermOfPair old c l r)
    shown_from mid new put place grown mid_formed placed from (as_it_is e same) = subst (λ ws. TermsFrom ws put (TermOfPair old c l r)) (sym same) (pred_from mid put from)
    shown_from mid new put place grown mid_formed placed from (with_both last both p longer g own f either) =
        all_from mid last new put both place grown longer mid_formed placed from own either

-- what the predicate's place costs, where its terms have places
pub pred_words : (ws cells : List ℕ) (c : Condition) → FitsRows (length cells) c → new_terms ws c ≡ 0 → words_on ws cells c ≡ ops c
pred_words ws cells c fits none = words_on_cells ws cells cells c refl fits.columns ∙ omega (arith, none)
