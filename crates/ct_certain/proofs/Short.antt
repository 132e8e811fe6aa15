-- A world cut to the nulls of a row and the global condition still shows the row.
use Rattle.std.proofs.Common.{◌≡◌, ℕ, Bool, true, false, ◌&&◌, ◌||◌, List, [], ◌∷◌, ◌++◌, refl, ap, sym, subst, ◌∙◌, inl, inr}
use Rattle.std.{specs.Prelude.{◌⊎◌, All, IsTrue}, specs.List.Contains, proofs.lemmas.Bool.{and_from, cases_Bool}}
use Rattle.std.proofs.lemmas.List.Elements.{All-contains, All-nil, All-push, All-weaker, Contains-append_left, Contains-append_right}
use Rattle.indexmap.proofs.CallerLemmas.{Contains-list_any}
use Rattle.ct_word.{specs.declared.values.CRow.CRow, specs.declared.values.Value.Value, specs.declared.values.Null.Null, specs.declared.values.Term.Term}
use Rattle.ct_word.{specs.Value.{World, same_null}, specs.Named.{IsNamed, IsNamedInSome}, specs.Reading.condition_at}
use Rattle.ct_word.{specs.Condition.{Condition, Conditions, True, False, Same, Not, And, Or, none, also, holds_at}, specs.Stands.TermBelow}
use Rattle.ct_word.{specs.WellFormed.{IsWellFormed, is_place_of}, proofs.Alike.null_decides, proofs.Items.{first_item, later_item}}
use Rattle.ct_query.specs.Terms.{condition_terms, all_terms}
use Rattle.ct_condition.{specs.Terms.{BelowEither, BelowSome}, proofs.Reached.under_one}
use Rattle.ct_operators.{specs.Terms.TermOfRow, proofs.Naming.condition_reached}
use Rattle.ct_rewrite.{specs.Tidy.IsTidy, specs.declared.answer.PossibleRow.PossibleRow}
use Rattle.ct_tidy.{specs.Nulls.{AreNullsOf, cut_to, has_null}, proofs.Parts.{kept_all, part_gives, part_tidy}}
use Rattle.ct_certain.specs.{Answered.{AreOf, IsFound, IsWithin, IsWithinGlobal}, Own.{IsOfTable, IsOwn, IsOwnWorld, IsShownBy}, declared.pool.Known.Known}
use Rattle.ct_certain.{specs.Possible.{is_shown, shown_row}, proofs.Agreed.truth_agreed}
use Rattle.ct_word.specs.declared.kinds.Class.TheVariants as class
use Rattle.ct_word.specs.declared.values.Term.TheVariants as term

mutual
  named_in : (c : Condition) (t : Term) → IsNamed c t → Contains (condition_terms c) t
  named_in True t h = absurd h
  named_in False t h = absurd h
  named_in (Same s u) t (inl e) = subst (Contains (s ∷ u ∷ [])) (sym e) (first_item (u ∷ []) s)
  named_in (Same s u) t (inr e) = subst (Contains (s ∷ u ∷ [])) (sym e) (later_item (u ∷ []) s u (first_item [] u))
  named_in (Not c) t h = named_in c t h
  named_in (And cs) t h = named_in_some cs t h
  named_in (Or cs) t h = named_in_some cs t h

  named_in_some : (cs : Conditions) (t : Term) → IsNamedInSome cs t → Contains (all_terms cs) t
  named_in_some none t h = absurd h
  named_in_some (also c cs) t (inl h) = Contains-append_left (condition_terms c) (all_terms cs) t (named_in c t h)
  named_in_some (also c cs) t (inr h) = Contains-append_right (condition_terms c) (all_terms cs) t (named_in_some cs t h)

either_true : (a b : Bool) → b ≡ true → (a || b) ≡ true
either_true true b e = refl
either_true false b e = e

module _ (words : List ℕ) (ms ns : List Null) where
  abbrev kept : Null → Bool
  kept n = has_null ms n || has_null ns n

  module _ (formed : IsWellFormed words) where
    pub truth_kept : (v : World) (c : ℕ) → IsTrue (is_place_of words class.Cond c) → ((n : Null) → TermBelow words c (term.Null n) → kept n ≡ true) → holds_at (cut_to ms ns v) (condition_at words c) ≡ holds_at v (condition_at words c)
    truth_kept v c is all = truth_agreed (cut_to ms ns v) v [] (condition_at words c)
        (λ n h. part_gives kept v n (all n (condition_reached words formed c (term.Null n) is (named_in (condition_at words c) (term.Null n) h))))

  module _ (P Q : Term → Type 0) (first : AreNullsOf P ms) (second : AreNullsOf Q ns) where
    pub of_first : (n : Null) → P (term.Null n) → kept n ≡ true
    of_first n h = ap (λ b. b || has_null ns n) (first.all n h)

    of_second : (n : Null) → Q (term.Null n) → kept n ≡ true
    of_second n h = either_true (has_null ms n) (has_null ns n) (second.all n h)

    source : (p : Null × Value) → kept p.0 ≡ true → P (term.Null p.0) ⊎ Q (term.Null p.0)
    source p k = elim (cases_Bool (has_null ms p.0)) [
      | inl m ↦ inl (All-contains (λ n. P (term.Null n)) ms p.0 first.each (Contains-list_any same_null (λ x y. (null_decides x y).0) ms p.0 m))
      | inr f ↦ inr (All-contains (λ n. Q (term.Null n)) ns p.0 second.each (Contains-list_any same_null (λ x y. (null_decides x y).0) ns p.0 (sym (ap (λ b. b || has_null ns p.0) f) ∙ k)))
    ]

    -- each null of the part has one of the sources
    pub sources : (v : World) → All (λ p. P (term.Null p.0) ⊎ Q (term.Null p.0)) (cut_to ms ns v)
    sources v = kept_all (λ p. P (term.Null p.0) ⊎ Q (term.Null p.0)) (λ p. kept p.0) source v

module _ (words : List ℕ) (formed : IsWellFormed words) (global : ℕ) (r : CRow) (are : AreOf words global r) (ms ns : List Null) (below : AreNullsOf (TermBelow words global) ms) where
  shown_kept : (v : World) → ((n : Null) → TermBelow words r.cond (term.Null n) → kept words ms ns n ≡ true) → IsTrue (is_shown words global r v) → IsTrue (is_shown words global r (cut_to ms ns v))
  shown_kept v of_row shown =
      (λ i. truth_kept words ms ns formed v global are.global_is (λ n h. ap (λ b. b || has_null ns n) (below.all n h)) i && truth_kept words ms ns formed v r.cond are.condition of_row i) ∙ shown

  -- a world cut to the nulls of the global condition and the row
  pub cut_shows : AreNullsOf (TermOfRow words r) ns → (v : World) → IsTidy v → IsTrue (is_shown words global r v) → IsShownBy words global r (cut_to ms ns v)
  cut_shows own v tidy shown = record {
    tidy = part_tidy (kept words ms ns) v tidy;
    shown = shown_kept v (λ n h. of_second words ms ns (TermBelow words global) (TermOfRow words r) below own n (record { place = r.cond; among = first_item r.cells r.cond; below = h })) shown;
    own = All-weaker (λ p. TermBelow words global (term.Null p.0) ⊎ TermOfRow words r (term.Null p.0)) (λ p. IsOfTable words global (r ∷ []) (term.Null p.0)) (λ p h. of_row h) (cut_to ms ns v)
        (sources words ms ns (TermBelow words global) (TermOfRow words r) below own v);
  } where
    of_row : {t : Term} → TermBelow words global t ⊎ TermOfRow words r t → IsOfTable words global (r ∷ []) t
    of_row (inl a) = inl a
    of_row (inr b) = inr (record { row = r; among = first_item [] r; below = b })

pub no_nulls : AreNullsOf (λ t. ⊥) []
no_nulls = record { each = All-nil (λ n. ⊥); all = λ n h. absurd h }

-- a world cut to the nulls of the global condition
module _ (words : List ℕ) (global : ℕ) (ms : List Null) (below : AreNullsOf (TermBelow words global) ms) (v : World) where
  pub cut_within : IsWithin words global (cut_to ms [] v)
  cut_within = All-weaker (λ p. TermBelow words global (term.Null p.0) ⊎ ⊥) (λ p. TermBelow words global (term.Null p.0)) (λ p h. elim h [ inl a ↦ a | inr b ↦ absurd b ]) (cut_to ms [] v)
      (sources words ms [] (TermBelow words global) (λ t. ⊥) below no_nulls v)

pub cut_tidy : (words : List ℕ) (ms ns : List Null) (v : World) → IsTidy v → IsTidy (cut_to ms ns v)
cut_tidy words ms ns v tidy = part_tidy (kept words ms ns) v tidy

-- what stands below the global condition or a row's
pub either_of_table : (words : List ℕ) (global : ℕ) (r : CRow) (t : Term) → BelowEither words global r.cond t → IsOfTable words global (r ∷ []) t
either_of_table words global r t (inl a) = inl a
either_of_table words global r t (inr b) = inr (record { row = r; among = first_item [] r; below = record { place = r.cond; among = first_item r.cells r.cond; below = b } })

-- a row needs all of a world that was found for its condition
pub found_shows : (words : List ℕ) (global : ℕ) (r : CRow) (v : World) → IsFound words global r.cond v → IsShownBy words global r v
found_shows words global r v is = record {
  tidy = is.tidy;
  shown = is.holds;
  own = All-weaker (λ p. BelowEither words global r.cond (term.Null p.0)) (λ p. IsOfTable words global (r ∷ []) (term.Null p.0)) (λ p. either_of_table words global r (term.Null p.0)) v is.own;
}

-- and of one whose nulls stand below the global condition
pub near_shows : (words : List ℕ) (global : ℕ) (r : CRow) (k : Known) → IsWithinGlobal words global k → IsTrue (holds_at k.world (condition_at words r.cond)) → IsShownBy words global r k.world
near_shows words global r k is holds = record {
  tidy = is.known.tidy;
  shown = and_from (holds_at k.world (condition_at words global)) (holds_at k.world (condition_at words r.cond)) is.known.holds holds;
  own = All-weaker (λ p. TermBelow words global (term.Null p.0)) (λ p. IsOfTable words global (r ∷ []) (term.Null p.0)) (λ p h. inl h) k.world is.own;
}

-- the nulls below the only one of some places
pub one_root : (words : List ℕ) (p : ℕ) (ns : List Null) → AreNullsOf (BelowSome words (p ∷ [])) ns → AreNullsOf (TermBelow words p) ns
one_root words p ns are = record {
  each = All-weaker (λ n. BelowSome words (p ∷ []) (term.Null n)) (λ n. TermBelow words p (term.Null n)) (λ n b. under_one words p (term.Null n) b) ns are.each;
  all = λ n h. are.all n (record { place = p; among = first_item [] p; below = h });
}

-- a row listed with a world of its own
pub own_listed : (words : List ℕ) (global : ℕ) (rs : List CRow) (r : CRow) (list : List PossibleRow) (v : World) → Contains rs r → IsOwnWorld words global r v → All (IsOwn words global rs) list → All (IsOwn words global rs) (list ++ shown_row words r v ∷ [])
own_listed words global rs r list v among own all = All-push (IsOwn words global rs) list (shown_row words r v) all (record { row = r; among = among; cells = refl; nulls = own })
