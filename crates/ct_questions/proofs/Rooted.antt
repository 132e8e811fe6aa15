-- The roots of rows, and what right decisions of them list.
use Rattle.std.proofs.Common.{◌≡◌, ◌<◌, ◌+◌, ℕ, zero, suc, true, false, refl, List, [], ◌∷◌, ◌++◌, get_or, length, map, take, arith, ap, sym, subst, ◌∙◌, inl, inr}
use Rattle.std.{specs.Prelude.{◌⊎◌, All, IsTrue, Option, Some, None}, specs.List.AllZip, proofs.lemmas.List.take_more}
use Rattle.std.proofs.lemmas.{List.Elements.{All-contains, All-weaker}, Slice.Zip.all_zipped_more}
use Rattle.ct_word.{specs.declared.values.CRow.CRow, specs.declared.values.Null.Null, specs.declared.values.Term.Term, specs.Value.{World, value_of_null}}
use Rattle.ct_word.{specs.Condition.holds_at, specs.Reading.{condition_at, term_at}, specs.Stands.TermBelow, specs.WellFormed.{IsWellFormed, is_place_of}}
use Rattle.ct_word.{proofs.Items.{first_item, item_cases, later_item}, proofs.Prefixes.{place_within, prefix_of_prefix}}
use Rattle.ct_derivation.{specs.Accepts.Accepts, proofs.Sound.root_refuted}
use Rattle.ct_condition.{specs.Truth.{HasTruth, and_at}, specs.Terms.{BelowEither, BelowSome, TermsFrom}, proofs.Reached.terms_before}
use Rattle.ct_operators.{specs.Terms.TermOfRow, proofs.Growing.terms_grow}
use Rattle.ct_rewrite.specs.{Tidy.IsTidy, declared.answer.PossibleRow.PossibleRow}
use Rattle.ct_tidy.specs.Nulls.{AreNullsOf, cut_to}
use Rattle.ct_certain.{specs.Answered.AreOf, specs.Own.{IsOfTable, IsOwn, IsOwnAnswer, IsShownBy}, specs.Possible.{ListsPossible, is_shown, listed}}
use Rattle.ct_certain.proofs.{Asking.{asks_later, in_order, nulls_in_order, root_plain, root_shows, root_terms}, Listing.{listed_turn, own_turn}}
use Rattle.ct_certain.proofs.Short.{either_of_table, no_nulls, of_first, sources, truth_kept}
use Rattle.ct_questions.specs.Roots.{AreRowRoots, IsRowRoot}
use mathlib.Core.List.{IsPrefix}
use Rattle.ct_word.specs.declared.kinds.Class.TheVariants as class
use Rattle.ct_word.specs.declared.values.Term.TheVariants as term

-- two lists, place by place
pub zip_at : {A B : Type 0} (R : A → B → Type 0) (xs : List A) (ys : List B) (i : ℕ) (d : A) (e : B) → AllZip R xs ys → i < length xs → R (get_or xs i d) (get_or ys i e)
zip_at R [] ys i d e all lt = absurd (omega (arith, lt))
zip_at R (x ∷ xs) [] i d e all lt = absurd all
zip_at R (x ∷ xs) (y ∷ ys) zero d e all lt = all.0
zip_at R (x ∷ xs) (y ∷ ys) (suc i) d e all lt = zip_at R xs ys i d e all.1 (omega (arith, lt))

zip_weaker : {A B : Type 0} (R S : A → B → Type 0) → ((x : A) (y : B) → R x y → S x y) → (xs : List A) (ys : List B) → AllZip R xs ys → AllZip S xs ys
zip_weaker R S f [] [] all = tt
zip_weaker R S f [] (y ∷ ys) all = absurd all
zip_weaker R S f (x ∷ xs) [] all = absurd all
zip_weaker R S f (x ∷ xs) (y ∷ ys) all = (f x y all.0, zip_weaker R S f xs ys all.1)

-- the root that the conjunction of the global condition and a row's is
pub row_root : (words old new : List ℕ) (grown : IsPrefix words old) (formed : IsWellFormed old) (global : ℕ) (r : CRow) (are : AreOf words global r) (root : ℕ) → IsPrefix old new
    → HasTruth new root (and_at old global r.cond) → TermsFrom new root (BelowEither old global r.cond) → IsRowRoot words new global r root
row_root words old new grown formed global r are root longer truth from = record {
  grown = prefix_of_prefix words old new grown longer;
  row = are;
  asks = record { class = truth.class; plain = root_plain words old new grown formed global r are root from; holds = root_shows words old new grown formed global r are root truth };
  terms = root_terms words old new grown formed global r are root from;
}

module _ (words old new : List ℕ) (longer : IsPrefix old new) (formed : IsWellFormed new) (global : ℕ) where
  root_later : (r : CRow) (root : ℕ) → IsRowRoot words old global r root → IsRowRoot words new global r root
  root_later r root is = record {
    grown = prefix_of_prefix words old new is.grown longer;
    row = is.row;
    asks = asks_later old new longer formed root (is_shown words global r) is.asks;
    terms = λ t h. is.terms t (terms_before old new longer formed root t (place_within old class.Cond root is.asks.class) h);
  }

  -- one more root
  pub roots_turn : (rows : List CRow) (i : ℕ) (r : CRow) (roots after : List ℕ) (root : ℕ) → i < length rows → r ≡ get_or rows i r → after ≡ roots ++ root ∷ []
      → AreRowRoots words old global (take i rows) roots → IsRowRoot words new global r root → AreRowRoots words new global (take (i + 1) rows) after
  roots_turn rows i r roots after root lt e put so_far is =
      let done : take i rows ++ r ∷ [] ≡ take (i + 1) rows = ap (λ x. take i rows ++ x ∷ []) e ∙ sym (take_more rows i r lt) in
      subst (AreRowRoots words new global (take (i + 1) rows)) (sym put) (subst (λ d. AreRowRoots words new global d (roots ++ root ∷ [])) done
      (all_zipped_more (IsRowRoot words new global) (take i rows) roots r root (zip_weaker (IsRowRoot words old global) (IsRowRoot words new global) root_later (take i rows) roots so_far) is))

module _ (old now : List ℕ) (global : ℕ) (r : CRow) (root : ℕ) (is : IsRowRoot old now global r root) where
  module _ (formed : IsWellFormed now) where
    -- what stands below the root or the cells
    of_place : (t : Term) → BelowSome now (root ∷ r.cells) t → IsOfTable old global (r ∷ []) t
    of_place t b = elim (item_cases r.cells root b.place b.among) [
      | inl e ↦ either_of_table old global r t (is.terms t (subst (λ p. TermBelow now p t) (sym e) b.below))
      | inr i ↦ inr (record {
        row = r;
        among = first_item [] r;
        below = record {
          place = b.place;
          among = later_item r.cells r.cond b.place i;
          below = terms_before old now is.grown formed b.place t (place_within old class.Term b.place (All-contains (λ p. IsTrue (is_place_of old class.Term p)) r.cells b.place is.row.terms i)) b.below;
        };
      })
    ]

    -- a world at which the root holds, cut to these nulls and put into order
    pub shown_own : (ns ks : List Null) → AreNullsOf (BelowSome now (root ∷ r.cells)) ns → ks ≡ [] → (v w : World) → holds_at v (condition_at now root) ≡ true
        → ((n : Null) → value_of_null w n ≡ value_of_null (cut_to ns ks v) n) → IsTidy w → IsShownBy old global r w
    shown_own ns ks below none v w holds same tidy =
        let part = cut_to ns [] v in
        let same' : (n : Null) → value_of_null w n ≡ value_of_null part n = λ n. same n ∙ ap (λ ms. value_of_null (cut_to ns ms v) n) none in
        record {
          tidy = tidy;
          shown = sym (is.asks.holds w) ∙ in_order part w same' now root (truth_kept now ns [] formed v root is.asks.class
              (λ n h. of_first now ns [] (BelowSome now (root ∷ r.cells)) (λ t. ⊥) below no_nulls n (record { place = root; among = first_item r.cells root; below = h })) ∙ holds);
          own = nulls_in_order part w same' (λ n. IsOfTable old global (r ∷ []) (term.Null n)) tidy
              (All-weaker (λ p. BelowSome now (root ∷ r.cells) (term.Null p.0) ⊎ ⊥) (λ p. IsOfTable old global (r ∷ []) (term.Null p.0)) (λ p h. elim h [ inl a ↦ of_place (term.Null p.0) a | inr b ↦ absurd b ]) part
              (sources now ns [] (BelowSome now (root ∷ r.cells)) (λ t. ⊥) below no_nulls v));
        }

    -- and none, where the root holds nowhere
    pub shown_never : (d : _) → Accepts now root d → (v : World) → is_shown old global r v ≡ false
    shown_never d accepted v = sym (is.asks.holds v) ∙ root_refuted now root d formed accepted v

  -- the cells are the same over the earlier words
  listed_before : (o : Option World) → listed now r o ≡ listed old r o
  listed_before (Some v) = ap (λ cs. (record { cells = cs; world = v }) ∷ []) (terms_grow old now is.grown r.cells is.row.terms)
  listed_before None = refl

  pub put_before : (list new : List PossibleRow) (o : Option World) → new ≡ list ++ listed now r o → new ≡ list ++ listed old r o
  put_before list new o put = put ∙ ap (λ l. list ++ l) (listed_before o)

-- one more row of a list, whichever the earlier words are
module _ (now : List ℕ) (rows : List CRow) (roots : List ℕ) (i : ℕ) (r : CRow) (root : ℕ) (lt : i < length rows) (e : r ≡ get_or rows i r) (f : root ≡ get_or roots i root)
    (list new : List PossibleRow) (o : Option World) (answer : (old : List ℕ) (global : ℕ) → IsRowRoot old now global r root → IsOwnAnswer old global r o) (put : new ≡ list ++ listed now r o)
    (old : List ℕ) (global : ℕ) (are : AreRowRoots old now global rows roots) where
  here : IsRowRoot old now global r root
  here = subst (λ q. IsRowRoot old now global q root) (sym e) (subst (IsRowRoot old now global (get_or rows i r)) (sym f) (zip_at (IsRowRoot old now global) rows roots i r root are lt))

  pub lists_one : ListsPossible old global (take i rows) list → ListsPossible old global (take (i + 1) rows) new
  lists_one = listed_turn old global rows i r list new o lt e (answer old global here) (put_before old now global r root here list new o put)

  pub owns_one : All (IsOwn old global rows) list → All (IsOwn old global rows) new
  owns_one = own_turn old global rows i r list new o lt e (answer old global here) (put_before old now global r root here list new o put)
