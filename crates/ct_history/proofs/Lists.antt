-- One more item of a list in the log.
use Rattle.std.{proofs.Common.{◌≡◌, ◌<◌, ◌+◌, ℕ, List, [], ◌∷◌, ◌++◌, Some, take, length, get_or, ap, sym, ◌∙◌}, proofs.lemmas.List.take_more}
use Rattle.std.{specs.Prelude.{IsTrue, slice_get}, proofs.lemmas.Bool.false≢true}
use Rattle.ct_word.{specs.declared.kinds.Kind.Kind, specs.declared.kinds.Class.Class, specs.Change.{PlainChange, Create, Insert, Delete, Update, Assert}, specs.declared.values.Term.Term}
use Rattle.ct_word.{specs.Stands.StandsAt, specs.WellFormed.{class_of, is_formed_as, is_place_of, same_class}, proofs.Growth.place_within}
use Rattle.ct_word.{proofs.Splits.formed_fields, proofs.Prefixes.{prefix_of_prefix, stands_in_prefix, meaning_in_prefix}}
use Rattle.ct_word.specs.Reading.{IsText, IsTerm, IsNameList, IsSet, IsSetList, IsChangeList, as_text, as_term, as_cond, as_row_list, as_name_list, as_set, as_set_list, as_update_body, as_change, as_change_list, by_kind, meanings, condition_at, change_list_at}
use Rattle.ct_history.specs.Places.{change_of}
use mathlib.Core.List.{IsPrefix}
use Rattle.ct_word.specs.declared.kinds.Class.TheVariants as class
use Rattle.ct_word.specs.declared.kinds.Kind.TheVariants as kind

-- a name that is put behind names
pub name_added : (ws xs ys : List ℕ) (names : List (List ℕ)) (name : List ℕ) (place text new : ℕ)
    → StandsAt ws place (IsNameList names) → IsTrue (is_place_of ws class.NameList place) → IsPrefix ws ys
    → StandsAt xs text (IsText name) → IsTrue (is_place_of xs class.Text text) → IsPrefix xs ys
    → StandsAt ys new (by_kind (Some kind.Names) (meanings ys) place text)
    → StandsAt ys new (IsNameList (names ++ name ∷ []))
name_added ws xs ys names name place text new s p grown t q grown' stands =
    stands ∙ (λ i. Some (IsNameList (as_name_list (stands_in_prefix ws ys place _ grown (place_within ws class.NameList place p) s i)
    ++ as_text (stands_in_prefix xs ys text _ grown' (place_within xs class.Text text q) t i) ∷ [])))

-- a set of a term
pub set_put : (xs ys : List ℕ) (position : ℕ) (t : Term) (item set : ℕ)
    → StandsAt xs item (IsTerm t) → IsTrue (is_place_of xs class.Term item) → IsPrefix xs ys
    → StandsAt ys set (by_kind (Some kind.Set) (meanings ys) position item)
    → StandsAt ys set (IsSet position t)
set_put xs ys position t item set u q grown stands =
    stands ∙ (λ i. Some (IsSet position (as_term (stands_in_prefix xs ys item _ grown (place_within xs class.Term item q) u i))))

-- a set that is put behind sets
pub set_added : (ws xs ys : List ℕ) (sets : List (ℕ × Term)) (position : ℕ) (t : Term) (place set new : ℕ)
    → StandsAt ws place (IsSetList sets) → IsTrue (is_place_of ws class.SetList place) → IsPrefix ws ys
    → StandsAt xs set (IsSet position t) → IsTrue (is_place_of xs class.Set set) → IsPrefix xs ys
    → StandsAt ys new (by_kind (Some kind.Sets) (meanings ys) place set)
    → StandsAt ys new (IsSetList (sets ++ (position, t) ∷ []))
set_added ws xs ys sets position t place set new s p grown u q grown' stands =
    stands ∙ (λ i. Some (IsSetList (as_set_list (stands_in_prefix ws ys place _ grown (place_within ws class.SetList place p) s i)
    ++ as_set (stands_in_prefix xs ys set _ grown' (place_within xs class.Set set q) u i) ∷ [])))

-- a place stands for the same in more words
pub meaning_kept : (ws xs : List ℕ) (c : Class) (p : ℕ) → IsPrefix ws xs → IsTrue (is_place_of ws c p) → slice_get (meanings xs) p ≡ slice_get (meanings ws) p
meaning_kept ws xs c p grown is = meaning_in_prefix ws xs p grown (place_within ws c p is)

-- so does the word of a change
change_kept : (k : Kind) (ws xs : List ℕ) (a b : ℕ) → IsPrefix ws xs → class_of k ≡ class.Change → IsTrue (is_formed_as (Some k) ws a b) → change_of xs k a b ≡ change_of ws k a b
change_kept kind.Create ws xs a b grown is formed =
    let fits = formed_fields ws kind.Create a b formed in
    λ i. Create (as_text (meaning_kept ws xs class.Text a grown fits.0 i)) (as_name_list (meaning_kept ws xs class.NameList b grown fits.1 i))
change_kept kind.Insert ws xs a b grown is formed =
    let fits = formed_fields ws kind.Insert a b formed in
    λ i. Insert (as_text (meaning_kept ws xs class.Text a grown fits.0 i)) (as_row_list (meaning_kept ws xs class.RowList b grown fits.1 i))
change_kept kind.Delete ws xs a b grown is formed =
    let fits = formed_fields ws kind.Delete a b formed in
    λ i. Delete (as_text (meaning_kept ws xs class.Text a grown fits.0 i)) (as_cond (meaning_kept ws xs class.Cond b grown fits.1 i))
change_kept kind.Update ws xs a b grown is formed =
    let fits = formed_fields ws kind.Update a b formed in
    λ i. Update (as_text (meaning_kept ws xs class.Text a grown fits.0 i)) (as_update_body (meaning_kept ws xs class.UpdateBody b grown fits.1 i)).0 (as_update_body (meaning_kept ws xs class.UpdateBody b grown fits.1 i)).1
change_kept kind.Assert ws xs a b grown is formed = λ i. Assert (as_cond (meaning_kept ws xs class.Cond a grown (formed_fields ws kind.Assert a b formed).0 i))
change_kept _ ws xs a b grown is formed = absurd (false≢true (ap (λ c. same_class c class.Change) is))

-- a change that is put behind changes
pub change_added : (old mid new : List ℕ) (k : Kind) (a b list change place : ℕ) → IsPrefix old mid → IsPrefix mid new
    → IsTrue (is_place_of old class.ChangeList list) → class_of k ≡ class.Change → IsTrue (is_formed_as (Some k) old a b)
    → StandsAt mid change (by_kind (Some k) (meanings mid) a b) → IsTrue (is_place_of mid (class_of k) change)
    → StandsAt new place (by_kind (Some kind.Changes) (meanings new) list change)
    → StandsAt new place (IsChangeList (change_list_at old list ++ change_of old k a b ∷ []))
change_added old mid new k a b list change place grown later p is formed t q stands =
    let said : as_change (slice_get (meanings new) change) ≡ change_of old k a b =
    ap as_change (meaning_kept mid new (class_of k) change later q ∙ t) ∙ change_kept k old mid a b grown is formed in
    stands ∙ (λ i. Some (IsChangeList (as_change_list (meaning_kept old new class.ChangeList list (prefix_of_prefix old mid new grown later) p i) ++ said i ∷ [])))

-- the body of an update, its sets and its condition put before it
pub body_said : (ws xs ys : List ℕ) (sets : List (ℕ × Term)) (list cond body : ℕ)
    → StandsAt ws list (IsSetList sets) → IsTrue (is_place_of ws class.SetList list) → IsPrefix ws xs
    → StandsAt xs body (by_kind (Some kind.UpdateBody) (meanings xs) list cond) → IsTrue (is_place_of xs class.UpdateBody body) → IsPrefix xs ys
    → as_update_body (slice_get (meanings ys) body) ≡ (sets, condition_at xs cond)
body_said ws xs ys sets list cond body s p grown stands q later =
    ap as_update_body (meaning_kept xs ys class.UpdateBody body later q ∙ stands)
    ∙ (λ i. (as_set_list (stands_in_prefix ws xs list _ grown (place_within ws class.SetList list p) s i), condition_at xs cond))

-- a change list as it was before, with a change as it is said
pub list_said : (old mid : List ℕ) (list : ℕ) (x y : PlainChange) → IsPrefix old mid → IsTrue (is_place_of old class.ChangeList list) → x ≡ y
    → change_list_at mid list ++ x ∷ [] ≡ change_list_at old list ++ y ∷ []
list_said old mid list x y grown p same = λ i. as_change_list (meaning_kept old mid class.ChangeList list grown p i) ++ same i ∷ []

-- the first items and the next one
pub take_one : (xs : List (List ℕ)) (i : ℕ) (x y : List ℕ) → i < length xs → x ≡ y → y ≡ get_or xs i y → take (i + 1) xs ≡ take i xs ++ x ∷ []
take_one xs i x y lt same at = take_more xs i y lt ∙ ap (λ z. take i xs ++ z ∷ []) (sym at ∙ sym same)
