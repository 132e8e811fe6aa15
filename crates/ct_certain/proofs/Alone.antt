-- Of one table there is one list of possible cells, and one of certain tuples.
use Rattle.std.proofs.Common.{◌≡◌, ℕ, Bool, true, false, not, ◌||◌, List, [], ◌∷◌, map, cond, filter, refl, ap, sym, subst, ◌∙◌}
use Rattle.std.{specs.List.{IsDistinct, AllByRecursion}, proofs.lemmas.Map.Keys.{IsDistinct-head, IsDistinct-tail, IsDistinct-cons}}
use Rattle.std.{proofs.lemmas.Bool.false≢true, proofs.lemmas.Bool.Decides.same_from_decides}
use Rattle.ct_word.{specs.declared.values.Value.Value, specs.declared.values.CRow.CRow, specs.Value.{World, same_tuple}}
use Rattle.ct_word.{specs.Reading.term_at, specs.Sublist.{IsSublist, ended, left_out, taken}, proofs.Alike.tuple_decides}
use Rattle.ct_query.specs.Database.{SameSet, has_tuple}
use Rattle.ct_rewrite.{specs.declared.answer.PossibleRow.PossibleRow, specs.declared.answer.CertainRow.CertainRow}
use Rattle.ct_operators.{specs.Tables.{firsts, value_of_rows}, proofs.{Firsts.{filtered_part, none_distinct}, Selecting.distinct_part}}
use Rattle.ct_certain.specs.{Certain.{ListsCertain, tuples_in}, Possible.ListsPossible}
use Rattle.ct_certain.specs.Possible as lists

-- the rows that are listed, and those that are left out, are the same ones
pub same_cells_listed : (words : List ℕ) (global : ℕ) (rs : List CRow) (a b : List PossibleRow) → ListsPossible words global rs a → ListsPossible words global rs b
    → map (λ x. x.cells) a ≡ map (λ x. x.cells) b
same_cells_listed words global rs a b lists.ended lists.ended = refl
same_cells_listed words global (r ∷ rs) a b (lists.left_out never p) (lists.left_out nor q) = same_cells_listed words global rs a b p q
same_cells_listed words global (r ∷ rs) a (y ∷ b) (lists.left_out never p) (lists.taken v tidy shown q) = absurd (false≢true (sym (never v) ∙ shown))
same_cells_listed words global (r ∷ rs) (x ∷ a) b (lists.taken v tidy shown p) (lists.left_out never q) = absurd (false≢true (sym (never v) ∙ shown))
same_cells_listed words global (r ∷ rs) (x ∷ a) (y ∷ b) (lists.taken v tidy shown p) (lists.taken u neat there q) =
    ap (λ l. map (term_at words) r.cells ∷ l) (same_cells_listed words global rs a b p q)

module _ {A : Type 0} (same : A → A → Bool) where
  others_differ : (x : A) (xs : List A) → AllByRecursion (λ y. same x y ≡ false) (filter (λ y. not (same x y)) xs)
  others_differ x [] = tt
  others_differ x (y ∷ xs) = by_test (same x y) refl (others_differ x xs) where
    by_test : (b : Bool) → same x y ≡ b → AllByRecursion (λ z. same x z ≡ false) (filter (λ z. not (same x z)) xs)
        → AllByRecursion (λ z. same x z ≡ false) (cond (not b) (y ∷ filter (λ z. not (same x z)) xs) (filter (λ z. not (same x z)) xs))
    by_test true e later = later
    by_test false e later = (e, later)

  -- the items that stand first differ
  firsts_differ : (xs : List A) → IsDistinct same (firsts same xs)
  firsts_differ [] = none_distinct same
  firsts_differ (x ∷ xs) =
      IsDistinct-cons same x (filter (λ y. not (same x y)) (firsts same xs)) (others_differ x (firsts same xs))
      (distinct_part same (filter (λ y. not (same x y)) (firsts same xs)) (firsts same xs) (filtered_part (λ y. not (same x y)) (firsts same xs)) (firsts_differ xs))

has_own : (z : List Value) (xs : List (List Value)) → has_tuple (z ∷ xs) z ≡ true
has_own z xs = ap (λ b. b || has_tuple xs z) ((tuple_decides z z).1 refl)

-- a tuple is no member of a part of others
none_of_others : (z : List Value) (zs xs : List (List Value)) → AllByRecursion (λ y. same_tuple z y ≡ false) zs → IsSublist xs zs → has_tuple xs z ≡ false
none_of_others z zs xs all ended = refl
none_of_others z (y ∷ zs) xs all (left_out p) = none_of_others z zs xs all.1 p
none_of_others z (y ∷ zs) (x ∷ xs) all (taken p) = by_test (same_tuple y z) refl (none_of_others z zs xs all.1 p) where
  by_test : (b : Bool) → same_tuple y z ≡ b → has_tuple xs z ≡ false → (b || has_tuple xs z) ≡ false
  by_test true e later = absurd (false≢true (sym all.0 ∙ (tuple_decides z y).1 (sym ((tuple_decides y z).0 e))))
  by_test false e later = later

-- sets that are the same with a tuple are the same without it
same_without : (z : List Value) (xs ys : List (List Value)) → has_tuple xs z ≡ false → has_tuple ys z ≡ false → SameSet (z ∷ xs) (z ∷ ys) → SameSet xs ys
same_without z xs ys none nor same t = by_test (same_tuple z t) refl (same t) where
  by_test : (b : Bool) → same_tuple z t ≡ b → (b || has_tuple xs t) ≡ (b || has_tuple ys t) → has_tuple xs t ≡ has_tuple ys t
  by_test true e s = subst (λ u. has_tuple xs u ≡ has_tuple ys u) ((tuple_decides z t).0 e) (none ∙ sym nor)
  by_test false e s = s

-- parts of a list without doubles that have the same members are equal
one_part : (xs ys zs : List (List Value)) → IsDistinct same_tuple zs → IsSublist xs zs → IsSublist ys zs → SameSet xs ys → xs ≡ ys
one_part xs ys zs d ended ended same = refl
one_part xs ys (z ∷ zs) d (left_out p) (left_out q) same = one_part xs ys zs (IsDistinct-tail same_tuple z zs d) p q same
one_part (x ∷ xs) ys (z ∷ zs) d (taken p) (left_out q) same =
    absurd (false≢true (sym (none_of_others z zs ys (IsDistinct-head same_tuple z zs d) q) ∙ sym (same z) ∙ has_own z xs))
one_part xs (y ∷ ys) (z ∷ zs) d (left_out p) (taken q) same =
    absurd (false≢true (sym (none_of_others z zs xs (IsDistinct-head same_tuple z zs d) p) ∙ same z ∙ has_own z ys))
one_part (x ∷ xs) (y ∷ ys) (z ∷ zs) d (taken p) (taken q) same =
    let others = IsDistinct-head same_tuple z zs d in
    ap (λ l. z ∷ l) (one_part xs ys zs (IsDistinct-tail same_tuple z zs d) p q (same_without z xs ys (none_of_others z zs xs others p) (none_of_others z zs ys others q) same))

pub same_tuples_listed : (old now later : List ℕ) (global : ℕ) (rs : List CRow) (kept : World) (a b : List CertainRow) → ListsCertain old now global rs kept a → ListsCertain old later global rs kept b
    → tuples_in a ≡ tuples_in b
same_tuples_listed old now later global rs kept a b l m =
    one_part (tuples_in a) (tuples_in b) (firsts same_tuple (value_of_rows old kept rs)) (firsts_differ same_tuple (value_of_rows old kept rs)) l.ordered m.ordered
    (λ t. same_from_decides (has_tuple (tuples_in a) t) (has_tuple (tuples_in b) t) (l.exact t) (m.exact t))
