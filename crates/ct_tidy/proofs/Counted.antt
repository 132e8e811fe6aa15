-- Worlds whose nulls are numbered, and how one is made in a walk.
use Rattle.std.proofs.Common.{◌≡◌, ◌⊎◌, ◌<◌, ◌≤◌, ◌+◌, ℕ, Bool, true, false, List, [], ◌∷◌, ◌++◌, length, replicate, Some, refl, ap, sym, subst, ◌∙◌, arith, inl, inr, if◌then◌else◌}
use Rattle.std.{specs.Prelude.{All, IsTrue, slice_get}, specs.List.IsDistinct, proofs.lemmas.Bool.{false≢true, or_cases}, proofs.lemmas.List.{length-map, length_push, length-replicate, map-append}}
use Rattle.ct_word.{specs.declared.values.Null.Null, specs.declared.values.Term.Term, specs.declared.values.Value.Value, specs.Value.{World, other_zero, same_null, value_of_null}, proofs.Alike.null_decides}
use Rattle.ct_word.{specs.WellFormed.IsWellFormed, specs.Reading.term_at}
use Rattle.ct_condition.specs.Terms.{BelowSome}
use Rattle.ct_tidy.{specs.Marks.{is_marked, with_marks}, specs.Nulls.{AreNullsOf, IsPart, has_null, parts_of}, specs.Spread.{HasOwnValue, nulls_in, numbered, with_own}}
use Rattle.ct_tidy.proofs.{Marked.marked_all, Single.{AreSingle, none_single, single_skip, single_turn}, Walked.{IsWalked, walk_first, walk_last, walk_skip, walk_turn}}
use Rattle.ct_word.specs.declared.values.Term.TheVariants as term
use Rattle.ct_word.specs.declared.values.Value.TheVariants as val

abbrev number_in : Value → ℕ
number_in (val.Other k) = k
number_in _ = 0

-- one more null
numbered_push : (k j : ℕ) (ns : List Null) (n : Null) → j ≡ k + length ns → numbered k ns ++ (n, val.Other (j + 1)) ∷ [] ≡ numbered k (ns ++ n ∷ [])
numbered_push k j [] n e = let same : j ≡ k = omega (arith, e) in ap (λ i. (n, val.Other (i + 1)) ∷ []) same
numbered_push k j (m ∷ ns) n e = ap (λ v. (m, val.Other (k + 1)) ∷ v) (numbered_push (k + 1) j ns n (omega (arith, e)))

pub numbered_on : (v : World) (t : Term) → v ≡ numbered 0 (nulls_in v) → with_own t v ≡ numbered 0 (nulls_in (with_own t v))
numbered_on v (term.Column k) e = e
numbered_on v (term.Value x) e = e
numbered_on v (term.Null n) e =
    ap (λ l. l ++ (n, val.Other (length v + 1)) ∷ []) e ∙ numbered_push 0 (length v) (nulls_in v) n (omega (arith, length-map v (λ p. p.0)))
    ∙ ap (numbered 0) (sym (map-append (λ p. p.0) v ((n, val.Other (length v + 1)) ∷ [])))

-- a null has no value but @0, or one from the next number on
valued : (k : ℕ) (ns : List Null) (n : Null) → (value_of_null (numbered k ns) n ≡ other_zero) ⊎ ((j : ℕ) × (k < j) × (value_of_null (numbered k ns) n ≡ val.Other j))
valued k [] n = inl refl
valued k (h ∷ ns) n = by (same_null h n) (valued (k + 1) ns n) where
  by : (b : Bool) → (value_of_null (numbered (k + 1) ns) n ≡ other_zero) ⊎ ((j : ℕ) × (k + 1 < j) × (value_of_null (numbered (k + 1) ns) n ≡ val.Other j))
      → ((if b then val.Other (k + 1) else value_of_null (numbered (k + 1) ns) n) ≡ other_zero) ⊎ ((j : ℕ) × (k < j) × ((if b then val.Other (k + 1) else value_of_null (numbered (k + 1) ns) n) ≡ val.Other j))
  by true rest = inr (k + 1, omega arith, refl)
  by false (inl zero_there) = inl zero_there
  by false (inr there) = inr (there.0, omega (arith, there.1), there.2)

-- so the first one's value is none of the others'
not_later : (k : ℕ) (ns : List Null) (n : Null) → val.Other (k + 1) ≡ value_of_null (numbered (k + 1) ns) n → ⊥
not_later k ns n e = elim (valued (k + 1) ns n) [
  | inl none ↦ let same : k + 1 ≡ 0 = ap number_in (e ∙ none) in omega (arith, same)
  | inr there ↦ let same : k + 1 ≡ there.0 = ap number_in (e ∙ there.2) in omega (arith, same, there.1)
]

listed_later : (h n : Null) (ns : List Null) → same_null h n ≡ false → IsTrue (has_null (h ∷ ns) n) → IsTrue (has_null ns n)
listed_later h n ns other listed = elim (or_cases (same_null n h) (has_null ns n) listed) [
  | inl same ↦ absurd (false≢true (sym other ∙ (null_decides h n).1 (sym ((null_decides n h).0 same))))
  | inr later ↦ later
]

positive : (k : ℕ) (ns : List Null) (n : Null) → IsTrue (has_null ns n) → (j : ℕ) × (0 < j) × (value_of_null (numbered k ns) n ≡ val.Other j)
positive k [] n listed = absurd (false≢true listed)
positive k (h ∷ ns) n listed = by (same_null h n) refl (positive (k + 1) ns n) where
  by : (b : Bool) → same_null h n ≡ b → (IsTrue (has_null ns n) → (j : ℕ) × (0 < j) × (value_of_null (numbered (k + 1) ns) n ≡ val.Other j)) → (j : ℕ) × (0 < j) × ((if b then val.Other (k + 1) else value_of_null (numbered (k + 1) ns) n) ≡ val.Other j)
  by true same rest = (k + 1, omega arith, refl)
  by false other rest = rest (listed_later h n ns other listed)

own : (k : ℕ) (ns : List Null) (n m : Null) → IsTrue (has_null ns n) → value_of_null (numbered k ns) m ≡ value_of_null (numbered k ns) n → m ≡ n
own k [] n m listed e = absurd (false≢true listed)
own k (h ∷ ns) n m listed e = by (same_null h m) (same_null h n) refl refl e (own (k + 1) ns n m) where
  by : (a b : Bool) → same_null h m ≡ a → same_null h n ≡ b → (if a then val.Other (k + 1) else value_of_null (numbered (k + 1) ns) m) ≡ (if b then val.Other (k + 1) else value_of_null (numbered (k + 1) ns) n)
      → (IsTrue (has_null ns n) → value_of_null (numbered (k + 1) ns) m ≡ value_of_null (numbered (k + 1) ns) n → m ≡ n) → m ≡ n
  by true true first second e rest = sym ((null_decides h m).0 first) ∙ (null_decides h n).0 second
  by true false first second e rest = absurd (not_later k ns n e)
  by false true first second e rest = absurd (not_later k ns m (sym e))
  by false false first second e rest = rest (listed_later h n ns second listed) e

pub own_value : (v : World) → v ≡ numbered 0 (nulls_in v) → (n : Null) → IsTrue (has_null (nulls_in v) n) → HasOwnValue v n
own_value v e n listed = subst (λ w. HasOwnValue w n) (sym e) (let some = positive 0 (nulls_in v) n listed in record {
  number = some.0;
  positive = some.1;
  value = some.2;
  own = λ m same. own 0 (nulls_in v) n m listed same;
})

-- the marks and the world of a walk that has come down to a place
pub record IsSpreading (words roots : List ℕ) (next : ℕ) (marks : List Bool) (v : World) : Type 0 where
  pub long : length marks ≡ length words
  pub short : length v + next ≤ length words
  pub counted : v ≡ numbered 0 (nulls_in v)
  pub single : AreSingle words next (nulls_in v)
  pub walked : All (IsPart words) roots → IsWalked words roots next marks (nulls_in v)

own_most : (t : Term) (v : World) → length (with_own t v) ≤ length v + 1
own_most (term.Column k) v = omega arith
own_most (term.Value x) v = omega arith
own_most (term.Null n) v = let one = length_push v (n, val.Other (length v + 1)) in omega (arith, one)

module _ (words : List ℕ) (formed : IsWellFormed words) (roots : List ℕ) where
  pub spreading_first : (next : ℕ) (marks : List Bool) (v : World) → marks ≡ with_marks (replicate (length words) false) roots → v ≡ [] → next ≡ length words → IsSpreading words roots next marks v
  spreading_first next marks v are none first =
      let m = marked_all roots (replicate (length words) false) in
      subst (λ x. IsSpreading words roots x marks v) (sym first) (subst (λ x. IsSpreading words roots (length words) marks x) (sym none) (subst (λ x. IsSpreading words roots (length words) x []) (sym are) (record {
        long = m.long ∙ length-replicate (length words) false;
        short = omega arith;
        counted = refl;
        single = none_single words (length words);
        walked = walk_first words formed roots (with_marks (replicate (length words) false) roots) m;
      })))

  module _ (next place : ℕ) (is : place + 1 ≡ next) (marks : List Bool) (v : World) (so_far : IsSpreading words roots next marks v) where
    pub spreading_skip : is_marked marks place ≡ false → IsSpreading words roots place marks v
    spreading_skip e = record {
      long = so_far.long;
      short = omega (arith, so_far.short, is);
      counted = so_far.counted;
      single = single_skip words formed next place is v so_far.single;
      walked = λ parts. walk_skip words formed roots next place is marks (nulls_in v) e (so_far.walked parts);
    }

    pub spreading_turn : (w : ℕ) (new : List Bool) (more : World) → slice_get words place ≡ Some w → is_marked marks place ≡ true → new ≡ with_marks marks (parts_of w) → more ≡ with_own (term_at words place) v
        → IsSpreading words roots place new more
    spreading_turn w new more there e marked owned =
        let m = marked_all (parts_of w) marks in
        subst (λ x. IsSpreading words roots place x more) (sym marked) (subst (IsSpreading words roots place (with_marks marks (parts_of w))) (sym owned) (record {
          long = m.long ∙ so_far.long;
          short = omega (arith, so_far.short, is, own_most (term_at words place) v);
          counted = numbered_on v (term_at words place) so_far.counted;
          single = single_turn words formed next place is v so_far.single w there;
          walked = λ parts. walk_turn words formed roots next place is w there marks (with_marks marks (parts_of w)) e m so_far.long v (so_far.walked parts);
        }))

  module _ (next : ℕ) (marks : List Bool) (v w : World) (same : w ≡ v) (so_far : IsSpreading words roots next marks v) where
    pub spread_nulls : next ≡ 0 → All (IsPart words) roots → AreNullsOf (BelowSome words roots) (nulls_in w)
    spread_nulls end parts = subst (λ x. AreNullsOf (BelowSome words roots) (nulls_in x)) (sym same) (walk_last words formed roots next marks (nulls_in v) end (so_far.walked parts))

    pub spread_counted : w ≡ numbered 0 (nulls_in w)
    spread_counted = subst (λ x. x ≡ numbered 0 (nulls_in x)) (sym same) so_far.counted

    pub spread_once : IsDistinct same_null (nulls_in w)
    spread_once = subst (λ x. IsDistinct same_null (nulls_in x)) (sym same) so_far.single.once
