-- Literals that are found by their numbers.
use Rattle.std.proofs.Common.{◌≡◌, ◌+◌, ◌*◌, ℕ, zero, suc, Bool, true, false, List, [], ◌∷◌, ◌++◌, Option, Some, None, Result, Ok, Err, map, nat_eq, refl, ap, sym, ◌∙◌, subst, arith, inl, inr}
use Rattle.std.{specs.Prelude.{Contains, IfOk, is_some, slice_get}, specs.List.{IsDistinct}}
use Rattle.std.proofs.lemmas.Bool.{and_from, eq-eqb, false≢true, or_cases}
use Rattle.std.proofs.lemmas.{List.map-append, List.Elements.Contains-push_cases, Map.Keys.IsDistinct-push}
use Rattle.ct_word.proofs.Items.{first_item, later_item, no_item}
use Rattle.ct_derivation.{specs.declared.literals.Atom.Atom, specs.declared.literals.Lit.Lit, specs.Literal.{Clause, has, same_atom, same_lit, same_sign}, proofs.Members.{lit_laws, same_lit_is}}
use Rattle.ct_derivation.specs.declared.literals.Atom.TheVariants as atom
use Rattle.ct_cert.specs.Numbered.{AreLow, IsLow, IsNoted, number_of, pair_of, sign_of}

-- a number gives back the sign and the number of the atom
parts : (a b : Bool) (m n : ℕ) → m * 2 + sign_of a ≡ n * 2 + sign_of b → (same_sign a b ≡ true) × (m ≡ n)
parts true true m n e = (refl, omega (arith, e))
parts false false m n e = (refl, omega (arith, e))
parts true false m n e = absurd (omega (arith, e))
parts false true m n e = absurd (omega (arith, e))

same_pair : (x y : Atom) → IsLow x → IsLow y → pair_of x ≡ pair_of y → same_atom x y ≡ true
same_pair (atom.Node p) (atom.Node q) a b e = eq-eqb p q (omega (arith, e))
same_pair (atom.Same s t) (atom.Same p q) a b e =
    let t_low = a.1 in
    let q_low = b.1 in
    and_from (nat_eq s p) (nat_eq t q) (eq-eqb s p (omega (arith, e, t_low, q_low))) (eq-eqb t q (omega (arith, e, t_low, q_low)))
same_pair (atom.Node p) (atom.Same s t) a b e = let low = b.1 in absurd (omega (arith, e, low))
same_pair (atom.Same s t) (atom.Node p) a b e = let low = a.1 in absurd (omega (arith, e, low))

-- and the literal
same_number : (l m : Lit) → IsLow l.atom → IsLow m.atom → number_of l ≡ number_of m → same_lit l m ≡ true
unfolding same_lit
same_number l m a b e =
    let is = parts l.positive m.positive (pair_of l.atom) (pair_of m.atom) e in
    and_from (same_sign l.positive m.positive) (same_atom l.atom m.atom) is.0 (same_pair l.atom m.atom a b is.1)

abbrev value_of : Option ℕ → ℕ
value_of None = 0
value_of (Some n) = n

-- a number at a place is that of the literal there
unmapped_at : (kept : Clause) (i n : ℕ) → slice_get (map number_of kept) i ≡ Some n → (m : Lit) × Contains kept m × (slice_get kept i ≡ Some m) × (number_of m ≡ n)
unmapped_at [] i n e = absurd (false≢true (ap is_some e))
unmapped_at (m ∷ kept) zero n e = (m, first_item kept m, refl, ap value_of e)
unmapped_at (m ∷ kept) (suc i) n e = let r = unmapped_at kept i n e in (r.0, later_item kept m r.0 r.1, r.2, r.3)

mapped_has : (kept : Clause) (l : Lit) → has kept l ≡ true → Contains (map number_of kept) (number_of l)
unfolding has
mapped_has [] l h = absurd (false≢true h)
mapped_has (m ∷ kept) l h = elim (or_cases (same_lit l m) (has kept l) h) [
  | inl same ↦ subst (λ n. Contains (number_of m ∷ map number_of kept) n) (ap number_of (sym (same_lit_is l m same))) (first_item (map number_of kept) (number_of m))
  | inr later ↦ later_item (map number_of kept) (number_of m) (number_of l) (mapped_has kept l later)
]

module _ (kept : Clause) (l : Lit) (words : List ℕ) (number : ℕ) (is_number : IsLow l.atom → number ≡ number_of l) (low : AreLow kept) (own : IsLow l.atom) (are : words ≡ map number_of kept) where
  -- where its number stands among those of the literals that are kept, a literal is the one there
  pub found_noted : (place : ℕ) (b : Bool) → slice_get words place ≡ Some number → ((other : Lit) → slice_get kept place ≡ Some other → b ≡ same_lit l other) → IsNoted l kept b words
  found_noted place b at stands =
      let there = unmapped_at kept place number (subst (λ ws. slice_get ws place ≡ Some number) are at) in
      let same = same_number l there.0 own (low there.0 there.1) (sym (is_number own) ∙ sym there.3) in
      subst (λ t. IsNoted l kept t words) (sym (stands there.0 there.2 ∙ same)) are

  -- else it is none of them
  pub new_noted : (new : List ℕ) → (Contains words number → ⊥) → new ≡ words ++ number ∷ [] → IsNoted l kept false new
  new_noted new apart is = (by (has kept l) refl, is ∙ (λ i. are i ++ is_number own i ∷ [])) where
    by : (b : Bool) → has kept l ≡ b → b ≡ false
    by false e = refl
    by true e = absurd (apart (subst (λ ws. Contains ws number) (sym are) (subst (Contains (map number_of kept)) (sym (is_number own)) (mapped_has kept l e))))

-- literals that are kept with their numbers, none twice
abbrev pub AreKept : List ℕ → Clause → Type 0
AreKept words kept = (words ≡ map number_of kept) × IsDistinct same_lit kept × AreLow kept

-- one more is kept
pub kept_more : (words new : List ℕ) (kept more : Clause) (l : Lit) → IsLow l.atom → more ≡ kept ++ l ∷ [] → IsNoted l kept false new → AreKept words kept → AreKept new more
unfolding has
kept_more words new kept more l low is noted are =
    subst (AreKept new) (sym is) (
      noted.1 ∙ sym (map-append number_of kept (l ∷ [])),
      IsDistinct-push lit_laws kept l are.1 noted.0,
      λ m h. elim (Contains-push_cases kept l m h) [ inl there ↦ are.2 m there | inr same ↦ subst (λ x. IsLow x.atom) same low ],
    )

pub none_kept : (words : List ℕ) (kept : Clause) → words ≡ [] → kept ≡ [] → AreKept words kept
unfolding IsDistinct
none_kept words kept e f = subst (λ ws. AreKept ws kept) (sym e) (subst (AreKept []) (sym f) (refl, tt, λ m h. absurd (no_item m h)))

-- a clause about each result
pub for_ok : {X E : Type 0} (P Q : X → Type 0) (r : Result X E) → ((x : X) → P x → Q x) → IfOk r P → IfOk r Q
for_ok P Q (Ok x) f h = f x h
for_ok P Q (Err e) f h = tt
