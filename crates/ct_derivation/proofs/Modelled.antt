-- An assignment that satisfies the defining clauses gives each condition its truth, by induction on places.
use Rattle.std.proofs.Common.{◌≡◌, ℕ, zero, suc, ◌<◌, Bool, true, false, not, ◌&&◌, ◌||◌, List, length, Option, Some, None, refl, ap, ◌∙◌, sym, arith}
use Rattle.std.{specs.Prelude.slice_get, proofs.lemmas.Bool.false≢true}
use Rattle.ct_word.{specs.declared.kinds.Kind.Kind, specs.Word.{kind_of, left_of, right_of}, specs.Value.World, specs.Condition.holds_at}
use Rattle.ct_word.{specs.Reading.{by_kind, meanings, as_cond, condition_at}, specs.WellFormed.{has_class, is_word_of, is_formed_as, IsWellFormed}}
use Rattle.ct_word.proofs.Splits.{meaning_at, formed_at, formed_fields, split_at, place_within}
use Rattle.ct_derivation.{specs.declared.literals.Atom.Atom, specs.Literal.Clause, specs.Definition.{defining, definition}, specs.Truth.atom_holds}
use Rattle.ct_derivation.specs.Models.{IsModel, is_satisfied, AreFieldsBelow}
use Rattle.ct_word.specs.declared.kinds.Kind.TheVariants as kind
use Rattle.ct_word.specs.declared.kinds.Class.TheVariants as class
use Rattle.ct_derivation.specs.declared.literals.Atom.TheVariants as atom

-- the truth that the clauses leave
is_true : (p : Bool) → (p || false) ≡ true → p ≡ true
is_true true e = refl
is_true false e = e

is_false : (p : Bool) → (not p || false) ≡ true → p ≡ false
is_false true e = sym e
is_false false e = refl

is_same : (p s : Bool) → (not p || (s || false)) ≡ true → (p || (not s || false)) ≡ true → p ≡ s
is_same true true e f = refl
is_same true false e f = sym e
is_same false true e f = f
is_same false false e f = refl

is_not : (p a : Bool) → (not p || (not a || false)) ≡ true → (p || (a || false)) ≡ true → p ≡ not a
is_not true true e f = sym e
is_not true false e f = refl
is_not false true e f = refl
is_not false false e f = f

is_and : (p a b : Bool) → (not p || (a || false)) ≡ true → (not p || (b || false)) ≡ true → (p || (not a || (not b || false))) ≡ true → p ≡ (a && (b && true))
is_and true true true e f g = refl
is_and true true false e f g = sym f
is_and true false b e f g = sym e
is_and false true true e f g = g
is_and false true false e f g = refl
is_and false false b e f g = refl

is_or : (p a b : Bool) → (not p || (a || (b || false))) ≡ true → (p || (not a || false)) ≡ true → (p || (not b || false)) ≡ true → p ≡ (a || (b || false))
is_or true true b e f g = refl
is_or true false true e f g = refl
is_or true false false e f g = sym e
is_or false true b e f g = f
is_or false false true e f g = g
is_or false false false e f g = refl

module _ (ws : List ℕ) (wf : IsWellFormed ws) (v : World) (t : Atom → Bool) (below : ℕ → Bool) (m : IsModel ws v t below) where
  abbrev truth : ℕ → Bool
  truth p = holds_at v (condition_at ws p)

  abbrev Right : ℕ → Type 0
  Right p = t (atom.Node p) ≡ truth p

  -- that the fields of a condition are right
  FieldsRight : Option Kind → ℕ → ℕ → Type 0
  FieldsRight (Some kind.Not) a b = Right a
  FieldsRight (Some kind.And) a b = Right a × Right b
  FieldsRight (Some kind.Or) a b = Right a × Right b
  FieldsRight _ a b = Unit {0}

  by_fields : (o : Option Kind) (p a b : ℕ) → has_class o class.Cond ≡ true
      → condition_at ws p ≡ as_cond (Some (by_kind o (meanings ws) a b))
      → ((k : ℕ) (c : Clause) → defining o k p a b ≡ Some c → is_satisfied t c ≡ true)
      → (o ≡ Some kind.Equal → t (atom.Same a b) ≡ atom_holds ws v (atom.Same a b))
      → FieldsRight o a b → Right p
  unfolding FieldsRight
  by_fields (Some kind.True) p a b n e d s r = is_true _ (d 0 _ refl) ∙ ap (holds_at v) (sym e)
  by_fields (Some kind.False) p a b n e d s r = is_false _ (d 0 _ refl) ∙ ap (holds_at v) (sym e)
  by_fields (Some kind.Equal) p a b n e d s r = is_same _ (t (atom.Same a b)) (d 0 _ refl) (d 1 _ refl) ∙ s refl ∙ ap (holds_at v) (sym e)
  by_fields (Some kind.Not) p a b n e d s r = is_not _ (t (atom.Node a)) (d 0 _ refl) (d 1 _ refl) ∙ ap not r ∙ ap (holds_at v) (sym e)
  by_fields (Some kind.And) p a b n e d s r =
      is_and _ (t (atom.Node a)) (t (atom.Node b)) (d 0 _ refl) (d 1 _ refl) (d 2 _ refl)
      ∙ ap (λ x. x && (t (atom.Node b) && true)) r.0 ∙ ap (λ y. truth a && (y && true)) r.1 ∙ ap (holds_at v) (sym e)
  by_fields (Some kind.Or) p a b n e d s r =
      is_or _ (t (atom.Node a)) (t (atom.Node b)) (d 0 _ refl) (d 1 _ refl) (d 2 _ refl)
      ∙ ap (λ x. x || (t (atom.Node b) || false)) r.0 ∙ ap (λ y. truth a || (y || false)) r.1 ∙ ap (holds_at v) (sym e)
  by_fields _ p a b n e d s r = absurd (false≢true n)

  fields_right : (front : List ℕ) (o : Option Kind) (a b : ℕ) → is_formed_as o front a b ≡ true → AreFieldsBelow below o a b
      → ((q : ℕ) → q < length front → below q ≡ true → Right q) → FieldsRight o a b
  unfolding FieldsRight
  fields_right front (Some kind.Not) a b f i r = r a (place_within front class.Cond a (formed_fields front kind.Not a b f).0) i
  fields_right front (Some kind.And) a b f i r =
      let c = formed_fields front kind.And a b f in
      (r a (place_within front class.Cond a c.0) i.0, r b (place_within front class.Cond b c.1) i.1)
  fields_right front (Some kind.Or) a b f i r =
      let c = formed_fields front kind.Or a b f in
      (r a (place_within front class.Cond a c.0) i.0, r b (place_within front class.Cond b c.1) i.1)
  fields_right front _ a b f i r = tt

  at_word : (p : ℕ) (o : Option ℕ) → slice_get ws p ≡ o → is_word_of o class.Cond ≡ true → below p ≡ true
      → ((q : ℕ) → q < p → below q ≡ true → Right q) → Right p
  at_word p None there n b r = absurd (false≢true n)
  at_word p (Some w) there n b r =
      let s = split_at ws p w there in
      by_fields (kind_of w) p (left_of w) (right_of w) n (ap as_cond (meaning_at ws wf p w there))
      (λ k c e. m.definitions p k c b (ap (λ o. definition o p k) there ∙ e))
      (λ e. m.equalities p w b there e)
      (fields_right s.front (kind_of w) (left_of w) (right_of w) (formed_at ws wf p w there s) (m.fields p w b there) (λ q lt i. r q (omega (arith, s.long, lt)) i))

  up_to : (n p : ℕ) → p < n → below p ≡ true → Right p
  up_to zero p lt b = absurd (omega arith)
  up_to (suc n) p lt b = at_word p (slice_get ws p) refl (m.conditions p b) b (λ q below_p i. up_to n q (omega arith) i)

  pub each_right : (p : ℕ) → below p ≡ true → Right p
  each_right p b = up_to (suc p) p (omega arith) b
