-- The truth of a condition rests on the nulls below it.
use Rattle.std.proofs.Common.{◌≡◌, ℕ, zero, suc, ◌<◌, Bool, true, false, not, cond, List, [], ◌∷◌, if◌then◌else◌, refl, ap, sym, ◌∙◌, subst, arith}
use Rattle.std.{specs.Prelude.{IsTrue, Contains}, proofs.lemmas.Bool.{false≢true}}
use Rattle.ct_word.{specs.declared.values.Term.Term, specs.declared.values.Null.Null, specs.Value.{World, at, same_null, same_value, value_of_null}}
use Rattle.ct_word.{specs.Condition.holds_at, specs.Connective.join, specs.Reading.{condition_at, term_at}, specs.Stands.{TermBelow, through}, specs.WellFormed.{IsWellFormed, is_place_of}}
use Rattle.ct_word.proofs.{Joins.joined_holds, Alike.null_decides, Items.{first_item, later_item}}
use Rattle.ct_worlds.{specs.declared.shape.Shape.Shape, specs.Shape.{IsShaped, literal, parts_of, parts_at, shape_at, terms_of}, specs.Nulls.{AreNullsBelow, has_null, part_of}, specs.Truths.{ArePartsFirst, HaveTruths}, specs.declared.nulls.Nulls.Nulls}
use Rattle.ct_worlds.proofs.Shaped.{part_earlier, part_named, shaped, term_stands}
use Rattle.ct_word.specs.declared.kinds.Class.TheVariants as class
use Rattle.ct_word.specs.declared.values.Term.TheVariants as term
use Rattle.ct_worlds.specs.declared.shape.Shape.TheVariants as shape

-- two worlds give a null below a place one value
abbrev pub Agree : List ℕ → ℕ → World → World → Type 0
Agree words p v w = (n : Null) → TermBelow words p (term.Null n) → value_of_null v n ≡ value_of_null w n

module _ (words : List ℕ) (v w : World) where
  literal_agrees : (b : Bool) → holds_at v (literal b) ≡ holds_at w (literal b)
  literal_agrees true = refl
  literal_agrees false = refl

  value_agrees : (p s : ℕ) → IsWellFormed words → IsTrue (is_place_of words class.Cond p) → Contains (terms_of (shape_at words p)) s → Agree words p v w
      → at v [] (term_at words s) ≡ at w [] (term_at words s)
  value_agrees p s formed placed h same = by (term_at words s) refl where
    by : (t : Term) → term_at words s ≡ t → at v [] t ≡ at w [] t
    by (term.Column k) e = refl
    by (term.Value x) e = refl
    by (term.Null n) e = same n (term_stands words p s (term.Null n) formed placed h e)

  part_agrees : (p q : ℕ) → Contains (parts_at words p) q → Agree words p v w → Agree words q v w
  part_agrees p q h same n below = let named = part_named words p q h in same n (below.0, through named.word q named.there named.among below.1, below.2)

  by_shape : (p : ℕ) (s : Shape) → IsShaped words p s → shape_at words p ≡ s → ((q : ℕ) → Contains (parts_at words p) q → holds_at v (condition_at words q) ≡ holds_at w (condition_at words q))
      → ((q : ℕ) → Contains (terms_of (shape_at words p)) q → at v [] (term_at words q) ≡ at w [] (term_at words q))
      → holds_at v (condition_at words p) ≡ holds_at w (condition_at words p)
  by_shape p (shape.Literal b) is e parts terms = ap (holds_at v) is.condition ∙ literal_agrees b ∙ sym (ap (holds_at w) is.condition)
  by_shape p (shape.Equal s t) is e parts terms =
      let left = terms s (subst (λ x. Contains (terms_of x) s) (sym e) (first_item (t ∷ []) s)) in
      let right = terms t (subst (λ x. Contains (terms_of x) t) (sym e) (later_item (t ∷ []) s t (first_item [] t))) in
      ap (holds_at v) is.condition ∙ (λ i. same_value (left i) (right i)) ∙ sym (ap (holds_at w) is.condition)
  by_shape p (shape.Not q) is e parts terms =
      ap (holds_at v) is.condition ∙ ap not (parts q (subst (λ x. Contains (parts_of x) q) (sym e) (first_item [] q))) ∙ sym (ap (holds_at w) is.condition)
  by_shape p (shape.Joined j a b) is e parts terms =
      let left = parts a (subst (λ x. Contains (parts_of x) a) (sym e) (first_item (b ∷ []) a)) in
      let right = parts b (subst (λ x. Contains (parts_of x) b) (sym e) (later_item (b ∷ []) a b (first_item [] b))) in
      ap (holds_at v) is.condition ∙ joined_holds j v [] (condition_at words a) (condition_at words b) ∙ (λ i. join j (left i) (right i))
      ∙ sym (joined_holds j w [] (condition_at words a) (condition_at words b)) ∙ sym (ap (holds_at w) is.condition)

  agrees_within : (n p : ℕ) → p < n → IsWellFormed words → IsTrue (is_place_of words class.Cond p) → Agree words p v w → holds_at v (condition_at words p) ≡ holds_at w (condition_at words p)
  agrees_within zero p lt formed placed same = absurd (omega (arith, lt))
  agrees_within (suc n) p lt formed placed same =
      by_shape p (shape_at words p) (shaped words p formed placed) refl
      (λ q h. let e = part_earlier words p q formed placed h in let l = e.below in agrees_within n q (omega (arith, l, lt)) formed e.placed (part_agrees p q h same))
      (λ q h. value_agrees p q formed placed h same)

  -- worlds that agree on the nulls below a condition give it one truth
  pub truth_agrees : (p : ℕ) → IsWellFormed words → IsTrue (is_place_of words class.Cond p) → Agree words p v w → holds_at v (condition_at words p) ≡ holds_at w (condition_at words p)
  truth_agrees p formed placed same = agrees_within (suc p) p (omega arith) formed placed same

-- nulls of which one alone is among these are different
pub has_other : (ns : List Null) (m n : Null) (b c : Bool) → has_null ns m ≡ b → has_null ns n ≡ c → (b ≡ c → ⊥) → same_null m n ≡ false
has_other ns m n b c e f ne = by (same_null m n) refl where
  by : (s : Bool) → same_null m n ≡ s → s ≡ false
  by false s = refl
  by true s = absurd (ne (sym e ∙ ap (has_null ns) ((null_decides m n).0 s) ∙ f))

module _ (ns : List Null) where
  -- a null that is kept has the value that it had
  pub part_gives : (v : World) (n : Null) → has_null ns n ≡ true → value_of_null (part_of ns v) n ≡ value_of_null v n
  part_gives [] n k = refl
  part_gives (p ∷ v) n k = by (has_null ns p.0) refl (part_gives v n k) where
    by : (b : Bool) → has_null ns p.0 ≡ b → value_of_null (part_of ns v) n ≡ value_of_null v n → value_of_null (cond b (p ∷ part_of ns v) (part_of ns v)) n ≡ value_of_null (p ∷ v) n
    by true e rest = ap (λ x. if same_null p.0 n then p.1 else x) rest
    by false e rest = rest ∙ sym (ap (λ b. if b then p.1 else value_of_null v n) (has_other ns p.0 n false true e k false≢true))

-- the truths in the part of a world with the nulls of conditions are those in the world
pub truths_whole : (words places : List ℕ) (nulls : Nulls) (world part : World) (truths : ℕ → Bool) → IsWellFormed words → ArePartsFirst words places → AreNullsBelow words places nulls
    → part ≡ part_of nulls.listed.keys world → HaveTruths words part places truths → HaveTruths words world places truths
truths_whole words places nulls world part truths formed first noted is have p h =
    have p h ∙ truth_agrees words part world p formed (first.each p h) (λ n below. ap (λ v. value_of_null v n) is ∙ part_gives nulls.listed.keys world n (noted p n h below))
