-- No two places of constants stand for one value, and no two places of terms for one term: a term says what its word is.
use Rattle.std.proofs.Common.{◌≡◌, ℕ, zero, suc, ◌+◌, ◌-◌, ◌*◌, ◌/◌, ◌%◌, ◌<◌, true, List, [], ◌∷◌, ◌++◌, length, Option, Some, nat_lt, refl, ap, ◌∙◌, sym, subst, arith, inl, inr, ◌⊎◌}
use Rattle.std.{specs.Prelude.{ℤ, pos, negsuc, slice_get, encode_utf8}, proofs.Math.Utf8.encodes, proofs.lemmas.Str.{encodes-append, encodes_same}}
use Rattle.std.{proofs.lemmas.List.{append-nil, same_from_push, length-append}, proofs.lemmas.Bool.{eqb-true, ltb-true, false≢true, cond_both}}
use Rattle.ct_word.{specs.declared.kinds.Kind.Kind, specs.declared.values.Value.Value, specs.declared.values.Term.Term, specs.Value.{World, at}}
use Rattle.ct_word.{specs.Word.{code_of, kind_of, left_of, right_of}, specs.Reading.{by_kind, meanings, as_text, as_high, as_term, int_of_bits, term_at}}
use Rattle.ct_word.{specs.WellFormed.{has_class, is_word_of, is_place_of, IsWellFormed}, specs.Constant.{is_constant_word, is_constant_kind}}
use Rattle.ct_word.{specs.WordAt.{IsWordAt, text_at}, proofs.Codes.code_by, proofs.Places.is_word, proofs.Splits.{meaning_at, one_place}, proofs.WordAt.word_is}
use Rattle.ct_word.specs.declared.kinds.Kind.TheVariants as kind
use Rattle.ct_word.specs.declared.kinds.Class.TheVariants as class
use Rattle.ct_word.specs.declared.values.Value.TheVariants as val
use Rattle.ct_word.specs.declared.values.Null.TheVariants as null
use Rattle.ct_word.specs.declared.values.Term.TheVariants as term

words_by : (w x c : ℕ) → c ≡ w / 72057594037927936 → c ≡ x / 72057594037927936 → left_of w ≡ left_of x → right_of w ≡ right_of x → w ≡ x
words_by w x c d e l r = omega arith

pub text_kinds : (o : Option Kind) → has_class o class.Text ≡ true → (o ≡ Some kind.TextEnd) ⊎ (o ≡ Some kind.TextCharacter)
text_kinds (Some kind.TextEnd) e = inl refl
text_kinds (Some kind.TextCharacter) e = inr refl
text_kinds _ e = absurd (false≢true e)

pub high_kind : (o : Option Kind) → has_class o class.High ≡ true → o ≡ Some kind.NumberHigh
high_kind (Some kind.NumberHigh) e = refl
high_kind _ e = absurd (false≢true e)

-- the 64 bits of a number
abbrev pub bits_of : ℤ → ℕ
bits_of (pos n) = n
bits_of (negsuc k) = 18446744073709551615 - k

pub bits_back : (n : ℕ) → n < 18446744073709551616 → bits_of (int_of_bits n) ≡ n
bits_back n lt = cond_both (nat_lt n 9223372036854775808) (pos n) (negsuc (18446744073709551615 - n)) (λ z. bits_of z ≡ n) (λ _. refl) (λ _. omega arith)

-- the high bits of a number and its last eight
number_parts : (h b : ℕ) → h < 72057594037927936 → b < 256 → (h ≡ bits_of (int_of_bits (h * 256 + b)) / 256) × (b ≡ bits_of (int_of_bits (h * 256 + b)) % 256)
number_parts h b l m = let e = bits_back (h * 256 + b) (omega (arith, l, m)) in (omega (arith, e, m), omega (arith, e, m))

-- a constant is a term
pub constant_term : (o : Option ℕ) → is_constant_word o ≡ true → is_word_of o class.Term ≡ true
constant_term (Some w) e = by_kind_term (kind_of w) e where
  by_kind_term : (o : Option Kind) → is_constant_kind o ≡ true → has_class o class.Term ≡ true
  by_kind_term (Some kind.Number) e = refl
  by_kind_term (Some kind.TextConstant) e = refl
  by_kind_term (Some kind.OtherValue) e = refl
  by_kind_term _ e = absurd (false≢true e)
constant_term _ e = absurd (false≢true e)

-- the kind of the word of a term
abbrev kind_for : Term → Kind
kind_for (term.Column k) = kind.Column
kind_for (term.Null (null.Named t)) = kind.NamedNull
kind_for (term.Null (null.Fresh s n)) = kind.FreshNull
kind_for (term.Value (val.Int z)) = kind.Number
kind_for (term.Value (val.Text t)) = kind.TextConstant
kind_for (term.Value (val.Other k)) = kind.OtherValue

-- its right field
abbrev right_for : Term → ℕ
right_for (term.Null (null.Fresh s n)) = n
right_for (term.Value (val.Int z)) = bits_of z % 256
right_for _ = 0

module _ (ws : List ℕ) (wf : IsWellFormed ws) where
  -- a place with a word of this kind
  record Spot (s : ℕ) (k : Kind) : Type 0 where
    word : ℕ
    there : slice_get ws s ≡ Some word
    kind_is : kind_of word ≡ Some k
    is : IsWordAt ws s (record { kind = k; left = left_of word; right = right_of word })

  is_at : (s w : ℕ) (k : Kind) → slice_get ws s ≡ Some w → kind_of w ≡ Some k → IsWordAt ws s (record { kind = k; left = left_of w; right = right_of w })
  is_at s w k there e = word_is ws s w there wf k e (omega arith) (omega arith)

  spot : (s w : ℕ) (k : Kind) → slice_get ws s ≡ Some w → kind_of w ≡ Some k → Spot s k
  spot s w k there e = record { word = w; there = there; kind_is = e; is = is_at s w k there e }

  same_word : (s t w x : ℕ) (k : Kind) → slice_get ws s ≡ Some w → slice_get ws t ≡ Some x → kind_of w ≡ Some k → kind_of x ≡ Some k → left_of w ≡ left_of x → right_of w ≡ right_of x → s ≡ t
  same_word s t w x k at_s at_t e f l r =
      let same : w ≡ x = words_by w x (code_of k) (code_by _ k e) (code_by _ k f) l r in
      one_place ws wf s t x (at_s ∙ ap Some same) at_t

  same_spot : (s t : ℕ) (k : Kind) (p : Spot s k) (q : Spot t k) → left_of p.word ≡ left_of q.word → right_of p.word ≡ right_of q.word → s ≡ t
  same_spot s t k p q l r = same_word s t p.word q.word k p.there q.there p.kind_is q.kind_is l r

  text_spot : (s : ℕ) → is_place_of ws class.Text s ≡ true → Spot s kind.TextEnd ⊎ Spot s kind.TextCharacter
  text_spot s e =
      let f = is_word (slice_get ws s) class.Text e in
      elim (text_kinds (kind_of f.0) f.2) [ inl k ↦ inl (spot s f.0 kind.TextEnd f.1 k) | inr k ↦ inr (spot s f.0 kind.TextCharacter f.1 k) ]

  high_spot : (s : ℕ) → is_place_of ws class.High s ≡ true → Spot s kind.NumberHigh
  high_spot s e = let f = is_word (slice_get ws s) class.High e in spot s f.0 kind.NumberHigh f.1 (high_kind (kind_of f.0) f.2)

  -- the characters of a text
  record Spelled (s : ℕ) : Type 0 where
    chars : List ℕ
    spelled : text_at ws s ≡ encodes chars

  spelled_more : (s : ℕ) (p : Spot s kind.TextCharacter) (f : Spelled (left_of p.word)) → text_at ws s ≡ encodes (f.chars ++ right_of p.word ∷ [])
  spelled_more s p f =
      ap as_text p.is.meaning ∙ ap (λ t. t ++ encode_utf8 (right_of p.word)) f.spelled
      ∙ ap (λ t. encodes f.chars ++ t) (sym (append-nil (encode_utf8 (right_of p.word))))
      ∙ sym (encodes-append f.chars (right_of p.word ∷ []))

  spell : (n s : ℕ) → s < n → is_place_of ws class.Text s ≡ true → Spelled s
  spell zero s lt e = absurd (omega arith)
  spell (suc n) s lt e = elim (text_spot s e) [
    | inl p ↦ record { chars = []; spelled = ap as_text p.is.meaning }
    | inr p ↦
        let below = p.is.left.0 in
        let f = spell n (left_of p.word) (omega (arith, below, lt)) p.is.left.1 in
        record { chars = f.chars ++ right_of p.word ∷ []; spelled = spelled_more s p f }
  ]

  before : (s : ℕ) (p : Spot s kind.TextCharacter) → Spelled (left_of p.word)
  before s p = spell (suc (left_of p.word)) (left_of p.word) (omega arith) p.is.left.1

  -- a text that ends at once has no character
  mixed : (s t : ℕ) → Spot s kind.TextEnd → Spot t kind.TextCharacter → text_at ws s ≡ text_at ws t → ⊥
  mixed s t p q e =
      let f = before t q in
      let same : [] ≡ f.chars ++ right_of q.word ∷ [] = encodes_same [] _ (sym (ap as_text p.is.meaning) ∙ e ∙ spelled_more t q f) in
      let long = ap length same in
      omega (arith, long, length-append f.chars (right_of q.word ∷ []))

  one_text : (n s t : ℕ) → s < n → is_place_of ws class.Text s ≡ true → is_place_of ws class.Text t ≡ true → text_at ws s ≡ text_at ws t → s ≡ t
  one_text zero s t lt e f same = absurd (omega arith)
  one_text (suc n) s t lt e f same = elim (text_spot s e) [
    | inl p ↦ elim (text_spot t f) [
      | inl q ↦
          same_spot s t kind.TextEnd p q (eqb-true _ 0 p.is.left ∙ sym (eqb-true _ 0 q.is.left)) (eqb-true _ 0 p.is.right ∙ sym (eqb-true _ 0 q.is.right))
      | inr q ↦ absurd (mixed s t p q same)
    ]
    | inr p ↦ elim (text_spot t f) [
      | inl q ↦ absurd (mixed t s q p (sym same))
      | inr q ↦
          let below = p.is.left.0 in
          let a = before s p in
          let b = before t q in
          let both = same_from_push a.chars b.chars (right_of p.word) (right_of q.word) (encodes_same _ _ (sym (spelled_more s p a) ∙ same ∙ spelled_more t q b)) in
          same_spot s t kind.TextCharacter p q
          (one_text n (left_of p.word) (left_of q.word) (omega (arith, below, lt)) p.is.left.1 q.is.left.1 (a.spelled ∙ ap encodes both.0 ∙ sym b.spelled))
          both.1
    ]
  ]

  -- the high bits of a number at a place
  abbrev high_at : ℕ → ℕ
  high_at s = as_high (slice_get (meanings ws) s)

  high_parts : (w x h : ℕ) → h ≡ left_of w * 268435456 + right_of w → h ≡ left_of x * 268435456 + right_of x → (left_of w ≡ left_of x) × (right_of w ≡ right_of x)
  high_parts w x h e f = (omega arith, omega arith)

  one_high : (s t : ℕ) → is_place_of ws class.High s ≡ true → is_place_of ws class.High t ≡ true → high_at s ≡ high_at t → s ≡ t
  one_high s t hs ht e =
      let p = high_spot s hs in
      let q = high_spot t ht in
      let both = high_parts p.word q.word (high_at s) (ap as_high p.is.meaning) (e ∙ ap as_high q.is.meaning) in
      same_spot s t kind.NumberHigh p q both.0 both.1

  high_below : (s : ℕ) → is_place_of ws class.High s ≡ true → high_at s < 72057594037927936
  high_below s hs = let p = high_spot s hs in small p.word (high_at s) (ap as_high p.is.meaning) where
    small : (w h : ℕ) → h ≡ left_of w * 268435456 + right_of w → h < 72057594037927936
    small w h e = omega arith

  -- what a term says of the left field of its word
  abbrev LeftIs : Term → ℕ → Type 0
  LeftIs (term.Column k) a = a ≡ k
  LeftIs (term.Null (null.Named t)) a = (is_place_of ws class.Text a ≡ true) × (text_at ws a ≡ t)
  LeftIs (term.Null (null.Fresh s n)) a = a ≡ s
  LeftIs (term.Value (val.Int z)) a = (is_place_of ws class.High a ≡ true) × (high_at a ≡ bits_of z / 256)
  LeftIs (term.Value (val.Text t)) a = (is_place_of ws class.Text a ≡ true) × (text_at ws a ≡ t)
  LeftIs (term.Value (val.Other k)) a = a ≡ k

  one_left : (t : Term) (a b : ℕ) → LeftIs t a → LeftIs t b → a ≡ b
  one_left (term.Column k) a b e f = e ∙ sym f
  one_left (term.Null (null.Named t)) a b e f = one_text (suc a) a b (omega arith) e.0 f.0 (e.1 ∙ sym f.1)
  one_left (term.Null (null.Fresh s n)) a b e f = e ∙ sym f
  one_left (term.Value (val.Int z)) a b e f = one_high a b e.0 f.0 (e.1 ∙ sym f.1)
  one_left (term.Value (val.Text t)) a b e f = one_text (suc a) a b (omega arith) e.0 f.0 (e.1 ∙ sym f.1)
  one_left (term.Value (val.Other k)) a b e f = e ∙ sym f

  -- the word at a place is the one of a term
  record WordFor (s : ℕ) (t : Term) : Type 0 where
    word : ℕ
    there : slice_get ws s ≡ Some word
    kind_is : kind_of word ≡ Some (kind_for t)
    left : LeftIs t (left_of word)
    right : right_of word ≡ right_for t

  word_by : (s w : ℕ) (o : Option Kind) → slice_get ws s ≡ Some w → kind_of w ≡ o → has_class o class.Term ≡ true → WordFor s (term_at ws s)
  word_by s w (Some kind.Number) at_s k e =
      let is = is_at s w kind.Number at_s k in
      let parts = number_parts (high_at (left_of w)) (right_of w) (high_below (left_of w) is.left.1) (ltb-true _ 256 is.right) in
      subst (WordFor s) (sym (ap as_term is.meaning)) (record { word = w; there = at_s; kind_is = k; left = (is.left.1, parts.0); right = parts.1 })
  word_by s w (Some kind.TextConstant) at_s k e =
      let is = is_at s w kind.TextConstant at_s k in
      subst (WordFor s) (sym (ap as_term is.meaning)) (record { word = w; there = at_s; kind_is = k; left = (is.left.1, refl); right = eqb-true _ 0 is.right })
  word_by s w (Some kind.NamedNull) at_s k e =
      let is = is_at s w kind.NamedNull at_s k in
      subst (WordFor s) (sym (ap as_term is.meaning)) (record { word = w; there = at_s; kind_is = k; left = (is.left.1, refl); right = eqb-true _ 0 is.right })
  word_by s w (Some kind.FreshNull) at_s k e =
      subst (WordFor s) (sym (ap as_term (is_at s w kind.FreshNull at_s k).meaning)) (record { word = w; there = at_s; kind_is = k; left = refl; right = refl })
  word_by s w (Some kind.OtherValue) at_s k e =
      let is = is_at s w kind.OtherValue at_s k in
      subst (WordFor s) (sym (ap as_term is.meaning)) (record { word = w; there = at_s; kind_is = k; left = refl; right = eqb-true _ 0 is.right })
  word_by s w (Some kind.Column) at_s k e =
      let is = is_at s w kind.Column at_s k in
      subst (WordFor s) (sym (ap as_term is.meaning)) (record { word = w; there = at_s; kind_is = k; left = refl; right = eqb-true _ 0 is.right })
  word_by s w _ at_s k e = absurd (false≢true e)

  word_for : (s : ℕ) → is_place_of ws class.Term s ≡ true → WordFor s (term_at ws s)
  word_for s e = let f = is_word (slice_get ws s) class.Term e in word_by s f.0 (kind_of f.0) f.1 refl f.2

  -- two places of terms that stand for one term are one place
  pub one_term : (s t : ℕ) → is_place_of ws class.Term s ≡ true → is_place_of ws class.Term t ≡ true → term_at ws s ≡ term_at ws t → s ≡ t
  one_term s t es et e =
      let a = subst (WordFor s) e (word_for s es) in
      let b = word_for t et in
      same_word s t a.word b.word (kind_for (term_at ws t)) a.there b.there a.kind_is b.kind_is (one_left (term_at ws t) _ _ a.left b.left) (a.right ∙ sym b.right)

  module _ (v : World) where
    abbrev pub value_at : ℕ → Value
    value_at s = at v [] (term_at ws s)

    by_constant_kind : (o : Option Kind) (a b : ℕ) → is_constant_kind o ≡ true
        → as_term (Some (by_kind o (meanings ws) a b)) ≡ term.Value (at v [] (as_term (Some (by_kind o (meanings ws) a b))))
    by_constant_kind (Some kind.Number) a b e = refl
    by_constant_kind (Some kind.TextConstant) a b e = refl
    by_constant_kind (Some kind.OtherValue) a b e = refl
    by_constant_kind _ a b e = absurd (false≢true e)

    -- a constant stands for its value
    pub constant_stands : (s : ℕ) → is_constant_word (slice_get ws s) ≡ true → term_at ws s ≡ term.Value (value_at s)
    constant_stands s e =
        let f = is_word (slice_get ws s) class.Term (constant_term (slice_get ws s) e) in
        let is = ap as_term (meaning_at ws wf s f.0 f.1) in
        is ∙ by_constant_kind (kind_of f.0) (left_of f.0) (right_of f.0) (sym (ap is_constant_word f.1) ∙ e) ∙ sym (ap (λ t. term.Value (at v [] t)) is)

    -- two places of constants with one value are one place
    pub one_constant : (s t : ℕ) → is_constant_word (slice_get ws s) ≡ true → is_constant_word (slice_get ws t) ≡ true → value_at s ≡ value_at t → s ≡ t
    one_constant s t cs ct e =
        one_term s t (constant_term (slice_get ws s) cs) (constant_term (slice_get ws t) ct) (constant_stands s cs ∙ ap term.Value e ∙ sym (constant_stands t ct))
