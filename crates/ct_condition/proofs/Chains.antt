-- The words of a text that stands already, from its end word on.
use Rattle.std.proofs.Common.{◌≡◌, ℕ, zero, suc, ◌<◌, ◌^◌, true, List, [], ◌∷◌, ◌++◌, length, get_or, Option, Some, None, refl, ap, ◌∙◌, sym, subst, arith, inl, inr}
use Rattle.std.{specs.Prelude.{slice_get, encode_utf8, Contains}, proofs.Math.Utf8.{encode, encodes}, proofs.lemmas.List.{append-nil, append_assoc}}
use Rattle.std.{proofs.lemmas.Str.{encodes-append, encodes_same, cons_from_encodes}, proofs.lemmas.Option.{slice_get_within, slice_get-get_or, same_Some}}
use Rattle.std.proofs.lemmas.Bool.{eqb-true, false≢true}
use Rattle.ct_word.{specs.declared.kinds.Kind.Kind, specs.Word.{word_of, kind_of, left_of, right_of}, specs.Stands.StandsAt, proofs.Codes.code_by}
use Rattle.ct_word.{specs.Reading.{Meaning, IsText, as_text, by_kind, meanings}, proofs.Growth.length-read, proofs.Stands.stands_for_packed}
use Rattle.ct_word.{specs.WellFormed.{has_class, is_word_of, is_place_of, IsWellFormed}, proofs.Constants.text_kinds, proofs.Splits.{meaning_at, one_place}}
use Rattle.ct_word.{proofs.Items.contains_of_get, specs.WordAt.IsWordAt, proofs.WordAt.word_is}
use Rattle.ct_word.specs.declared.kinds.Kind.TheVariants as kind
use Rattle.ct_word.specs.declared.kinds.Class.TheVariants as class

-- a word is its kind's code and its fields
pub packed : (w : ℕ) (k : Kind) → kind_of w ≡ Some k → w ≡ word_of k (left_of w) (right_of w)
packed w k e = let code = code_by _ k e in omega (arith, code)

pub small_left : (w : ℕ) → left_of w < 2 ^ 28
small_left w = omega arith

pub small_right : (w : ℕ) → right_of w < 2 ^ 28
small_right w = omega arith

-- characters that begin as others do, and the others go on by a rest
begin_with : (ds cs rest : List ℕ) → encodes cs ≡ encodes ds ++ rest → (es : List ℕ) × (cs ≡ ds ++ es) × (encodes es ≡ rest)
begin_with [] cs rest e = (cs, refl, e)
begin_with (d ∷ ds) cs rest e =
    let first = cons_from_encodes cs (encodes ds ++ rest) d (e ∙ append_assoc (encode d) (encodes ds) rest) in
    let others = begin_with ds first.0 rest first.2 in
    (others.0, first.1 ∙ ap (λ l. d ∷ l) others.1, others.2)

module _ (ws : List ℕ) (wf : IsWellFormed ws) where
  -- a word by its kind and its fields
  pub taken_apart : (p w : ℕ) → slice_get ws p ≡ Some w → (k : Kind) → kind_of w ≡ Some k → IsWordAt ws p (record { kind = k; left = left_of w; right = right_of w })
  taken_apart p w at k e = word_is ws p w at wf k e (small_left w) (small_right w)

  -- a place that stands for something has a word
  pub word_under : (p : ℕ) (m : Meaning) → StandsAt ws p m → (w : ℕ) × (slice_get ws p ≡ Some w)
  word_under p m stands =
      let lt : p < length ws = omega (arith, slice_get_within (meanings ws) p m stands, length-read [] ws) in
      (get_or ws p 0, slice_get-get_or ws p 0 lt)

  text_word : (o : Option Kind) (ms : List Meaning) (a b : ℕ) (t : List ℕ) → by_kind o ms a b ≡ IsText t → has_class o class.Text ≡ true
  text_word (Some kind.TextEnd) ms a b t e = refl
  text_word (Some kind.TextCharacter) ms a b t e = refl
  text_word _ ms a b t e = cc

  -- where a text stands is a place of a text
  pub text_class : (p : ℕ) (t : List ℕ) → StandsAt ws p (IsText t) → is_place_of ws class.Text p ≡ true
  text_class p t stands =
      let w = word_under p (IsText t) stands in
      ap (λ o. is_word_of o class.Text) w.1
      ∙ text_word (kind_of w.0) (meanings ws) (left_of w.0) (right_of w.0) t (same_Some _ _ (sym (meaning_at ws wf p w.0 w.1) ∙ stands))

  text_meaning : (o : Option Kind) (ms : List Meaning) (a b : ℕ) → has_class o class.Text ≡ true → by_kind o ms a b ≡ IsText (as_text (Some (by_kind o ms a b)))
  text_meaning (Some kind.TextEnd) ms a b e = refl
  text_meaning (Some kind.TextCharacter) ms a b e = refl
  text_meaning _ ms a b e = absurd (false≢true e)

  text_by : (p : ℕ) (o : Option ℕ) → slice_get ws p ≡ o → is_word_of o class.Text ≡ true → StandsAt ws p (IsText (as_text (slice_get (meanings ws) p)))
  text_by p None at e = absurd (false≢true e)
  text_by p (Some w) at e =
      let is = meaning_at ws wf p w at in
      is ∙ ap (λ m. Some m) (text_meaning (kind_of w) (meanings ws) (left_of w) (right_of w) e) ∙ ap (λ o. Some (IsText (as_text o))) (sym is)

  -- a place of a text stands for its text
  pub text_at_class : (p : ℕ) → is_place_of ws class.Text p ≡ true → StandsAt ws p (IsText (as_text (slice_get (meanings ws) p)))
  text_at_class p e = text_by p (slice_get ws p) refl e

  -- from one place of a text to another, by the words of these characters
  abbrev pub Chain : List ℕ → ℕ → ℕ → Type 0
  Chain [] p q = p ≡ q
  Chain (c ∷ cs) p q = (r : ℕ) × (slice_get ws r ≡ Some (word_of kind.TextCharacter p c)) × Chain cs r q

  chain_snoc : (cs : List ℕ) (p a r c : ℕ) → Chain cs p a → slice_get ws r ≡ Some (word_of kind.TextCharacter a c) → Chain (cs ++ c ∷ []) p r
  chain_snoc [] p a r c h at = (r, at ∙ ap (λ x. Some (word_of kind.TextCharacter x c)) (sym h), refl)
  chain_snoc (d ∷ cs) p a r c h at = (h.0, h.1, chain_snoc cs h.0 a r c h.2 at)

  chain_split : (ds es : List ℕ) (p q : ℕ) → Chain (ds ++ es) p q → (r : ℕ) × Chain ds p r × Chain es r q
  chain_split [] es p q h = (p, refl, h)
  chain_split (d ∷ ds) es p q h = let rest = chain_split ds es h.0 q h.2 in (rest.0, (h.0, h.1, rest.1), rest.2)

  chain_same : (cs : List ℕ) (p q r : ℕ) → Chain cs p q → Chain cs p r → q ≡ r
  chain_same [] p q r h k = sym h ∙ k
  chain_same (c ∷ cs) p q r h k =
      let same : h.0 ≡ k.0 = one_place ws wf h.0 k.0 (word_of kind.TextCharacter p c) h.1 k.1 in
      chain_same cs h.0 q r h.2 (subst (λ s. Chain cs s r) (sym same) k.2)

  -- a text by its end word and its characters
  pub record Spelled (p : ℕ) : Type 0 where
    pub chars : List ℕ
    pub start : ℕ
    pub ends : slice_get ws start ≡ Some (word_of kind.TextEnd 0 0)
    pub chain : Chain chars start p
    pub stands : StandsAt ws p (IsText (encodes chars))

  spelled_end : (p w : ℕ) → slice_get ws p ≡ Some w → kind_of w ≡ Some kind.TextEnd → Spelled p
  spelled_end p w at k =
      let f = taken_apart p w at kind.TextEnd k in
      let left : left_of w ≡ 0 = eqb-true _ _ f.left in
      let right : right_of w ≡ 0 = eqb-true _ _ f.right in
      let is : slice_get ws p ≡ Some (word_of kind.TextEnd 0 0) =
      at ∙ ap (λ x. Some x) (packed w kind.TextEnd k) ∙ (λ i. Some (word_of kind.TextEnd (left i) (right i))) in
      record { chars = []; start = p; ends = is; chain = refl; stands = stands_for_packed ws p kind.TextEnd 0 0 wf (omega arith) (omega arith) is }

  spelled_more : (p a c : ℕ) → a < 2 ^ 28 → c < 2 ^ 28 → slice_get ws p ≡ Some (word_of kind.TextCharacter a c) → Spelled a → Spelled p
  spelled_more p a c l r at f = record {
    chars = f.chars ++ c ∷ [];
    start = f.start;
    ends = f.ends;
    chain = chain_snoc f.chars f.start a p c f.chain at;
    stands =
        stands_for_packed ws p kind.TextCharacter a c wf l r at
        ∙ ap (λ o. Some (IsText (as_text o ++ encode_utf8 c))) f.stands
        ∙ ap (λ t. Some (IsText t)) (ap (λ t. encodes f.chars ++ t) (sym (append-nil (encode_utf8 c))) ∙ sym (encodes-append f.chars (c ∷ [])));
  }

  spelled_by : (p : ℕ) (o : Option ℕ) → slice_get ws p ≡ o → is_word_of o class.Text ≡ true
      → ((a : ℕ) → a < p → is_place_of ws class.Text a ≡ true → Spelled a) → Spelled p
  spelled_by p None at e below = absurd (false≢true e)
  spelled_by p (Some w) at e below = elim (text_kinds (kind_of w) e) [
    | inl k ↦ spelled_end p w at k
    | inr k ↦
        let f = (taken_apart p w at kind.TextCharacter k).left in
        spelled_more p (left_of w) (right_of w) (small_left w) (small_right w) (at ∙ ap (λ x. Some x) (packed w kind.TextCharacter k))
        (below (left_of w) f.0 f.1)
  ]

  spelled_at : (n p : ℕ) → p < n → is_place_of ws class.Text p ≡ true → Spelled p
  spelled_at zero p lt e = absurd (omega arith)
  spelled_at (suc n) p lt e = spelled_by p (slice_get ws p) refl e (λ a less is. spelled_at n a (omega (arith, less, lt)) is)

  -- each place of a text is spelled
  pub spell : (p : ℕ) → is_place_of ws class.Text p ≡ true → Spelled p
  spell p e = spelled_at (suc p) p (omega arith) e

  text_of : (p : ℕ) (t : List ℕ) (s : Spelled p) → StandsAt ws p (IsText t) → encodes s.chars ≡ t
  text_of p t s stands = ap as_text (sym s.stands ∙ stands)

  -- the end word stands
  pub ends_there : (p : ℕ) (t : List ℕ) → StandsAt ws p (IsText t) → Contains ws (word_of kind.TextEnd 0 0)
  ends_there p t e = let s = spell p (text_class p t e) in contains_of_get ws s.start (word_of kind.TextEnd 0 0) s.ends

  -- two places that stand for these characters are one
  one_spelled : (p q : ℕ) (s : Spelled p) (t : Spelled q) → encodes s.chars ≡ encodes t.chars → p ≡ q
  one_spelled p q s t e =
      let start : s.start ≡ t.start = one_place ws wf s.start t.start (word_of kind.TextEnd 0 0) s.ends t.ends in
      let chars : s.chars ≡ t.chars = encodes_same s.chars t.chars e in
      chain_same s.chars s.start p q s.chain
      (subst (λ cs. Chain cs s.start q) (sym chars) (subst (λ b. Chain t.chars b q) (sym start) t.chain))

  -- two places that stand for one text are one place
  pub one_text : (p q : ℕ) (t : List ℕ) → StandsAt ws p (IsText t) → StandsAt ws q (IsText t) → p ≡ q
  one_text p q t sp sq =
      let s = spell p (text_class p t sp) in
      let u = spell q (text_class q t sq) in
      one_spelled p q s u (text_of p t s sp ∙ sym (text_of q t u sq))

  -- where a text stands, and a place stands for its first characters, the word of the next one stands
  pub next_there : (p q : ℕ) (text ds more : List ℕ) (c : ℕ) → StandsAt ws p (IsText text)
      → StandsAt ws q (IsText (encodes ds)) → encodes ds ++ (encode c ++ more) ≡ text
      → Contains ws (word_of kind.TextCharacter q c)
  next_there p q text ds more c sp sq whole =
      let s = spell p (text_class p text sp) in
      let u = spell q (text_class q (encodes ds) sq) in
      let after = begin_with ds s.chars (encode c ++ more) (text_of p text s sp ∙ sym whole) in
      let next = cons_from_encodes after.0 more c after.2 in
      let split = chain_split ds (c ∷ next.0) s.start p (subst (λ cs. Chain cs s.start p) (after.1 ∙ ap (λ l. ds ++ l) next.1) s.chain) in
      let start : u.start ≡ s.start = one_place ws wf u.start s.start (word_of kind.TextEnd 0 0) u.ends s.ends in
      let chars : u.chars ≡ ds = encodes_same u.chars ds (text_of q (encodes ds) u sq) in
      let here : split.0 ≡ q =
      chain_same ds s.start split.0 q split.1 (subst (λ b. Chain ds b q) start (subst (λ cs. Chain cs u.start q) chars u.chain)) in
      contains_of_get ws split.2.0 (word_of kind.TextCharacter q c) (split.2.1 ∙ ap (λ x. Some (word_of kind.TextCharacter x c)) here)
