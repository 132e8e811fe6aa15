-- Values that are put into a draft, and the world that it gives.
use Rattle.std.proofs.Common.{◌≡◌, ◌⊎◌, ◌<◌, ◌≤◌, ◌+◌, ◌^◌, ℕ, Bool, true, false, List, [], ◌∷◌, ◌++◌, length, map, take, get_or, if◌then◌else◌, refl, ap, sym, subst, ◌∙◌, arith, inl, inr}
use Rattle.std.{specs.Prelude.{All, Contains, IsTrue}, specs.List.{AllByRecursion, IsDistinct, list_any}, proofs.lemmas.List.{map-append, take_all, take_more}}
use Rattle.std.proofs.lemmas.List.Elements.{All-contains, All-weaker, Contains-get_or, Contains-push_cases}
use Rattle.indexmap.specs.IndexSet.{insert_key}
use Rattle.ct_word.specs.contracts.values.NullPartialEq.TheImpl as null_code
use Rattle.ct_word.{specs.declared.values.Value.Value, specs.declared.values.Null.Null, specs.declared.values.Term.Term, specs.Value.{World, other_zero, same_null}, specs.Reading.{IsTerm, term_at}}
use Rattle.ct_word.{specs.Stands.{StandsAt, TermBelow}, specs.WellFormed.IsWellFormed, proofs.Places.stands_term, proofs.Items.{first_item, later_item, mapped_item}}
use Rattle.ct_worlds.{specs.declared.wishing.Wish.Wish, specs.Shape.{terms_of}, specs.Below.AreBelow}
use Rattle.ct_worlds.specs.Repaired.{Adds, Each, IsAt, IsChanged, IsDrawn, IsFrom, IsMade, IsMadeFrom, IsNullNear, IsNullOf, IsNullSide, IsNullTerm, IsOf, IsOverTerms, IsSide, IsSideOf, IsTermBelow, IsValueOf, IsWishAt, IsWishBelow}
use Rattle.ct_worlds.proofs.{Each.{all_each, each_all}, Shaped.{below_more, shaped, term_named}, Values.compared}
use Rattle.ct_word.specs.WellFormed.{is_place_of}
use Rattle.ct_word.specs.declared.kinds.Class.TheVariants as class
use Rattle.ct_word.specs.declared.values.Value.TheVariants as val
use Rattle.ct_word.specs.declared.values.Term.TheVariants as term

module _ {X : Type 0} where
  pub adds_after : (P Q R : X → Type 0) (old mid new : List X) → Adds P old mid → Adds Q mid new → ((x : X) → P x → R x) → ((x : X) → Q x → R x) → Adds R old new
  adds_after P Q R old mid new a b p q x h = elim (b x h) [
    | inl there ↦ elim (a x there) [ inl first ↦ inl first | inr one ↦ inr (p x one) ]
    | inr two ↦ inr (q x two)
  ]

  pub adds_more : (P Q : X → Type 0) (old mid new : List X) → Adds P old mid → Adds Q mid new → ((x : X) → Q x → P x) → Adds P old new
  adds_more P Q old mid new a b q = adds_after P Q P old mid new a b (λ x p. p) q

  pub adds_none : (P : X → Type 0) (old : List X) → Adds P old old
  adds_none P old x h = inl h

  pub adds_same : (P : X → Type 0) (old new : List X) → new ≡ old → Adds P old new
  adds_same P old new e x h = inl (subst (λ l. Contains l x) e h)

  pub adds_still : (P : X → Type 0) (old mid new : List X) → Adds P old mid → new ≡ mid → Adds P old new
  adds_still P old mid new a e x h = a x (subst (λ l. Contains l x) e h)

  pub adds_twice : (P : X → Type 0) (old mid new : List X) → Adds P old mid → Adds P mid new → Adds P old new
  adds_twice P old mid new a b = adds_more P P old mid new a b (λ x p. p)

  -- what was put to none
  put_in : (P Q : X → Type 0) (first mid last : List X) → ((x : X) → Contains first x → ⊥) → Adds P first mid → Adds Q mid last → (x : X) → Contains last x → P x ⊎ Q x
  put_in P Q first mid last none a b x h = elim (b x h) [
    | inl there ↦ elim (a x there) [ inl f ↦ absurd (none x f) | inr one ↦ inl one ]
    | inr two ↦ inr two
  ]

zero_from : (next : ℕ) (x : Value) → x ≡ other_zero → IsFrom next x
zero_from next x e = record { number = 0; short = omega arith; from = inl refl; value = e }

-- what is new from a number on is new from an earlier one on
earlier : (n k : ℕ) (x : Value) → n ≤ k → IsFrom k x → IsFrom n x
earlier n k x le f = record {
  number = f.number;
  short = f.short;
  from = elim f.from [ inl zero ↦ inl zero | inr more ↦ inr (omega (arith, le, more)) ];
  value = f.value;
}

pub adds_from : (n k : ℕ) (old mid new : List Value) → n ≤ k → Adds (IsFrom n) old mid → Adds (IsFrom k) mid new → Adds (IsFrom n) old new
adds_from n k old mid new le a b = adds_more (IsFrom n) (IsFrom k) old mid new a b (λ x. earlier n k x le)

pub adds_numbers : (words : List ℕ) (wishes : List Wish) (next : ℕ) (old mid new : List Value) → Adds (IsSide words wishes) old mid → Adds (IsFrom next) mid new
    → Adds (IsOf words wishes next) old new
adds_numbers words wishes next old mid new a b = adds_after (IsSide words wishes) (IsFrom next) (IsOf words wishes next) old mid new a b sides (λ x k. inr k) where
  sides : (x : Value) → IsSide words wishes x → IsOf words wishes next x
  sides x (inl s) = inl s
  sides x (inr e) = inr (zero_from next x e)

-- a key that was put in
pub adds_key : {X : Type 0} (eq : X → X → Bool) (ks new : List X) (k : X) → new ≡ insert_key eq ks k → Adds (λ x. x ≡ k) ks new
adds_key eq ks new k e x h = by (list_any (eq k) ks) (subst (λ l. Contains l x) e h) where
  by : (b : Bool) → Contains (if b then ks else ks ++ k ∷ []) x → Contains ks x ⊎ (x ≡ k)
  by true i = inl i
  by false i = elim (Contains-push_cases ks k x i) [ inl there ↦ inl there | inr same ↦ inr (sym same) ]

-- `@k` was put in
pub adds_numbered : (k : ℕ) (old new : List Value) → k < 2 ^ 28 → Adds (λ x. x ≡ val.Other k) old new → Adds (IsFrom k) old new
adds_numbered k old new lt a x h = elim (a x h) [ inl first ↦ inl first | inr e ↦ inr (record { number = k; short = lt; from = inr (omega arith); value = e }) ]

-- equalities between terms below conditions are ones between terms
pub over_terms : (words places : List ℕ) (wishes : List Wish) → All (IsWishBelow words places) wishes → All (IsOverTerms words) wishes
over_terms words places wishes = All-weaker (IsWishBelow words places) (IsOverTerms words) (λ w h. (h.0.placed, h.1.placed)) wishes

-- one more null of a draft, with its value
pub pairs_on : (nulls : List Null) (keys : List Value) (i : ℕ) (n m : Null) (x : Value) (ps qs : World) → i < length nulls → m ≡ get_or nulls i n → qs ≡ ps ++ (m, x) ∷ []
    → map (λ p. p.0) ps ≡ take i nulls → Each (λ p. Contains keys p.1 ⊎ (p.1 ≡ other_zero)) ps → Contains keys x ⊎ (x ≡ other_zero)
    → (map (λ p. p.0) qs ≡ take (i + 1) nulls) × Each (λ p. Contains keys p.1 ⊎ (p.1 ≡ other_zero)) qs
pairs_on nulls keys i n m x ps qs lt copy is before each one = (
  ap (map (λ p. p.0)) is ∙ map-append (λ p. p.0) ps ((m, x) ∷ []) ∙ (λ j. before j ++ copy j ∷ []) ∙ sym (take_more nulls i n lt),
  λ p h. elim (Contains-push_cases ps (m, x) p (subst (λ l. Contains l p) is h)) [
    | inl there ↦ each p there
    | inr same ↦ subst (λ y. Contains keys y ⊎ (y ≡ other_zero)) (ap (λ q. q.1) same) one
  ],
)

-- all its nulls
pub nulls_are : (nulls keys : List Null) (i : ℕ) (ps : World) → nulls ≡ keys → length nulls ≤ i → map (λ p. p.0) ps ≡ take i nulls → map (λ p. p.0) ps ≡ keys
nulls_are nulls keys i ps is le e = e ∙ take_all i nulls le ∙ is

-- are different
pub once_is : (nulls keys : List Null) (i : ℕ) (ps : World) → nulls ≡ keys → length nulls ≤ i → map (λ p. p.0) ps ≡ take i nulls → IsDistinct null_code.ghosts.eq keys
    → IsDistinct same_null (map (λ p. p.0) ps)
once_is nulls keys i ps is le e d = subst (IsDistinct same_null) (sym (nulls_are nulls keys i ps is le e)) (subst (λ eq. IsDistinct eq keys) compared d)

pub put_then : {X : Type 0} (old mid new : List X) (y z : X) → Adds (λ x. x ≡ y) old mid → new ≡ mid → y ≡ z → Adds (λ x. x ≡ z) old new
put_then old mid new y z a e f x h = elim (a x (subst (λ l. Contains l x) e h)) [ inl first ↦ inl first | inr is ↦ inr (is ∙ f) ]

pub then_put : {X : Type 0} (old mid new : List X) (y z : X) → mid ≡ old → Adds (λ x. x ≡ y) mid new → y ≡ z → Adds (λ x. x ≡ z) old new
then_put old mid new y z e a f x h = elim (a x h) [ inl first ↦ inl (subst (λ l. Contains l x) e first) | inr is ↦ inr (is ∙ f) ]

module _ (words : List ℕ) (place : ℕ) (old new : List Value) where
  pub side_value : (t : Term) (y : Value) → t ≡ term_at words place → t ≡ term.Value y → Adds (λ x. x ≡ y) old new → Adds (IsAt words place) old new
  side_value t y e f a x h = elim (a x h) [ inl first ↦ inl first | inr is ↦ inr (inl (sym e ∙ f ∙ ap term.Value (sym is))) ]

  pub side_zero : Adds (λ x. x ≡ val.Other 0) old new → Adds (IsAt words place) old new
  side_zero a x h = elim (a x h) [ inl first ↦ inl first | inr is ↦ inr (inr is) ]

pub side_null : (words : List ℕ) (place : ℕ) (t : Term) (n : Null) (old mid new : List Null) → t ≡ term_at words place → t ≡ term.Null n → mid ≡ old → Adds (λ m. m ≡ n) mid new
    → Adds (IsNullTerm words place) old new
side_null words place t n old mid new e f same a m h = elim (a m h) [ inl first ↦ inl (subst (λ l. Contains l m) same first) | inr is ↦ inr (sym e ∙ f ∙ ap term.Null (sym is)) ]

-- one more pair of the world was put in
pub pairs_more : {X : Type 0} (part : Null × Value → X) (pairs : World) (i : ℕ) (p : Null × Value) (old mid new : List X) → i < length pairs → p ≡ get_or pairs i p
    → Adds (Contains (map part pairs)) old mid → Adds (λ x. x ≡ part p) mid new → Adds (Contains (map part pairs)) old new
pairs_more part pairs i p old mid new lt is a b =
    adds_more (Contains (map part pairs)) (λ x. x ≡ part p) old mid new a b (λ x e.
    subst (Contains (map part pairs)) (sym (e ∙ ap part is)) (mapped_item part pairs (get_or pairs i p) (Contains-get_or pairs i p lt)))

-- the two sides of one more equality were put in
pub links_more : (words : List ℕ) (wishes : List Wish) (w : Wish) (old mid one new : List Value) → Contains wishes w → Adds (IsSide words wishes) old mid
    → Adds (IsAt words w.left) mid one → Adds (IsAt words w.right) one new → Adds (IsSide words wishes) old new
links_more words wishes w old mid one new among a b c =
    adds_more (IsSide words wishes) (IsAt words w.right) old one new (adds_more (IsSide words wishes) (IsAt words w.left) old mid one a b first) c second where
      first : (x : Value) → IsAt words w.left x → IsSide words wishes x
      first x (inl e) = inl (record { wish = w; among = among; is = inl e })
      first x (inr k) = inr k

      second : (x : Value) → IsAt words w.right x → IsSide words wishes x
      second x (inl e) = inl (record { wish = w; among = among; is = inr e })
      second x (inr k) = inr k

-- so were its nulls
pub links_nulls : (words : List ℕ) (wishes : List Wish) (w : Wish) (old mid one new : List Null) → Contains wishes w → Adds (IsNullSide words wishes) old mid
    → Adds (IsNullTerm words w.left) mid one → Adds (IsNullTerm words w.right) one new → Adds (IsNullSide words wishes) old new
links_nulls words wishes w old mid one new among a b c =
    adds_more (IsNullSide words wishes) (IsNullTerm words w.right) old one new
    (adds_more (IsNullSide words wishes) (IsNullTerm words w.left) old mid one a b (λ n e. record { wish = w; among = among; is = inl e }))
    c (λ n e. record { wish = w; among = among; is = inr e })

module _ (words : List ℕ) (wishes : List Wish) (old new : World) where
  -- the values of a draft
  pub drawn_values : (next : ℕ) (first mid last : List Value) → ((x : Value) → Contains first x → ⊥) → Adds (IsValueOf old) first mid → Adds (IsOf words wishes next) mid last
      → Each (λ p. Contains last p.1 ⊎ (p.1 ≡ other_zero)) new → Each (λ p. IsValueOf old p.1 ⊎ IsOf words wishes next p.1) new
  drawn_values next first mid last none a b each p h = elim (each p h) [
    | inl there ↦ put_in (IsValueOf old) (IsOf words wishes next) first mid last none a b p.1 there
    | inr e ↦ inr (inr (zero_from next p.1 e))
  ]

  -- and its nulls
  pub drawn_nulls : (first mid last : List Null) → ((n : Null) → Contains first n → ⊥) → Adds (IsNullOf old) first mid → Adds (IsNullSide words wishes) mid last
      → map (λ p. p.0) new ≡ last → Each (λ p. IsNullOf old p.0 ⊎ IsNullSide words wishes p.0) new
  drawn_nulls first mid last none a b is p h =
      put_in (IsNullOf old) (IsNullSide words wishes) first mid last none a b p.0 (subst (λ l. Contains l p.0) is (mapped_item (λ q. q.0) new p h))

module _ (words places : List ℕ) where
  -- a side of an equality stands below the conditions
  side_below : (wishes : List Wish) (t : Term) → All (IsWishBelow words places) wishes → IsSideOf words wishes t → (root : ℕ) × Contains places root × TermBelow words root t
  side_below wishes t are s =
      let both = All-contains (IsWishBelow words places) wishes s.wish are s.among in
      elim s.is [ inl e ↦ at s.wish.left both.0 e | inr e ↦ at s.wish.right both.1 e ] where
        at : (p : ℕ) → IsTermBelow words places p → term_at words p ≡ t → (root : ℕ) × Contains places root × TermBelow words root t
        at p b e = (b.root, b.among, (p, b.below, subst (λ u. StandsAt words p (IsTerm u)) e (stands_term words p b.placed)))

  -- what is new from a number on is new
  made_from : (next : ℕ) (old : World) (x : Value) → IsMadeFrom words places next old x → IsMade words places old x
  made_from next old x (inl v) = inl v
  made_from next old x (inr (inl c)) = inr (inl c)
  made_from next old x (inr (inr f)) = inr (inr (record { number = f.number; short = f.short; value = f.value }))

  pub changed_values : (next : ℕ) (old new : World) → IsChanged words places next old new → AllByRecursion (λ p. IsMade words places old p.1) new
  changed_values next old new is =
      each_all (λ p. IsMade words places old p.1) new (λ p h. made_from next old p.1 (all_each (λ q. IsMadeFrom words places next old q.1) new p is.values h))

  pub changed_is : (wishes : List Wish) (next : ℕ) (old new : World) → All (IsWishBelow words places) wishes → IsDrawn words wishes next old new → IsChanged words places next old new
  changed_is wishes next old new are d = record {
    values = each_all (λ p. IsMadeFrom words places next old p.1) new (λ p h. by p.1 (d.values p h));
    nulls = each_all (λ p. IsNullNear words places old p.0) new (λ p h. null_by p.0 (d.nulls p h));
    once = d.once;
  } where
    by : (x : Value) → IsValueOf old x ⊎ IsOf words wishes next x → IsMadeFrom words places next old x
    by x (inl v) = inl v
    by x (inr (inr k)) = inr (inr k)
    by x (inr (inl s)) = let b = side_below wishes (term.Value x) are s in inr (inl (record { root = b.0; among = b.1; below = b.2 }))

    null_by : (n : Null) → IsNullOf old n ⊎ IsNullSide words wishes n → IsNullNear words places old n
    null_by n (inl there) = inl there
    null_by n (inr s) = let b = side_below wishes (term.Null n) are s in inr (record { root = b.0; among = b.1; below = b.2 })

  -- the equality at a place below the conditions
  pub wish_below : (listed : List ℕ) → IsWellFormed words → AreBelow words places listed → (p : ℕ) → Contains listed p → (w : Wish) → IsWishAt words p w → IsWishBelow words places w
  wish_below listed formed are p h w e =
      let r = are.each p h in
      let terms = subst (λ s. AllByRecursion (λ t. IsTrue (is_place_of words class.Term t)) (terms_of s)) e (shaped words p formed r.condition).terms in
      let left = term_named words p w.left (subst (λ s. Contains (terms_of s) w.left) (sym e) (first_item (w.right ∷ []) w.left)) in
      let right = term_named words p w.right (subst (λ s. Contains (terms_of s) w.right) (sym e) (later_item (w.right ∷ []) w.left w.right (first_item [] w.right))) in (
        record { root = r.root; among = r.among; below = below_more words r.root p w.left left.word r.below left.there left.among; placed = terms.0 },
        record { root = r.root; among = r.among; below = below_more words r.root p w.right right.word r.below right.there right.among; placed = terms.1.0 },
      )
