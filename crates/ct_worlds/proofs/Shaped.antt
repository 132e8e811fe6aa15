-- What the words of conditions stand for, and what stands below them.
use Rattle.std.{proofs.Common.{◌≡◌, ◌⊎◌, ℕ, ◌<◌, Bool, true, false, List, [], ◌∷◌, Some, None, refl, ap, sym, subst, ◌∙◌, arith, inl, inr}, specs.List.{AllByRecursion}}
use Rattle.std.{specs.Prelude.{IsTrue, slice_get, Option, Contains}, proofs.lemmas.Bool.{false≢true}, proofs.lemmas.List.Elements.{Contains-append_cases}}
use Rattle.ct_word.{specs.declared.kinds.Kind.Kind, specs.declared.kinds.Class.Class, specs.Word.{kind_of, left_of, right_of}, specs.Reading.as_cond, specs.WordAt.{IsWordAt, IsFieldAt}}
use Rattle.ct_word.specs.WellFormed.{Field, PlaceOf, IsWellFormed, is_place_of, is_word_of, has_class, same_class, class_of, fields_of}
use Rattle.ct_word.{specs.Stands.{Below, StandsAt, itself, through, class_of_meaning, place_in, places_in, places_of}, proofs.WordAt.{word_is, has_kind}, proofs.Items.{item_cases, no_item, sole_item}}
use Rattle.ct_word.{specs.declared.values.{Null.Null, Term.Term, Value.Value}, specs.Constant.is_constant_word, specs.Reading.{IsTerm, term_at}, specs.Stands.TermBelow}
use Rattle.ct_word.proofs.{Constants.constant_stands, Places.{meaning_of_class, stands_term}, Splits.some-injective}
use Rattle.ct_worlds.{specs.declared.shape.Shape.Shape, specs.Shape.{shape_of, shape_of_word, shape_at, parts_of, parts_at, terms_of, IsEarlier, IsShaped}}
use Rattle.ct_word.specs.declared.kinds.Kind.TheVariants as kind
use Rattle.ct_word.specs.declared.kinds.Class.TheVariants as class
use Rattle.ct_word.specs.declared.values.Term.TheVariants as term

module _ (ws : List ℕ) (p : ℕ) where
  earlier : (a : ℕ) → (a < p) × IsTrue (is_place_of ws class.Cond a) → IsEarlier ws p a
  earlier a h = record { below = h.0; placed = h.1 }

  by_kind : (k : Kind) (a b : ℕ) → IsWordAt ws p (record { kind = k; left = a; right = b }) → IsTrue (same_class (class_of k) class.Cond)
      → IsShaped ws p (shape_of (Some k) a b)
  by_kind kind.True a b is of = record { condition = ap as_cond is.meaning; parts = tt; terms = tt }
  by_kind kind.False a b is of = record { condition = ap as_cond is.meaning; parts = tt; terms = tt }
  by_kind kind.Equal a b is of = record { condition = ap as_cond is.meaning; parts = tt; terms = (is.left.1, (is.right.1, tt)) }
  by_kind kind.Not a b is of = record { condition = ap as_cond is.meaning; parts = (earlier a is.left, tt); terms = tt }
  by_kind kind.And a b is of = record { condition = ap as_cond is.meaning; parts = (earlier a is.left, (earlier b is.right, tt)); terms = tt }
  by_kind kind.Or a b is of = record { condition = ap as_cond is.meaning; parts = (earlier a is.left, (earlier b is.right, tt)); terms = tt }
  by_kind _ a b is of = absurd (false≢true of)

  by_word : (formed : IsWellFormed ws) (w : ℕ) (o : Option Kind) → slice_get ws p ≡ Some w → kind_of w ≡ o → IsTrue (has_class o class.Cond)
      → IsShaped ws p (shape_of o (left_of w) (right_of w))
  by_word formed w (Some k) at e of = by_kind k (left_of w) (right_of w) (word_is ws p w at formed k e (omega arith) (omega arith)) of
  by_word formed w None at e of = absurd (false≢true of)

  -- the place of a condition stands for what its word says
  pub shaped : IsWellFormed ws → IsTrue (is_place_of ws class.Cond p) → IsShaped ws p (shape_at ws p)
  shaped formed placed = by (slice_get ws p) refl placed where
    by : (o : Option ℕ) → slice_get ws p ≡ o → IsTrue (is_word_of o class.Cond) → IsShaped ws p (shape_of_word o)
    by (Some w) e of = by_word formed w (kind_of w) e refl of
    by None e of = absurd (false≢true of)

  -- the same of what was read there, by its case
  pub shaped_as : {read s : Shape} → IsWellFormed ws → IsTrue (is_place_of ws class.Cond p) → read ≡ shape_at ws p → read ≡ s → IsShaped ws p s
  shaped_as formed placed e f = subst (IsShaped ws p) (sym e ∙ f) (shaped formed placed)

  one_of : (ks : List ℕ) (q : ℕ) → AllByRecursion (IsEarlier ws p) ks → Contains ks q → IsEarlier ws p q
  one_of [] q h c = absurd (no_item q c)
  one_of (k ∷ ks) q h c = elim (item_cases ks k q c) [ inl e ↦ subst (IsEarlier ws p) e h.0 | inr later ↦ one_of ks q h.1 later ]

  -- a condition that it names is an earlier one
  pub part_earlier : (q : ℕ) → IsWellFormed ws → IsTrue (is_place_of ws class.Cond p) → Contains (parts_at ws p) q → IsEarlier ws p q
  part_earlier q formed placed h = one_of (parts_at ws p) q (shaped formed placed).parts h

  -- a term that it names is one
  pub term_placed : (q : ℕ) → IsWellFormed ws → IsTrue (is_place_of ws class.Cond p) → Contains (terms_of (shape_at ws p)) q → IsTrue (is_place_of ws class.Term q)
  term_placed q formed placed h = by (terms_of (shape_at ws p)) (shaped formed placed).terms h where
    by : (ks : List ℕ) → AllByRecursion (λ t. IsTrue (is_place_of ws class.Term t)) ks → Contains ks q → IsTrue (is_place_of ws class.Term q)
    by [] all c = absurd (no_item q c)
    by (k ∷ ks) all c = elim (item_cases ks k q c) [ inl e ↦ subst (λ t. IsTrue (is_place_of ws class.Term t)) e all.0 | inr later ↦ by ks all.1 later ]

-- a part of a condition is a place that its word names
named_by : (k : Kind) (a b q : ℕ) → Contains (parts_of (shape_of (Some k) a b)) q → Contains (places_in (Some k) a b) q
named_by kind.Not a b q h = h
named_by kind.And a b q h = h
named_by kind.Or a b q h = h
named_by _ a b q h = absurd (no_item q h)

named_in : (o : Option Kind) (a b q : ℕ) → Contains (parts_of (shape_of o a b)) q → Contains (places_in o a b) q
named_in (Some k) a b q h = named_by k a b q h
named_in None a b q h = absurd (no_item q h)

-- the word at a place, which names a part
pub record Names (ws : List ℕ) (p q : ℕ) : Type 0 where
  pub word : ℕ
  pub there : slice_get ws p ≡ Some word
  pub among : Contains (places_of word) q

pub part_named : (ws : List ℕ) (p q : ℕ) → Contains (parts_at ws p) q → Names ws p q
unfolding places_of
part_named ws p q h = by (slice_get ws p) refl h where
  by : (o : Option ℕ) → slice_get ws p ≡ o → Contains (parts_of (shape_of_word o)) q → Names ws p q
  by (Some w) e h = record { word = w; there = e; among = named_in (kind_of w) (left_of w) (right_of w) q h }
  by None e h = absurd (no_item q h)

-- a term of an equality is a place that its word names
term_by : (k : Kind) (a b q : ℕ) → Contains (terms_of (shape_of (Some k) a b)) q → Contains (places_in (Some k) a b) q
term_by kind.Equal a b q h = h
term_by _ a b q h = absurd (no_item q h)

term_in : (o : Option Kind) (a b q : ℕ) → Contains (terms_of (shape_of o a b)) q → Contains (places_in o a b) q
term_in (Some k) a b q h = term_by k a b q h
term_in None a b q h = absurd (no_item q h)

pub term_named : (ws : List ℕ) (p q : ℕ) → Contains (terms_of (shape_at ws p)) q → Names ws p q
unfolding places_of
term_named ws p q h = by (slice_get ws p) refl h where
  by : (o : Option ℕ) → slice_get ws p ≡ o → Contains (terms_of (shape_of_word o)) q → Names ws p q
  by (Some w) e h = record { word = w; there = e; among = term_in (kind_of w) (left_of w) (right_of w) q h }
  by None e h = absurd (no_item q h)

-- the classes of what stands below terms
abbrev is_deep : Class → Bool
is_deep class.Text = true
is_deep class.High = true
is_deep _ = false

-- and those of terms
abbrev is_bare : Class → Bool
is_bare class.Term = true
is_bare c = is_deep c

-- a place of one of some classes
record IsOfSome (are : Class → Bool) (ws : List ℕ) (p : ℕ) : Type 0 where
  of : Class
  is : are of ≡ true
  placed : IsTrue (is_place_of ws of p)

bare_class : (c : Class) → is_deep c ≡ true → is_bare c ≡ true
bare_class class.Term e = refl
bare_class class.Text e = refl
bare_class class.High e = refl
bare_class _ e = absurd (false≢true e)

module _ (ws : List ℕ) where
  bare_place : (p : ℕ) → IsOfSome is_deep ws p → IsOfSome is_bare ws p
  bare_place p d = record { of = d.of; is = bare_class d.of d.is; placed = d.placed }

  deep_field : (p : ℕ) (f : Field) (n q : ℕ) → ((c : Class) → f ≡ PlaceOf c → is_deep c ≡ true) → IsFieldAt ws p f n → Contains (place_in f n) q → IsOfSome is_deep ws q
  deep_field p (PlaceOf c) n q h is among = subst (IsOfSome is_deep ws) (sole_item n q among) (record { of = c; is = h c refl; placed = is.1 })
  deep_field p _ n q h is among = absurd (no_item q among)

  one_class : (c d : Class) → PlaceOf c ≡ PlaceOf d → c ≡ d
  one_class c d e = cc

  deep : (c d : Class) → is_deep c ≡ true → PlaceOf c ≡ PlaceOf d → is_deep d ≡ true
  deep c d b e = sym (ap is_deep (one_class c d e)) ∙ b

  -- what the word of a term, a text or high bits names is of the classes below terms
  deep_fields : (k : Kind) → is_bare (class_of k) ≡ true → ((c : Class) → (fields_of k).0 ≡ PlaceOf c → is_deep c ≡ true) × ((c : Class) → (fields_of k).1 ≡ PlaceOf c → is_deep c ≡ true)
  deep_fields kind.TextEnd e = (λ c f. cc, λ c f. cc)
  deep_fields kind.TextCharacter e = (λ c f. deep class.Text c refl f, λ c f. cc)
  deep_fields kind.NumberHigh e = (λ c f. cc, λ c f. cc)
  deep_fields kind.Number e = (λ c f. deep class.High c refl f, λ c f. cc)
  deep_fields kind.TextConstant e = (λ c f. deep class.Text c refl f, λ c f. cc)
  deep_fields kind.NamedNull e = (λ c f. deep class.Text c refl f, λ c f. cc)
  deep_fields kind.FreshNull e = (λ c f. cc, λ c f. cc)
  deep_fields kind.OtherValue e = (λ c f. cc, λ c f. cc)
  deep_fields kind.Column e = (λ c f. cc, λ c f. cc)
  deep_fields _ e = absurd (false≢true e)

  same_class_is : (c d : Class) → same_class c d ≡ true → is_bare d ≡ true → is_bare c ≡ true
  same_class_is class.Text d e b = refl
  same_class_is class.High d e b = refl
  same_class_is class.Term d e b = refl
  same_class_is class.Cond class.Cond e b = b
  same_class_is class.Row class.Row e b = b
  same_class_is class.CondRow class.CondRow e b = b
  same_class_is class.RowList class.RowList e b = b
  same_class_is class.NameList class.NameList e b = b
  same_class_is class.Change class.Change e b = b
  same_class_is class.ChangeList class.ChangeList e b = b
  same_class_is class.Commit class.Commit e b = b
  same_class_is class.Set class.Set e b = b
  same_class_is class.SetList class.SetList e b = b
  same_class_is class.UpdateBody class.UpdateBody e b = b
  same_class_is _ _ e b = absurd (false≢true e)

  not_both : (k : Kind) (c : Class) → is_bare c ≡ true → same_class (class_of k) c ≡ true → same_class (class_of k) class.Cond ≡ true → ⊥
  not_both k c b e f = no_bare (class_of k) f (same_class_is (class_of k) c e b) where
    no_bare : (d : Class) → same_class d class.Cond ≡ true → is_bare d ≡ true → ⊥
    no_bare class.Cond e b = false≢true b
    no_bare _ e b = false≢true e

  module _ (formed : IsWellFormed ws) (p w : ℕ) (there : slice_get ws p ≡ Some w) where
    word_at : (k : Kind) → kind_of w ≡ Some k → IsWordAt ws p (record { kind = k; left = left_of w; right = right_of w })
    word_at k e = word_is ws p w there formed k e (omega arith) (omega arith)

    deep_kind : (q : ℕ) (o : Option Kind) → kind_of w ≡ o → IsOfSome is_bare ws p → Contains (places_in o (left_of w) (right_of w)) q → IsOfSome is_deep ws q
    deep_kind q (Some k) e b among =
        let is = word_at k e in
        let fields = deep_fields k (same_class_is (class_of k) b.of (sym (is.class b.of) ∙ b.placed) b.is) in
        elim (Contains-append_cases (place_in (fields_of k).0 (left_of w)) (place_in (fields_of k).1 (right_of w)) q among) [
          | inl l ↦ deep_field p (fields_of k).0 (left_of w) q fields.0 is.left l
          | inr r ↦ deep_field p (fields_of k).1 (right_of w) q fields.1 is.right r
        ]
    deep_kind q None e b among = absurd (has_kind ws p w there formed e)

    deep_next : (q : ℕ) → IsOfSome is_bare ws p → Contains (places_of w) q → IsOfSome is_deep ws q
    unfolding places_of
    deep_next q b among = deep_kind q (kind_of w) refl b among

    no_condition_at : (o : Option Kind) → kind_of w ≡ o → IsOfSome is_bare ws p → IsTrue (is_place_of ws class.Cond p) → ⊥
    no_condition_at (Some k) e b placed = let is = word_at k e in not_both k b.of b.is (sym (is.class b.of) ∙ b.placed) (sym (is.class class.Cond) ∙ placed)
    no_condition_at None e b placed = has_kind ws p w there formed e

    next_by : (q : ℕ) (k : Kind) (a b : ℕ) → same_class (class_of k) class.Cond ≡ true → Contains (places_in (Some k) a b) q
        → Contains (parts_of (shape_of (Some k) a b)) q ⊎ Contains (terms_of (shape_of (Some k) a b)) q
    next_by q kind.True a b of among = absurd (no_item q among)
    next_by q kind.False a b of among = absurd (no_item q among)
    next_by q kind.Equal a b of among = inr among
    next_by q kind.Not a b of among = inl among
    next_by q kind.And a b of among = inl among
    next_by q kind.Or a b of among = inl among
    next_by q _ a b of among = absurd (false≢true of)

    next_in : (q : ℕ) (o : Option Kind) → has_class o class.Cond ≡ true → Contains (places_in o (left_of w) (right_of w)) q
        → Contains (parts_of (shape_of o (left_of w) (right_of w))) q ⊎ Contains (terms_of (shape_of o (left_of w) (right_of w))) q
    next_in q (Some k) of among = next_by q k (left_of w) (right_of w) of among
    next_in q None of among = absurd (false≢true of)

    -- what the word of a condition names is a part, or a term
    next : (q : ℕ) → IsTrue (is_place_of ws class.Cond p) → Contains (places_of w) q → Contains (parts_at ws p) q ⊎ Contains (terms_of (shape_at ws p)) q
    unfolding places_of
    next q placed among =
        subst (λ o. Contains (parts_of (shape_of_word o)) q ⊎ Contains (terms_of (shape_of_word o)) q) (sym there)
        (next_in q (kind_of w) (sym (ap (λ o. is_word_of o class.Cond) there) ∙ placed) among)

  bare_placed : (r : ℕ) → IsWellFormed ws → IsOfSome is_bare ws r → IsTrue (is_place_of ws class.Cond r) → ⊥
  bare_placed r formed b placed = by (slice_get ws r) refl placed where
    by : (o : Option ℕ) → slice_get ws r ≡ o → is_word_of o class.Cond ≡ true → ⊥
    by (Some w) e of = no_condition_at formed r w e (kind_of w) refl b placed
    by None e of = false≢true of

  -- no condition stands below a term, a text or high bits
  bare_below : (p r : ℕ) → IsWellFormed ws → Below ws p r → IsOfSome is_bare ws p → IsTrue (is_place_of ws class.Cond r) → ⊥
  bare_below p r formed itself b placed = bare_placed r formed b placed
  bare_below p r formed (through w q there among rest) b placed = bare_below q r formed rest (bare_place q (deep_next formed p w there q b among)) placed

  -- and no term below a text or high bits
  deep_below : (p r : ℕ) (t : Term) → IsWellFormed ws → Below ws p r → IsOfSome is_deep ws p → StandsAt ws r (IsTerm t) → ⊥
  deep_below p r t formed itself d stands =
      let m = meaning_of_class ws d.of p d.placed in
      let same : m.0 ≡ IsTerm t = some-injective m.0 (IsTerm t) (sym m.1 ∙ stands) in
      false≢true (ap is_deep (some-injective class.Term d.of (ap class_of_meaning (sym same) ∙ m.2)) ∙ d.is)
  deep_below p r t formed (through w q there among rest) d stands = deep_below q r t formed rest (deep_next formed p w there q (bare_place p d) among) stands

  -- below the place of a term no other place is one of a term
  only_term : (p r : ℕ) (t : Term) → IsWellFormed ws → Below ws p r → IsTrue (is_place_of ws class.Term p) → StandsAt ws r (IsTerm t) → p ≡ r
  only_term p r t formed itself placed stands = refl
  only_term p r t formed (through w q there among rest) placed stands =
      absurd (deep_below q r t formed rest (deep_next formed p w there q (record { of = class.Term; is = refl; placed = placed }) among) stands)

  -- conditions among which are the parts of each
  pub record IsClosed (seen : ℕ → Type 0) : Type 0 where
    pub are : (p : ℕ) → seen p → IsTrue (is_place_of ws class.Cond p)
    pub parts : (p q : ℕ) → seen p → Contains (parts_at ws p) q → seen q

  -- have the conditions below them
  pub conditions_below : (seen : ℕ → Type 0) → IsWellFormed ws → IsClosed seen → (p r : ℕ) → Below ws p r → seen p → IsTrue (is_place_of ws class.Cond r) → seen r
  conditions_below seen formed closed p r itself h placed = h
  conditions_below seen formed closed p r (through w q there among rest) h placed =
      elim (next formed p w there q (closed.are p h) among) [
        | inl part ↦ conditions_below seen formed closed q r rest (closed.parts p q h part) placed
        | inr term ↦
            let b = term_placed ws p q formed (closed.are p h) term in
            absurd (bare_below q r formed rest (record { of = class.Term; is = refl; placed = b }) placed)
      ]

  -- and name the terms below them
  pub term_below : (seen : ℕ → Type 0) → IsWellFormed ws → IsClosed seen → (p r : ℕ) (t : Term) → Below ws p r → seen p → StandsAt ws r (IsTerm t)
      → (e : ℕ) × seen e × Contains (terms_of (shape_at ws e)) r
  term_below seen formed closed p r t itself h stands =
      let m = meaning_of_class ws class.Cond p (closed.are p h) in
      let same : m.0 ≡ IsTerm t = some-injective m.0 (IsTerm t) (sym m.1 ∙ stands) in
      absurd (false≢true (ap (λ c. same_class c class.Cond) (some-injective class.Term class.Cond (ap class_of_meaning (sym same) ∙ m.2))))
  term_below seen formed closed p r t (through w q there among rest) h stands =
      elim (next formed p w there q (closed.are p h) among) [
        | inl part ↦ term_below seen formed closed q r t rest (closed.parts p q h part) stands
        | inr term ↦
            let same = only_term q r t formed rest (term_placed ws p q formed (closed.are p h) term) stands in
            (p, h, subst (Contains (terms_of (shape_at ws p))) same term)
      ]

-- what a condition below a place names stands below that place
pub below_more : (ws : List ℕ) (p q r w : ℕ) → Below ws p q → slice_get ws q ≡ Some w → Contains (places_of w) r → Below ws p r
below_more ws p q r w (itself {p = x}) at h = through w r at h itself
below_more ws p q r w (through v m first_at among rest) at h = through v m first_at among (below_more ws m q r w rest at h)

-- a term that a condition names stands below it
pub term_stands : (ws : List ℕ) (p s : ℕ) (t : Term) → IsWellFormed ws → IsTrue (is_place_of ws class.Cond p) → Contains (terms_of (shape_at ws p)) s → term_at ws s ≡ t → TermBelow ws p t
term_stands ws p s t formed placed h e =
    let named = term_named ws p s h in
    subst (TermBelow ws p) e (s, through named.word s named.there named.among itself, stands_term ws s (term_placed ws p s formed placed h))

-- a constant is no null
pub constant_no_null : (words : List ℕ) (place : ℕ) (n : Null) → IsWellFormed words → is_constant_word (slice_get words place) ≡ true → term_at words place ≡ term.Null n → ⊥
constant_no_null words place n formed is e = apart (sym (constant_stands words formed [] place is) ∙ e) where
  apart : {x : Value} → term.Value x ≡ term.Null n → ⊥
  apart f = cc
