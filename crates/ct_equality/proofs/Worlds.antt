-- The valuation of classes gives each equality its truth.
use Rattle.std.proofs.Common.{◌≡◌, ◌<◌, ◌≤◌, ◌↔◌, ℕ, Bool, true, false, List, [], ◌∷◌, ◌++◌, length, map, Option, Some, None, nat_eq, refl, ap, sym, ◌∙◌, subst, if◌then◌else◌, inl, inr, ◌⊎◌, arith, append_assoc, append-nil}
use Rattle.std.{specs.Prelude.slice_get, specs.List.{IsDistinct, AllByRecursion}, proofs.lemmas.Map.Keys.IsDistinct-tail}
use Rattle.std.proofs.lemmas.Bool.{eqb-true, eq-eqb, false≢true, cases_Bool, cases_eq, both_ways, or_cases, or_left, or_right}
use Rattle.ct_word.{specs.declared.values.Term.Term, specs.declared.values.Null.Null, specs.declared.values.Value.Value, specs.Reading.term_at}
use Rattle.ct_word.{specs.Value.{World, at, same_null, same_value, value_of_null}, specs.WellFormed.{is_place_of, IsWellFormed}}
use Rattle.ct_word.{proofs.Alike.{null_decides, value_decides}, proofs.Constants.{one_constant, one_term}}
use Rattle.ct_derivation.{specs.declared.literals.Atom.Atom, specs.Path.{is_constant, is_constant_word}, specs.Truth.atom_holds}
use Rattle.ct_equality.{specs.declared.classes.Member.Member, specs.Terms.{AreAscending, terms_of, is_among, is_end_of}, proofs.Members.number_listed}
use Rattle.ct_equality.{proofs.Joins.{link_cases, joined_on, joined_back}, specs.Members.{is_listed, class_of, number_of, number_at, members_at}}
use Rattle.ct_equality.{specs.Assigned.{Gives, Joined, here, step, are_plain}, specs.Classes.{AreJoined, Merges, IsApart}}
use Rattle.ct_equality.{proofs.Steps.{plain_place, left_end, right_end}, proofs.Trees.{among_append, place_below}}
use Rattle.ct_equality.specs.Valued.{value_in, numbered_value, class_value, with_pair, world_of, with_null, nulls_of, IsConstantOf, IsPlainValue, IsWorldOf, AreNumbered, HasValue, HaveValues, has_value, IsTaken, IsLeast, AreNext}
use Rattle.ct_equality.proofs.Standing.{value_there, IsNull, IsNumber, constant_value, number_value, no_number, null_there}
use Rattle.ct_equality.proofs.Listed.{among_terms, terms_ascend, terms_distinct, stands_before, plain_end, alone_listed, alone_number, alone_taken}
use Rattle.ct_word.specs.declared.kinds.Class.TheVariants as class
use Rattle.ct_word.specs.declared.values.Term.TheVariants as term
use Rattle.ct_word.specs.declared.values.Value.TheVariants as val
use Rattle.ct_derivation.specs.declared.literals.Atom.TheVariants as atom

if_some : (b : Bool) (o : Option ℕ) (k : ℕ) → (if b then o else None) ≡ Some k → o ≡ Some k
if_some true o k e = e
if_some false o k e = cc

number_known : (o : Option ℕ) → (o ≡ None) ⊎ ((k : ℕ) × (o ≡ Some k))
number_known None = inl refl
number_known (Some k) = inr (k, refl)

known : (words : List ℕ) (p : ℕ) → is_constant words p ≡ true → is_constant_word (slice_get words p) ≡ true
unfolding is_constant
known words p e = e

pub pair_before : (x : Term) (y : Value) (us ws : World) → with_pair x y (us ++ ws) ≡ with_pair x y us ++ ws
pair_before (term.Null n) y us ws = refl
pair_before _ y us ws = refl

module _ (words : List ℕ) (wf : IsWellFormed words) where
  -- the numbers before any class has got one
  module _ (ts : List ℕ) (ms : List Member) (merges : Merges (members_at words ts) ms) where
    number_is : (p : ℕ) → number_of ms p ≡ (if is_among ts p then number_at words p else None)
    number_is p = merges.numbers p ∙ alone_number words ts p

    own_number : (p k : ℕ) → number_of ms p ≡ Some k → IsNumber words p k
    own_number p k e = number_value words wf p k (if_some (is_among ts p) (number_at words p) k (sym (number_is p) ∙ e))

    pub start_numbered : AreNumbered words ms ms []
    start_numbered = record {
      count = refl;
      listed = λ p. refl;
      classes = λ p. refl;
      once = λ p q k e f.
          let a = own_number p k e in
          let b = own_number q k f in
          one_constant words wf [] p q (known words p a.constant) (known words q b.constant) (ap (at [] []) (a.term ∙ sym b.term));
      short = λ p k e. (own_number p k e).short;
      constants = λ p e l. number_is p ∙ rw (sym (merges.listed p ∙ alone_listed words ts p) ∙ l);
      chiefs = λ p e c n none. false≢true e;
      given = λ p k e n. absurd (both_ways _ n (own_number p k e).constant);
      found = λ k e.
          let f = alone_taken words ts k (sym (merges.taken k) ∙ e) in
          (f.0, number_is f.0 ∙ rw f.1 f.2);
      least = λ p k j e n lt. absurd (both_ways _ n (own_number p k e).constant);
    }

  module _ (ms : List Member) where
    abbrev value_of : ℕ → Value
    value_of p = class_value words ms (class_of ms p)

    -- the world gives a null the value of its class
    look_up : (ts : List ℕ) → ((p : ℕ) → is_among ts p ≡ true → is_place_of words class.Term p ≡ true)
        → (p : ℕ) (n : Null) → is_among ts p ≡ true → term_at words p ≡ term.Null n → value_of_null (world_of words ms ts) n ≡ value_of p
    look_up [] terms p n e is = absurd (false≢true e)
    look_up (t ∷ ts) terms p n e is = by_term (λ a. look_up ts (λ q f. terms q (or_right (nat_eq q t) _ f)) p n a is) (term_at words t) refl where
      not_head : (term_at words t ≡ term.Null n → ⊥) → is_among ts p ≡ true
      not_head never = elim (or_cases (nat_eq p t) (is_among ts p) e) [
        | inl a ↦ absurd (never (ap (term_at words) (sym (eqb-true p t a)) ∙ is))
        | inr b ↦ b
      ]

      by_term : (is_among ts p ≡ true → value_of_null (world_of words ms ts) n ≡ value_of p)
          → (x : Term) → term_at words t ≡ x → value_of_null (with_pair x (value_of t) (world_of words ms ts)) n ≡ value_of p
      by_term rest (term.Null m) f = elim (cases_Bool (same_null m n)) [
        | inl s ↦
            let same : m ≡ n = (null_decides m n).0 s in
            let one : t ≡ p = one_term words wf t p (terms t (or_left (nat_eq t t) _ (eq-eqb t t refl))) (terms p e) (f ∙ ap term.Null same ∙ sym is) in
            rw s (ap value_of one)
        | inr d ↦ rw d (rest (not_head (λ g. let same : m ≡ n = cc in both_ways _ d ((null_decides m n).1 same))))
      ]
      by_term rest _ f = rest (not_head (λ g. cc))

    none_same : (m : Null) (ts : List ℕ) → ((p : ℕ) → is_among ts p ≡ true → term_at words p ≡ term.Null m → ⊥) → AllByRecursion (λ y. same_null m y ≡ false) (map (λ p. p.0) (world_of words ms ts))
    none_same m [] never = tt
    none_same m (t ∷ ts) never = by_term (none_same m ts (λ q f. never q (or_right (nat_eq q t) _ f))) (term_at words t) refl where
      by_term : AllByRecursion (λ y. same_null m y ≡ false) (map (λ p. p.0) (world_of words ms ts))
          → (x : Term) → term_at words t ≡ x → AllByRecursion (λ y. same_null m y ≡ false) (map (λ p. p.0) (with_pair x (value_of t) (world_of words ms ts)))
      by_term rest (term.Null n) f = (
        elim (cases_Bool (same_null m n)) [
          | inl s ↦ let same : m ≡ n = (null_decides m n).0 s in absurd (never t (or_left (nat_eq t t) _ (eq-eqb t t refl)) (f ∙ ap term.Null (sym same)))
          | inr d ↦ d
        ],
        rest,
      )
      by_term rest _ f = rest

    head_not : (t : ℕ) (ts : List ℕ) → IsDistinct nat_eq (t ∷ ts) → is_among ts t ≡ true → ⊥
    unfolding IsDistinct
    head_not t ts d e = all_not ts d.0 e where
      all_not : (us : List ℕ) → AllByRecursion (λ y. nat_eq t y ≡ false) us → is_among us t ≡ true → ⊥
      all_not [] a f = false≢true f
      all_not (u ∷ us) a f = elim (or_cases (nat_eq t u) (is_among us t) f) [ inl s ↦ both_ways _ a.0 s | inr r ↦ all_not us a.1 r ]

    nulls_distinct : (ts : List ℕ) → ((p : ℕ) → is_among ts p ≡ true → is_place_of words class.Term p ≡ true) → IsDistinct nat_eq ts → IsDistinct same_null (map (λ p. p.0) (world_of words ms ts))
    unfolding IsDistinct
    nulls_distinct [] terms d = tt
    nulls_distinct (t ∷ ts) terms d = by_term (nulls_distinct ts (λ q f. terms q (or_right (nat_eq q t) _ f)) (IsDistinct-tail nat_eq t ts d)) (term_at words t) refl where
      rest_terms : (p : ℕ) → is_among ts p ≡ true → is_place_of words class.Term p ≡ true
      rest_terms p e = terms p (or_right (nat_eq p t) _ e)

      by_term : IsDistinct same_null (map (λ p. p.0) (world_of words ms ts))
          → (x : Term) → term_at words t ≡ x → IsDistinct same_null (map (λ p. p.0) (with_pair x (value_of t) (world_of words ms ts)))
      by_term rest (term.Null n) f = (
        none_same n ts (λ q e g.
            let one : q ≡ t = one_term words wf q t (rest_terms q e) (terms t (or_left (nat_eq t t) _ (eq-eqb t t refl))) (g ∙ sym f) in
            head_not t ts d (subst (λ r. is_among ts r ≡ true) one e)),
        rest,
      )
      by_term rest _ f = rest

    all_values : (P : Value → Type 0) (ts : List ℕ) → ((p : ℕ) → is_among ts p ≡ true → P (value_of p)) → AllByRecursion (λ p. P p.1) (world_of words ms ts)
    all_values P [] all = tt
    all_values P (t ∷ ts) all = by_term (all_values P ts (λ q f. all q (or_right (nat_eq q t) _ f))) (term_at words t) where
      by_term : AllByRecursion (λ p. P p.1) (world_of words ms ts) → (x : Term) → AllByRecursion (λ p. P p.1) (with_pair x (value_of t) (world_of words ms ts))
      by_term rest (term.Null n) = (all t (or_left (nat_eq t t) _ (eq-eqb t t refl)), rest)
      by_term rest _ = rest

  module _ (atoms : List Atom) (truth : List Bool) (plain : are_plain words atoms ≡ true) (us : List ℕ) (met : (p : ℕ) → is_among us p ≡ is_end_of atoms p) (ms ns : List Member) (joined : AreJoined words atoms truth (length atoms) (members_at words us) ms)
      (apart : IsApart atoms truth (length atoms) ms) (numbered : AreNumbered words ms ns (terms_of atoms)) where
    abbrev ts : List ℕ
    ts = terms_of atoms

    abbrev x_of : ℕ → Value
    x_of c = class_value words ns c

    term_place : (p : ℕ) → is_among ts p ≡ true → is_place_of words class.Term p ≡ true
    term_place p e = plain_place words p (plain_end words atoms p plain (sym (among_terms atoms p) ∙ e))

    old_listed : (p : ℕ) → is_listed ms p ≡ is_among ts p
    old_listed p = joined.merges.listed p ∙ alone_listed words us p ∙ met p ∙ sym (among_terms atoms p)

    listed_among : (p : ℕ) → is_listed ns p ≡ is_among ts p
    listed_among p = numbered.listed p ∙ old_listed p

    -- a term by which a class goes
    record IsChief (c : ℕ) : Type 0 where
      among : is_among ts c ≡ true
      own : class_of ns c ≡ c

    chief_of : (p : ℕ) → is_among ts p ≡ true → IsChief (class_of ns p)
    chief_of p e = record {
      among =
          let there : is_listed ms p ≡ true = old_listed p ∙ e in
          ap (is_among ts) (numbered.classes p) ∙ sym (old_listed (class_of ms p)) ∙ joined.classes.within p there;
      own = numbered.classes (class_of ns p) ∙ ap (class_of ms) (numbered.classes p) ∙ joined.classes.chief p ∙ sym (numbered.classes p);
    }

    -- a class goes by a constant, or has a number
    is_fixed : (c : ℕ) → IsChief c → number_of ns c ≡ None → is_constant words c ≡ true
    is_fixed c chief none = elim (cases_Bool (is_constant words c)) [
      | inl t ↦ t
      | inr f ↦ absurd (numbered.chiefs c chief.among chief.own f none)
    ]

    fixed_value : (c : ℕ) → IsChief c → HasValue words ns c
    fixed_value c chief = record {
      term = term_place c chief.among;
      value = λ none. constant_value words wf c (is_fixed c chief none);
    }

    pub have_values : HaveValues words ns ts
    have_values p e = fixed_value (class_of ns p) (chief_of p e)

    number_there : (c : ℕ) → is_among ts c ≡ true → is_constant words c ≡ true → number_of ns c ≡ number_at words c
    number_there c e k = numbered.constants c k (listed_among c ∙ e)

    -- a constant has its own value
    constant_own : (c : ℕ) → is_among ts c ≡ true → is_constant words c ≡ true → x_of c ≡ value_in (term_at words c)
    constant_own c e k = elim (number_known (number_at words c)) [
      | inl none ↦ ap (λ o. numbered_value o (term_at words c)) (number_there c e k ∙ none)
      | inr some ↦ ap (λ o. numbered_value o (term_at words c)) (number_there c e k ∙ some.1) ∙ sym (ap value_in (number_value words wf c some.0 some.1).term)
    ]

    unlike : (c d j : ℕ) → IsChief c → IsChief d → number_of ns c ≡ Some j → number_of ns d ≡ None → x_of c ≡ x_of d → ⊥
    unlike c d j cc_ dc some none e =
        let k = is_fixed d dc none in
        no_number words wf d j k (sym (number_there d dc.among k) ∙ none)
        (sym (ap (λ o. numbered_value o (term_at words d)) none) ∙ sym e ∙ ap (λ o. numbered_value o (term_at words c)) some)

    -- two classes have two values
    one_chief : (c d : ℕ) → IsChief c → IsChief d → x_of c ≡ x_of d → c ≡ d
    one_chief c d a b e = elim (number_known (number_of ns c)) [
      | inl none ↦ elim (number_known (number_of ns d)) [
        | inl none2 ↦
            let k = is_fixed c a none in
            let l = is_fixed d b none2 in
            let same : value_in (term_at words c) ≡ value_in (term_at words d) = sym (constant_own c a.among k) ∙ e ∙ constant_own d b.among l in
            one_constant words wf [] c d (known words c k) (known words d l)
            (value_there [] (term_at words c) (constant_value words wf c k) ∙ same ∙ sym (value_there [] (term_at words d) (constant_value words wf d l)))
        | inr some2 ↦ absurd (unlike d c some2.0 b a some2.1 none (sym e))
      ]
      | inr some ↦ elim (number_known (number_of ns d)) [
        | inl none2 ↦ absurd (unlike c d some.0 a b some.1 none2 e)
        | inr some2 ↦
            let both : val.Other some.0 ≡ val.Other some2.0 =
            sym (ap (λ o. numbered_value o (term_at words c)) some.1) ∙ e ∙ ap (λ o. numbered_value o (term_at words d)) some2.1 in
            let same : some.0 ≡ some2.0 = cc in
            numbered.once c d some2.0 (some.1 ∙ ap Some same) some2.1
      ]
    ]

    abbrev v : World
    v = world_of words ns ts

    -- each term has the value of its class
    value_is : (p : ℕ) → is_among ts p ≡ true → at v [] (term_at words p) ≡ x_of (class_of ns p)
    value_is p e = elim (cases_Bool (is_constant words p)) [
      | inl k ↦
          let own : class_of ns p ≡ p = numbered.classes p ∙ joined.classes.constants p k in
          value_there v (term_at words p) (constant_value words wf p k) ∙ sym (constant_own p e k) ∙ sym (ap x_of own)
      | inr n ↦
          let null = null_there words wf p (plain_end words atoms p plain (sym (among_terms atoms p) ∙ e)) n in
          ap (at v []) null.is ∙ look_up ns ts term_place p null.null e null.is
    ]

    plain_value : (c : ℕ) → IsChief c → IsPlainValue words atoms (x_of c)
    plain_value c chief = elim (number_known (number_of ns c)) [
      | inl none ↦
          let k = is_fixed c chief none in
          inl (record { place = c; is_end = sym (among_terms atoms c) ∙ chief.among; constant = k; value = sym (constant_own c chief.among k) })
      | inr some ↦ inr (record { number = some.0; short = numbered.short c some.0 some.1; value = ap (λ o. numbered_value o (term_at words c)) some.1 })
    ]

    module _ (s t : ℕ) (b : Bool) (g : Gives atoms truth b (atom.Same s t)) where
      s_among : is_among ts s ≡ true
      s_among = among_terms atoms s ∙ left_end atoms g.place s t g.atom_at

      t_among : is_among ts t ≡ true
      t_among = among_terms atoms t ∙ right_end atoms g.place s t g.atom_at

      within : g.place < length atoms
      within = place_below atoms truth g.place (atom.Same s t) g.atom_at

      holds_by : atom_holds words v (atom.Same s t) ≡ same_value (x_of (class_of ns s)) (x_of (class_of ns t))
      holds_by = ap (λ x. same_value x (at v [] (term_at words t))) (value_is s s_among) ∙ ap (same_value (x_of (class_of ns s))) (value_is t t_among)

      when_true : b ≡ true → atom_holds words v (atom.Same s t) ≡ true
      when_true e =
          let one : class_of ns s ≡ class_of ns t = numbered.classes s ∙ joined.closed g.place s t within g.atom_at (g.truth_at ∙ ap Some e) ∙ sym (numbered.classes t) in
          holds_by ∙ (value_decides (x_of (class_of ns s)) (x_of (class_of ns t))).1 (ap x_of one)

      when_false : b ≡ false → atom_holds words v (atom.Same s t) ≡ false
      when_false e = holds_by ∙ elim (cases_Bool (same_value (x_of (class_of ns s)) (x_of (class_of ns t)))) [
        | inl same ↦
            let one = one_chief (class_of ns s) (class_of ns t) (chief_of s s_among) (chief_of t t_among) ((value_decides _ _).0 same) in
            absurd (apart g.place s t within g.atom_at (g.truth_at ∙ ap Some e) (sym (numbered.classes s) ∙ one ∙ numbered.classes t))
        | inr f ↦ f
      ]

      truth_there : atom_holds words v (atom.Same s t) ≡ b
      truth_there = elim (cases_Bool b) [ inl e ↦ when_true e ∙ sym e | inr e ↦ when_false e ∙ sym e ]

    ends_among : (p : ℕ) → is_end_of atoms p ≡ true → is_among ts p ≡ true
    ends_among p e = among_terms atoms p ∙ e

    -- joined terms are in one class
    joined_class : {s t : ℕ} → Joined atoms truth s t → class_of ms s ≡ class_of ms t
    joined_class here = refl
    joined_class (step {s} t l r) = elim (link_cases atoms truth s t l) [
      | inl g ↦ joined.closed g.place s t (place_below atoms truth g.place (atom.Same s t) g.atom_at) g.atom_at g.truth_at ∙ joined_class r
      | inr g ↦ sym (joined.closed g.place t s (place_below atoms truth g.place (atom.Same t s) g.atom_at) g.atom_at g.truth_at) ∙ joined_class r
    ]

    one_value : (s t : ℕ) → is_end_of atoms s ≡ true → is_end_of atoms t ≡ true → (at v [] (term_at words s) ≡ at v [] (term_at words t)) ↔ Joined atoms truth s t
    one_value s t a b =
        let sa = ends_among s a in
        let tb = ends_among t b in (
          λ e.
              let one = one_chief (class_of ns s) (class_of ns t) (chief_of s sa) (chief_of t tb) (sym (value_is s sa) ∙ e ∙ value_is t tb) in
              let same : class_of ms s ≡ class_of ms t = sym (numbered.classes s) ∙ one ∙ numbered.classes t in
              joined_on atoms truth (joined.classes.joined s) (subst (λ c. Joined atoms truth c t) (sym same) (joined_back atoms truth (joined.classes.joined t))),
          λ j.
              let one = numbered.classes s ∙ joined_class j ∙ sym (numbered.classes t) in
              value_is s sa ∙ ap x_of one ∙ sym (value_is t tb),
        )

    constant_taken : (c : ℕ) → is_among ts c ≡ true → is_constant words c ≡ true → IsConstantOf words atoms (x_of c)
    constant_taken c e k = record { place = c; is_end = sym (among_terms atoms c) ∙ e; constant = k; value = sym (constant_own c e k) }

    -- a null among these places has its value in their world
    has_own : (us : List ℕ) (q : ℕ) → is_among us q ≡ true → IsNull (term_at words q) → has_value (world_of words ns us) (value_of ns q) ≡ true
    has_own [] q e null = absurd (false≢true e)
    has_own (u ∷ us) q e null = elim (or_cases (nat_eq q u) (is_among us q) e) [
      | inl s ↦ rw (← eqb-true q u s, null.is) (or_left _ _ ((value_decides (value_of ns q) (value_of ns q)).1 refl))
      | inr r ↦ further (term_at words u) (has_own us q r null)
    ] where
      further : (x : Term) → has_value (world_of words ns us) (value_of ns q) ≡ true → has_value (with_pair x (value_of ns u) (world_of words ns us)) (value_of ns q) ≡ true
      further (term.Null n) f = or_right (same_value (value_of ns u) (value_of ns q)) _ f
      further _ f = f

    null_at : (q : ℕ) → is_among ts q ≡ true → is_constant words q ≡ false → IsNull (term_at words q)
    null_at q e n = null_there words wf q (plain_end words atoms q plain (sym (among_terms atoms q) ∙ e)) n

    module _ (done rest : List ℕ) (t : ℕ) (is : ts ≡ done ++ t ∷ rest) where
      t_there : is_among ts t ≡ true
      t_there = ap (λ l. is_among l t) is ∙ among_append done (t ∷ rest) t ∙ or_right (is_among done t) _ (or_left (nat_eq t t) _ (eq-eqb t t refl))

      earlier : (q : ℕ) → is_among ts q ≡ true → q < t → is_among done q ≡ true
      earlier q e lt = stands_before done rest t q (subst AreAscending is (terms_ascend atoms)) (ap (λ l. is_among l q) (sym is) ∙ e) lt

      -- an earlier term by which its class goes has its value in the world so far
      taken_before : (q : ℕ) → IsChief q → is_constant words q ≡ false → q < t → has_value (world_of words ns done) (x_of q) ≡ true
      taken_before q chief n lt = ap (λ c. has_value (world_of words ns done) (x_of c)) (sym chief.own) ∙ has_own done q (earlier q chief.among lt) (null_at q chief.among n)

      taken_number : (q j : ℕ) → number_of ns q ≡ Some j → (is_constant words q ≡ false → q < t) → IsTaken words atoms (world_of words ns done) (val.Other j)
      taken_number q j e below =
          let among : is_among ts q ≡ true = sym (listed_among q) ∙ number_listed ns q j e in
          let x_is : x_of q ≡ val.Other j = ap (λ o. numbered_value o (term_at words q)) e in
          elim (cases_Bool (is_constant words q)) [
            | inl k ↦ inl (subst (IsConstantOf words atoms) x_is (constant_taken q among k))
            | inr n ↦
                let chief : IsChief q = record { among = among; own = (numbered.given q j e n).1 } in
                inr (subst (λ x. has_value (world_of words ns done) x ≡ true) x_is (taken_before q chief n (below n)))
          ]

      next_value : IsTaken words atoms (world_of words ns done) (value_of ns t) ⊎ IsLeast words atoms (world_of words ns done) (value_of ns t)
      next_value =
          let c = class_of ns t in
          let chief = chief_of t t_there in
          elim (cases_Bool (is_constant words c)) [
            | inl k ↦ inl (inl (constant_taken c chief.among k))
            | inr n ↦
                let le : c ≤ t = subst (λ x. x ≤ t) (sym (numbered.classes t)) (joined.classes.least t (ap (is_constant words) (sym (numbered.classes t)) ∙ n)) in
                elim (cases_eq c t) [
                  | inr other ↦ inl (inr (taken_before c chief n (omega (arith, le, other))))
                  | inl same ↦ elim (number_known (number_of ns c)) [
                    | inl none ↦ absurd (both_ways _ n (is_fixed c chief none))
                    | inr some ↦ inr (record {
                      number = some.0;
                      value = ap (λ o. numbered_value o (term_at words c)) some.1;
                      smaller = λ j lt.
                          let f = numbered.least c some.0 j some.1 n lt in
                          taken_number f.0 j f.1 (λ m. let l = f.2 m in omega (arith, l, same));
                    })
                  ]
                ]
          ]

    world_append : (us : List ℕ) (t : ℕ) → world_of words ns (us ++ t ∷ []) ≡ world_of words ns us ++ with_pair (term_at words t) (value_of ns t) []
    world_append [] t = refl
    world_append (u ∷ us) t = ap (with_pair (term_at words u) (value_of ns u)) (world_append us t) ∙ pair_before (term_at words u) (value_of ns u) (world_of words ns us) _

    all_next : (done rest : List ℕ) → ts ≡ done ++ rest → AreNext words atoms (world_of words ns done) (world_of words ns rest)
    all_next done [] is = tt
    all_next done (t ∷ rest) is =
        by_term (all_next (done ++ t ∷ []) rest (is ∙ sym (append_assoc done (t ∷ []) rest))) (next_value done rest t is) (term_at words t) (world_append done t) where
          by_term : AreNext words atoms (world_of words ns (done ++ t ∷ [])) (world_of words ns rest)
              → IsTaken words atoms (world_of words ns done) (value_of ns t) ⊎ IsLeast words atoms (world_of words ns done) (value_of ns t)
              → (x : Term) → world_of words ns (done ++ t ∷ []) ≡ world_of words ns done ++ with_pair x (value_of ns t) []
              → AreNext words atoms (world_of words ns done) (with_pair x (value_of ns t) (world_of words ns rest))
          by_term more next (term.Null n) e = (next, subst (λ w. AreNext words atoms w (world_of words ns rest)) e more)
          by_term more next _ e = subst (λ w. AreNext words atoms w (world_of words ns rest)) (e ∙ append-nil _) more

    nulls_there : (us : List ℕ) → map (λ p. p.0) (world_of words ns us) ≡ nulls_of words us
    nulls_there [] = refl
    nulls_there (u ∷ us) = firsts (term_at words u) ∙ ap (with_null (term_at words u)) (nulls_there us) where
      firsts : (x : Term) → map (λ p. p.0) (with_pair x (value_of ns u) (world_of words ns us)) ≡ with_null x (map (λ p. p.0) (world_of words ns us))
      firsts (term.Null n) = refl
      firsts _ = refl

    pub is_world : IsWorldOf words atoms truth v
    is_world = record {
      truths = truth_there;
      nulls = nulls_there ts;
      classes = one_value;
      next = all_next [] ts refl;
      values = all_values ns (IsPlainValue words atoms) ts (λ p e. plain_value (class_of ns p) (chief_of p e));
      distinct = nulls_distinct ns ts term_place (terms_distinct atoms);
    }
