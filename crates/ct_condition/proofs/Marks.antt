-- The marks of the nulls of a world: one for each null, and of one null each.
use Rattle.std.proofs.Common.{◌≡◌, ℕ, suc, pred, ◌+◌, ◌<◌, Bool, true, false, cond, List, [], ◌∷◌, ◌++◌, length, drop, get_or, nat_eq, nat_lt, eqb, option_map, position, Option, Some, None, refl, ap, sym, subst, ◌∙◌, arith, length-append, if◌then◌else◌}
use Rattle.std.{specs.Prelude.encode_utf8, specs.List.{position_or_len, list_any}, specs.Map.lookup, proofs.Math.Seq.drop-cons, proofs.lemmas.Option.none-some}
use Rattle.std.{proofs.lemmas.Bool.{and_parts, and_from, cond_both, eqb-true, eq-eqb, false≢true, lt-ltb}, proofs.lemmas.List.{append-nil, same_from_push}}
use Rattle.std.{proofs.lemmas.List.Folds.position_or_len_push, proofs.lemmas.List.Quantifiers.position-Some, proofs.lemmas.Str.{encodes-append, encodes_same}}
use Rattle.std.proofs.Math.Utf8.{encodes}
use Rattle.ct_word.{specs.declared.values.Value.Value, specs.declared.values.Null.Null, specs.Value.{World, same_null, other_zero, value_of_null}}
use Rattle.ct_word.{specs.WordAt.backwards, proofs.Alike.null_decides, proofs.Splits.some-injective}
use Rattle.ct_condition.specs.Nulls.{same_pair, longer, beginning, Grows, HasMark, pair_from, AreNulls, or_past, value_with}
use Rattle.ct_word.specs.declared.values.Null.TheVariants as null

pair_is : (a b : ℕ × ℕ) → same_pair a b ≡ true → a ≡ b
pair_is a b e = let parts = and_parts (nat_eq a.0 b.0) (nat_eq a.1 b.1) e in λ i. (eqb-true a.0 b.0 parts.0 i, eqb-true a.1 b.1 parts.1 i)

pair_self : (a : ℕ × ℕ) → same_pair a a ≡ true
pair_self a = and_from (nat_eq a.0 a.0) (nat_eq a.1 a.1) (eq-eqb a.0 a.0 refl) (eq-eqb a.1 a.1 refl)

-- the first place that passes
module _ (p : ℕ × ℕ → Bool) where
  position_at : (xs : List (ℕ × ℕ)) (i : ℕ) → position_or_len p xs ≡ i → i < length xs → position p xs ≡ Some i
  position_at xs i e lt = ap (λ b. cond b (Some (position_or_len p xs)) None) (lt-ltb (position_or_len p xs) (length xs) (omega (arith, e, lt))) ∙ ap Some e

  position_is : (xs : List (ℕ × ℕ)) (i : ℕ) → position p xs ≡ Some i → position_or_len p xs ≡ i
  position_is xs i = by (nat_lt (position_or_len p xs) (length xs)) where
    by : (b : Bool) → cond b (Some (position_or_len p xs)) None ≡ Some i → position_or_len p xs ≡ i
    by true e = some-injective _ _ e
    by false e = absurd (none-some _ e)

  position_stays : (xs : List (ℕ × ℕ)) (x : ℕ × ℕ) (i : ℕ) → position p xs ≡ Some i → position p (xs ++ x ∷ []) ≡ Some i
  position_stays xs x i e =
      let is = position_is xs i e in
      let lt = (position-Some p xs i x e).0 in
      position_at (xs ++ x ∷ []) i
      (position_or_len_push p xs x
      ∙ cond_both (eqb (position_or_len p xs) (length xs)) (length xs + cond (p x) 0 1) (position_or_len p xs) (λ n. n ≡ i) (λ t. let same = eqb-true _ _ t in absurd (omega (arith, same, is, lt))) (λ _. is))
      (omega (arith, lt, length-append xs (x ∷ [])))

-- a step is put in
module _ (xs : List (ℕ × ℕ)) (x : ℕ × ℕ) where
  abbrev put : Bool → List (ℕ × ℕ)
  put b = if b then xs else xs ++ x ∷ []

  put_stays : (b : Bool) (p : ℕ × ℕ → Bool) (i : ℕ) → position p xs ≡ Some i → position p (put b) ≡ Some i
  put_stays true p i e = e
  put_stays false p i e = position_stays p xs x i e

  put_there : (b : Bool) → position_or_len (same_pair x) xs < length (put b) → position (same_pair x) (put b) ≡ Some (position_or_len (same_pair x) xs)
  put_there true lt = position_at (same_pair x) xs _ refl lt
  put_there false lt = position_at (same_pair x) (xs ++ x ∷ []) _
      (position_or_len_push (same_pair x) xs x
      ∙ cond_both (eqb (position_or_len (same_pair x) xs) (length xs)) (length xs + cond (same_pair x x) 0 1) (position_or_len (same_pair x) xs) (λ n. n ≡ position_or_len (same_pair x) xs)
      (λ t. ap (λ b. length xs + cond b 0 1) (pair_self x) ∙ (let same = eqb-true _ _ t in omega (arith, same))) (λ _. refl)) lt

-- the last step to a number
record Step (steps : List (ℕ × ℕ)) (o : Option ℕ) (c k : ℕ) : Type 0 where
  from : ℕ
  is : o ≡ Some from
  at : ℕ
  found : position (same_pair (from, c)) steps ≡ Some at
  next : suc at ≡ k

step : (steps : List (ℕ × ℕ)) (o : Option ℕ) (c k : ℕ) → longer steps o c ≡ Some k → Step steps o c k
step steps None c k e = absurd (none-some k e)
step steps (Some j) c k e = by (position (same_pair (j, c)) steps) refl e where
  by : (o : Option ℕ) → position (same_pair (j, c)) steps ≡ o → option_map suc o ≡ Some k → Step steps (Some j) c k
  by None is e = absurd (none-some k e)
  by (Some i) is e = record { from = j; is = refl; at = i; found = is; next = some-injective _ _ e }

-- a number with one more character
pub longer_there : (steps : List (ℕ × ℕ)) (cs : List ℕ) (j c i : ℕ) → beginning steps cs ≡ Some j → position (same_pair (j, c)) steps ≡ Some i → beginning steps (c ∷ cs) ≡ Some (suc i)
longer_there steps cs j c i e found = ap (λ o. longer steps o c) e ∙ ap (option_map suc) found

-- where the places of steps stay, each beginning keeps its number
grows : (old new : List (ℕ × ℕ)) → ((p : ℕ × ℕ → Bool) (i : ℕ) → position p old ≡ Some i → position p new ≡ Some i) → Grows old new
grows old new stay [] k e = e
grows old new stay (c ∷ cs) k e =
    let s = step old (beginning old cs) c k e in
    longer_there new cs s.from c s.at (grows old new stay cs s.from s.is) (stay _ s.at s.found) ∙ ap Some s.next

-- one more step of a name
pub grows_put : (old new : List (ℕ × ℕ)) (x : ℕ × ℕ) → new ≡ (if list_any (same_pair x) old then old else old ++ x ∷ []) → Grows old new
grows_put old new x e = subst (Grows old) (sym e) (grows old (put old x (list_any (same_pair x) old)) (put_stays old x (list_any (same_pair x) old)))

pub put_found : (old new : List (ℕ × ℕ)) (x : ℕ × ℕ) (i : ℕ) → new ≡ (if list_any (same_pair x) old then old else old ++ x ∷ []) → i ≡ position_or_len (same_pair x) old → i < length new
    → position (same_pair x) new ≡ Some i
put_found old new x i e at lt =
    ap (position (same_pair x)) e
    ∙ put_there old x (list_any (same_pair x) old) (subst (λ n. n < length (put old x (list_any (same_pair x) old))) at (subst (λ l. i < length l) e lt))
    ∙ ap Some (sym at)

-- no two beginnings have one number
one_beginning : (steps : List (ℕ × ℕ)) (cs ds : List ℕ) (k : ℕ) → beginning steps cs ≡ Some k → beginning steps ds ≡ Some k → cs ≡ ds
one_beginning steps [] [] k e f = refl
one_beginning steps [] (d ∷ ds) k e f =
    let zero_is : 0 ≡ k = some-injective _ _ e in
    let s = (step steps (beginning steps ds) d k f).next in absurd (omega (arith, zero_is, s))
one_beginning steps (c ∷ cs) [] k e f =
    let zero_is : 0 ≡ k = some-injective _ _ f in
    let s = (step steps (beginning steps cs) c k e).next in absurd (omega (arith, zero_is, s))
one_beginning steps (c ∷ cs) (d ∷ ds) k e f =
    let s = step steps (beginning steps cs) c k e in
    let t = step steps (beginning steps ds) d k f in
    let at : s.at ≡ t.at = ap pred (s.next ∙ sym t.next) in
    let same : (s.from, c) ≡ (t.from, d) =
    pair_is _ _ (position-Some (same_pair (s.from, c)) steps s.at (0, 0) s.found).1
    ∙ ap (λ i. get_or steps i (0, 0)) at
    ∙ sym (pair_is _ _ (position-Some (same_pair (t.from, d)) steps t.at (0, 0) t.found).1) in
    λ i. (same i).1 ∷ one_beginning steps cs ds s.from s.is (t.is ∙ ap (λ q. Some q.0) (sym same)) i

-- characters in their order
abbrev forward : List ℕ → List ℕ
forward [] = []
forward (c ∷ cs) = forward cs ++ c ∷ []

forward_encodes : (cs : List ℕ) → backwards cs ≡ encodes (forward cs)
forward_encodes [] = refl
forward_encodes (c ∷ cs) = ap (λ t. t ++ encode_utf8 c) (forward_encodes cs) ∙ ap (λ t. encodes (forward cs) ++ t) (sym (append-nil (encode_utf8 c))) ∙ sym (encodes-append (forward cs) (c ∷ []))

forward_same : (cs ds : List ℕ) → forward cs ≡ forward ds → cs ≡ ds
forward_same [] [] e = refl
forward_same [] (d ∷ ds) e = let long = ap length e in absurd (omega (arith, long, length-append (forward ds) (d ∷ [])))
forward_same (c ∷ cs) [] e = let long = ap length e in absurd (omega (arith, long, length-append (forward cs) (c ∷ [])))
forward_same (c ∷ cs) (d ∷ ds) e = let both = same_from_push (forward cs) (forward ds) c d e in λ i. both.1 i ∷ forward_same cs ds both.0 i

-- one text has one list of characters
backwards_same : (cs ds : List ℕ) → backwards cs ≡ backwards ds → cs ≡ ds
backwards_same cs ds e = forward_same cs ds (encodes_same _ _ (sym (forward_encodes cs) ∙ e ∙ forward_encodes ds))

module _ (steps : List (ℕ × ℕ)) where
  -- a null has one mark
  one_mark : (n : Null) (m o : ℕ × ℕ) → HasMark steps n m → HasMark steps n o → m ≡ o
  one_mark (null.Named t) m o e f =
      let cs : e.1 ≡ f.1 = backwards_same e.1 f.1 (sym e.2 ∙ f.2) in
      let k : m.1 ≡ o.1 = some-injective _ _ (sym e.3 ∙ ap (beginning steps) cs ∙ f.3) in
      λ i. ((e.0 ∙ sym f.0) i, k i)
  one_mark (null.Fresh s n) m o e f = λ i. ((e.0 ∙ sym f.0) i, (e.1 ∙ sym f.1) i)

  -- a mark is that of one null
  one_null : (n q : Null) (m : ℕ × ℕ) → HasMark steps n m → HasMark steps q m → n ≡ q
  one_null (null.Named t) (null.Named u) m e f = ap null.Named (e.2 ∙ ap backwards (one_beginning steps e.1 f.1 m.1 e.3 f.3) ∙ sym f.2)
  one_null (null.Fresh s n) (null.Fresh t o) m e f =
      let both = sym e.0 ∙ f.0 in
      let same : s ≡ t = omega (arith, both) in
      λ i. null.Fresh (same i) ((sym e.1 ∙ f.1) i)
  one_null (null.Named t) (null.Fresh s o) m e f = let no_null = sym e.0 ∙ f.0 in absurd (omega (arith, no_null))
  one_null (null.Fresh s n) (null.Named t) m e f = let no_null = sym f.0 ∙ e.0 in absurd (omega (arith, no_null))

pub mark_grows : (old new : List (ℕ × ℕ)) → Grows old new → (n : Null) (m : ℕ × ℕ) → HasMark old n m → HasMark new n m
mark_grows old new grow (null.Named t) m h = (h.0, h.1, h.2, grow h.1 m.1 h.3)
mark_grows old new grow (null.Fresh s n) m h = h

-- one more pair, before the others
module _ (old new : List (ℕ × ℕ)) (before after : List ((ℕ × ℕ) × ℕ)) (k : ℕ) (v : World) (p : Null × Value) (m : ℕ × ℕ) (so_far : AreNulls old before (suc k) v) (grow : Grows old new) (mark : HasMark new p.0 m)
    (put_in : (q : ℕ × ℕ) → lookup (same_pair q) after ≡ cond (same_pair m q) (Some k) (lookup (same_pair q) before)) where
  sound_more : (q : ℕ × ℕ) (i : ℕ) (b : Bool) → same_pair m q ≡ b → cond b (Some k) (lookup (same_pair q) before) ≡ Some i → (n : Null) × HasMark new n q × (pair_from k (p ∷ v) n ≡ Some i)
  sound_more q i true is e =
      (p.0, subst (HasMark new p.0) (pair_is m q is) mark, ap (λ b. if b then Some k else pair_from (suc k) v p.0) ((null_decides p.0 p.0).1 refl) ∙ e)
  sound_more q i false is e =
      let s = so_far.sound q i e in
      let there = mark_grows old new grow s.0 q s.1 in
      (s.0, there, by s.0 (same_null p.0 s.0) refl there s.2) where
        by : (n : Null) (b : Bool) → same_null p.0 n ≡ b → HasMark new n q → pair_from (suc k) v n ≡ Some i → (if b then Some k else pair_from (suc k) v n) ≡ Some i
        by n true same there rest =
            let one = one_mark new n m q (subst (λ x. HasMark new x m) ((null_decides p.0 n).0 same) mark) there in
            absurd (false≢true (sym is ∙ subst (λ x. same_pair m x ≡ true) one (pair_self m)))
        by n false same there rest = rest

  complete_more : (n : Null) (i : ℕ) (b : Bool) → same_null p.0 n ≡ b → (if b then Some k else pair_from (suc k) v n) ≡ Some i → (q : ℕ × ℕ) × HasMark new n q × (lookup (same_pair q) after ≡ Some i)
  complete_more n i true same e =
      (m, subst (λ x. HasMark new x m) ((null_decides p.0 n).0 same) mark, put_in m ∙ ap (λ b. cond b (Some k) (lookup (same_pair m) before)) (pair_self m) ∙ e)
  complete_more n i false same e =
      let s = so_far.complete n i e in
      let there = mark_grows old new grow n s.0 s.1 in
      (s.0, there, put_in s.0 ∙ by s.0 (same_pair m s.0) refl there s.2) where
        by : (q : ℕ × ℕ) (b : Bool) → same_pair m q ≡ b → HasMark new n q → lookup (same_pair q) before ≡ Some i → cond b (Some k) (lookup (same_pair q) before) ≡ Some i
        by q true is there rest =
            absurd (false≢true (sym same ∙ (null_decides p.0 n).1 (one_null new p.0 n m mark (subst (HasMark new n) (sym (pair_is m q is)) there))))
        by q false is there rest = rest

  pub nulls_more : AreNulls new after k (p ∷ v)
  nulls_more = record {
    sound = λ q i e. sound_more q i (same_pair m q) refl (sym (put_in q) ∙ e);
    complete = λ n i e. complete_more n i (same_null p.0 n) refl e;
  }

-- one more pair of a world
pub nulls_turn : (old new : List (ℕ × ℕ)) (before after : List ((ℕ × ℕ) × ℕ)) (v : World) (k : ℕ) (p : Null × Value) (m : ℕ × ℕ) → k < length v → p ≡ get_or v k p
    → AreNulls old before (suc k) (drop (suc k) v) → Grows old new → HasMark new (get_or v k p).0 m
    → ((q : ℕ × ℕ) → lookup (same_pair q) after ≡ cond (same_pair m q) (Some k) (lookup (same_pair q) before)) → AreNulls new after k (drop k v)
nulls_turn old new before after v k p m lt is so_far grow mark put_in =
    subst (AreNulls new after k) (ap (λ q. q ∷ drop (suc k) v) is ∙ sym (drop-cons v k p lt))
    (nulls_more old new before after k (drop (suc k) v) p m so_far grow (subst (λ q. HasMark new q.0 m) (sym is) mark) put_in)

module _ (steps : List (ℕ × ℕ)) (pairs : List ((ℕ × ℕ) × ℕ)) (v : World) (all : AreNulls steps pairs 0 v) where
  -- what is kept for the mark of a null
  pub mark_found : (n : Null) (m : ℕ × ℕ) → HasMark steps n m → lookup (same_pair m) pairs ≡ pair_from 0 v n
  mark_found n m mark = by (lookup (same_pair m) pairs) (pair_from 0 v n) refl refl where
    by : (a b : Option ℕ) → lookup (same_pair m) pairs ≡ a → pair_from 0 v n ≡ b → a ≡ b
    by (Some i) b e f = let s = all.sound m i e in sym s.2 ∙ ap (pair_from 0 v) (one_null steps s.0 n m s.1 mark) ∙ f
    by None None e f = refl
    by None (Some i) e f = let s = all.complete n i f in sym e ∙ ap (λ q. lookup (same_pair q) pairs) (one_mark steps n m s.0 mark s.1) ∙ s.2

  -- a name with which none begins is none of a null of the world
  pub name_lacking : (cs : List ℕ) → beginning steps cs ≡ None → pair_from 0 v (null.Named (backwards cs)) ≡ None
  name_lacking cs none = by (pair_from 0 v (null.Named (backwards cs))) refl where
    by : (b : Option ℕ) → pair_from 0 v (null.Named (backwards cs)) ≡ b → b ≡ None
    by None f = refl
    by (Some i) f =
        let s = all.complete (null.Named (backwards cs)) i f in
        absurd (none-some _ (sym none ∙ ap (beginning steps) (backwards_same cs s.1.1 s.1.2) ∙ s.1.3))

-- the value of the pair with the number of a null
pair_later : (k : ℕ) (v : World) (n : Null) → pair_from (suc k) v n ≡ option_map suc (pair_from k v n)
pair_later k [] n = refl
pair_later k (p ∷ v) n = by (same_null p.0 n) (pair_later (suc k) v n) where
  by : (b : Bool) → pair_from (suc (suc k)) v n ≡ option_map suc (pair_from (suc k) v n) → (if b then Some (suc k) else pair_from (suc (suc k)) v n) ≡ option_map suc (if b then Some k else pair_from (suc k) v n)
  by true rest = refl
  by false rest = rest

past_later : (p : Null × Value) (v : World) (o : Option ℕ) → or_past (p ∷ v) (option_map suc o) ≡ suc (or_past v o)
past_later p v None = refl
past_later p v (Some i) = refl

pub value_listed : (v : World) (n : Null) → value_with v (or_past v (pair_from 0 v n)) ≡ value_of_null v n
value_listed [] n = refl
value_listed (p ∷ v) n = by (same_null p.0 n) (value_listed v n) where
  by : (b : Bool) → value_with v (or_past v (pair_from 0 v n)) ≡ value_of_null v n → value_with (p ∷ v) (or_past (p ∷ v) (if b then Some 0 else pair_from 1 v n)) ≡ (if b then p.1 else value_of_null v n)
  by true rest = refl
  by false rest = ap (value_with (p ∷ v)) (ap (or_past (p ∷ v)) (pair_later 0 v n) ∙ past_later p v (pair_from 0 v n)) ∙ rest

pub value_past : (v : World) → value_with v (length v) ≡ other_zero
value_past [] = refl
value_past (p ∷ v) = value_past v
