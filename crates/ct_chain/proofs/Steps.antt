-- One place more is linked.
use Rattle.std.proofs.Common.{◌≡◌, ◌≢◌, ◌⊎◌, ℕ, ◌+◌, ◌<◌, ◌≤◌, ◌^◌, List, [], ◌∷◌, ◌++◌, length, get_or, set, replicate, sym, ap, ◌∙◌, subst, arith, length-set, inl, inr}
use Rattle.std.{specs.Prelude.Contains, proofs.lemmas.Bool.{cases_eq, cases_lt}, proofs.lemmas.List.Quantifiers.all_pairs_push}
use Rattle.std.{proofs.lemmas.List.{get_or_append_left, get_or-set_same, get_or-set_other, get_or-replicate}, proofs.lemmas.List.Elements.Contains-get_or}
use Rattle.ct_chain.{specs.Bucket.bucket_of, specs.Seen.AreDistinct, specs.Linked.{IsLast, IsLinked, IsSought}, proofs.Mixing.bucket_below}

-- no place is of any bucket yet
pub last_of_none : (n : ℕ) (numbers : List ℕ) (b at : ℕ) → at ≡ 0 → IsLast n numbers b at 0
last_of_none n numbers b at e = record { within = omega arith; own = λ p is. absurd (omega arith); none = λ p from lt. absurd (omega arith) }

pub none_linked : (n : ℕ) (numbers next heads : List ℕ) → 0 < n → n ≤ 2 ^ 32 → heads ≡ replicate n 0 → length heads ≡ n → IsLinked n numbers heads next 0
none_linked n numbers next heads some few is count = record {
  some = some;
  few = few;
  count = count;
  buckets = λ b lt. last_of_none n numbers b (get_or heads b 0) (ap (λ hs. get_or hs b 0) is ∙ get_or-replicate n b 0 0 lt);
  places = λ p lt. absurd (omega arith);
}

-- the bucket of the number at a place
abbrev pub own : ℕ → List ℕ → ℕ → ℕ
own n numbers p = bucket_of n (get_or numbers p 0)

-- a place that is in the bucket is the last one of it up to the next place
last_here : (n : ℕ) (numbers : List ℕ) (p : ℕ) → IsLast n numbers (own n numbers p) (p + 1) (p + 1)
last_here n numbers p = record {
  within = omega arith;
  own = λ q is. let same : q ≡ p = omega arith in ap (own n numbers) same;
  none = λ q from lt. absurd (omega arith);
}

-- a place of another bucket changes nothing
last_past : (n : ℕ) (numbers : List ℕ) (b at p : ℕ) → IsLast n numbers b at p → own n numbers p ≢ b → IsLast n numbers b at (p + 1)
last_past n numbers b at p last other = record {
  within = omega (arith, last.within);
  own = last.own;
  none = λ q from lt. none q from lt (cases_eq q p);
} where
  none : (q : ℕ) → at ≤ q → q < p + 1 → (q ≡ p) ⊎ (q ≡ p → ⊥) → own n numbers q ≢ b
  none q from lt (inl same) = λ e. other (ap (own n numbers) (sym same) ∙ e)
  none q from lt (inr differs) = last.none q from (omega arith)

pub head_step : (n : ℕ) (numbers heads : List ℕ) (p c : ℕ) → length heads ≡ n → own n numbers p < n → IsLast n numbers c (get_or heads c 0) p → (c ≡ own n numbers p) ⊎ (c ≡ own n numbers p → ⊥)
    → IsLast n numbers c (get_or (set heads (own n numbers p) (p + 1)) c 0) (p + 1)
head_step n numbers heads p c count lt last (inl same) =
    let there : get_or (set heads (own n numbers p) (p + 1)) (own n numbers p) 0 ≡ p + 1 = get_or-set_same heads (own n numbers p) (p + 1) 0 (omega arith) in
    subst (λ b. IsLast n numbers b (get_or (set heads (own n numbers p) (p + 1)) b 0) (p + 1)) (sym same)
    (subst (λ at. IsLast n numbers (own n numbers p) at (p + 1)) (sym there) (last_here n numbers p))
head_step n numbers heads p c count lt last (inr differs) =
    subst (λ at. IsLast n numbers c at (p + 1)) (sym (get_or-set_other heads (own n numbers p) c (p + 1) 0 differs))
    (last_past n numbers c (get_or heads c 0) p last (λ e. differs (sym e)))

next_step : (n : ℕ) (numbers next : List ℕ) (p q at : ℕ) → p < length next → IsLast n numbers (own n numbers p) at p → (q < p → IsLast n numbers (own n numbers q) (get_or next q 0) q) → q < p + 1
    → (q ≡ p) ⊎ (q ≡ p → ⊥) → IsLast n numbers (own n numbers q) (get_or (set next p at) q 0) q
next_step n numbers next p q at lt last before below (inl same) =
    subst (λ k. IsLast n numbers (own n numbers k) (get_or (set next p at) k 0) k) (sym same)
    (subst (λ k. IsLast n numbers (own n numbers p) k p) (sym (get_or-set_same next p at 0 lt)) last)
next_step n numbers next p q at lt last before below (inr differs) =
    subst (λ k. IsLast n numbers (own n numbers q) k q) (sym (get_or-set_other next p q at 0 differs)) (before (omega arith))

pub link_step : (n : ℕ) (numbers heads next : List ℕ) (p : ℕ) → IsLinked n numbers heads next p → p < length next
    → IsLinked n numbers (set heads (own n numbers p) (p + 1)) (set next p (get_or heads (own n numbers p) 0)) (p + 1)
link_step n numbers heads next p linked long =
    let lt = bucket_below n (get_or numbers p 0) linked.some in
    record {
      some = linked.some;
      few = linked.few;
      count = length-set heads (own n numbers p) (p + 1) ∙ linked.count;
      buckets = λ c below. head_step n numbers heads p c linked.count lt (linked.buckets c below) (cases_eq c (own n numbers p));
      places = λ q below. next_step n numbers next p q (get_or heads (own n numbers p) 0) long (linked.buckets (own n numbers p) lt) (λ l. linked.places q l) below (cases_eq q p);
    }

-- where the search for a number begins
pub sought_first : (n : ℕ) (numbers heads next : List ℕ) (number b at : ℕ) → IsLinked n numbers heads next (length numbers) → b ≡ bucket_of n number → at ≡ get_or heads b 0 → b < n → IsSought n numbers number at
sought_first n numbers heads next number b at linked is head lt =
    let last : IsLast n numbers b at (length numbers) = subst (λ k. IsLast n numbers b k (length numbers)) (sym head) (linked.buckets b lt) in
    record {
      within = last.within;
      own = λ p e. last.own p e ∙ is;
      none = λ p from below same. last.none p from below (ap (bucket_of n) same ∙ sym is);
    }

-- and how it goes on past a place of another number
pub sought_next : (n : ℕ) (numbers heads next : List ℕ) (number at p : ℕ) → IsLinked n numbers heads next (length numbers) → IsSought n numbers number at → p + 1 ≡ at → get_or numbers p 0 ≢ number → IsSought n numbers number (get_or next p 0)
sought_next n numbers heads next number at p linked sought e other =
    let last = linked.places p (omega (arith, sought.within)) in
    let bucket = sought.own p e in
    record {
      within = omega (arith, last.within, sought.within);
      own = λ q is. last.own q is ∙ bucket;
      none = λ q from below same. passed q from below same (cases_lt q p) (cases_eq q p) last bucket;
    } where
      passed : (q : ℕ) → get_or next p 0 ≤ q → q < length numbers → get_or numbers q 0 ≡ number → (q < p) ⊎ (p ≤ q) → (q ≡ p) ⊎ (q ≡ p → ⊥) → IsLast n numbers (own n numbers p) (get_or next p 0) p → own n numbers p ≡ bucket_of n number → ⊥
      passed q from below same (inl before) _ last bucket = last.none q from before (ap (bucket_of n) same ∙ sym bucket)
      passed q from below same (inr past) (inl here) last bucket = other (ap (λ k. get_or numbers k 0) (sym here) ∙ same)
      passed q from below same (inr past) (inr there) last bucket = sought.none q (omega arith) below same

-- what is known of the places before `upto` stays as numbers are put at the end
pub last_grows : (n : ℕ) (numbers more : List ℕ) (b at upto : ℕ) → upto ≤ length numbers → IsLast n numbers b at upto → IsLast n (numbers ++ more) b at upto
last_grows n numbers more b at upto le last = record {
  within = last.within;
  own = λ p e. ap (bucket_of n) (get_or_append_left numbers more 0 p (omega (arith, last.within))) ∙ last.own p e;
  none = λ p from lt same. last.none p from lt (sym (ap (bucket_of n) (get_or_append_left numbers more 0 p (omega arith))) ∙ same);
}

pub linked_grows : (n : ℕ) (numbers heads next more links : List ℕ) (upto : ℕ) → IsLinked n numbers heads next upto → upto ≤ length numbers → length next ≡ length numbers → IsLinked n (numbers ++ more) heads (next ++ links) upto
linked_grows n numbers heads next more links upto linked le same = record {
  some = linked.some;
  few = linked.few;
  count = linked.count;
  buckets = λ b lt. last_grows n numbers more b (get_or heads b 0) upto le (linked.buckets b lt);
  places = λ p lt.
      let at : get_or (next ++ links) p 0 ≡ get_or next p 0 = get_or_append_left next links 0 p (omega arith) in
      let it : get_or (numbers ++ more) p 0 ≡ get_or numbers p 0 = get_or_append_left numbers more 0 p (omega arith) in
      subst (λ k. IsLast n (numbers ++ more) (bucket_of n k) (get_or (next ++ links) p 0) p) (sym it)
      (subst (λ k. IsLast n (numbers ++ more) (own n numbers p) k p) (sym at) (last_grows n numbers more (own n numbers p) (get_or next p 0) p (omega arith) (linked.places p lt)));
}

-- a word that does not stand in a list is put at its end
pub distinct_push : (words : List ℕ) (w : ℕ) → AreDistinct words → (Contains words w → ⊥) → AreDistinct (words ++ w ∷ [])
distinct_push words w distinct new = all_pairs_push (λ x y. x ≢ y) words w distinct (λ k d lt same. new (subst (λ x. Contains words x) same (Contains-get_or words k d lt)))
