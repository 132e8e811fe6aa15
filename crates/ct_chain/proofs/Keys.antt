-- One key more is linked, and how the search for a key goes on.
use Rattle.std.proofs.Common.{◌≡◌, ◌≢◌, ◌⊎◌, ℕ, ◌+◌, ◌-◌, ◌<◌, ◌≤◌, ◌^◌, List, [], ◌∷◌, ◌++◌, length, get_or, set, replicate, refl, sym, ap, ◌∙◌, subst, arith, length-set, inl, inr}
use Rattle.std.proofs.lemmas.Bool.{cases_eq, cases_lt}
use Rattle.std.proofs.lemmas.List.{get_or_append_left, get_or_push, get_or-set_same, get_or-set_other, get_or-replicate, length_push}
use Rattle.ct_chain.{specs.Bucket.bucket_of, specs.Linked.IsLast, specs.Keys.{IsFirst, AreKeysLinked}, proofs.Mixing.bucket_below}
use Rattle.ct_chain.proofs.Steps.{own, last_of_none, last_grows, head_step}

pub no_keys : (n : ℕ) (heads tails : List ℕ) → 0 < n → n ≤ 2 ^ 32 → heads ≡ replicate n (2 ^ 32 - 1) → tails ≡ replicate n 0 → length heads ≡ n → length tails ≡ n → AreKeysLinked n [] heads tails []
no_keys n heads tails some few heads_are tails_are count tails_count = record {
  ahead = record {
    some = some;
    few = few;
    count = count;
    links = refl;
    buckets = λ b lt.
        let at : get_or heads b 0 ≡ 2 ^ 32 - 1 = ap (λ hs. get_or hs b 0) heads_are ∙ get_or-replicate n b (2 ^ 32 - 1) 0 lt in
        record { past = omega arith; own = λ below. absurd (omega arith); none = λ p _ _ below. absurd (omega arith); end = λ _. at };
    places = λ p lt. absurd (omega arith);
  };
  count = tails_count;
  lasts = λ b lt. last_of_none n [] b (get_or tails b 0) (ap (λ ts. get_or ts b 0) tails_are ∙ get_or-replicate n b 0 0 lt);
}

-- the bucket of a key that comes after the others
own_push : (n : ℕ) (keys : List ℕ) (key : ℕ) → own n (keys ++ key ∷ []) (length keys) ≡ bucket_of n key
own_push n keys key = ap (bucket_of n) (get_or_push keys key 0 (length keys) refl)

own_old : (n : ℕ) (keys : List ℕ) (key p : ℕ) → p < length keys → own n (keys ++ key ∷ []) p ≡ own n keys p
own_old n keys key p lt = ap (bucket_of n) (get_or_append_left keys (key ∷ []) 0 p lt)

-- where the key is of another bucket, or a place was found before, the first place stays
first_stays : (n : ℕ) (keys : List ℕ) (key b at from : ℕ) → length keys + 1 < 2 ^ 32 → IsFirst n keys b at from → (bucket_of n key ≢ b) ⊎ (at < length keys) → IsFirst n (keys ++ key ∷ []) b at from
first_stays n keys key b at from few first why = record {
  past = first.past;
  own = λ lt. own_there lt (cases_lt at (length keys));
  none = λ p past before lt. none p past before lt (cases_lt p (length keys)) why;
  end = λ le. first.end (omega (arith, length_push keys key));
} where
  own_there : at < length (keys ++ key ∷ []) → (at < length keys) ⊎ (length keys ≤ at) → own n (keys ++ key ∷ []) at ≡ b
  own_there lt (inl below) = own_old n keys key at below ∙ first.own below
  own_there lt (inr past) = let far = first.end past in absurd (omega (arith, length_push keys key))

  none : (p : ℕ) → from ≤ p → p < at → p < length (keys ++ key ∷ []) → (p < length keys) ⊎ (length keys ≤ p) → (bucket_of n key ≢ b) ⊎ (at < length keys) → own n (keys ++ key ∷ []) p ≢ b
  none p past before lt (inl below) _ = λ e. first.none p past before below (sym (own_old n keys key p below) ∙ e)
  none p past before lt (inr here) (inr found) = absurd (omega arith)
  none p past before lt (inr here) (inl other) =
      let is : p ≡ length keys = omega (arith, length_push keys key) in
      λ e. other (sym (ap (own n (keys ++ key ∷ [])) is ∙ own_push n keys key) ∙ e)

-- where none was found before, it is the place of the key
first_here : (n : ℕ) (keys : List ℕ) (key b at from : ℕ) → IsFirst n keys b at from → length keys ≤ at → from ≤ length keys → bucket_of n key ≡ b → IsFirst n (keys ++ key ∷ []) b (length keys) from
first_here n keys key b at from first far le same = record {
  past = le;
  own = λ lt. own_push n keys key ∙ same;
  none = λ p past before lt e. first.none p past (omega arith) before (sym (own_old n keys key p before) ∙ e);
  end = λ far_on. absurd (omega (arith, length_push keys key));
}

-- a bucket that has a place at or past `from` leads to one
found_before : (n : ℕ) (keys : List ℕ) (b at from p : ℕ) → IsFirst n keys b at from → from ≤ p → p < length keys → own n keys p ≡ b → at < length keys
found_before n keys b at from p first past lt is = by_case (cases_lt at (length keys)) where
  by_case : (at < length keys) ⊎ (length keys ≤ at) → at < length keys
  by_case (inl below) = below
  by_case (inr far) = absurd (first.none p past (omega arith) lt is)

-- the tails after one key more
tails_push : (n : ℕ) (keys tails : List ℕ) (key c : ℕ) → 0 < n → length tails ≡ n → IsLast n keys c (get_or tails c 0) (length keys)
    → IsLast n (keys ++ key ∷ []) c (get_or (set tails (bucket_of n key) (length keys + 1)) c 0) (length (keys ++ key ∷ []))
tails_push n keys tails key c some count last =
    let lt : own n (keys ++ key ∷ []) (length keys) < n = bucket_below n (get_or (keys ++ key ∷ []) (length keys) 0) some in
    let there = head_step n (keys ++ key ∷ []) tails (length keys) c count lt (last_grows n keys (key ∷ []) c (get_or tails c 0) (length keys) (omega arith) last) (cases_eq c (own n (keys ++ key ∷ []) (length keys))) in
    subst (λ k. IsLast n (keys ++ key ∷ []) c (get_or (set tails (bucket_of n key) (length keys + 1)) c 0) k) (sym (length_push keys key))
    (subst (λ b. IsLast n (keys ++ key ∷ []) c (get_or (set tails b (length keys + 1)) c 0) (length keys + 1)) (own_push n keys key) there)

-- the place of the key leads to none
place_new : (n : ℕ) (keys next : List ℕ) (key b p : ℕ) → length keys + 1 < 2 ^ 32 → length next ≡ length keys → p ≡ length keys → IsFirst n (keys ++ key ∷ []) b (get_or (next ++ 4294967295 ∷ []) p 0) (p + 1)
place_new n keys next key b p few links is =
    subst (λ at. IsFirst n (keys ++ key ∷ []) b at (p + 1)) (sym (get_or_push next 4294967295 0 p (omega arith)))
    (record { past = omega arith; own = λ lt. absurd (omega (arith, length_push keys key)); none = λ q past before lt. absurd (omega (arith, length_push keys key)); end = λ _. refl })

-- a place before it leads where it led
place_stays : (n : ℕ) (keys next : List ℕ) (key p : ℕ) → length keys + 1 < 2 ^ 32 → length next ≡ length keys → p < length keys → IsFirst n keys (own n keys p) (get_or next p 0) (p + 1)
    → (bucket_of n key ≢ own n keys p) ⊎ (get_or next p 0 < length keys) → IsFirst n (keys ++ key ∷ []) (own n (keys ++ key ∷ []) p) (get_or (next ++ 4294967295 ∷ []) p 0) (p + 1)
place_stays n keys next key p few links lt first why =
    subst (λ b. IsFirst n (keys ++ key ∷ []) b (get_or (next ++ 4294967295 ∷ []) p 0) (p + 1)) (sym (own_old n keys key p lt))
    (subst (λ at. IsFirst n (keys ++ key ∷ []) (own n keys p) at (p + 1)) (sym (get_or_append_left next (4294967295 ∷ []) 0 p (omega arith)))
    (first_stays n keys key (own n keys p) (get_or next p 0) (p + 1) few first why))

module _ (n : ℕ) (keys heads tails next : List ℕ) (key : ℕ) (few : length keys + 1 < 2 ^ 32) (linked : AreKeysLinked n keys heads tails next) where
  lt : bucket_of n key < n
  lt = bucket_below n key linked.ahead.some

  links : length (next ++ 4294967295 ∷ []) ≡ length (keys ++ key ∷ [])
  links = omega (arith, length_push next 4294967295, length_push keys key, linked.ahead.links)

  lasts : IsLast n keys (bucket_of n key) (get_or tails (bucket_of n key) 0) (length keys)
  lasts = linked.lasts (bucket_of n key) lt

  far_first : get_or tails (bucket_of n key) 0 ≡ 0 → (get_or heads (bucket_of n key) 0 < length keys) ⊎ (length keys ≤ get_or heads (bucket_of n key) 0) → length keys ≤ get_or heads (bucket_of n key) 0
  far_first empty (inr far) = far
  far_first empty (inl below) = absurd (lasts.none (get_or heads (bucket_of n key) 0) (omega arith) below ((linked.ahead.buckets (bucket_of n key) lt).own below))

  bucket_first : (c : ℕ) → c < n → get_or tails (bucket_of n key) 0 ≡ 0 → (c ≡ bucket_of n key) ⊎ (c ≡ bucket_of n key → ⊥)
      → IsFirst n (keys ++ key ∷ []) c (get_or (set heads (bucket_of n key) (length keys)) c 0) 0
  bucket_first c below empty (inl same) =
      let b = bucket_of n key in
      subst (λ k. IsFirst n (keys ++ key ∷ []) k (get_or (set heads b (length keys)) k 0) 0) (sym same)
      (subst (λ at. IsFirst n (keys ++ key ∷ []) b at 0) (sym (get_or-set_same heads b (length keys) 0 (omega (arith, lt, linked.ahead.count))))
      (first_here n keys key b (get_or heads b 0) 0 (linked.ahead.buckets b lt) (far_first empty (cases_lt (get_or heads b 0) (length keys))) (omega arith) refl))
  bucket_first c below empty (inr differs) =
      subst (λ at. IsFirst n (keys ++ key ∷ []) c at 0) (sym (get_or-set_other heads (bucket_of n key) c (length keys) 0 differs))
      (first_stays n keys key c (get_or heads c 0) 0 few (linked.ahead.buckets c below) (inl (λ e. differs (sym e))))

  place_first : (p : ℕ) → get_or tails (bucket_of n key) 0 ≡ 0 → p < length (keys ++ key ∷ []) → (p < length keys) ⊎ (length keys ≤ p)
      → IsFirst n (keys ++ key ∷ []) (own n (keys ++ key ∷ []) p) (get_or (next ++ 4294967295 ∷ []) p 0) (p + 1)
  place_first p empty within (inl below) =
      place_stays n keys next key p few linked.ahead.links below (linked.ahead.places p below) (inl (λ e. lasts.none p (omega arith) below (sym e)))
  place_first p empty within (inr here) =
      place_new n keys next key (own n (keys ++ key ∷ []) p) p few linked.ahead.links (omega (arith, length_push keys key))

  pub key_first : get_or tails (bucket_of n key) 0 ≡ 0
      → AreKeysLinked n (keys ++ key ∷ []) (set heads (bucket_of n key) (length keys)) (set tails (bucket_of n key) (length keys + 1)) (next ++ 4294967295 ∷ [])
  key_first empty = record {
    ahead = record {
      some = linked.ahead.some;
      few = linked.ahead.few;
      count = length-set heads (bucket_of n key) (length keys) ∙ linked.ahead.count;
      links = links;
      buckets = λ c below. bucket_first c below empty (cases_eq c (bucket_of n key));
      places = λ p within. place_first p empty within (cases_lt p (length keys));
    };
    count = length-set tails (bucket_of n key) (length keys + 1) ∙ linked.count;
    lasts = λ c below. tails_push n keys tails key c linked.ahead.some linked.count (linked.lasts c below);
  }

  -- the last place of the key's bucket, where it has one
  module _ (last : ℕ) (is : last + 1 ≡ get_or tails (bucket_of n key) 0) where
    last_below : last < length keys
    last_below = omega (arith, lasts.within)

    last_own : own n keys last ≡ bucket_of n key
    last_own = lasts.own last is

    far_last : (get_or next last 0 < length keys) ⊎ (length keys ≤ get_or next last 0) → length keys ≤ get_or next last 0
    far_last (inr far) = far
    far_last (inl below) =
        let first = linked.ahead.places last last_below in
        absurd (lasts.none (get_or next last 0) (omega (arith, first.past)) below (first.own below ∙ last_own))

    bucket_later : (c : ℕ) → c < n → (c ≡ bucket_of n key) ⊎ (c ≡ bucket_of n key → ⊥) → IsFirst n (keys ++ key ∷ []) c (get_or heads c 0) 0
    bucket_later c below (inl same) =
        first_stays n keys key c (get_or heads c 0) 0 few (linked.ahead.buckets c below)
        (inr (found_before n keys c (get_or heads c 0) 0 last (linked.ahead.buckets c below) (omega arith) last_below (last_own ∙ sym same)))
    bucket_later c below (inr differs) = first_stays n keys key c (get_or heads c 0) 0 few (linked.ahead.buckets c below) (inl (λ e. differs (sym e)))

    why : (p : ℕ) → p < length keys → (p ≡ last → ⊥) → (p < last) ⊎ (last ≤ p) → (own n keys p ≡ bucket_of n key) ⊎ (own n keys p ≡ bucket_of n key → ⊥)
        → (bucket_of n key ≢ own n keys p) ⊎ (get_or next p 0 < length keys)
    why p below differs _ (inr other) = inl (λ e. other (sym e))
    why p below differs (inr past) (inl same) = absurd (lasts.none p (omega arith) below same)
    why p below differs (inl before) (inl same) =
        inr (found_before n keys (own n keys p) (get_or next p 0) (p + 1) last (linked.ahead.places p below) (omega arith) last_below (last_own ∙ sym same))

    place_last : IsFirst n (keys ++ key ∷ []) (own n (keys ++ key ∷ []) last) (get_or (set (next ++ 4294967295 ∷ []) last (length keys)) last 0) (last + 1)
    place_last =
        subst (λ b. IsFirst n (keys ++ key ∷ []) b (get_or (set (next ++ 4294967295 ∷ []) last (length keys)) last 0) (last + 1)) (sym (own_old n keys key last last_below))
        (subst (λ at. IsFirst n (keys ++ key ∷ []) (own n keys last) at (last + 1))
        (sym (get_or-set_same (next ++ 4294967295 ∷ []) last (length keys) 0 (omega (arith, links, length_push keys key, last_below))))
        (first_here n keys key (own n keys last) (get_or next last 0) (last + 1) (linked.ahead.places last last_below) (far_last (cases_lt (get_or next last 0) (length keys))) (omega (arith, last_below)) (sym last_own)))

    place_later : (p : ℕ) → p < length (keys ++ key ∷ []) → (p ≡ last) ⊎ (p ≡ last → ⊥) → (p < length keys) ⊎ (length keys ≤ p)
        → IsFirst n (keys ++ key ∷ []) (own n (keys ++ key ∷ []) p) (get_or (set (next ++ 4294967295 ∷ []) last (length keys)) p 0) (p + 1)
    place_later p within (inl same) _ =
        subst (λ q. IsFirst n (keys ++ key ∷ []) (own n (keys ++ key ∷ []) q) (get_or (set (next ++ 4294967295 ∷ []) last (length keys)) q 0) (q + 1)) (sym same) place_last
    place_later p within (inr differs) there =
        subst (λ at. IsFirst n (keys ++ key ∷ []) (own n (keys ++ key ∷ []) p) at (p + 1)) (sym (get_or-set_other (next ++ 4294967295 ∷ []) last p (length keys) 0 differs)) (other there)
      where
        other : (p < length keys) ⊎ (length keys ≤ p) → IsFirst n (keys ++ key ∷ []) (own n (keys ++ key ∷ []) p) (get_or (next ++ 4294967295 ∷ []) p 0) (p + 1)
        other (inl below) = place_stays n keys next key p few linked.ahead.links below (linked.ahead.places p below) (why p below differs (cases_lt p last) (cases_eq (own n keys p) (bucket_of n key)))
        other (inr here) = place_new n keys next key (own n (keys ++ key ∷ []) p) p few linked.ahead.links (omega (arith, length_push keys key))

    pub key_after : AreKeysLinked n (keys ++ key ∷ []) heads (set tails (bucket_of n key) (length keys + 1)) (set (next ++ 4294967295 ∷ []) last (length keys))
    key_after = record {
      ahead = record {
        some = linked.ahead.some;
        few = linked.ahead.few;
        count = linked.ahead.count;
        links = length-set (next ++ 4294967295 ∷ []) last (length keys) ∙ links;
        buckets = λ c below. bucket_later c below (cases_eq c (bucket_of n key));
        places = λ p within. place_later p within (cases_eq p last) (cases_lt p (length keys));
      };
      count = length-set tails (bucket_of n key) (length keys + 1) ∙ linked.count;
      lasts = λ c below. tails_push n keys tails key c linked.ahead.some linked.count (linked.lasts c below);
    }

pub key_later : (n : ℕ) (keys heads tails next pushed : List ℕ) (key b last : ℕ) → length keys + 1 < 2 ^ 32 → AreKeysLinked n keys heads tails next → b ≡ bucket_of n key → last ≡ get_or tails b 0 → 0 < last
    → pushed ≡ next ++ 4294967295 ∷ [] → AreKeysLinked n (keys ++ key ∷ []) heads (set tails b (length keys + 1)) (set pushed (last - 1) (length keys))
key_later n keys heads tails next pushed key b last few linked in_bucket at some is =
    let one_more : (last - 1) + 1 ≡ get_or tails (bucket_of n key) 0 = omega arith ∙ at ∙ ap (λ k. get_or tails k 0) in_bucket in
    subst (λ k. AreKeysLinked n (keys ++ key ∷ []) heads (set tails k (length keys + 1)) (set pushed (last - 1) (length keys))) (sym in_bucket)
    (subst (λ links. AreKeysLinked n (keys ++ key ∷ []) heads (set tails (bucket_of n key) (length keys + 1)) (set links (last - 1) (length keys))) (sym is)
    (key_after n keys heads tails next key few linked (last - 1) one_more))
