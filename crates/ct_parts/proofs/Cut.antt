-- Where an item of a list stands in its parts.
use Rattle.std.proofs.Common.{◌≡◌, ℕ, zero, suc, ◌+◌, ◌-◌, ◌*◌, ◌/◌, ◌%◌, ◌<◌, ◌≤◌, List, [], ◌∷◌, ◌++◌, length, get_or, set, slice_get, Some, subst, refl, ap, sym, ◌∙◌, arith, append_assoc, append-nil, length-append}
use Rattle.std.proofs.lemmas.List.{get_or-append_right, get_or_append_left, set-append_left, set-append_right, length-set}
use Rattle.std.proofs.lemmas.Option.{slice_get_read, get_or_from_slice_get}
use Rattle.ct_parts.specs.Cut.{joined, IsCut}

-- place k of the list is place r of part q, which is p
pub record Stands {X : Type 0} (n : ℕ) (ps : List (List X)) (q r k : ℕ) (p : List X) : Type 0 where
  pub cut : IsCut n ps
  pub at : k ≡ q * n + r
  pub below : r < n
  pub within : k < length (joined ps)
  pub is : p ≡ get_or ps q p

module _ {X : Type 0} (n : ℕ) where
  -- a part with items behind it is whole
  whole : (p : List X) (ps : List (List X)) → IsCut n (p ∷ ps) → 0 < length (joined ps) → length p ≡ n
  whole p [] cut more = omega (arith, more)
  whole p (_ ∷ _) cut more = cut.2 (omega arith)

  -- so is each part of a list of so many whole parts
  all_whole : (p : List X) (ps : List (List X)) (q : ℕ) → IsCut n (p ∷ ps) → length (joined (p ∷ ps)) ≡ suc q * n → length p ≡ n
  all_whole p [] q cut long = omega (arith, cut.0, cut.1, long, length-append p [])
  all_whole p (_ ∷ _) q cut long = cut.2 (omega arith)

  -- there is a part for each place of the list
  pub part_below : (ps : List (List X)) (q r k : ℕ) → IsCut n ps → k ≡ q * n + r → k < length (joined ps) → q < length ps
  part_below [] q r k cut at within = omega (arith, within)
  part_below (p ∷ ps) zero r k cut at within = omega arith
  part_below (p ∷ ps) (suc q) r k cut at within =
      omega (arith, part_below ps q r (q * n + r) cut.3 refl (omega (arith, cut.1, at, within, length-append p (joined ps))))

  -- the same place without the first part, which is whole
  past : {o p : List X} {ps : List (List X)} {q r k : ℕ} → Stands n (o ∷ ps) (suc q) r k p
      → Stands n ps q r (q * n + r) p × (length o ≡ n) × (n ≤ k) × (k - n ≡ q * n + r)
  past {o = o} {ps = ps} {q = q} {r = r} s =
      let more : q * n + r < length (joined ps) = omega (arith, s.cut.1, s.at, s.within, length-append o (joined ps)) in
      (record { cut = s.cut.3; at = refl; below = s.below; within = more; is = s.is }, whole o ps s.cut (omega (arith, more)), omega (arith, s.at), omega (arith, s.at))

  pub place_below : (ps : List (List X)) (q : ℕ) {r k : ℕ} {p : List X} → Stands n ps q r k p → r < length p
  place_below [] q s = omega (arith, s.within)
  place_below (o ∷ []) zero s = omega (arith, s.at, s.within, length-append o [], ap length s.is)
  place_below (o ∷ _ ∷ _) zero s = omega (arith, s.below, s.cut.2 (omega arith), ap length s.is)
  place_below (o ∷ ps) (suc q) s = place_below ps q (past s).0

  pub item_at : (ps : List (List X)) (q : ℕ) {r k : ℕ} {p : List X} (d : X) → Stands n ps q r k p → get_or (joined ps) k d ≡ get_or p r d
  item_at [] q d s = absurd (omega (arith, s.within))
  item_at (o ∷ ps) zero {r} {k} d s =
      let first : k ≡ r = omega (arith, s.at) in
      rw (first, s.is) (get_or_append_left o (joined ps) d r (omega (arith, place_below (o ∷ ps) zero s, ap length s.is)))
  item_at (o ∷ ps) (suc q) {r} {k} d s =
      let t = past s in
      get_or-append_right o (joined ps) n k d t.1 t.2 ∙ ap (λ i. get_or (joined ps) i d) t.3 ∙ item_at ps q d t.0

  pub joined_set : (ps : List (List X)) (q : ℕ) {r k : ℕ} {p : List X} (y : X) → Stands n ps q r k p
      → joined (set ps q (set p r y)) ≡ set (joined ps) k y
  joined_set [] q y s = absurd (omega (arith, s.within))
  joined_set (o ∷ ps) zero {r} {k} y s =
      let first : k ≡ r = omega (arith, s.at) in
      rw (first, s.is) (sym (set-append_left o (joined ps) r y (omega (arith, place_below (o ∷ ps) zero s, ap length s.is))))
  joined_set (o ∷ ps) (suc q) {r} {k} y s =
      let t = past s in
      ap (λ l. o ++ l) (joined_set ps q y t.0 ∙ ap (λ i. set (joined ps) i y) (sym t.3)) ∙ sym (set-append_right o (joined ps) n k y t.1 t.2)

  -- a part with as many items as the part in whose place it stands
  pub same_cut : (ps : List (List X)) (q : ℕ) (p new : List X) → IsCut n ps → length new ≡ length p → p ≡ get_or ps q p
      → IsCut n (set ps q new) × (length (joined (set ps q new)) ≡ length (joined ps))
  same_cut [] q p new cut long is = (tt, refl)
  same_cut (o ∷ ps) zero p new cut long is =
      let same : length new ≡ length o = long ∙ ap length is in
      ((omega (arith, cut.0, same), omega (arith, cut.1, same), λ more. same ∙ cut.2 more, cut.3), omega (arith, same, length-append o (joined ps), length-append new (joined ps)))
  same_cut (o ∷ ps) (suc q) p new cut long is =
      let h = same_cut ps q p new cut.3 long is in
      ((cut.0, cut.1, λ more. cut.2 (omega (arith, more, length-set ps q new)), h.0), omega (arith, h.1, length-append o (joined ps), length-append o (joined (set ps q new))))

  -- one more part behind whole parts
  pub with_part : (ps : List (List X)) (q : ℕ) (p : List X) → IsCut n ps → length (joined ps) ≡ q * n → 0 < length p → length p ≤ n
      → IsCut n (ps ++ p ∷ []) × (joined (ps ++ p ∷ []) ≡ joined ps ++ p)
  with_part [] q p cut long some most = ((some, most, λ more. omega (arith, more), tt), append-nil p)
  with_part (o ∷ ps) zero p cut long some most = absurd (omega (arith, cut.0, long, length-append o (joined ps)))
  with_part (o ∷ ps) (suc q) p cut long some most =
      let full = all_whole o ps q cut long in
      let h = with_part ps q p cut.3 (omega (arith, full, long, length-append o (joined ps))) some most in
      ((cut.0, cut.1, λ more. full, h.0), ap (λ l. o ++ l) h.1 ∙ sym (append_assoc o (joined ps) p))

  -- one more item in the last part, where that is not whole
  pub with_last : (ps : List (List X)) (q r : ℕ) (p : List X) (y : X) → IsCut n ps → length (joined ps) ≡ q * n + r → 0 < r → r < n → p ≡ get_or ps q p
      → IsCut n (set ps q (p ++ y ∷ [])) × (joined (set ps q (p ++ y ∷ [])) ≡ joined ps ++ y ∷ [])
  with_last [] q r p y cut long some short is = absurd (omega (arith, long, some))
  with_last (o ∷ []) zero r p y cut long some short is =
      let count : length (p ++ y ∷ []) ≡ r + 1 = omega (arith, long, ap length is, length-append o [], length-append p (y ∷ [])) in
      ((omega (arith, count), omega (arith, count, short), λ more. omega (arith, more), tt), append-nil (p ++ y ∷ []) ∙ ap (λ l. l ++ y ∷ []) (is ∙ sym (append-nil o)))
  with_last (o ∷ l ∷ ps) zero r p y cut long some short is = absurd (omega (arith, long, short, cut.2 (omega arith), length-append o (joined (l ∷ ps))))
  with_last (o ∷ ps) (suc q) r p y cut long some short is =
      let full = whole o ps cut (omega (arith, cut.1, long, some, length-append o (joined ps))) in
      let h = with_last ps q r p y cut.3 (omega (arith, full, long, length-append o (joined ps))) some short is in
      ((cut.0, cut.1, λ more. full, h.0), ap (λ l. o ++ l) h.1 ∙ sym (append_assoc o (joined ps) (y ∷ [])))

-- The same of a list that stands in parts of 128, and a place of it.
module _ {X : Type 0} (ps : List (List X)) (xs : List X) (k : ℕ) (cut : IsCut 128 ps) (view : joined ps ≡ xs) (within : k < length xs) where
  abbrev in_parts : k < length (joined ps)
  in_parts = subst (λ l. k < length l) (sym view) within

  pub in_part : k / 128 < length ps
  in_part = part_below 128 ps (k / 128) (k % 128) k cut (omega arith) in_parts

  module _ (p : List X) (is : p ≡ get_or ps (k / 128) p) where
    abbrev stands : Stands 128 ps (k / 128) (k % 128) k p
    stands = record { cut = cut; at = omega arith; below = omega arith; within = in_parts; is = is }

    pub in_place : k % 128 < length p
    in_place = place_below 128 ps (k / 128) stands

    pub read : (x : X) → slice_get p (k % 128) ≡ Some x → slice_get xs k ≡ Some x
    read x got = subst (λ l. slice_get l k ≡ Some x) view
        (slice_get_read (joined ps) (length (joined ps)) k x refl in_parts (sym (item_at 128 ps (k / 128) x stands ∙ get_or_from_slice_get p (k % 128) x x got)))

    pub write : (y : X) → joined (set ps (k / 128) (set p (k % 128) y)) ≡ set xs k y
    write y = joined_set 128 ps (k / 128) y stands ∙ ap (λ l. set l k y) view

-- An item put behind so many.
module _ {X : Type 0} (ps : List (List X)) (len : ℕ) (item : X) (cut : IsCut 128 ps) (long : len ≡ length (joined ps)) where
  pub in_new_part : len % 128 ≡ 0 → IsCut 128 (ps ++ (item ∷ []) ∷ []) × (joined (ps ++ (item ∷ []) ∷ []) ≡ joined ps ++ item ∷ [])
  in_new_part full = with_part 128 ps (len / 128) (item ∷ []) cut (omega (arith, long, full)) (omega arith) (omega arith)

  module _ (short : len % 128 ≡ 0 → ⊥) where
    pub last_part : len / 128 < length ps
    last_part = part_below 128 ps (len / 128) (len % 128 - 1) (len - 1) cut (omega (arith, short)) (omega (arith, long, short))

    pub in_last_part : (p : List X) → p ≡ get_or ps (len / 128) p
        → IsCut 128 (set ps (len / 128) (p ++ item ∷ [])) × (joined (set ps (len / 128) (p ++ item ∷ [])) ≡ joined ps ++ item ∷ [])
    in_last_part p is = with_last 128 ps (len / 128) (len % 128) p item cut (omega (arith, long)) (omega (arith, short)) (omega arith) is
