-- Nodes that are written: one row more, or another in the place of one.
use Rattle.std.proofs.Common.{◌≡◌, ◌≢◌, ℕ, ◌+◌, ◌<◌, ◌≤◌, List, [], ◌∷◌, ◌++◌, None, Some, length, get_or, set, take, drop, map, replicate, sym, ap, refl, ◌∙◌, subst, arith, append_assoc, length-set}
use Rattle.std.{specs.Prelude.{Result, Ok, Err, OnErr, slice_get}, specs.Map.keys_of, proofs.Math.Seq.{take-set-lt, map-set_same}}
use Rattle.std.proofs.lemmas.List.{take-append-drop, take_at, length-take-le, length-map, length-replicate, map-append, map-set, get_or-map, get_or-take, take-map}
use Rattle.std.proofs.lemmas.Option.{get_or_from_slice_get}
use Rattle.ct_rows.{specs.Entries.find, specs.Slots.slot_of, specs.Links.{Link, entries_of, belows_of, AreLinked, AreRows, IsSought, IsFirst}}
use Rattle.ct_rows.{proofs.Entries.{nowhere, find_none}, proofs.Linking.{none_linked, linked_push, sought_first, sought_next}}

-- a node that is written past the front leaves the front as it was
pub front_stays : (n : ℕ) (old new : List Link) (x : Link) → n ≤ length old → take (n + 1) new ≡ take n old ++ x ∷ [] → take n new ≡ take n old
front_stays n old new x le e =
    ap (take n) (sym (take-append-drop (n + 1) new) ∙ ap (λ l. l ++ drop (n + 1) new) e ∙ append_assoc (take n old) (x ∷ []) (drop (n + 1) new))
    ∙ take_at (take n old) (x ∷ [] ++ drop (n + 1) new) n (length-take-le n old le)

pub on_err : {X E P : Type 0} → (r : Result X E) → P → OnErr r P
on_err (Ok x) p = tt
on_err (Err e) p = p

-- no node is a row yet
pub no_rows : (n : ℕ) (nodes : List Link) (heads : List ℕ) → heads ≡ replicate n 0 → AreRows 0 nodes heads
no_rows n nodes heads is = record {
  within = omega arith;
  linked = none_linked (length heads) heads [] (is ∙ ap (λ m. replicate m 0) (sym (ap length is ∙ length-replicate n 0)));
}

-- what stands at the place of a row
module _ (count : ℕ) (nodes : List Link) (p : ℕ) (x : Link) (long : count ≤ length nodes) (lt : p < count) (there : slice_get nodes p ≡ Some x) where
  pub link_at : {X : Type 0} (f : Link → X) (d : X) → get_or (map f (take count nodes)) p d ≡ f x
  link_at f d =
      let within : p < length (take count nodes) = omega (arith, length-take-le count nodes long) in
      get_or-map f (take count nodes) p x d within ∙ ap f (get_or-take count nodes p x lt ∙ get_or_from_slice_get nodes p x x there)

  pub key_at : get_or (keys_of (entries_of (take count nodes))) p [] ≡ x.entry.0
  key_at =
      let within : p < length (entries_of (take count nodes)) = omega (arith, length-map (take count nodes) (λ l. l.entry), length-take-le count nodes long) in
      get_or-map (λ e. e.0) (entries_of (take count nodes)) p x.entry [] within ∙ ap (λ (e : List ℕ × ℕ). e.0) (link_at (λ l. l.entry) x.entry)

module _ (count : ℕ) (nodes : List Link) (heads : List ℕ) (rows : AreRows count nodes heads) where
  pub many : length (entries_of (take count nodes)) ≡ count
  many = length-map (take count nodes) (λ l. l.entry) ∙ length-take-le count nodes rows.within

  keys_many : length (keys_of (entries_of (take count nodes))) ≡ count
  keys_many = length-map (entries_of (take count nodes)) (λ e. e.0) ∙ many

  -- a node that is written past the rows is no row as long as its slot does not have it
  pub rows_stay : (new : List Link) (x : Link) → count < length new → take (count + 1) new ≡ take count nodes ++ x ∷ [] → AreRows count new heads
  rows_stay new x long front = record {
    within = omega arith;
    linked = subst (λ l. AreLinked (length heads) (keys_of (entries_of l)) heads (belows_of l)) (sym (front_stays count nodes new x rows.within front)) rows.linked;
  }

  -- then it is the last row
  pub rows_push : (new : List Link) (x : Link) (s : ℕ) → count < length new → take (count + 1) new ≡ take count nodes ++ x ∷ [] → x.below ≡ get_or heads s 0 → s ≡ slot_of (length heads) x.entry.0 → s < length heads
      → find x.entry.0 (entries_of (take count nodes)) ≡ None → AreRows (count + 1) new (set heads s (count + 1))
  rows_push new x s long front below slot within none =
      let ls = take count nodes in
      let keys : keys_of (entries_of (take (count + 1) new)) ≡ keys_of (entries_of ls) ++ x.entry.0 ∷ [] =
      ap (λ l. keys_of (entries_of l)) front ∙ ap keys_of (map-append (λ l. l.entry) ls (x ∷ [])) ∙ map-append (λ e. e.0) (entries_of ls) (x.entry ∷ []) in
      let belows : belows_of (take (count + 1) new) ≡ belows_of ls ++ get_or heads s 0 ∷ [] =
      ap belows_of front ∙ map-append (λ l. l.below) ls (x ∷ []) ∙ ap (λ b. belows_of ls ++ b ∷ []) below in
      let pushed = linked_push (length heads) (keys_of (entries_of ls)) heads (belows_of ls) x.entry.0 s rows.linked slot within refl
      (length-map ls (λ l. l.below) ∙ length-take-le count nodes rows.within ∙ sym keys_many)
      (λ p d lt. nowhere x.entry.0 (entries_of ls) p d none (omega (arith, keys_many, many))) in
      record {
        within = omega arith;
        linked =
            subst (λ n. AreLinked n (keys_of (entries_of (take (count + 1) new))) (set heads s (count + 1)) (belows_of (take (count + 1) new))) (sym (length-set heads s (count + 1)))
            (subst (λ bs. AreLinked (length heads) (keys_of (entries_of (take (count + 1) new))) (set heads s (count + 1)) bs) (sym belows)
            (subst (λ ks. AreLinked (length heads) ks (set heads s (count + 1)) (belows_of ls ++ get_or heads s 0 ∷ [])) (sym keys)
            (subst (λ m. AreLinked (length heads) (keys_of (entries_of ls) ++ x.entry.0 ∷ []) (set heads s (m + 1)) (belows_of ls ++ get_or heads s 0 ∷ [])) keys_many pushed)));
      }

  module _ (p : ℕ) (old new : Link) (lt : p < count) (there : slice_get nodes p ≡ Some old) where
    pub entries_set : entries_of (take count (set nodes p new)) ≡ set (entries_of (take count nodes)) p new.entry
    entries_set = ap entries_of (take-set-lt count nodes p new lt) ∙ map-set (λ l. l.entry) (take count nodes) p new

    -- a row in the place of another that has the same cells is linked as that one was
    pub rows_set : new.entry.0 ≡ old.entry.0 → new.below ≡ old.below → AreRows count (set nodes p new) heads
    rows_set same below =
        let keys : keys_of (entries_of (take count (set nodes p new))) ≡ keys_of (entries_of (take count nodes)) =
        ap keys_of entries_set ∙ map-set_same (λ e. e.0) (entries_of (take count nodes)) p new.entry old.entry (same ∙ ap (λ (e : List ℕ × ℕ). e.0) (sym (link_at count nodes p old rows.within lt there (λ l. l.entry) old.entry))) in
        let belows : belows_of (take count (set nodes p new)) ≡ belows_of (take count nodes) =
        ap belows_of (take-set-lt count nodes p new lt) ∙ map-set_same (λ l. l.below) (take count nodes) p new old (below ∙ ap (λ (l : Link). l.below) (sym (get_or-take count nodes p old lt ∙ get_or_from_slice_get nodes p old old there))) in
        record {
          within = omega (arith, length-set nodes p new, rows.within);
          linked = subst (λ bs. AreLinked (length heads) (keys_of (entries_of (take count (set nodes p new)))) heads bs) (sym belows) (subst (λ ks. AreLinked (length heads) ks heads (belows_of (take count nodes))) (sym keys) rows.linked);
        }

  -- the cells of a row are new to the rows before it
  pub rows_new : (p : ℕ) (x : Link) → p < count → slice_get nodes p ≡ Some x → find x.entry.0 (take p (entries_of (take count nodes))) ≡ None
  rows_new p x lt there =
      let es = entries_of (take count nodes) in
      let key = key_at count nodes p x rows.within lt there in
      find_none x.entry.0 (take p es) (λ q below same.
      let before : q < p = omega (arith, length-take-le p es (omega (arith, many))) in
      rows.linked.distinct q p [] before (omega (arith, keys_many)) (sym (get_or-take p (keys_of es) q [] before) ∙ ap (λ ks. get_or ks q []) (take-map (λ e. e.0) p es) ∙ same ∙ sym key))

  -- a search along a slot
  pub rows_first : (k : List ℕ) (s at : ℕ) → s ≡ slot_of (length heads) k → s < length heads → slice_get heads s ≡ Some at → IsSought (length heads) (keys_of (entries_of (take count nodes))) k at
  rows_first k s at is lt there = sought_first (length heads) (keys_of (entries_of (take count nodes))) heads (belows_of (take count nodes)) k s at rows.linked is lt (sym (get_or_from_slice_get heads s at 0 there))

  module _ (k : List ℕ) (at p : ℕ) (x : Link) (sought : IsSought (length heads) (keys_of (entries_of (take count nodes))) k at) (e : p + 1 ≡ at) (there : slice_get nodes p ≡ Some x) where
    lies : p < count
    lies = omega (arith, sought.within, keys_many)

    pub rows_below : x.below < at
    rows_below =
        let within = (rows.linked.places p (omega (arith, lies, keys_many))).within in
        omega (arith, e, within, link_at count nodes p x rows.within lies there (λ l. l.below) 0)

    pub rows_next : x.entry.0 ≢ k → IsSought (length heads) (keys_of (entries_of (take count nodes))) k x.below
    rows_next other =
        subst (λ b. IsSought (length heads) (keys_of (entries_of (take count nodes))) k b) (link_at count nodes p x rows.within lies there (λ l. l.below) 0)
        (sought_next (length heads) (keys_of (entries_of (take count nodes))) heads (belows_of (take count nodes)) k at p rows.linked sought e (λ same. other (sym (key_at count nodes p x rows.within lies there) ∙ same)))

    pub rows_found : x.entry.0 ≡ k → IsFirst (entries_of (take count nodes)) k p
    rows_found same =
        let stands = key_at count nodes p x rows.within lies there ∙ same in
        record {
          within = omega (arith, lies, many);
          stands = stands;
          first = λ q lt is. rows.linked.distinct q p [] lt (omega (arith, lies, keys_many)) (is ∙ sym stands);
        }

  pub rows_none : (k : List ℕ) → IsSought (length heads) (keys_of (entries_of (take count nodes))) k 0 → find k (entries_of (take count nodes)) ≡ None
  rows_none k sought = find_none k (entries_of (take count nodes)) (λ p lt. sought.none p (omega arith) (omega (arith, keys_many, many)))
