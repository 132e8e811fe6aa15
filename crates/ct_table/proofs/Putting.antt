-- Conditions put at their cells, one after another.
use Rattle.std.proofs.Common.{◌≡◌, ℕ, zero, suc, ◌+◌, ◌<◌, ◌≤◌, Bool, true, false, not, List, [], ◌∷◌, ◌++◌, None, Some, cond, length, take, get_or, set, refl, ap, sym, subst, ◌∙◌, arith}
use Rattle.std.{specs.Prelude.{◌≢◌, nat_eq, if◌then◌else◌, slice_get}, specs.List.filter, proofs.lemmas.Bool.ne_eqb, proofs.lemmas.Option.none-some}
use Rattle.std.proofs.lemmas.List.{append-nil, append_assoc, take_more, take-map, get_or-take, length-take-le}
use Rattle.ct_word.{specs.declared.values.CRow.CRow, specs.Value.same_text, proofs.Alike.text_decides}
use Rattle.ct_operators.specs.Merging.{rows_of, is_possible}
use Rattle.ct_table.specs.Growing.{find, put, put_each, grown, entries_of, Apart, Fits}
use Rattle.ct_table.proofs.Entries.{cases, unalike, same_self, none_some, place_of, put_hit, put_miss, find_hit, find_miss, at_hit, at_miss, find_put}
use Rattle.ct_rows.proofs.Entries.{not_first, not_later, entry_last}

-- other cells keep their condition
pub find_other : (k q : List ℕ) (d : ℕ) → same_text k q ≡ false → (es : List (List ℕ × ℕ)) → find k (put es q d) ≡ find k es
find_other k q d ne [] = find_miss k (q, d) [] ne
find_other k q d ne (e ∷ es) = cases (same_text q e.0)
    (λ p.
    let n : same_text k e.0 ≡ false = ap (same_text k) (sym ((text_decides q e.0).0 p)) ∙ ne in
    ap (find k) (put_hit q d e es p) ∙ find_miss k (e.0, d) es n ∙ sym (find_miss k e es n))
    (λ p. ap (find k) (put_miss q d e es p) ∙ ap (λ o. cond (same_text k e.0) (Some e.1) o) (find_other k q d ne es))

-- the later of two conditions at the same cells stays
put_again : (k : List ℕ) (a c : ℕ) (es : List (List ℕ × ℕ)) → put (put es k a) k c ≡ put es k c
put_again k a c [] = put_hit k c (k, a) [] (same_self k)
put_again k a c (e ∷ es) = cases (same_text k e.0)
    (λ p. ap (λ l. put l k c) (put_hit k a e es p) ∙ put_hit k c (e.0, a) es p ∙ sym (put_hit k c e es p))
    (λ p. ap (λ l. put l k c) (put_miss k a e es p) ∙ put_miss k c e (put es k a) p ∙ ap (λ l. e ∷ l) (put_again k a c es) ∙ sym (put_miss k c e es p))

-- cells that are there can get their condition before other cells or after them
put_swap : (k q : List ℕ) (c d v : ℕ) → same_text k q ≡ false → (es : List (List ℕ × ℕ)) → find k es ≡ Some v → put (put es q d) k c ≡ put (put es k c) q d
put_swap k q c d v ne [] found = none_some v (find k []) refl found
put_swap k q c d v ne (e ∷ es) found = cases (same_text k e.0)
    (λ p.
    let r : same_text q e.0 ≡ false = ap (same_text q) (sym ((text_decides k e.0).0 p)) ∙ unalike k q ne in
    ap (λ l. put l k c) (put_miss q d e es r) ∙ put_hit k c e (put es q d) p
    ∙ sym (ap (λ l. put l q d) (put_hit k c e es p) ∙ put_miss q d (e.0, c) es r))
    (λ p. cases (same_text q e.0)
    (λ r. ap (λ l. put l k c) (put_hit q d e es r) ∙ put_miss k c (e.0, d) es p
    ∙ sym (ap (λ l. put l q d) (put_miss k c e es p) ∙ put_hit q d e (put es k c) r))
    (λ r. ap (λ l. put l k c) (put_miss q d e es r) ∙ put_miss k c e (put es q d) p
    ∙ ap (λ l. e ∷ l) (put_swap k q c d v ne es (sym (find_miss k e es p) ∙ found))
    ∙ sym (ap (λ l. put l q d) (put_miss k c e es p) ∙ put_miss q d e (put es k c) r)))

pub find_after : (k : List ℕ) (ps es : List (List ℕ × ℕ)) → find k ps ≡ None → find k (put_each es ps) ≡ find k es
find_after k [] es none = refl
find_after k (p ∷ ps) es none = find_after k ps (put es p.0 p.1) (not_later k p ps none) ∙ find_other k p.0 p.1 (not_first k p ps none) es

pub find_among : (k : List ℕ) (c : ℕ) (ps es : List (List ℕ × ℕ)) → Apart ps → find k ps ≡ Some c → find k (put_each es ps) ≡ Some c
find_among k c [] es a found = none_some c (find k []) refl found
find_among k c (p ∷ ps) es a found = cases (same_text k p.0)
    (λ e.
    let n : k ≡ p.0 = (text_decides k p.0).0 e in
    ap (λ x. find x (put_each (put es p.0 p.1) ps)) n ∙ find_after p.0 ps (put es p.0 p.1) a.0 ∙ find_put p.0 p.1 es ∙ sym (find_hit k p ps e) ∙ found)
    (λ e. find_among k c ps (put es p.0 p.1) a.1 (sym (find_miss k p ps e) ∙ found))

put_before : (k : List ℕ) (c v : ℕ) (ps es : List (List ℕ × ℕ)) → find k ps ≡ None → find k es ≡ Some v → put (put_each es ps) k c ≡ put_each (put es k c) ps
put_before k c v [] es none found = refl
put_before k c v (p ∷ ps) es none found =
    let ne = not_first k p ps none in
    put_before k c v ps (put es p.0 p.1) (not_later k p ps none) (find_other k p.0 p.1 ne es ∙ found)
    ∙ ap (λ l. put_each l ps) (put_swap k p.0 c p.1 v ne es found)

-- one more condition among those that are put
pub put_more : (k : List ℕ) (c : ℕ) (ps es : List (List ℕ × ℕ)) → Apart ps → put_each es (put ps k c) ≡ put (put_each es ps) k c
put_more k c [] es a = refl
put_more k c (p ∷ ps) es a = cases (same_text k p.0)
    (λ e.
    let n : k ≡ p.0 = (text_decides k p.0).0 e in
    ap (put_each es) (put_hit k c p ps e)
    ∙ sym (ap (λ x. put (put_each (put es p.0 p.1) ps) x c) n ∙ put_before p.0 c p.1 ps (put es p.0 p.1) a.0 (find_put p.0 p.1 es) ∙ ap (λ l. put_each l ps) (put_again p.0 p.1 c es)))
    (λ e. ap (put_each es) (put_miss k c p ps e) ∙ put_more k c ps (put es p.0 p.1) a.1)

pub apart_more : (k : List ℕ) (c : ℕ) (ps : List (List ℕ × ℕ)) → Apart ps → Apart (put ps k c)
apart_more k c [] a = (refl, tt)
apart_more k c (p ∷ ps) a = cases (same_text k p.0)
    (λ e. subst Apart (sym (put_hit k c p ps e)) (a.0, a.1))
    (λ e. subst Apart (sym (put_miss k c p ps e)) (find_other p.0 k c (unalike k p.0 e) ps ∙ a.0, apart_more k c ps a.1))

pub fits_more : (k : List ℕ) (c : ℕ) (es ps : List (List ℕ × ℕ)) → Fits es ps → ((d : ℕ) → find k es ≡ Some d → (d ≢ 1) × (c ≢ 1)) → Fits es (put ps k c)
fits_more k c es ps fits one = λ q x d found there. cases (same_text q k)
    (λ e.
    let n : q ≡ k = (text_decides q k).0 e in
    let same : Some c ≡ Some x = sym (find_put k c ps) ∙ ap (λ y. find y (put ps k c)) (sym n) ∙ found in
    let is : c ≡ x = cc in
    let both = one d (ap (λ y. find y es) (sym n) ∙ there) in
    (both.0, λ i. both.1 (is ∙ i)))
    (λ e. fits q x d (sym (find_other q k c e ps) ∙ found) there)

-- rows without those under the word false
abbrev pub kept_of : List (List ℕ × ℕ) → List (List ℕ × ℕ)
kept_of es = filter (λ e. not (nat_eq e.1 1)) es

pub keep : (e : List ℕ × ℕ) (es : List (List ℕ × ℕ)) (b : Bool) → nat_eq e.1 1 ≡ b → kept_of (e ∷ es) ≡ (if b then kept_of es else e ∷ kept_of es)
keep e es true p = ap (λ b. cond (not b) (e ∷ kept_of es) (kept_of es)) p
keep e es false p = ap (λ b. cond (not b) (e ∷ kept_of es) (kept_of es)) p

kept_put : (k : List ℕ) (c : ℕ) (es : List (List ℕ × ℕ)) → ((d : ℕ) → find k es ≡ Some d → (d ≢ 1) × (c ≢ 1)) → kept_of (put es k c) ≡ (if nat_eq c 1 then kept_of es else put (kept_of es) k c)
kept_put k c [] fit = keep (k, c) [] (nat_eq c 1) refl
kept_put k c (e ∷ es) fit = cases (same_text k e.0)
    (λ p.
    let both = fit e.1 (find_hit k e es p) in
    ap kept_of (put_hit k c e es p) ∙ keep (e.0, c) es false (ne_eqb c 1 both.1)
    ∙ sym (ap (λ b. if b then kept_of (e ∷ es) else put (kept_of (e ∷ es)) k c) (ne_eqb c 1 both.1)
    ∙ ap (λ l. put l k c) (keep e es false (ne_eqb e.1 1 both.0)) ∙ put_hit k c e (kept_of es) p))
    (λ p.
    let later = kept_put k c es (λ d there. fit d (find_miss k e es p ∙ there)) in
    cases (nat_eq e.1 1)
    (λ r. ap kept_of (put_miss k c e es p) ∙ keep e (put es k c) true r ∙ later
    ∙ ap (λ l. if nat_eq c 1 then l else put l k c) (sym (keep e es true r)))
    (λ r. ap kept_of (put_miss k c e es p) ∙ keep e (put es k c) false r ∙ ap (λ l. e ∷ l) later
    ∙ by_new p (nat_eq c 1)
    ∙ ap (λ l. if nat_eq c 1 then l else put l k c) (sym (keep e es false r)))) where
      by_new : same_text k e.0 ≡ false → (b : Bool) → e ∷ (if b then kept_of es else put (kept_of es) k c) ≡ (if b then e ∷ kept_of es else put (e ∷ kept_of es) k c)
      by_new p true = refl
      by_new p false = sym (put_miss k c e (kept_of es) p)

kept_grown : (ps es : List (List ℕ × ℕ)) → Apart ps → Fits es ps → kept_of (put_each es ps) ≡ grown (kept_of es) ps
kept_grown [] es a fits = refl
kept_grown (p ∷ ps) es a fits =
    kept_grown ps (put es p.0 p.1) a.1 (λ k c d found there. cases (same_text k p.0)
    (λ e. none_some c (find k ps) (ap (λ x. find x ps) ((text_decides k p.0).0 e) ∙ a.0) found)
    (λ e. fits k c d (find_miss k p ps e ∙ found) (sym (find_other k p.0 p.1 e es) ∙ there)))
    ∙ ap (λ l. grown l ps) (kept_put p.0 p.1 es (λ d there. fits p.0 p.1 d (find_hit p.0 p ps (same_self p.0)) there))

rows_kept : (es : List (List ℕ × ℕ)) → filter is_possible (rows_of es) ≡ rows_of (kept_of es)
rows_kept [] = refl
rows_kept (e ∷ es) = ap (λ l. cond (not (nat_eq e.1 1)) (record { cells = e.0; cond = e.1 } ∷ l) l) (rows_kept es) ∙ by_test (not (nat_eq e.1 1)) where
  by_test : (b : Bool) → cond b (record { cells = e.0; cond = e.1 } ∷ rows_of (kept_of es)) (rows_of (kept_of es)) ≡ rows_of (cond b (e ∷ kept_of es) (kept_of es))
  by_test true = refl
  by_test false = refl

-- what is left of all rows is what the table grows to
pub rows_grown : (ps es : List (List ℕ × ℕ)) → Apart ps → Fits es ps → kept_of es ≡ es → filter is_possible (rows_of (put_each es ps)) ≡ rows_of (grown es ps)
rows_grown ps es a fits all = rows_kept (put_each es ps) ∙ ap rows_of (kept_grown ps es a fits ∙ ap (λ l. grown l ps) all)

-- cells that are there get their condition in their row
pub rows_set : (k : List ℕ) (c v : ℕ) (x : CRow) (es : List (List ℕ × ℕ)) → find k es ≡ Some v → x ≡ get_or (rows_of es) (place_of k es) x
    → set (rows_of es) (place_of k es) (record { cells = x.cells; cond = c }) ≡ rows_of (put es k c)
rows_set k c v x [] found is = none_some v (find k []) refl found
rows_set k c v x (e ∷ es) found is =
    let new : CRow = record { cells = x.cells; cond = c } in
    cases (same_text k e.0)
    (λ p.
    let cells : x.cells ≡ e.0 = ap (λ (r : CRow). r.cells) (is ∙ ap (λ i. get_or (rows_of (e ∷ es)) i x) (at_hit k e es p)) in
    ap (λ i. set (rows_of (e ∷ es)) i new) (at_hit k e es p)
    ∙ (λ i. record { cells = cells i; cond = c } ∷ rows_of es)
    ∙ sym (ap rows_of (put_hit k c e es p)))
    (λ p.
    ap (λ i. set (rows_of (e ∷ es)) i new) (at_miss k e es p)
    ∙ ap (λ l. record { cells = e.0; cond = e.1 } ∷ l) (rows_set k c v x es (sym (find_miss k e es p) ∙ found) (is ∙ ap (λ i. get_or (rows_of (e ∷ es)) i x) (at_miss k e es p)))
    ∙ sym (ap rows_of (put_miss k c e es p)))

-- the rows up to one more place
pub rows_one_more : (es : List (List ℕ × ℕ)) (n : ℕ) (p : List ℕ × ℕ) → slice_get es n ≡ Some p → take n (rows_of es) ++ record { cells = p.0; cond = p.1 } ∷ [] ≡ take (n + 1) (rows_of es)
rows_one_more [] n p is = absurd (none-some p is)
rows_one_more (e ∷ es) zero p is = let same : p ≡ e = cc in λ i. record { cells = (same i).0; cond = (same i).1 } ∷ []
rows_one_more (e ∷ es) (suc n) p is =
    let more : suc (n + 1) ≡ suc n + 1 = omega arith in
    ap (λ l. record { cells = e.0; cond = e.1 } ∷ l) (rows_one_more es n p is) ∙ ap (λ k. take k (rows_of (e ∷ es))) more

-- the row at a place
pub row_found : (es : List (List ℕ × ℕ)) (n : ℕ) (r : CRow) → slice_get es n ≡ Some (r.cells, r.cond) → r ≡ get_or (rows_of es) n r
row_found [] n r is = absurd (none-some (r.cells, r.cond) is)
row_found (e ∷ es) zero r is = let same : (r.cells, r.cond) ≡ e = cc in λ i. record { cells = (same i).0; cond = (same i).1 }
row_found (e ∷ es) (suc n) r is = row_found es n r is

-- a row of the first ones
pub row_of_first : (es : List (List ℕ × ℕ)) (n k : ℕ) (r : CRow) → n ≤ length es → k < length (take n es) → r ≡ get_or (rows_of es) k r → r ≡ get_or (rows_of (take n es)) k r
row_of_first es n k r within lt is =
    let one : List ℕ × ℕ → CRow = λ e. record { cells = e.0; cond = e.1 } in
    is ∙ sym (get_or-take n (rows_of es) k r (omega (arith, lt, length-take-le n es within))) ∙ ap (λ (rs : List CRow). get_or rs k r) (take-map one n es)

-- one more condition for the table
pub grown_more : (p : List ℕ × ℕ) (ps es : List (List ℕ × ℕ)) → grown es (ps ++ p ∷ []) ≡ (if nat_eq p.1 1 then grown es ps else put (grown es ps) p.0 p.1)
grown_more p [] es = refl
grown_more p (q ∷ ps) es = grown_more p ps (if nat_eq q.1 1 then es else put es q.0 q.1)

module _ (es all : List (List ℕ × ℕ)) (i : ℕ) (p : List ℕ × ℕ) (lt : i < length all) (is : p ≡ get_or all i p) where
  grown_next : grown es (take (i + 1) all) ≡ (if nat_eq p.1 1 then grown es (take i all) else put (grown es (take i all)) p.0 p.1)
  grown_next = ap (grown es) (take_more all i p lt ∙ ap (λ x. take i all ++ x ∷ []) (sym is)) ∙ grown_more p (take i all) es

  -- the next condition is the word false
  pub grown_void : nat_eq p.1 1 ≡ true → grown es (take i all) ≡ grown es (take (i + 1) all)
  grown_void void = sym (grown_next ∙ ap (λ b. if b then grown es (take i all) else put (grown es (take i all)) p.0 p.1) void)

  -- or it is another one
  pub grown_real : nat_eq p.1 1 ≡ false → put (grown es (take i all)) p.0 p.1 ≡ grown es (take (i + 1) all)
  grown_real real = sym (grown_next ∙ ap (λ b. if b then grown es (take i all) else put (grown es (take i all)) p.0 p.1) real)

-- one more condition put
pub put_one_more : (p : List ℕ × ℕ) (ps es : List (List ℕ × ℕ)) → put_each es (ps ++ p ∷ []) ≡ put (put_each es ps) p.0 p.1
put_one_more p [] es = refl
put_one_more p (q ∷ ps) es = put_one_more p ps (put es q.0 q.1)

not_middle : (k : List ℕ) (p : List ℕ × ℕ) (es ps : List (List ℕ × ℕ)) → find k (es ++ p ∷ ps) ≡ None → same_text k p.0 ≡ false
not_middle k p [] ps none = not_first k p ps none
not_middle k p (e ∷ es) ps none = not_middle k p es ps (not_later k e (es ++ p ∷ ps) none)

not_before : (p : List ℕ × ℕ) (es ps : List (List ℕ × ℕ)) → Apart (es ++ p ∷ ps) → find p.0 es ≡ None
not_before p [] ps a = refl
not_before p (e ∷ es) ps a = find_miss p.0 e es (unalike e.0 p.0 (not_middle e.0 p es ps a.0)) ∙ not_before p es ps a.1

-- entries of which no two have the same cells stand as they were put
pub put_apart : (es ps : List (List ℕ × ℕ)) → Apart (es ++ ps) → put_each es ps ≡ es ++ ps
put_apart es [] a = sym (append-nil es)
put_apart es (p ∷ ps) a =
    ap (λ l. put_each l ps) (entry_last p.0 p.1 es (not_before p es ps a))
    ∙ put_apart (es ++ p ∷ []) ps (subst Apart (sym (append_assoc es (p ∷ []) ps)) a)
    ∙ append_assoc es (p ∷ []) ps

pub rows_back : (rs : List CRow) → rows_of (entries_of rs) ≡ rs
rows_back [] = refl
rows_back (r ∷ rs) = ap (λ l. r ∷ l) (rows_back rs)

pub entries_back : (es : List (List ℕ × ℕ)) → entries_of (rows_of es) ≡ es
entries_back [] = refl
entries_back (e ∷ es) = ap (λ l. e ∷ l) (entries_back es)
