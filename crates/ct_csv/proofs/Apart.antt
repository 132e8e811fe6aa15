-- The new names keep the nulls of a table apart.
use Rattle.std.proofs.Common.{◌≡◌, ℕ, zero, suc, ◌<◌, Bool, true, false, ◌&&◌, not, List, [], ◌∷◌, ◌++◌, length, map, take, drop, get_or, append_assoc, refl, ap, sym, ◌∙◌, subst, arith, Some, inl, inr, decimal, nat_lt, if◌then◌else◌}
use Rattle.std.{specs.Prelude.{flat_map, slice_get, IsTrue}, specs.List.Contains, specs.Char.digit_value, specs.Str.Parse.AllDigits}
use Rattle.std.proofs.lemmas.{Bool.{and_parts, false≢true}, Bool.Decides.nat_tests, Fmt.{decimal_is_IsNumeral, decimal_injective}, Str.Parse.digit_from_value, List.append_cancel_left}
use Rattle.std.proofs.{lemmas.List.Elements.{Contains-append_left, Contains-append_right}, Math.Seq.take-append_seam}
use Rattle.ct_word.specs.{declared.values.CRow.CRow, declared.values.Null.Null, Value.{World, same_null, value_of_null}}
use Rattle.ct_word.specs.{WellFormed.IsWellFormed, Reading.{Meaning, IsTerm, as_term, meanings}}
use Rattle.ct_word.proofs.{Alike.{text_decides, null_decides}, Items.{no_item, first_item, item_cases}}
use Rattle.ct_word.specs.declared.values.Null.TheVariants as null
use Rattle.ct_word.specs.declared.values.Term.TheVariants as term
use Rattle.ct_operators.specs.Terms.{TermOfRows}
use Rattle.ct_csv.specs.{Renaming.{mark, between, renamed_null, is_unmarked, IsLeastFree}, Underscores.null_in, Exported.{KeepsApart, Renames}}
use Rattle.ct_csv.proofs.ExportRanges.{term_in_range}

-- digits end at an underscore
no_underscore : (c : ℕ) → digit_value c < 10 → c ≡ 95 → ⊥
no_underscore c d e = let range = digit_from_value c d in omega (arith, range, e)

digits_end : (ds es x y : List ℕ) → AllDigits 10 ds → AllDigits 10 es → ds ++ 95 ∷ x ≡ es ++ 95 ∷ y → (ds ≡ es) × (x ≡ y)
digits_end [] [] x y p q e = (refl, ap (drop 1) e)
digits_end [] (c ∷ es) x y p q e = absurd (no_underscore c q.0 (sym (ap (λ w. get_or w 0 0) e)))
digits_end (c ∷ ds) [] x y p q e = absurd (no_underscore c p.0 (ap (λ w. get_or w 0 0) e))
digits_end (c ∷ ds) (d ∷ es) x y p q e = let rest = digits_end ds es x y p.1 q.1 (ap (drop 1) e) in (λ i. get_or (e i) 0 0 ∷ rest.0 i, rest.1)

-- the name of a null, nothing where it has none
abbrev name_in : Null → List ℕ
name_in (null.Named t) = t
name_in (null.Fresh s k) = []

-- the mark stands in front of a new name
spread : (j s k : ℕ) → name_in (renamed_null j (null.Fresh s k)) ≡ mark j ++ (decimal s ++ (between ++ decimal k))
spread j s k = append_assoc (mark j ++ decimal s) between (decimal k) ∙ append_assoc (mark j) (decimal s) (between ++ decimal k)

fresh_apart : (j s k t l : ℕ) → s < 268435456 → k < 268435456 → t < 268435456 → l < 268435456
    → renamed_null j (null.Fresh s k) ≡ renamed_null j (null.Fresh t l) → null.Fresh s k ≡ null.Fresh t l
fresh_apart j s k t l hs hk ht hl e =
    let names = sym (spread j s k) ∙ ap name_in e ∙ spread j t l in
    let parts = digits_end (decimal s) (decimal t) (decimal k) (decimal l) (decimal_is_IsNumeral s (omega (arith, hs))).0.1 (decimal_is_IsNumeral t (omega (arith, ht))).0.1
    (append_cancel_left (mark j) (decimal s ++ (between ++ decimal k)) (decimal t ++ (between ++ decimal l)) names) in
    let sessions = decimal_injective s t (omega (arith, hs)) (omega (arith, ht)) parts.0 in
    let numbers = decimal_injective k l (omega (arith, hk)) (omega (arith, hl)) parts.1 in
    λ i. null.Fresh (sessions i) (numbers i)

-- an old name does not begin so
unmarked_apart : (j s k : ℕ) (t : List ℕ) → IsTrue (is_unmarked j (term.Null (null.Named t))) → null.Named t ≡ renamed_null j (null.Fresh s k) → ⊥
unmarked_apart j s k t free e =
    let rest : List ℕ = decimal s ++ (between ++ decimal k) in
    let front : take (length (mark j)) t ≡ mark j = ap (take (length (mark j))) (ap name_in e ∙ spread j s k) ∙ take-append_seam (mark j) rest in
    let marked = (text_decides (take (length (mark j)) t) (mark j)).1 front in
    false≢true (ap not (sym marked) ∙ free)

-- whether a null is named without the mark, or fresh with numbers of 28 bits
abbrev is_tame : ℕ → Null → Bool
is_tame j (null.Named t) = is_unmarked j (term.Null (null.Named t))
is_tame j (null.Fresh s k) = nat_lt s 268435456 && nat_lt k 268435456

tame_apart : (j : ℕ) (m n : Null) → IsTrue (is_tame j m) → IsTrue (is_tame j n) → renamed_null j m ≡ renamed_null j n → m ≡ n
tame_apart j (null.Named t) (null.Named w) p q e = e
tame_apart j (null.Named t) (null.Fresh s k) p q e = absurd (unmarked_apart j s k t p e)
tame_apart j (null.Fresh s k) (null.Named t) p q e = absurd (unmarked_apart j s k t q (sym e))
tame_apart j (null.Fresh s k) (null.Fresh t l) p q e =
    let one = and_parts (nat_lt s 268435456) (nat_lt k 268435456) p in
    let two = and_parts (nat_lt t 268435456) (nat_lt l 268435456) q in
    fresh_apart j s k t l (grind (arith, nat_tests)) (grind (arith, nat_tests)) (grind (arith, nat_tests)) (grind (arith, nat_tests)) e

same_renamed : (j : ℕ) (m n : Null) → IsTrue (is_tame j m) → IsTrue (is_tame j n) → same_null (renamed_null j m) (renamed_null j n) ≡ same_null m n
same_renamed j m n p q = by (same_null m n) refl (same_null (renamed_null j m) (renamed_null j n)) refl where
  by : (a : Bool) → same_null m n ≡ a → (b : Bool) → same_null (renamed_null j m) (renamed_null j n) ≡ b → b ≡ a
  by true e b f = sym f ∙ (null_decides (renamed_null j m) (renamed_null j n)).1 (ap (renamed_null j) ((null_decides m n).0 e))
  by false e true f = sym ((null_decides m n).1 (tame_apart j m n p q ((null_decides (renamed_null j m) (renamed_null j n)).0 f))) ∙ e
  by false e false f = refl

other : (j : ℕ) (m n : Null) → is_tame j m ≡ false → IsTrue (is_tame j n) → same_null m n ≡ false
other j m n p q = by (same_null m n) refl where
  by : (a : Bool) → same_null m n ≡ a → a ≡ false
  by true e = absurd (false≢true (sym p ∙ ap (is_tame j) ((null_decides m n).0 e) ∙ q))
  by false e = refl

-- a valuation with the new names, without the nulls that may get one of others
abbrev moved : ℕ → World → World
moved j [] = []
moved j (p ∷ v) = if is_tame j p.0 then (renamed_null j p.0, p.1) ∷ moved j v else moved j v

moved_value : (j : ℕ) (v : World) (n : Null) → IsTrue (is_tame j n) → value_of_null (moved j v) (renamed_null j n) ≡ value_of_null v n
moved_value j [] n h = refl
moved_value j (p ∷ v) n h = by (is_tame j p.0) refl (moved_value j v n h) where
  by : (b : Bool) → is_tame j p.0 ≡ b → value_of_null (moved j v) (renamed_null j n) ≡ value_of_null v n → value_of_null (moved j (p ∷ v)) (renamed_null j n) ≡ value_of_null (p ∷ v) n
  by true e rest = rw (e, same_renamed j p.0 n e h) (ap (λ x. if same_null p.0 n then p.1 else x) rest)
  by false e rest = rw (e, other j p.0 n e h) rest

-- the null that is stood for, if one is
abbrev null_of : Meaning → List Null
null_of m = null_in (as_term (Some m))

listed : (ms : List Meaning) (q : ℕ) (n : Null) → slice_get ms q ≡ Some (IsTerm (term.Null n)) → Contains (flat_map null_of ms) n
listed [] q n e = absurd (let f = e in cc)
listed (m ∷ ms) zero n e = Contains-append_left (null_of m) (flat_map null_of ms) n (subst (λ t. Contains (null_in t) n) (sym (ap as_term e)) (first_item [] n))
listed (m ∷ ms) (suc q) n e = Contains-append_right (null_of m) (flat_map null_of ms) n (listed ms q n e)

-- a valuation of these nulls, each with the value of its new one
abbrev moved_back : ℕ → World → List Null → World
moved_back j u ns = map (λ n. (n, value_of_null u (renamed_null j n))) ns

back_value : (j : ℕ) (u : World) (ns : List Null) (n : Null) → Contains ns n → value_of_null (moved_back j u ns) n ≡ value_of_null u (renamed_null j n)
back_value j u [] n h = absurd (no_item n h)
back_value j u (x ∷ ns) n h = by (same_null x n) refl (back_value j u ns n) where
  by : (b : Bool) → same_null x n ≡ b → (Contains ns n → value_of_null (moved_back j u ns) n ≡ value_of_null u (renamed_null j n))
      → value_of_null (moved_back j u (x ∷ ns)) n ≡ value_of_null u (renamed_null j n)
  by true e rest = rw e (ap (λ m. value_of_null u (renamed_null j m)) ((null_decides x n).0 e))
  by false e rest = rw e (elim (item_cases ns x n h) [
    | inl same ↦ absurd (false≢true (sym e ∙ (null_decides x n).1 same))
    | inr there ↦ rest there
  ])

-- the nulls of a table
module _ (words : List ℕ) (formed : IsWellFormed words) (rows : List CRow) (j : ℕ) (least : IsLeastFree j (TermOfRows words rows)) where
  tame : (n : Null) → TermOfRows words rows (term.Null n) → IsTrue (is_tame j n)
  tame (null.Named t) h = least.free (term.Null (null.Named t)) h
  tame (null.Fresh s k) h = let range = term_in_range words formed h.below.below.0 (term.Null (null.Fresh s k)) h.below.below.2 in grind (arith, nat_tests)

  pub apart : KeepsApart j (TermOfRows words rows)
  apart m n p q e = tame_apart j m n (tame m p) (tame n q) e

  pub each_old : (v : World) → (u : World) × Renames j (TermOfRows words rows) v u
  each_old v = (moved j v, λ n h. moved_value j v n (tame n h))

  pub each_new : (u : World) → (v : World) × Renames j (TermOfRows words rows) v u
  each_new u = (moved_back j u (flat_map null_of (meanings words)), λ n h. sym (back_value j u (flat_map null_of (meanings words)) n (listed (meanings words) h.below.below.0 n h.below.below.2)))
