-- Rows whose keys differ in their numbers have different constants in columns that are to be equal.
use Rattle.std.proofs.Common.{◌≡◌, ℕ, ◌+◌, Bool, true, false, not, ◌&&◌, ◌||◌, List, [], ◌∷◌, ◌++◌, map, length, refl, ap, sym, subst, ◌∙◌, arith, ◌<◌}
use Rattle.std.{specs.Prelude.{All, nat_eq, nat_lt, slice_get, slice_index_or, if◌then◌else◌}, proofs.lemmas.Bool.{false≢true, or_left, or_right, eqb-true, eq-eqb, ltb-true, ltb-false}}
use Rattle.std.proofs.lemmas.List.Folds.{Any-from_list_any}
use Rattle.std.proofs.lemmas.List.{length-map, get_or-map, get_or_past}
use Rattle.ct_word.{specs.Constant.is_constant_word, specs.declared.values.CRow.CRow, specs.Value.{World, at, tuple_at, same_value}}
use Rattle.std.proofs.lemmas.List.Elements.{All-head, All-tail, All-weaker}
use Rattle.ct_word.proofs.Prefixes.{get_in_prefix, place_within}
use Rattle.ct_word.{specs.Condition.{Condition, holds}, specs.WellFormed.IsWellFormed, specs.Reading.term_at}
use Rattle.ct_query.specs.Fits.{AreColumnsBelow}
use Rattle.ct_condition.{specs.Folding.{are_apart}, proofs.Truths.apart_differ}
use Rattle.ct_operators.{specs.Tables.IsRow, proofs.Selecting.cell_of_tuple}
use Rattle.ct_join.{specs.declared.keys.Key.Key, specs.Mixing.mixed, specs.Pairs.{may_agree, key_at}}
use Rattle.ct_algebra.{specs.declared.equals.Equal.Equal, specs.Equals.{HasEqual, differ_in}, specs.Keyed.{column_on, key_from, key_of}, specs.Joining.TellApart, proofs.Making.{worth_of, worth_never}}
use mathlib.Core.List.{IsPrefix}
use Rattle.ct_join.specs.declared.keys.Key.TheVariants as key
use Rattle.ct_word.specs.declared.kinds.Class.TheVariants as class
use Rattle.ct_plan.specs.declared.sides.Side.{Side}
use Rattle.ct_plan.specs.declared.sides.Side.TheVariants as side

-- a null may be of one value with every key
with_null : (k : Key) → may_agree k key.Null ≡ true
with_null (key.Constant m) = refl
with_null key.Null = refl

module _ (ws l r : List ℕ) where
  -- two constants are the same place, or apart
  apart_by : (s t : ℕ) (same : Bool) → nat_eq s t ≡ same → is_constant_word (slice_get ws s) ≡ true → is_constant_word (slice_get ws t) ≡ true → (rest : Bool) → (s ≡ t → rest ≡ true)
      → (are_apart ws s t || rest) ≡ true
  apart_by s t true e a b rest h = or_right (are_apart ws s t) rest (h (eqb-true s t e))
  apart_by s t false e a b rest h = or_left (are_apart ws s t) rest (λ i. not (e i) && (a i && b i))

  keys_differ_from : (es : List Equal) (n : ℕ) → may_agree (key_from ws side.Left es l n) (key_from ws side.Right es r n) ≡ false → differ_in ws es l r ≡ true
  keys_differ_from [] n e = absurd (false≢true (sym e ∙ eq-eqb n n refl))
  keys_differ_from (x ∷ es) n e = by_kinds (λ m. keys_differ_from es m) (is_constant_word (slice_get ws (slice_index_or l x.left 0))) (is_constant_word (slice_get ws (slice_index_or r x.right 0))) refl refl e where
    s : ℕ
    s = slice_index_or l x.left 0

    t : ℕ
    t = slice_index_or r x.right 0

    by_kinds : ((m : ℕ) → may_agree (key_from ws side.Left es l m) (key_from ws side.Right es r m) ≡ false → differ_in ws es l r ≡ true)
        → (a b : Bool) → is_constant_word (slice_get ws s) ≡ a → is_constant_word (slice_get ws t) ≡ b
        → may_agree (if a then key_from ws side.Left es l (mixed n s) else key.Null) (if b then key_from ws side.Right es r (mixed n t) else key.Null) ≡ false
        → (are_apart ws s t || differ_in ws es l r) ≡ true
    by_kinds rest true true a b f =
        apart_by s t (nat_eq s t) refl a b (differ_in ws es l r)
        (λ same. rest (mixed n s) (subst (λ k. may_agree (key_from ws side.Left es l (mixed n s)) (key_from ws side.Right es r (mixed n k)) ≡ false) (sym same) f))
    by_kinds rest false b a q f = absurd (false≢true (sym f))
    by_kinds rest true false a b f = absurd (false≢true (sym f ∙ with_null (key_from ws side.Left es l (mixed n s))))

  pub keys_differ : (es : List Equal) → may_agree (key_of ws side.Left es l) (key_of ws side.Right es r) ≡ false → differ_in ws es l r ≡ true
  keys_differ es e = keys_differ_from es 0 e

  -- a condition that has these columns equal does not hold for such rows
  pub differ_never : (width : ℕ) (c : Condition) (es : List Equal) → All (HasEqual width c) es → length l ≡ width → (n : ℕ) → length r ≡ n → All (λ e. e.right < n) es → IsWellFormed ws
      → differ_in ws es l r ≡ true → (v : World) → holds v (tuple_at v (map (term_at ws) l) ++ tuple_at v (map (term_at ws) r)) c ≡ false
  differ_never width c es has wide n wide' within formed e v =
      let found = Any-from_list_any (λ x. are_apart ws (slice_index_or l x.left 0) (slice_index_or r x.right 0)) es e in
      let x = found.1 in
      let h : HasEqual width c x = subst (HasEqual width c) found.3 (has found.0 x found.2) in
      let lt : x.left < length l = omega (arith, h.left, wide) in
      let lt' : x.right < length r = omega (arith, subst (λ y. y.right < n) found.3 (within found.0 x found.2), wide') in
      h.decides v (tuple_at v (map (term_at ws) l)) (tuple_at v (map (term_at ws) r)) (length-map (map (term_at ws) l) (at v []) ∙ length-map l (term_at ws) ∙ wide)
      ((λ i. same_value (cell_of_tuple ws v l x.left lt i) (cell_of_tuple ws v r x.right lt' i))
      ∙ apart_differ ws (slice_index_or l x.left 0) (slice_index_or r x.right 0) formed found.4 v [])

-- the columns are those of the rows
pub left_columns : (c : Condition) (m : ℕ) (es : List Equal) (cells : List ℕ) → length cells ≡ m → All (HasEqual m c) es → All (λ e. e.left < length cells) es
left_columns c m es cells wide has = All-weaker (HasEqual m c) (λ e. e.left < length cells) (λ e h. omega (arith, h.left, wide)) es has

pub right_within : (c : Condition) (m n : ℕ) (es : List Equal) → All (HasEqual m c) es → AreColumnsBelow (m + n) c → All (λ e. e.right < n) es
right_within c m n es has below = All-weaker (HasEqual m c) (λ e. e.right < n) (λ e h. h.right n below) es has

pub right_columns : (ws : List ℕ) (c : Condition) (m n : ℕ) (es : List Equal) (rows : List CRow) → All (HasEqual m c) es → AreColumnsBelow (m + n) c → All (IsRow ws n) rows
    → All (λ r. All (λ e. e.right < length r.cells) es) rows
right_columns ws c m n es rows has below =
    All-weaker (IsRow ws n) (λ r. All (λ e. e.right < length r.cells) es)
    (λ r is. All-weaker (λ e. e.right < n) (λ e. e.right < length r.cells) (λ e lt. omega (arith, lt, is.width_is)) es (right_within c m n es has below)) rows

-- a key stays what it is, as words are added
pub key_grows : (old now : List ℕ) → IsPrefix old now → (s : Side) (es : List Equal) (cells : List ℕ) → All (λ e. column_on s e < length cells) es → All (λ p. p < length old) cells
    → (n : ℕ) → key_from now s es cells n ≡ key_from old s es cells n
key_grows old now grown s [] cells columns within n = refl
key_grows old now grown s (e ∷ es) cells columns within n =
    let p = slice_index_or cells (column_on s e) 0 in
    let lt : p < length old = within (column_on s e) 0 (All-head (λ x. column_on s x < length cells) e es columns) in
    let rest = key_grows old now grown s es cells (All-tail (λ x. column_on s x < length cells) e es columns) within (mixed n p) in
    λ i. if is_constant_word (get_in_prefix old now p grown lt i) then rest i else key.Null

-- so do those of right rows
pub keys_grow : (old now : List ℕ) → IsPrefix old now → (n : ℕ) (es : List Equal) (rows : List CRow) → All (λ r. All (λ e. column_on side.Right e < length r.cells) es) rows → All (IsRow old n) rows
    → map (λ r. key_of old side.Right es r.cells) rows ≡ map (λ r. key_of now side.Right es r.cells) rows
keys_grow old now grown n es [] columns each = refl
keys_grow old now grown n es (r ∷ rows) columns each =
    let is = All-head (IsRow old n) r rows each in
    let places = All-weaker _ (λ p. p < length old) (λ p. place_within old class.Term p) r.cells is.terms in
    let first = key_grows old now grown side.Right es r.cells (All-head (λ (x : CRow). All (λ (e : Equal). column_on side.Right e < length x.cells) es) r rows columns) places 0 in
    let rest = keys_grow old now grown n es rows (All-tail (λ (x : CRow). All (λ (e : Equal). column_on side.Right e < length x.cells) es) r rows columns) (All-tail (IsRow old n) r rows each) in
    λ i. sym first i ∷ rest i

-- a row is told apart from the rows whose keys differ from its own
pub tell_apart : (ws : List ℕ) (c : Condition) (m n : ℕ) (es : List Equal) (l : CRow) (rows : List CRow) → All (HasEqual m c) es → All (λ e. e.right < n) es → IsWellFormed ws → IsRow ws m l → All (IsRow ws n) rows
    → (k : Key) (keys : List Key) → k ≡ key_of ws side.Left es l.cells → keys ≡ map (λ r. key_of ws side.Right es r.cells) rows → TellApart ws c l rows k keys
tell_apart ws c m n es l rows has within formed left right k keys is are j lt e v =
    let r = slice_index_or rows j l in
    let row : IsRow ws n r = right j l lt in
    let key_is : key_at keys j ≡ key_of ws side.Right es r.cells = ap (λ ks. key_at ks j) are ∙ get_or-map (λ (x : CRow). key_of ws side.Right es x.cells) rows j l key.Null lt in
    differ_never ws l.cells r.cells m c es has left.width_is n row.width_is within formed
    (keys_differ ws l.cells r.cells es ((λ i. may_agree (sym is i) (sym key_is i)) ∙ e)) v

-- no pair with a row that is no partner
pub others_never : (ws : List ℕ) (c : Condition) (l : CRow) (rows : List CRow) (k : Key) (keys : List Key) → length keys ≡ length rows → TellApart ws c l rows k keys
    → (j : ℕ) → may_agree k (key_at keys j) ≡ false → (v : World) → [] ≡ worth_of ws c (l ∷ []) (slice_index_or rows j l ∷ []) v
others_never ws c l rows k keys long apart j e v = worth_never ws c l (slice_index_or rows j l) v (apart j (by_end (nat_lt j (length rows)) refl) e v) where
  by_end : (b : Bool) → nat_lt j (length rows) ≡ b → j < length rows
  by_end true is = ltb-true j (length rows) is
  by_end false is = absurd (false≢true (sym e ∙ ap (may_agree k) (get_or_past keys j key.Null (omega (arith, ltb-false j (length rows) is, long))) ∙ with_null k))

-- rows that were found not to be apart are not
pub not_apart : (words ws : List ℕ) (es : List Equal) (left l right r : List ℕ) (b : Bool) → words ≡ ws → left ≡ l → right ≡ r → b ≡ differ_in words es left right → b ≡ false → differ_in ws es l r ≡ true → false ≡ true
not_apart words ws es left l right r b same one other found unlike h = sym unlike ∙ found ∙ (λ i. differ_in (same i) es (one i) (other i)) ∙ h
