-- Sums of the words that rows are put by.
use Rattle.std.proofs.Common.{◌≡◌, ℕ, zero, suc, ◌+◌, ◌-◌, ◌*◌, ◌≤◌, ◌<◌, Bool, true, false, ◌||◌, List, ◌++◌, map, length, refl, ap, sym, subst, ◌∙◌, arith}
use Rattle.std.{specs.Prelude.{Result, is_err, Option, Some, None, nat_eq, if◌then◌else◌}, specs.Borrow.GName, specs.Option.IsSome}
use Rattle.std.{specs.List.IsDistinct, proofs.Math.Nat.{mul-le-mul_right, mul_assoc, mul-add}, proofs.lemmas.List.{length-map, length-append, map-append}}
use Rattle.ct_operators.{specs.Merging.repeats, specs.Tables.{cells_of, firsts}, proofs.Firsts.{firsts_distinct, firsts_long}, proofs.Merges.cells_equiv}
use Rattle.ct_condition.{specs.Writes.{Writes, charge}, proofs.Writes.writes_both, specs.Folding.{folded_and, FoldsTo}}
use Rattle.ct_word.{specs.declared.values.CRow.CRow, specs.Value.same_cells, specs.Reading.term_at}

-- the words for the rows so far, and for one more
module _ (each i m now new : ℕ) (before : now ≤ m + i * each) (more : new ≤ now + each) where
  pub made_more : new ≤ m + (i + 1) * each
  made_more = omega arith

  -- they are within those of all rows
  pub made_within : (n : ℕ) → i < n → new ≤ m + n * each
  made_within n lt = let all : (i + 1) * each ≤ n * each = mul-le-mul_right each (omega arith) in omega (arith, made_more)

-- a conjunction that begins or ends with true is folded
pub true_first : (words : List ℕ) (d : ℕ) → IsSome (folded_and words 0 d)
true_first words d = by_case (nat_eq d 1) where
  by_case : (b : Bool) → IsSome (if b then Some 1 else Some d)
  by_case true = refl
  by_case false = refl

pub true_last : (words : List ℕ) (c : ℕ) → IsSome (folded_and words c 0)
true_last words c = by_case (nat_eq c 1) (nat_eq c 0) where
  by_case : (b e : Bool) → IsSome (if b || false then Some 1 else if e then Some 0 else Some c)
  by_case true e = refl
  by_case false true = refl
  by_case false false = refl

-- what is folded is no error
folded_free : {E : Type 0} (o : Option ℕ) (w : ℕ) (old new : List ℕ) (r : Result ℕ E) → IsSome o → FoldsTo o w old new r → charge (is_err r) ≡ 0
folded_free (Some p) w old new r is f = ap (λ x. charge (is_err x)) f.0
folded_free None w old new r is f = let bad : false ≡ true = is in cc

-- a pair of cells compared after others, of which the first is not joined to any
pub pair_more : (n m now mid new : ℕ) → now ≤ m + (2 * n - 1) → mid ≤ now + 1 → new ≤ mid + 1 → (n ≡ 0 → new ≡ mid) → new ≤ m + (2 * (n + 1) - 1)
pair_more zero m now mid new a b c first = let same : new ≡ mid = first refl in omega (arith, same)
pair_more (suc n) m now mid new a b c first = omega arith

-- cells compared, and the condition of their row with that
pub pairs_and_one : {S : Type 0} {words_of : S → List ℕ} {made_of : S → ℕ} {kept_of : S → List ℕ} {lent_of : S → List GName} {cap : ℕ} {old mid new : S} {m : ℕ} {E : Type 0} (r : Result ℕ E) (o : Option ℕ) (w k : ℕ)
    → Writes words_of made_of kept_of lent_of cap old mid m false → m ≤ 2 * k → made_of mid ≤ made_of old + (2 * k - 1) → Writes words_of made_of kept_of lent_of cap mid new 1 (is_err r)
    → (k ≡ 0 → IsSome o) → (IsSome o → made_of new ≡ made_of mid) → FoldsTo o w (words_of mid) (words_of new) r → Writes words_of made_of kept_of lent_of cap old new (2 * k) (is_err r)
pairs_and_one {words_of = words_of} {made_of} {kept_of} {lent_of} {cap} {old} {mid} {new} {m} r o w k a le spare b folds unmade to = record {
  longer = all.longer;
  formed = all.formed;
  room = all.room;
  full = all.full;
  rises = all.rises;
  made = by_width k spare folds;
  kept = all.kept;
  lent = all.lent;
} where
  all : Writes words_of made_of kept_of lent_of cap old new (m + 1) (is_err r)
  all = writes_both a b

  by_width : (k : ℕ) → made_of mid ≤ made_of old + (2 * k - 1) → (k ≡ 0 → IsSome o) → made_of new + charge (is_err r) ≤ made_of old + 2 * k
  by_width zero spare folds =
      let same : made_of new ≡ made_of mid = unmade (folds refl) in
      let free : charge (is_err r) ≡ 0 = folded_free o w (words_of mid) (words_of new) r (folds refl) to in
      omega (arith, same, free)
  by_width (suc k) spare folds = let one : made_of new + charge (is_err r) ≤ made_of mid + 1 = b.made in omega (arith, one)

-- the sums of the operators
pub mul_one : (n : ℕ) → n * 1 ≡ n
mul_one n = omega arith

pub in_all : (l r w : ℕ) → l * (r * w) ≡ l * r * w
in_all l r w = sym (mul_assoc l r w)

pub in_all_and_one : (l r w : ℕ) → l * (r * w + 1) ≡ l * r * w + l
in_all_and_one l r w =
    mul-add l (r * w) 1 ∙ (λ i. in_all l r w i + mul_one l i)

-- rows of distinct cells are all first ones
all_first : (ws : List ℕ) (rows : List CRow) → IsDistinct same_cells (cells_of ws rows) → length (firsts same_cells (cells_of ws rows)) ≡ length rows
all_first ws rows d = ap (λ l. length l) (firsts_distinct same_cells (cells_of ws rows) d) ∙ length-map rows (λ (r : CRow). map (term_at ws) r.cells)

-- so none repeats an earlier one
pub none_repeats : (ws : List ℕ) (rows : List CRow) → IsDistinct same_cells (cells_of ws rows) → repeats ws rows ≡ 0
none_repeats ws rows d = omega (arith, all_first ws rows d)

-- with further rows behind them, only those may
pub more_repeat : (ws : List ℕ) (rows more : List CRow) → IsDistinct same_cells (cells_of ws rows) → repeats ws (rows ++ more) ≤ length more
more_repeat ws rows more d =
    let longer = (firsts_long same_cells cells_equiv (cells_of ws rows) (cells_of ws more)).0 in
    let first : length rows ≤ length (firsts same_cells (cells_of ws (rows ++ more))) =
    subst (λ cs. length rows ≤ length (firsts same_cells cs)) (sym (map-append (λ (r : CRow). map (term_at ws) r.cells) rows more)) (omega (arith, all_first ws rows d, longer)) in
    omega (arith, first, length-append rows more)
