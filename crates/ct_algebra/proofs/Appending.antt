-- How many words calls make, one after the other, and each operator on answers to the parts of a query.
use Rattle.std.{proofs.Common.{◌≡◌, ℕ, ◌+◌, ◌*◌, ◌≤◌, Bool, List, length, map, Result, Ok, Err, ap, arith}, specs.Prelude.{Contains}, proofs.lemmas.Nat.mul-le}
use Rattle.ct_word.{specs.declared.values.Term.Term, specs.WellFormed.IsWellFormed}
use Rattle.ct_query.{specs.Plain.PlainQuery, specs.Fits.width}
use Rattle.ct_arena.{specs.Seen.Seen, proofs.Fronts.formed_front}
use Rattle.ct_condition.{specs.Writes.charge, proofs.Writes.{writes_none, writes_both, writes_of}}
use Rattle.ct_operators.{specs.declared.table.CTable.CTable, specs.declared.error.TableError.TableError, specs.Refusals.is_full}
use Rattle.ct_table.specs.Denotes.{TableView, heading_of}
use Rattle.ct_condition.specs.Writes.{PassWrites}
use Rattle.ct_algebra.{specs.Evaluates.Evaluates, specs.Words.{most_rows, unplaced, spared, EachLiteral, GrowsWithin}, proofs.Counted.rows_within, proofs.Putting.fewer_unplaced}
use Rattle.ct_operators.specs.declared.error.TableError.TheVariants as fault

-- terms among others
abbrev pub Within : List Term → List Term → Type 0
Within some all = (t : Term) → Contains some t → Contains all t

-- a call that was refused by a full log is spared a word
pub charged : {A : Type 0} (out : Result A TableError) (n left most : ℕ) → n + spared out left ≤ most → n + charge (is_full out) ≤ most
charged (Ok x) n left most le = omega (arith, le)
charged (Err fault.Full) n left most le = omega (arith, le)
charged (Err fault.Memory) n left most le = omega (arith, le)

module _ {cap : ℕ} where
  -- by any bound on what is written, and that for each list of literals
  pub grows_of : {A : Type 0} (out : Result A TableError) (old new : Seen) (terms : List Term) (most : ℕ) {any : ℕ} → PassWrites cap old new any (is_full out)
      → ((literals : List Term) → EachLiteral (Contains literals) terms → new.made + spared out (unplaced new.words literals) ≤ old.made + unplaced old.words literals + most)
      → GrowsWithin cap out old new terms most
  grows_of out old new terms most w grows =
      let le : new.made + spared out (unplaced new.words terms) ≤ old.made + (unplaced old.words terms + most) = let h = grows terms (λ t l h. h) in omega (arith, h) in
      record { writes = writes_of w (charged out new.made (unplaced new.words terms) (old.made + (unplaced old.words terms + most)) le); grows = grows }

  -- the words before a call that writes were well formed
  pub formed_before : {old new : Seen} {most : ℕ} {refused : Bool} → PassWrites cap old new most refused → IsWellFormed old.words
  formed_before {old} {new} w = formed_front old.words new.words w.longer w.formed

  -- nothing was done
  pub grows_none : {A : Type 0} (x : A) (now : Seen) (terms : List Term) (most : ℕ) → IsWellFormed now.words → length now.words ≤ cap → GrowsWithin cap (Ok x) now now terms most
  grows_none x now terms most formed room = grows_of (Ok x) now now terms most (writes_none {m = 0} now formed room) (λ literals has. omega arith)

  -- what is returned in place of an answer writes no more
  pub grows_as : {A B : Type 0} (x : A) (y : B) (old new : Seen) (terms : List Term) (most : ℕ) → GrowsWithin cap (Ok x) old new terms most → GrowsWithin cap (Ok y) old new terms most
  grows_as x y old new terms most w = record { writes = w.writes; grows = w.grows }

  -- a call that puts no literal
  pub grows_by : {B : Type 0} (out : Result B TableError) (mid new : Seen) (terms : List Term) (most : ℕ) → PassWrites cap mid new most (is_full out) → GrowsWithin cap out mid new terms most
  grows_by (Ok x) mid new terms most w =
      let made : new.made + 0 ≤ mid.made + most = w.made in
      grows_of (Ok x) mid new terms most w (λ literals has. let u = fewer_unplaced mid.words new.words w.longer literals in omega (arith, made, u))
  grows_by (Err fault.Full) mid new terms most w = let made : new.made + 1 ≤ mid.made + most = w.made in grows_of (Err fault.Full) mid new terms most w (λ literals has. omega (arith, made))
  grows_by (Err fault.Memory) mid new terms most w = let made : new.made + 0 ≤ mid.made + most = w.made in grows_of (Err fault.Memory) mid new terms most w (λ literals has. omega (arith, made))

  module _ (old mid new : Seen) (terms : List Term) {A B : Type 0} (x : A) (out : Result B TableError) where
    -- a call after one that answered
    pub grows_then : (one other : List Term) (j most k : ℕ) → Within one terms → Within other terms → most ≤ k
        → GrowsWithin cap (Ok x) old mid one j → GrowsWithin cap out mid new other most → GrowsWithin cap out old new terms (j + k)
    grows_then one other j most k within besides le first second =
        grows_of out old new terms (j + k) (writes_both first.writes second.writes) (λ literals has.
        let f = first.grows literals (λ t l h. has t l (within t h)) in
        let s = second.grows literals (λ t l h. has t l (besides t h)) in
        omega (arith, f, s, le))

    -- one that puts no literal
    pub onward : (j most k : ℕ) → GrowsWithin cap (Ok x) old mid terms j → PassWrites cap mid new most (is_full out) → most ≤ k → GrowsWithin cap out old new terms (j + k)
    onward j most k first w le = grows_then terms terms j most k (λ t h. h) (λ t h. h) le first (grows_by out mid new terms most w)

    -- after one that put literals alone
    pub after_literals : (most k : ℕ) → GrowsWithin cap (Ok x) old mid terms 0 → PassWrites cap mid new most (is_full out) → most ≤ k → GrowsWithin cap out old new terms k
    after_literals most k first w le =
        let h = onward 0 most k first w le in
        grows_of out old new terms k h.writes (λ literals has. let all = h.grows literals has in omega (arith, all))

  -- a refusal that is passed on
  pub refused_within : {A B : Type 0} (e : TableError) (old new : Seen) (some all : List Term) (most more : ℕ) → Within some all → most ≤ more
      → GrowsWithin {A = A} cap (Err e) old new some most → GrowsWithin {A = B} cap (Err e) old new all more
  refused_within fault.Full old new some all most more within le w =
      grows_of (Err fault.Full) old new all more w.writes (λ literals has. let h = w.grows literals (λ t l i. has t l (within t i)) in omega (arith, h, le))
  refused_within fault.Memory old new some all most more within le w =
      grows_of (Err fault.Memory) old new all more w.writes (λ literals has. let h = w.grows literals (λ t l i. has t l (within t i)) in omega (arith, h, le))

  -- a greater bound
  pub grows_more : {A : Type 0} (out : Result A TableError) (old new : Seen) (terms : List Term) (most more : ℕ) → most ≤ more → GrowsWithin cap out old new terms most → GrowsWithin cap out old new terms more
  grows_more out old new terms most more le w = grows_of out old new terms more w.writes (λ literals has. let h = w.grows literals has in omega (arith, h, le))

-- as many pairs of rows, and as many columns
pairs_within : (l r m n k j : ℕ) → l ≤ m → r ≤ n → k ≡ j → l * r * k ≤ m * n * j
pairs_within l r m n k j p q e = mul-le (l * r) k (m * n) j (mul-le l r m n p q) (omega (arith, e))

-- the rows of one part, so many words for each
pub rows_most : (ws now : List ℕ) (db : List TableView) (q : PlainQuery) (t : CTable) → Evaluates ws now db q t → (k : ℕ) → length t.rows * k ≤ most_rows db q * k
rows_most ws now db q t s k = mul-le (length t.rows) k (most_rows db q) k (rows_within ws now db q t s) (omega arith)

-- those of two parts
module _ (ws now : List ℕ) (db : List TableView) (a b : PlainQuery) (l r : CTable) (s : Evaluates ws now db a l) (u : Evaluates ws now db b r) where
  lefts : length l.rows ≤ most_rows db a
  lefts = rows_within ws now db a l s

  rights : length r.rows ≤ most_rows db b
  rights = rows_within ws now db b r u

  pub product_most : length l.rows * length r.rows ≤ most_rows db a * most_rows db b
  product_most = mul-le (length l.rows) (length r.rows) (most_rows db a) (most_rows db b) lefts rights

  pub union_most : length l.rows + length r.rows ≤ most_rows db a + most_rows db b
  union_most = omega (arith, lefts, rights)

  pub except_most : length l.rows * length r.rows * (2 * length l.columns + 2) + length l.rows ≤ most_rows db a * most_rows db b * (2 * width (map heading_of db) a + 2) + most_rows db a
  except_most =
      omega (
        arith,
        lefts,
        pairs_within (length l.rows) (length r.rows) (most_rows db a) (most_rows db b) (2 * length l.columns + 2) (2 * width (map heading_of db) a + 2) lefts rights (ap (λ k. 2 * k + 2) s.width_is),
      )

  pub intersect_most : length l.rows * length r.rows * (2 * length l.columns + 1) + 2 * length l.rows ≤ most_rows db a * most_rows db b * (2 * width (map heading_of db) a + 1) + 2 * most_rows db a
  intersect_most =
      omega (
        arith,
        lefts,
        pairs_within (length l.rows) (length r.rows) (most_rows db a) (most_rows db b) (2 * length l.columns + 1) (2 * width (map heading_of db) a + 1) lefts rights (ap (λ k. 2 * k + 1) s.width_is),
      )

-- a pair takes a word for both conditions, and those of a selection
pub pair_sum : (n k : ℕ) → n * (k + 2) ≡ n + n * (k + 1)
pair_sum n k = grind arith

pub join_sum : (w x y : ℕ) → w + (x + y) ≡ w + x + y
join_sum w x y = omega arith

pub pairs_most : (l m k : ℕ) → l ≤ m → l + l * k ≤ m + m * k
pairs_most l m k le = omega (arith, le, mul-le l k m k le (omega arith))

pub twice_most : (l m : ℕ) → l ≤ m → l + l ≤ m + m
twice_most l m le = omega (arith, le)

-- a pair that is projected takes one more
pub picked_sum : (n k : ℕ) → n * (k + 2 + 1) ≡ n + n * (k + 1) + n
picked_sum n k = grind arith
