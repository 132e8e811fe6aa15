-- What calls do to the words, one after another.
use Rattle.std.{specs.Prelude.{Result, is_err, OnErr}, proofs.Common.{◌≡◌, ℕ, ◌+◌, ◌*◌, ◌≤◌, ◌<◌, Bool, true, false, List, Ok, Err, length, refl, subst, ◌∙◌, arith}, specs.Borrow.GName}
use Rattle.std.proofs.Math.Nat.{mul-le-mul_right}
use Rattle.ct_word.{specs.WellFormed.IsWellFormed, proofs.Prefixes.{prefix_same, prefix_of_prefix}}
use Rattle.ct_condition.specs.Writes.{charge, Writes}

module _ {S : Type 0} {words_of : S → List ℕ} {made_of : S → ℕ} {kept_of : S → List ℕ} {lent_of : S → List GName} {cap : ℕ} where
  -- nothing was done yet
  pub writes_none : {m : ℕ} (now : S) → IsWellFormed (words_of now) → length (words_of now) ≤ cap → Writes words_of made_of kept_of lent_of cap now now m false
  writes_none now formed room =
      record { longer = prefix_same (words_of now); formed = formed; room = room; full = λ e. let bad : false ≡ true = e in cc; rises = omega arith; made = omega arith; kept = refl; lent = refl }

  -- two calls, of which the first was answered
  pub writes_both : {old now new : S} {m n : ℕ} {refused : Bool} → Writes words_of made_of kept_of lent_of cap old now m false → Writes words_of made_of kept_of lent_of cap now new n refused → Writes words_of made_of kept_of lent_of cap old new (m + n) refused
  writes_both {old} {now} {new} {m} {n} {refused} a b = record {
    longer = prefix_of_prefix (words_of old) (words_of now) (words_of new) a.longer b.longer;
    formed = b.formed;
    room = b.room;
    full = b.full;
    rises = let h : made_of old ≤ made_of now = a.rises in let k : made_of now ≤ made_of new = b.rises in omega arith;
    made = let h : made_of new + charge refused ≤ made_of now + n = b.made in let k : made_of now + 0 ≤ made_of old + m = a.made in omega arith;
    kept = b.kept ∙ a.kept;
    lent = b.lent ∙ a.lent;
  }

  -- with another bound
  pub writes_of : {old new : S} {m n : ℕ} {refused : Bool} → Writes words_of made_of kept_of lent_of cap old new m refused → made_of new + charge refused ≤ made_of old + n → Writes words_of made_of kept_of lent_of cap old new n refused
  writes_of a most = record { longer = a.longer; formed = a.formed; room = a.room; full = a.full; rises = a.rises; made = most; kept = a.kept; lent = a.lent }

  -- with a larger bound
  pub writes_within : {old new : S} {m : ℕ} {refused : Bool} (n : ℕ) → m ≤ n → Writes words_of made_of kept_of lent_of cap old new m refused → Writes words_of made_of kept_of lent_of cap old new n refused
  writes_within {old} {new} {m} {refused} n le a = writes_of a (let h : made_of new + charge refused ≤ made_of old + m = a.made in omega arith)

  -- the bound alone, and what a refused call tells
  pub writes_made : {old new : S} {m : ℕ} {refused : Bool} → Writes words_of made_of kept_of lent_of cap old new m refused → made_of new ≤ made_of old + m
  writes_made {old} {new} {m} {refused} a = let h : made_of new + charge refused ≤ made_of old + m = a.made in omega arith

  pub writes_fewer : {T E : Type 0} {old new : S} {m : ℕ} (r : Result T E) → Writes words_of made_of kept_of lent_of cap old new m (is_err r) → OnErr r (made_of new < made_of old + m)
  writes_fewer (Ok x) a = tt
  writes_fewer {old = old} {new} {m} (Err e) a = let h : made_of new + 1 ≤ made_of old + m = a.made in omega arith

  pub writes_full : {T E : Type 0} {old new : S} {m : ℕ} (r : Result T E) → Writes words_of made_of kept_of lent_of cap old new m (is_err r) → OnErr r (length (words_of new) ≡ cap)
  writes_full (Ok x) a = tt
  writes_full (Err e) a = a.full refl

  -- with a bound said in other words
  pub writes_as : {old new : S} {m n : ℕ} {refused : Bool} → m ≡ n → Writes words_of made_of kept_of lent_of cap old new m refused → Writes words_of made_of kept_of lent_of cap old new n refused
  writes_as {old} {new} {refused = refused} e = subst (λ k. Writes words_of made_of kept_of lent_of cap old new k refused) e

  -- all turns of a loop
  pub writes_all : {old now : S} (each i : ℕ) → Writes words_of made_of kept_of lent_of cap old now (i * each) false → (n : ℕ) → i ≤ n → Writes words_of made_of kept_of lent_of cap old now (n * each) false
  writes_all each i so_far n le = writes_within (n * each) (mul-le-mul_right each le) so_far

  module _ {old now new : S} (each i : ℕ) (so_far : Writes words_of made_of kept_of lent_of cap old now (i * each) false) where
    -- one more turn of a loop
    pub writes_more : Writes words_of made_of kept_of lent_of cap now new each false → Writes words_of made_of kept_of lent_of cap old new ((i + 1) * each) false
    writes_more one = writes_within ((i + 1) * each) (omega arith) (writes_both so_far one)

    -- a turn that ends it
    pub writes_last : {refused : Bool} (n : ℕ) → i < n → Writes words_of made_of kept_of lent_of cap now new each refused → Writes words_of made_of kept_of lent_of cap old new (n * each) refused
    writes_last n lt one = let all : (i + 1) * each ≤ n * each = mul-le-mul_right each (omega arith) in writes_within (n * each) (omega (arith, all)) (writes_both so_far one)
