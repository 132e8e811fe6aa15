-- Named nulls for fresh ones.
use Rattle.std.specs.Prelude.{ℕ, ◌≤◌, ◌<◌, Bool, true, not, List, ◌++◌, replicate, take, length, codes, decimal, IsTrue, IsFalse}
use Rattle.ct_word.specs.declared.values.Null.{Null}
use Rattle.ct_word.specs.declared.values.Null.TheVariants as null
use Rattle.ct_word.specs.declared.values.Term.{Term}
use Rattle.ct_word.specs.declared.values.Term.TheVariants as term
use Rattle.ct_word.specs.Value.{same_text}

-- `n` and so many underscores
abbrev pub mark : ℕ → List ℕ
mark j = codes "n" ++ replicate j 95

-- what stands between the numbers of a fresh null
abbrev pub between : List ℕ
between = codes "_"

-- the null that stands for a null: for a fresh one the mark, its session, an underscore and its number
abbrev pub renamed_null : ℕ → Null → Null
renamed_null j (null.Named t) = null.Named t
renamed_null j (null.Fresh s k) = null.Named (mark j ++ decimal s ++ between ++ decimal k)

-- the term with the null that stands for its null
abbrev pub renamed : ℕ → Term → Term
renamed j (term.Column k) = term.Column k
renamed j (term.Null n) = term.Null (renamed_null j n)
renamed j (term.Value x) = term.Value x

-- whether a term is no named null that begins with the mark
abbrev pub is_unmarked : ℕ → Term → Bool
is_unmarked j (term.Null (null.Named t)) = not (same_text (take (length (mark j)) t) (mark j))
is_unmarked j _ = true

-- j is the least number from 1 on such that none of these terms is a named null that begins with its mark
pub record IsLeastFree (j : ℕ) (among : Term → Type 0) : Type 0 where
  pub from_one : 1 ≤ j
  pub free : (t : Term) → among t → IsTrue (is_unmarked j t)
  pub least : (i : ℕ) → 1 ≤ i → i < j → (t : Term) × among t × IsFalse (is_unmarked i t)
