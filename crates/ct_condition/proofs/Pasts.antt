-- Terms for which no cell of a row stands.
use Rattle.std.{proofs.Common.{◌≡◌, ◌≤◌, ℕ, zero, suc, List, [], ◌∷◌, length, arith}, specs.Prelude.{None, slice_get}}
use Rattle.ct_word.specs.declared.values.Term.{Term}
use Rattle.ct_query.specs.Fields.{FitsFields, FitsFieldsOn}
use Rattle.ct_condition.specs.Rows.{cell_for}
use Rattle.ct_word.specs.declared.values.Term.TheVariants as term

past_end : (cells : List ℕ) (k : ℕ) → slice_get cells k ≡ None → length cells ≤ k
past_end [] k e = omega arith
past_end (x ∷ cells) zero e = cc
past_end (x ∷ cells) (suc k) e = let l = past_end cells k e in omega (arith, l)

-- their own word has room for their numbers
pub past_fits : (cells : List ℕ) (t : Term) → cell_for cells t ≡ None → FitsFieldsOn (length cells) t → FitsFields t
past_fits cells (term.Column k) e f = f (past_end cells k e)
past_fits cells (term.Null u) e f = f
past_fits cells (term.Value x) e f = f
