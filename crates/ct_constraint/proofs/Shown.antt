-- Whether rows are worth a tuple, row by row.
use Rattle.std.{proofs.Common.{◌≡◌, ℕ, Bool, true, false, ◌||◌, List, [], ◌∷◌, ◌++◌, map, cond, refl, ap, ◌∙◌}}
use Rattle.ct_word.{specs.declared.values.Value.Value, specs.declared.values.CRow.CRow, specs.Value.{World, tuple_at}}
use Rattle.ct_word.{specs.Condition.holds_at, specs.Reading.{term_at, condition_at, plain_crow}}
use Rattle.ct_operators.{specs.Tables.value_of_rows, proofs.Selecting.{value-append, one_shown}}
use Rattle.ct_query.specs.Assertions.{has_member}

member-append : (ts us : List (List Value)) → has_member (ts ++ us) ≡ (has_member ts || has_member us)
member-append [] us = refl
member-append (t ∷ ts) us = refl

-- one row is worth a tuple where it is shown
member_one : (ws : List ℕ) (v : World) (r : CRow) → has_member (value_of_rows ws v (r ∷ [])) ≡ holds_at v (condition_at ws r.cond)
member_one ws v r = ap has_member (one_shown v (plain_crow ws r) _ refl) ∙ by_case (holds_at v (condition_at ws r.cond)) where
  by_case : (b : Bool) → has_member (cond b (tuple_at v (map (term_at ws) r.cells) ∷ []) []) ≡ b
  by_case true = refl
  by_case false = refl

-- one more row
pub member_more : (ws : List ℕ) (rs : List CRow) (r : CRow) (v : World)
    → has_member (value_of_rows ws v (rs ++ r ∷ [])) ≡ (has_member (value_of_rows ws v rs) || holds_at v (condition_at ws r.cond))
member_more ws rs r v =
    ap has_member (value-append ws v rs (r ∷ []))
    ∙ member-append (value_of_rows ws v rs) (value_of_rows ws v (r ∷ []))
    ∙ ap (λ b. has_member (value_of_rows ws v rs) || b) (member_one ws v r)
