-- Lists of possible rows, one row after another.
use Rattle.std.proofs.Common.{◌≡◌, ◌<◌, ◌+◌, ℕ, List, [], ◌∷◌, ◌++◌, append-nil, get_or, length, take, ap, sym, subst, ◌∙◌}
use Rattle.std.{specs.Prelude.{All, IsTrue, Option, Some, None}, proofs.lemmas.List.take_more, proofs.lemmas.List.Elements.{All-get_or, All-head, All-weaker}}
use Rattle.ct_word.{specs.declared.values.CRow.CRow, specs.Value.World, specs.Stands.HasNoColumn, specs.WellFormed.is_place_of}
use Rattle.ct_operators.specs.Tables.{IsRow}
use Rattle.ct_rewrite.specs.declared.answer.PossibleRow.{PossibleRow}
use Rattle.ct_certain.specs.Answered.{AreOf, Adds, nothing, one}
use Rattle.ct_certain.{specs.Own.{IsOwn, IsOwnAnswer}, specs.Possible.{ListsPossible, ended, left_out, listed, taken}, proofs.Short.own_listed}
use Rattle.ct_word.specs.declared.kinds.Class.TheVariants as class

module _ (words : List ℕ) (global : ℕ) where
  lists_more : (rs : List CRow) (list : List PossibleRow) (r : CRow) (new : List PossibleRow) → ListsPossible words global rs list → Adds words global r list new → ListsPossible words global (rs ++ r ∷ []) new
  lists_more rs list r new ended (nothing none) = left_out none ended
  lists_more rs list r new ended (one v tidy shown) = taken v tidy shown ended
  lists_more (s ∷ rs) list r new (left_out none rest) adds = left_out none (lists_more rs list r new rest adds)
  lists_more (s ∷ rs) (x ∷ list) r new (taken v tidy shown rest) (nothing none) = taken v tidy shown (lists_more rs list r list rest (nothing none))
  lists_more (s ∷ rs) (x ∷ list) r new (taken v tidy shown rest) (one w t h) = taken v tidy shown (lists_more rs list r _ rest (one w t h))

  lists_turn : (rows : List CRow) (i : ℕ) (r : CRow) (list new : List PossibleRow) → i < length rows → r ≡ get_or rows i r
      → ListsPossible words global (take i rows) list → Adds words global r list new → ListsPossible words global (take (i + 1) rows) new
  lists_turn rows i r list new lt e so_far adds =
      let done : take i rows ++ r ∷ [] ≡ take (i + 1) rows = ap (λ x. take i rows ++ x ∷ []) e ∙ sym (take_more rows i r lt) in
      subst (λ d. ListsPossible words global d new) done (lists_more (take i rows) list r new so_far adds)

  -- one more row, with what was found for it
  pub listed_turn : (rows : List CRow) (i : ℕ) (r : CRow) (list new : List PossibleRow) (o : Option World) → i < length rows → r ≡ get_or rows i r → IsOwnAnswer words global r o → new ≡ list ++ listed words r o
      → ListsPossible words global (take i rows) list → ListsPossible words global (take (i + 1) rows) new
  listed_turn rows i r list new o lt e is put so_far = lists_turn rows i r list new lt e so_far (subst (Adds words global r list) (sym put) (adds o is)) where
    adds : (o : Option World) → IsOwnAnswer words global r o → Adds words global r list (list ++ listed words r o)
    adds (Some v) is = one v is.tidy is.shown
    adds None none = subst (Adds words global r list) (sym (append-nil list)) (nothing none)

  pub own_turn : (rows : List CRow) (i : ℕ) (r : CRow) (list new : List PossibleRow) (o : Option World) → i < length rows → r ≡ get_or rows i r → IsOwnAnswer words global r o → new ≡ list ++ listed words r o
      → All (IsOwn words global rows) list → All (IsOwn words global rows) new
  own_turn rows i r list new o lt e is put all = subst (All (IsOwn words global rows)) (sym put) (by o is) where
    by : (o : Option World) → IsOwnAnswer words global r o → All (IsOwn words global rows) (list ++ listed words r o)
    by (Some v) is = own_listed words global rows r list v (i, lt, sym e) is.own all
    by None none = subst (All (IsOwn words global rows)) (sym (append-nil list)) all

  pub row_of : (rows : List CRow) (i : ℕ) (r : CRow) → i < length rows → r ≡ get_or rows i r → All (AreOf words global) rows → AreOf words global r
  row_of rows i r lt e all = subst (AreOf words global) (sym e) (All-get_or (AreOf words global) rows i r lt all)

  -- the rows of a table
  pub all_of : (n : ℕ) (rows : List CRow) → IsTrue (is_place_of words class.Cond global) → HasNoColumn words global → All (IsRow words n) rows → All (AreOf words global) rows
  all_of n rows is plain each = All-weaker (IsRow words n) (AreOf words global)
      (λ r row. record { global_is = is; global_plain = plain; condition = row.condition; plain = All-head (HasNoColumn words) r.cond r.cells row.plain; terms = row.terms }) rows each
