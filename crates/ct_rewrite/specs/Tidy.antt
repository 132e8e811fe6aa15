-- Worlds that are written in one way.
use Rattle.std.specs.Prelude.{◌&&◌, Bool, true, not, [], ◌∷◌, IsTrue}
use Rattle.std.specs.List.{list_all}
use Rattle.std.specs.Ordering.{is_lt}
use Rattle.ct_word.specs.declared.values.Null.{Null}
use Rattle.ct_word.specs.Value.{World, same_value, other_zero}
use Rattle.ct_rewrite.specs.Order.{null_order}

-- whether a null comes before another in the order of terms
abbrev pub null_before : Null → Null → Bool
null_before m n = is_lt (null_order m n)

-- whether each null comes before all those after it, so that no null is there twice
abbrev pub are_ascending : World → Bool
are_ascending [] = true
are_ascending (p ∷ v) = list_all (λ r. null_before p.0 r.0) v && are_ascending v

-- whether no pair has @0, the value of a null that is not listed
abbrev pub has_no_zero : World → Bool
has_no_zero v = list_all (λ p. not (same_value p.1 other_zero)) v

-- a world is written in one way: distinct nulls in ascending order, none with @0
abbrev pub IsTidy : World → Type 0
IsTidy v = IsTrue (are_ascending v && has_no_zero v)
