-- Relational algebra on one complete database, under one valuation.
use Rattle.std.specs.Prelude.{not, List, ◌++◌, map, filter, flat_map}
use Rattle.ct_word.specs.declared.values.Value.{Value}
use Rattle.ct_word.specs.Value.{World, cell_at}
use Rattle.ct_word.specs.Condition.{holds}
use Rattle.ct_query.specs.Plain as plain
use Rattle.ct_query.specs.Plain.{PlainQuery}
use Rattle.ct_query.specs.Database.{Database, tuples_of, has_tuple}

-- each of these lists, with each of those after it
abbrev pub joins : {A : Type 0} → List (List A) → List (List A) → List (List A)
joins ls rs = flat_map (λ l. map (λ r. l ++ r) rs) ls

-- the tuples of a query
abbrev pub rows : World → PlainQuery → Database → List (List Value)
rows v (plain.Table t) w = tuples_of w t
rows v (plain.Select c q) w = filter (λ r. holds v r c) (rows v q w)
rows v (plain.Project ks q) w = map (λ r. map (cell_at r) ks) (rows v q w)
rows v (plain.Product a b) w = joins (rows v a w) (rows v b w)
rows v (plain.Union a b) w = rows v a w ++ rows v b w
rows v (plain.Except a b) w = let right = rows v b w in filter (λ r. not (has_tuple right r)) (rows v a w)
rows v (plain.Intersect a b) w = let right = rows v b w in filter (has_tuple right) (rows v a w)
