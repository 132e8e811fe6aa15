-- A query with the conjuncts of its selections moved down to the products and tables that have their columns.
use Rattle.std.specs.Prelude.{List, [], ◌∷◌, ◌++◌, map, filter}
use Rattle.ct_word.specs.Condition.{Condition, Conditions, True, False, Same, Not, And, Or, none, also, listed}
use Rattle.ct_query.specs.declared.schema.Heading.{Heading}
use Rattle.ct_query.specs.Plain as plain
use Rattle.ct_query.specs.Plain.{PlainQuery}
use Rattle.ct_plan.specs.Columns.{columns_of, is_of, is_across, counted_from}
use Rattle.ct_plan.specs.declared.sides.Side.TheVariants as side

-- the conjuncts of a condition: those of its run of AND, runs within runs taken apart; TRUE is a run without any
abbrev mutual
  pub conjuncts : Condition → List Condition
  conjuncts True = []
  conjuncts False = False ∷ []
  conjuncts (Same s t) = Same s t ∷ []
  conjuncts (Not c) = Not c ∷ []
  conjuncts (And cs) = all_conjuncts cs
  conjuncts (Or cs) = Or cs ∷ []

  pub all_conjuncts : Conditions → List Condition
  all_conjuncts none = []
  all_conjuncts (also c cs) = conjuncts c ++ all_conjuncts cs

-- what the condition of a selection is taken apart into: above a product its conjuncts, above another query itself
abbrev pub taken_apart : Condition → PlainQuery → List Condition
taken_apart c (plain.Product a b) = conjuncts c
taken_apart c _ = c ∷ []

-- one condition for all of these: one stands alone, more are a run of AND, none is TRUE
abbrev pub all_of : List Condition → Condition
all_of [] = True
all_of (c ∷ []) = c
all_of (c ∷ d ∷ cs) = And (listed (c ∷ d ∷ cs))

-- one selection of all these conditions; none, no selection
abbrev pub selected : List Condition → PlainQuery → PlainQuery
selected [] q = q
selected (c ∷ cs) q = plain.Select (all_of (c ∷ cs)) q

-- a query that conditions come to. At a product those of one side go on there, those of both sides to both, and those
-- across stay; at another query all stay
abbrev pub placed : List Heading → List Condition → PlainQuery → PlainQuery
placed s cs (plain.Table t) = selected cs (plain.Table t)
placed s cs (plain.Select c q) = selected cs (placed s (taken_apart c q) q)
placed s cs (plain.Project ks q) = selected cs (plain.Project ks (placed s [] q))
placed s cs (plain.Product a b) =
    selected (filter (is_across (columns_of s a)) cs)
    (plain.Product (placed s (filter (is_of side.Left (columns_of s a)) cs) a) (placed s (map (counted_from (columns_of s a)) (filter (is_of side.Right (columns_of s a)) cs)) b))
placed s cs (plain.Union a b) = selected cs (plain.Union (placed s [] a) (placed s [] b))
placed s cs (plain.Except a b) = selected cs (plain.Except (placed s [] a) (placed s [] b))
placed s cs (plain.Intersect a b) = selected cs (plain.Intersect (placed s [] a) (placed s [] b))

-- a query over the tables of a schema, planned
abbrev pub planned : List Heading → PlainQuery → PlainQuery
planned s q = placed s [] q
