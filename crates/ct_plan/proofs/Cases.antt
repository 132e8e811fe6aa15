-- Closed tests: how small queries are planned.
use Rattle.std.{proofs.Common.{◌≡◌, ℕ, List, [], ◌∷◌, refl}, specs.Prelude.{pos, codes}}
use Rattle.ct_word.{specs.declared.values.Term.Term, specs.Condition.{Condition, True, False, Same, Not, And, Or, listed}}
use Rattle.ct_query.{specs.declared.schema.Heading.Heading, specs.Plain.{PlainQuery, Table, Select, Project, Product, Union}}
use Rattle.ct_plan.specs.Planned.{planned}
use Rattle.ct_word.specs.declared.values.Value.TheVariants as val
use Rattle.ct_word.specs.declared.values.Null.TheVariants as null
use Rattle.ct_word.specs.declared.values.Term.TheVariants as term

abbrev p : PlainQuery
p = Table (codes "p")

abbrev q : PlainQuery
q = Table (codes "q")

-- p has the columns a and b, and q the column a
abbrev tables : List Heading
tables = record { name = codes "p"; columns = codes "a" ∷ codes "b" ∷ [] } ∷ record { name = codes "q"; columns = codes "a" ∷ [] } ∷ []

abbrev column : ℕ → Term
column k = term.Column k

abbrev one : Term
one = term.Value (val.Int (pos 1))

abbrev x : Term
x = term.Null (null.Named (codes "x"))

abbrev all : List Condition → Condition
all cs = And (listed cs)

-- p.a = q.a stays, p.b = 1 goes to p, and q.a = 1 to q, counted from there
each_goes_to_its_side : planned tables (Select (all (Same (column 0) (column 2) ∷ Same (column 1) one ∷ Same (column 2) one ∷ [])) (Product p q))
    ≡ Select (Same (column 0) (column 2)) (Product (Select (Same (column 1) one) p) (Select (Same (column 0) one) q))
each_goes_to_its_side = refl

-- a conjunct without columns goes to every table, and runs within runs are taken apart
no_column_goes_to_all : planned tables (Select (all (all (Same x one ∷ Same (column 3) one ∷ []) ∷ Not (Same (column 3) one) ∷ [])) (Product (Product p q) q))
    ≡ Product (Product (Select (Same x one) p) (Select (Same x one) q)) (Select (all (Same x one ∷ Same (column 0) one ∷ Not (Same (column 0) one) ∷ [])) q)
no_column_goes_to_all = refl

-- an OR stays whole
an_or_stays : planned tables (Select (Or (listed (Same (column 0) one ∷ Same (column 2) one ∷ []))) (Product p q))
    ≡ Select (Or (listed (Same (column 0) one ∷ Same (column 2) one ∷ []))) (Product p q)
an_or_stays = refl

-- TRUE is a run of AND without conjuncts
true_is_gone : planned tables (Project (0 ∷ []) (Select True (Product p q))) ≡ Project (0 ∷ []) (Product p q)
true_is_gone = refl

-- where there is no product, nothing changes
one_table_stays : planned tables (Union (Select True p) (Select (all (False ∷ True ∷ [])) p)) ≡ Union (Select True p) (Select (all (False ∷ True ∷ [])) p)
one_table_stays = refl
