-- How many parts a query has, which a recursion over it goes down.
use Rattle.std.proofs.Common.{◌≡◌, ◌∙◌, ap, ℕ, ◌+◌}
use Rattle.ct_query.{specs.Plain.{PlainQuery, Table, Select, Project, Product, Union, Except, Intersect}, specs.declared.query.Query.Query}
use Rattle.ct_query.specs.Views.{query_of}

abbrev pub count_parts : PlainQuery → ℕ
count_parts (Table name) = 1
count_parts (Select c q) = count_parts q + 1
count_parts (Project ks q) = count_parts q + 1
count_parts (Product a b) = count_parts a + count_parts b + 1
count_parts (Union a b) = count_parts a + count_parts b + 1
count_parts (Except a b) = count_parts a + count_parts b + 1
count_parts (Intersect a b) = count_parts a + count_parts b + 1

-- a query by its parts, read through what refers to them
pub one_part : (f : PlainQuery → PlainQuery) (a a' : Query) (q : PlainQuery) → a ≡ a' → f (query_of a') ≡ q → f (query_of a) ≡ q
one_part f a a' q p e = ap (λ x. f (query_of x)) p ∙ e

pub two_parts : (f : PlainQuery → PlainQuery → PlainQuery) (a b a' b' : Query) (q : PlainQuery) → a ≡ a' → b ≡ b' → f (query_of a') (query_of b') ≡ q → f (query_of a) (query_of b) ≡ q
two_parts f a b a' b' q p r e = (λ i. f (query_of (p i)) (query_of (r i))) ∙ e
