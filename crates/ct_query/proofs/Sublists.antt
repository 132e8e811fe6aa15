-- Parts of lists, and that the pattern of a query over parts of the tables' patterns is a part of its pattern over these.
use Rattle.std.proofs.Common.{ℕ, List, [], ◌∷◌, ◌++◌, map}
use Rattle.ct_word.specs.Sublist.{IsSublist, ended, left_out, taken}
use Rattle.ct_word.specs.declared.values.Term.{Term}
use Rattle.ct_query.{specs.Plain.PlainQuery, specs.Rows.joins, specs.Updates.{Sets, with_updated}, specs.Patterns.{Patterns, picked, query_pattern}}
use Rattle.ct_query.specs.Plain as plain

-- nothing is a part of every list
pub nothing_of : {A : Type 0} (ys : List A) → IsSublist [] ys
nothing_of [] = ended
nothing_of (y ∷ ys) = left_out (nothing_of ys)

-- parts of two lists, one after the other, are a part of both
pub sublist-append : {A : Type 0} (xs ys as' bs : List A) → IsSublist xs ys → IsSublist as' bs → IsSublist (xs ++ as') (ys ++ bs)
sublist-append xs ys as' bs ended q = q
sublist-append xs (y ∷ ys) as' bs (left_out p) q = left_out (sublist-append xs ys as' bs p q)
sublist-append (x ∷ xs) (x' ∷ ys) as' bs (taken p) q = taken (sublist-append xs ys as' bs p q)

-- a list is a part of itself
pub all_of : {A : Type 0} (ys : List A) → IsSublist ys ys
all_of [] = ended
all_of (y ∷ ys) = taken (all_of ys)

pub sublist_of_sublist : {A : Type 0} (xs ys zs : List A) → IsSublist xs ys → IsSublist ys zs → IsSublist xs zs
sublist_of_sublist xs ys zs p ended = p
sublist_of_sublist xs ys (z ∷ zs) p (left_out q) = left_out (sublist_of_sublist xs ys zs p q)
sublist_of_sublist xs (y ∷ ys) (z ∷ zs) (left_out p) (taken q) = left_out (sublist_of_sublist xs ys zs p q)
sublist_of_sublist (x ∷ xs) (y ∷ ys) (z ∷ zs) (taken p) (taken q) = taken (sublist_of_sublist xs ys zs p q)

-- parts keep being parts item by item
pub sublist-map : {A B : Type 0} (f : A → B) (xs ys : List A) → IsSublist xs ys → IsSublist (map f xs) (map f ys)
sublist-map f xs ys ended = ended
sublist-map f xs (y ∷ ys) (left_out p) = left_out (sublist-map f xs ys p)
sublist-map f (x ∷ xs) (x' ∷ ys) (taken p) = taken (sublist-map f xs ys p)

-- each item of a part joined with each of another part
pub sublist_joins : {A : Type 0} (xs ys zs ws : List (List A)) → IsSublist xs ys → IsSublist zs ws → IsSublist (joins xs zs) (joins ys ws)
sublist_joins xs ys zs ws ended q = ended
sublist_joins xs (y ∷ ys) zs ws (left_out p) q =
    sublist-append [] (map (λ z. y ++ z) ws) (joins xs zs) (joins ys ws) (nothing_of (map (λ z. y ++ z) ws)) (sublist_joins xs ys zs ws p q)
sublist_joins (x ∷ xs) (x' ∷ ys) zs ws (taken p) q =
    sublist-append (map (λ z. x ++ z) zs) (map (λ z. x ++ z) ws) (joins xs zs) (joins ys ws) (sublist-map (λ z. x ++ z) zs ws q) (sublist_joins xs ys zs ws p q)

-- each item of a part followed by the one with the sets
pub sublist_updated : (sets : Sets) (xs ys : List (List Term)) → IsSublist xs ys → IsSublist (with_updated sets xs) (with_updated sets ys)
sublist_updated sets xs ys ended = ended
sublist_updated sets xs (y ∷ ys) (left_out p) = left_out (left_out (sublist_updated sets xs ys p))
sublist_updated sets (x ∷ xs) (x' ∷ ys) (taken p) = taken (taken (sublist_updated sets xs ys p))

module _ (p p' : Patterns) (each : (t : List ℕ) → IsSublist (p t) (p' t)) where
  -- a query's pattern over parts of patterns
  pub pattern_part : (q : PlainQuery) → IsSublist (query_pattern p q) (query_pattern p' q)
  pattern_part (plain.Table t) = each t
  pattern_part (plain.Select c q) = pattern_part q
  pattern_part (plain.Project ks q) = sublist-map (picked ks) (query_pattern p q) (query_pattern p' q) (pattern_part q)
  pattern_part (plain.Product a b) = sublist_joins (query_pattern p a) (query_pattern p' a) (query_pattern p b) (query_pattern p' b) (pattern_part a) (pattern_part b)
  pattern_part (plain.Union a b) = sublist-append (query_pattern p a) (query_pattern p' a) (query_pattern p b) (query_pattern p' b) (pattern_part a) (pattern_part b)
  pattern_part (plain.Except a b) = pattern_part a
  pattern_part (plain.Intersect a b) = pattern_part a
