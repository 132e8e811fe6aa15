-- The script that is made for a session s and a number n: a table of its own, n + 1 rows, a deletion and three queries.
use Rattle.std.specs.Prelude.{ℕ, ◌%◌, List, [], ◌∷◌, ◌++◌, map, flat_map, codes, decimal}
use Rattle.std.specs.List.{range_with_len}

-- the table, before any row
abbrev pub creation : ℕ → List ℕ
creation s = codes "create table f" ++ decimal s ++ codes " (a, b)"

-- row i, whose second cell is one of eight nulls
abbrev pub insertion : ℕ → ℕ → List ℕ
insertion s i = codes "insert into f" ++ decimal s ++ codes " values (" ++ decimal i ++ codes ", ?f" ++ decimal s ++ codes "_" ++ decimal (i % 8) ++ codes ")"

-- what stands behind the rows 1 to n
abbrev pub ending : ℕ → List (List ℕ)
ending s =
    (codes "insert into f" ++ decimal s ++ codes " values (0, 0)")
    ∷ (codes "delete from f" ++ decimal s ++ codes " where b = 3")
    ∷ (codes "select a from f" ++ decimal s ++ codes " where b = 1")
    ∷ (codes "possible select a from f" ++ decimal s ++ codes " where b = 1")
    ∷ (codes "certain select a from f" ++ decimal s)
    ∷ []

-- the rows 1 to n
abbrev pub insertions : ℕ → ℕ → List (List ℕ)
insertions s n = map (insertion s) (range_with_len 1 n)

-- all statements
abbrev pub statements : ℕ → ℕ → List (List ℕ)
statements s n = creation s ∷ insertions s n ++ ending s

-- a statement with what ends it: a semicolon and the byte of a line end
abbrev pub ended : List ℕ → List ℕ
ended statement = statement ++ codes ";" ++ 10 ∷ []

-- the script
abbrev pub script_of : ℕ → ℕ → List ℕ
script_of s n = flat_map ended (statements s n)
