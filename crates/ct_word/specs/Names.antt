-- How names and keywords are spelled.
use Rattle.std.specs.Prelude.{ℕ, Bool, false, not, ◌&&◌, ◌||◌, List, [], ◌∷◌, nat_eq, nat_le, codes}
use Rattle.std.specs.List.{list_all, list_any}
use Rattle.ct_word.specs.Value.{same_text}

-- a lower case ASCII letter or an underscore
abbrev pub is_letter : ℕ → Bool
is_letter b = (nat_le 97 b && nat_le b 122) || nat_eq b 95

-- a decimal digit
abbrev pub is_digit : ℕ → Bool
is_digit b = nat_le 48 b && nat_le b 57

-- whether a text is spelled as a word, in lower case
abbrev pub is_word : List ℕ → Bool
is_word [] = false
is_word (b ∷ bs) = is_letter b && list_all (λ c. is_letter c || is_digit c) bs

-- the words that are no names
abbrev pub keywords : List (List ℕ)
keywords =
    codes "and" ∷ codes "as" ∷ codes "assert" ∷ codes "begin" ∷ codes "certain" ∷ codes "commit" ∷ codes "create"
    ∷ codes "delete" ∷ codes "distinct" ∷ codes "except" ∷ codes "exists" ∷ codes "false" ∷ codes "from" ∷ codes "if"
    ∷ codes "inner" ∷ codes "insert" ∷ codes "intersect" ∷ codes "into" ∷ codes "join" ∷ codes "not" ∷ codes "null"
    ∷ codes "on" ∷ codes "or" ∷ codes "possible" ∷ codes "rollback" ∷ codes "select" ∷ codes "set" ∷ codes "table"
    ∷ codes "true" ∷ codes "union" ∷ codes "update" ∷ codes "values" ∷ codes "where" ∷ codes "worlds" ∷ []

-- whether a text is a name
abbrev pub is_name : List ℕ → Bool
is_name t = is_word t && not (list_any (same_text t) keywords)
