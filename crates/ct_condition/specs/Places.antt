-- Which terms have a place in the words.
use Rattle.std.specs.Prelude.{ℕ, ◌+◌, Bool, false, List, if◌then◌else◌}
use Rattle.std.specs.List.{list_any}
use Rattle.ct_word.specs.declared.values.Term.{Term}
use Rattle.ct_word.specs.Value.{same_term}
use Rattle.ct_word.specs.Condition.{Condition}
use Rattle.ct_word.specs.Reading.{Meaning, IsTerm, meanings}
use Rattle.ct_query.specs.Bounds.{literal_words, over_equalities}

-- whether this is a term
abbrev pub is_of_term : Term → Meaning → Bool
is_of_term t (IsTerm s) = same_term s t
is_of_term t _ = false

-- whether a place of the words stands for a term
abbrev pub has_place : List ℕ → Term → Bool
has_place words t = list_any (is_of_term t) (meanings words)

-- the words of a literal, none where a place stands for it
abbrev pub new_literal_words : List ℕ → Term → ℕ
new_literal_words words t = if has_place words t then 0 else literal_words t

-- the words of the literals of a condition that have no place
abbrev pub new_terms : List ℕ → Condition → ℕ
new_terms words c = over_equalities (λ s t. new_literal_words words s + new_literal_words words t) c
