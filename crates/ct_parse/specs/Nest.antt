-- How deep lexemes nest, and how many set operators they have.
use Rattle.std.specs.Prelude.{ℕ, ◌+◌, ◌≤◌, max, Bool, false, ◌||◌, List, [], ◌∷◌, nat_lt, codes, if◌then◌else◌}
use Rattle.ct_word.specs.Value.{same_text}
use Rattle.ct_lex.specs.declared.token.Lexeme.{Lexeme}
use Rattle.ct_lex.specs.declared.token.Lexeme.TheVariants.{Word, Symbol}
use Rattle.ct_lex.specs.declared.token.Symbol.TheVariants.{LeftParen, RightParen}
use Rattle.ct_parse.specs.declared.nest.Turn.{Turn}
use Rattle.ct_parse.specs.declared.nest.Turn.TheVariants.{Opens, Closes, Negates, Joins, Stays}

-- what a word does
abbrev pub turn_of_word : List ℕ → Turn
turn_of_word n = if same_text n (codes "not") then Negates else (if same_text n (codes "and") || same_text n (codes "or") then Joins else Stays)

-- what a lexeme does: `(` opens a level and `)` closes it, NOT counts, AND and OR end the NOTs of their level
abbrev pub turn_of : Lexeme → Turn
turn_of (Symbol LeftParen) = Opens
turn_of (Symbol RightParen) = Closes
turn_of (Word n) = turn_of_word n
turn_of _ = Stays

-- the count at the start of the innermost level: one more than where its parenthesis stands, or 0 outside of all
abbrev pub start_of_level : List ℕ → ℕ
start_of_level [] = 0
start_of_level (n ∷ opened) = n + 1

-- the counts where the open levels were opened, the innermost first, after a lexeme
abbrev pub opened_after : List ℕ → ℕ → Turn → List ℕ
opened_after opened n Opens = n ∷ opened
opened_after [] n Closes = []
opened_after (m ∷ opened) n Closes = opened
opened_after opened n Negates = opened
opened_after opened n Joins = opened
opened_after opened n Stays = opened

-- the count after a lexeme: a level that closes takes back all that it counted, and a `)` without a `(` counts nothing
abbrev pub count_after : List ℕ → ℕ → Turn → ℕ
count_after opened n Opens = n + 1
count_after [] n Closes = n
count_after (m ∷ opened) n Closes = m
count_after opened n Negates = n + 1
count_after opened n Joins = start_of_level opened
count_after opened n Stays = n

-- the greatest count that is reached from here on
abbrev pub nest_from : List ℕ → ℕ → List Lexeme → ℕ
nest_from opened n [] = n
nest_from opened n (w ∷ ws) = max n (nest_from (opened_after opened n (turn_of w)) (count_after opened n (turn_of w)) ws)

-- the nest of lexemes
abbrev pub nest : List Lexeme → ℕ
nest ws = nest_from [] 0 ws

-- whether a lexeme is a set operator
abbrev pub is_set_operator : Lexeme → Bool
is_set_operator (Word n) = same_text n (codes "union") || same_text n (codes "except") || same_text n (codes "intersect")
is_set_operator _ = false

-- how many set operators there are
abbrev pub set_operators : List Lexeme → ℕ
set_operators [] = 0
set_operators (w ∷ ws) = if is_set_operator w then set_operators ws + 1 else set_operators ws

-- the most that a nest and the number of set operators may be
abbrev pub DEPTH : ℕ
DEPTH = 64

-- whether lexemes nest too deep, or have too many set operators
abbrev pub is_too_deep : List Lexeme → Bool
is_too_deep ws = nat_lt DEPTH (nest ws) || nat_lt DEPTH (set_operators ws)

-- each count is within the most that it may be
abbrev pub AreShallow : List ℕ → Type 0
AreShallow [] = Unit {0}
AreShallow (n ∷ ns) = (n ≤ DEPTH) × AreShallow ns
