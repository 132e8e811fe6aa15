-- What may not stand behind a part of a statement, lest the part go on.
use Rattle.std.specs.Prelude.{◌≡◌, ℕ, Bool, true, false, ◌||◌, List, [], ◌∷◌, codes}
use Rattle.ct_word.specs.Writable.{is_name}
use Rattle.ct_word.specs.Value.{same_text}
use Rattle.ct_lex.specs.declared.token.Lexeme.{Lexeme}
use Rattle.ct_lex.specs.declared.token.Lexeme.TheVariants.{Word, Symbol}
use Rattle.ct_lex.specs.declared.token.Symbol.TheVariants.{Comma, Dot}

-- the test fails
abbrev pub Fails : Bool → Type 0
Fails true = ⊥
Fails false = Unit {0}

-- whether this word stands in front
abbrev pub at_word : List ℕ → List Lexeme → Bool
at_word w (Word n ∷ r) = same_text n w
at_word w _ = false

-- whether a dot stands in front
abbrev pub at_dot : List Lexeme → Bool
at_dot (Symbol Dot ∷ r) = true
at_dot _ = false

-- whether a comma stands in front
abbrev pub at_comma : List Lexeme → Bool
at_comma (Symbol Comma ∷ r) = true
at_comma _ = false

-- anything may stand behind what has an end of its own
abbrev pub EndsAnyhow : List Lexeme → Type 0
EndsAnyhow r = Unit {0}

-- behind a column, a term or a factor
abbrev pub EndsColumn : List Lexeme → Type 0
EndsColumn r = Fails (at_dot r)

-- behind a conjunction
abbrev pub EndsConjunction : List Lexeme → Type 0
EndsConjunction r = Fails (at_word (codes "and") r) × EndsColumn r

-- behind a condition
abbrev pub EndsCondition : List Lexeme → Type 0
EndsCondition r = Fails (at_word (codes "or") r) × EndsConjunction r

-- whether a name stands in front
abbrev pub at_name : List Lexeme → Bool
at_name (Word n ∷ r) = is_name n
at_name _ = false

-- whether `,`, JOIN or INNER stands in front
abbrev pub at_joined : List Lexeme → Bool
at_joined r = at_comma r || at_word (codes "join") r || at_word (codes "inner") r

-- whether UNION or EXCEPT stands in front
abbrev pub at_operator : List Lexeme → Bool
at_operator r = at_word (codes "union") r || at_word (codes "except") r

-- behind a condition that may stand behind a word
abbrev pub EndsBehind : List ℕ → List Lexeme → Type 0
EndsBehind w r = Fails (at_word w r) × EndsCondition r

-- behind a name, a cell, a row, an item or an assignment in a list, and behind the list
abbrev pub EndsItem : List Lexeme → Type 0
EndsItem r = Fails (at_word (codes "as") r) × EndsColumn r

abbrev pub EndsItems : List Lexeme → Type 0
EndsItems r = Fails (at_comma r) × EndsItem r

-- behind a table, a table that is joined, and all tables
abbrev pub EndsTable : List Lexeme → Type 0
EndsTable r = Fails (at_name r) × Fails (at_word (codes "as") r)

abbrev pub EndsJoined : List Lexeme → Type 0
EndsJoined r = EndsTable r × EndsCondition r

abbrev pub EndsTables : List Lexeme → Type 0
EndsTables r = Fails (at_joined r) × EndsJoined r

-- behind [DISTINCT]
abbrev pub EndsDistinct : List Lexeme → Type 0
EndsDistinct r = Fails (at_word (codes "distinct") r)

-- behind a SELECT, a query's term and a query
abbrev pub EndsSelect : List Lexeme → Type 0
EndsSelect r = Fails (at_word (codes "where") r) × EndsTables r

abbrev pub EndsQueryTerm : List Lexeme → Type 0
EndsQueryTerm r = Fails (at_word (codes "intersect") r) × EndsSelect r

abbrev pub EndsQuery : List Lexeme → Type 0
EndsQuery r = Fails (at_operator r) × EndsQueryTerm r

-- behind a statement
abbrev pub EndsStatement : List Lexeme → Type 0
EndsStatement r = r ≡ []
