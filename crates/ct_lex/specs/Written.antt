-- Lexemes as a text writes them: names are spelled as words.
use Rattle.std.specs.Prelude.{◌≡◌, ℕ, true, List, [], ◌∷◌, map}
use Rattle.ct_word.specs.Writable.{is_word}
use Rattle.ct_lex.specs.declared.token.Lexeme.{Lexeme}
use Rattle.ct_lex.specs.declared.token.Lexeme.TheVariants.{Word, Number, Text, Null, Symbol}
use Rattle.ct_lex.specs.declared.token.Token.{Token}
use Rattle.ct_lex.specs.Tokens.{Lexes}

-- the name of a word or of a null is spelled as a word, in lower case
abbrev pub IsWritten : Lexeme → Type 0
IsWritten (Word n) = is_word n ≡ true
IsWritten (Null n) = is_word n ≡ true
IsWritten (Number i) = Unit {0}
IsWritten (Text t) = Unit {0}
IsWritten (Symbol s) = Unit {0}

-- all of these are so
abbrev pub AreWritten : List Lexeme → Type 0
AreWritten [] = Unit {0}
AreWritten (l ∷ ls) = IsWritten l × AreWritten ls

-- the law: the tokens of every text are so
abbrev pub TokensAreWritten : Type 0
TokensAreWritten = (text : List ℕ) (ts : List Token) → Lexes text ts → AreWritten (map (λ t. t.word) ts)
