-- The tokens of a text and its leftmost fault, as functions.
use Rattle.std.specs.Prelude.{◌≡◌, ℕ, zero, suc, ◌+◌, ◌-◌, Bool, true, false, List, [], ◌∷◌, ◌++◌, length, take, drop, Option, Some, None, Result, Ok, Err, nat_eq, nat_le, if◌then◌else◌}
use Rattle.std.specs.Str.Parse.{digits_value}
use Rattle.ct_word.specs.Writable.{is_digit}
use Rattle.ct_lex.specs.declared.token.Symbol.TheVariants as symbol
use Rattle.ct_lex.specs.declared.token.Lexeme.{Lexeme}
use Rattle.ct_lex.specs.declared.token.Lexeme.TheVariants as lexeme
use Rattle.ct_lex.specs.declared.token.LexError.{LexError}
use Rattle.ct_lex.specs.declared.token.LexError.TheVariants as fault
use Rattle.ct_lex.specs.declared.token.Token.{Token}
use Rattle.ct_lex.specs.Spelling.{starts, doubled, lowered, signed, sign_text, greatest, begins_word, is_blank, is_word_byte, is_comment_byte}
use Rattle.ct_lex.specs.Tokens.{is_beginning, Lexes, FaultsAt}

-- what stands at the front of bytes
pub data Step : Type 0 where
  Found : (o : Option Lexeme) (w r : List ℕ) → Step
  Fault : (e : LexError) → Step
  Nothing : Step

-- the longest front whose bytes pass, and what follows it
abbrev pub span : (ℕ → Bool) → List ℕ → List ℕ × List ℕ
span p [] = ([], [])
span p (b ∷ bs) = if p b then (b ∷ (span p bs).0, (span p bs).1) else ([], b ∷ bs)

-- one more byte before a text and what follows it
abbrev pub consed : ℕ → Option (List ℕ × List ℕ) → Option (List ℕ × List ℕ)
consed b (Some s) = Some (b ∷ s.0, s.1)
consed b None = None

-- the text up to its closing quote, and what follows
abbrev pub close : List ℕ → Option (List ℕ × List ℕ)
close [] = None
close (b ∷ []) = if nat_eq b 39 then Some ([], []) else None
close (b ∷ c ∷ r) = if nat_eq b 39 then (if nat_eq c 39 then consed 39 (close r) else Some ([], c ∷ r)) else consed b (close (c ∷ r))

-- a word, and a null, from a run of bytes and what follows it
abbrev pub word_of : List ℕ × List ℕ → Step
word_of s = Found (Some (lexeme.Word (lowered s.0))) s.0 s.1

abbrev pub null_of : List ℕ × List ℕ → Step
null_of s = Found (Some (lexeme.Null (lowered s.0))) (63 ∷ s.0) s.1

-- a comment, behind its two minuses
abbrev pub comment_of : List ℕ × List ℕ → Step
comment_of s = Found None (45 ∷ 45 ∷ s.0) s.1

-- a number of this sign, or that it is out of range
abbrev pub number_of : Bool → List ℕ × List ℕ → Step
number_of minus s =
    if nat_le (digits_value 10 s.0) (greatest minus) then Found (Some (lexeme.Number (signed minus (digits_value 10 s.0)))) (sign_text minus ++ s.0) s.1 else Fault fault.NumberRange

-- a text that is closed, or that it is open
abbrev pub literal_of : Option (List ℕ × List ℕ) → Step
literal_of (Some s) = Found (Some (lexeme.Text s.0)) (39 ∷ doubled s.0 ++ 39 ∷ []) s.1
literal_of None = Fault fault.OpenText

-- what begins with a minus
abbrev pub minus_step : List ℕ → Step
minus_step r = if starts (nat_eq 45) r then comment_of (span is_comment_byte (drop 1 r)) else number_of true (span is_digit r)

-- a symbol
abbrev pub symbol_of : ℕ → List ℕ → Step
symbol_of b r =
    if nat_eq b 40 then Found (Some (lexeme.Symbol symbol.LeftParen)) (b ∷ []) r
    else (if nat_eq b 41 then Found (Some (lexeme.Symbol symbol.RightParen)) (b ∷ []) r
    else (if nat_eq b 44 then Found (Some (lexeme.Symbol symbol.Comma)) (b ∷ []) r
    else (if nat_eq b 46 then Found (Some (lexeme.Symbol symbol.Dot)) (b ∷ []) r
    else (if nat_eq b 42 then Found (Some (lexeme.Symbol symbol.Star)) (b ∷ []) r
    else (if nat_eq b 61 then Found (Some (lexeme.Symbol symbol.Equal)) (b ∷ []) r
    else Found (Some (lexeme.Symbol symbol.Unequal)) (b ∷ take 1 r) (drop 1 r))))))

-- what the first byte decides, where it begins something
abbrev pub begun : ℕ → List ℕ → Step
begun b r =
    if is_blank b then Found None (b ∷ []) r
    else (if begins_word b then word_of (span is_word_byte (b ∷ r))
    else (if is_digit b then number_of false (span is_digit (b ∷ r))
    else (if nat_eq b 39 then literal_of (close r)
    else (if nat_eq b 45 then minus_step r
    else (if nat_eq b 63 then null_of (span is_word_byte r)
    else symbol_of b r)))))

-- what stands at the front
abbrev pub step : List ℕ → Step
step [] = Nothing
step (b ∷ r) = if is_beginning b r then begun b r else Fault fault.StrayByte

-- the tokens, or the leftmost fault and its place
abbrev pub Read : Type 0
Read = Result (List Token) (ℕ × LexError)

-- the token at the place n, if there is one, before what is read behind it
abbrev pub with_front : ℕ → ℕ → Option Lexeme → Read → Read
with_front n len (Some t) (Ok ts) = Ok (record { word = t; start = n; end = n + len } ∷ ts)
with_front n len _ rest = rest

-- what stands at the place n, before what is read behind it
abbrev pub with_step : ℕ → Step → Read → Read
with_step n (Found o w r) rest = with_front n (length w) o rest
with_step n (Fault e) rest = Err (n, e)
with_step n Nothing rest = rest

-- how many bytes behind the first belong to what stands in front
abbrev pub bytes_behind : Step → ℕ
bytes_behind (Found o w r) = length w - 1
bytes_behind _ = 0

-- what is read from the place n on, where the first k bytes belong to what was read before
abbrev pub read_from : ℕ → ℕ → List ℕ → Read
read_from k n [] = Ok []
read_from zero n (b ∷ r) = with_step n (step (b ∷ r)) (read_from (bytes_behind (step (b ∷ r))) (n + 1) r)
read_from (suc k) n (b ∷ r) = read_from k (n + 1) r

-- what a text is read as
abbrev pub read : List ℕ → Read
read text = read_from 0 0 text

-- the laws: a text whose bytes spell tokens is read as these, and one that has a fault is read as it
abbrev pub ReadsTokens : Type 0
ReadsTokens = (text : List ℕ) (ts : List Token) → Lexes text ts → read text ≡ Ok ts

abbrev pub ReadsFault : Type 0
ReadsFault = (text : List ℕ) (place : ℕ) (e : LexError) → FaultsAt text place e → read text ≡ Err (place, e)
