-- Which bytes spell which token.
use Rattle.std.specs.Prelude.{◌≡◌, ℕ, ℤ, pos, neg_ℤ, ◌≤◌, Bool, true, false, not, ◌&&◌, ◌||◌, List, [], ◌∷◌, ◌++◌, map, flat_map, nat_eq, Option, Some, None, IsTrue, IsFalse, codes, if◌then◌else◌}
use Rattle.std.specs.List.{list_all, list_any}
use Rattle.std.specs.Char.{to_ascii_lowercase}
use Rattle.std.specs.Str.Parse.{digits_value}
use Rattle.ct_word.specs.Writable.{is_letter, is_digit}
use Rattle.ct_lex.specs.declared.token.Symbol.TheVariants as symbol
use Rattle.ct_lex.specs.declared.token.Lexeme.{Lexeme}
use Rattle.ct_lex.specs.declared.token.Lexeme.TheVariants as lexeme

-- a blank: a tab, a line end, a carriage return or a space
abbrev pub is_blank : ℕ → Bool
is_blank b = nat_eq b 9 || nat_eq b 10 || nat_eq b 13 || nat_eq b 32

-- a byte that begins a word: an ASCII letter of either case or an underscore
abbrev pub begins_word : ℕ → Bool
begins_word b = is_letter (to_ascii_lowercase b)

-- a byte that goes on in a word
abbrev pub is_word_byte : ℕ → Bool
is_word_byte b = begins_word b || is_digit b

-- a byte that goes on in a comment: any but a line end
abbrev pub is_comment_byte : ℕ → Bool
is_comment_byte b = not (nat_eq b 10)

-- whether the first byte is of a kind
abbrev pub starts : (ℕ → Bool) → List ℕ → Bool
starts is [] = false
starts is (b ∷ bs) = is b

-- whether a symbol begins at this byte before these
abbrev pub begins_symbol : ℕ → List ℕ → Bool
begins_symbol b r =
    list_any (nat_eq b) (codes "(),.*=") || (nat_eq b 60 && starts (nat_eq 62) r) || (nat_eq b 33 && starts (nat_eq 61) r)

-- a word's spelling: a letter or an underscore, then letters, digits and underscores
abbrev pub is_spelling : List ℕ → Bool
is_spelling w = starts begins_word w && list_all is_word_byte w

-- one digit or more
abbrev pub are_digits : List ℕ → Bool
are_digits ds = starts is_digit ds && list_all is_digit ds

-- bytes with each letter in lower case
abbrev pub lowered : List ℕ → List ℕ
lowered w = map to_ascii_lowercase w

-- a byte of a text as it is written: a quote twice
abbrev pub written : ℕ → List ℕ
written b = if nat_eq b 39 then 39 ∷ 39 ∷ [] else b ∷ []

-- a text's bytes as they are written, each quote twice
abbrev pub doubled : List ℕ → List ℕ
doubled t = flat_map written t

-- the sign as it is written
abbrev pub sign_text : Bool → List ℕ
sign_text true = 45 ∷ []
sign_text false = []

-- the number with this sign and size
abbrev pub signed : Bool → ℕ → ℤ
signed true n = neg_ℤ (pos n)
signed false n = pos n

-- the greatest size that a number of this sign has in 64 bits
abbrev pub greatest : Bool → ℕ
greatest true = 9223372036854775808
greatest false = 9223372036854775807

-- w spells a token, or a blank or a comment, which are none, where r follows
pub data Spells : List ℕ → Option Lexeme → List ℕ → Type 0 where
  blank : {b : ℕ} {r : List ℕ} → IsTrue (is_blank b) → Spells (b ∷ []) None r
  comment : {c r : List ℕ} → IsTrue (list_all is_comment_byte c) → IsFalse (starts is_comment_byte r) → Spells (45 ∷ 45 ∷ c) None r
  word : {w r : List ℕ} → IsTrue (is_spelling w) → IsFalse (starts is_word_byte r) → Spells w (Some (lexeme.Word (lowered w))) r
  number : {w r : List ℕ} (minus : Bool) (ds : List ℕ) → w ≡ sign_text minus ++ ds → IsTrue (are_digits ds) → IsFalse (starts is_digit r)
      → digits_value 10 ds ≤ greatest minus → Spells w (Some (lexeme.Number (signed minus (digits_value 10 ds)))) r
  text : {w r : List ℕ} (t : List ℕ) → w ≡ 39 ∷ doubled t ++ 39 ∷ [] → IsFalse (starts (nat_eq 39) r) → Spells w (Some (lexeme.Text t)) r
  null : {w r : List ℕ} → IsTrue (is_spelling w) → IsFalse (starts is_word_byte r) → Spells (63 ∷ w) (Some (lexeme.Null (lowered w))) r
  left_paren : {r : List ℕ} → Spells (codes "(") (Some (lexeme.Symbol symbol.LeftParen)) r
  right_paren : {r : List ℕ} → Spells (codes ")") (Some (lexeme.Symbol symbol.RightParen)) r
  comma : {r : List ℕ} → Spells (codes ",") (Some (lexeme.Symbol symbol.Comma)) r
  dot : {r : List ℕ} → Spells (codes ".") (Some (lexeme.Symbol symbol.Dot)) r
  star : {r : List ℕ} → Spells (codes "*") (Some (lexeme.Symbol symbol.Star)) r
  equal : {r : List ℕ} → Spells (codes "=") (Some (lexeme.Symbol symbol.Equal)) r
  unequal : {r : List ℕ} → Spells (codes "<>") (Some (lexeme.Symbol symbol.Unequal)) r
  not_equal : {r : List ℕ} → Spells (codes "!=") (Some (lexeme.Symbol symbol.Unequal)) r
