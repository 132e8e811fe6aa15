-- The tokens of a text, and its leftmost fault.
use Rattle.std.specs.Prelude.{◌≡◌, ℕ, ◌+◌, ◌<◌, ◌≤◌, Bool, ◌||◌, ◌&&◌, List, [], ◌∷◌, ◌++◌, length, drop, slice_range, nat_eq, Option, Some, None, IsTrue, IsFalse}
use Rattle.std.specs.Str.Parse.{digits_value}
use Rattle.ct_word.specs.Writable.{is_digit}
use Rattle.ct_lex.specs.declared.token.Lexeme.{Lexeme}
use Rattle.ct_lex.specs.declared.token.Token.{Token}
use Rattle.ct_lex.specs.declared.token.LexError.{LexError}
use Rattle.ct_lex.specs.declared.token.LexError.TheVariants as fault
use Rattle.ct_lex.specs.Spelling.{Spells, is_blank, begins_word, begins_symbol, starts, are_digits, doubled, sign_text, greatest}

-- the tokens of the bytes x, which stand at the place n of a text
pub data LexesFrom : ℕ → List ℕ → List Token → Type 0 where
  ended : {n : ℕ} → LexesFrom n [] []
  skipped : {n : ℕ} {x : List ℕ} {ts : List Token} (w r : List ℕ) → x ≡ w ++ r → Spells w None r → LexesFrom (n + length w) r ts → LexesFrom n x ts
  taken : {n : ℕ} {x : List ℕ} {ts : List Token} (w r : List ℕ) (t : Lexeme) → x ≡ w ++ r → Spells w (Some t) r → LexesFrom (n + length w) r ts
      → LexesFrom n x (record { word = t; start = n; end = n + length w } ∷ ts)

-- the tokens of a text
abbrev pub Lexes : List ℕ → List Token → Type 0
Lexes text tokens = LexesFrom 0 text tokens

-- from the place n on the spans rise within the text, and each token's slice spells it before what follows
abbrev pub AreSlicesFrom : ℕ → List ℕ → List Token → Type 0
AreSlicesFrom n text [] = Unit {0}
AreSlicesFrom n text (t ∷ ts) =
    (n ≤ t.start) × (t.start < t.end) × (t.end ≤ length text) × Spells (slice_range text t.start t.end) (Some t.word) (drop t.end text) × AreSlicesFrom t.end text ts

-- the spans rise, and each token's text is its slice
abbrev pub AreSlices : List ℕ → List Token → Type 0
AreSlices text tokens = AreSlicesFrom 0 text tokens

-- whether a blank, a comment or a token begins at this byte before these, a text without its end and a number out of range among them
abbrev pub is_beginning : ℕ → List ℕ → Bool
is_beginning b r =
    is_blank b || begins_word b || is_digit b || nat_eq b 39 || (nat_eq b 45 && (starts (nat_eq 45) r || starts is_digit r))
    || (nat_eq b 63 && starts begins_word r) || begins_symbol b r

-- the fault at the front of the bytes
pub data FaultsHere : List ℕ → LexError → Type 0 where
  open_text : {x : List ℕ} (t : List ℕ) → x ≡ 39 ∷ doubled t → FaultsHere x fault.OpenText
  number_range : {x : List ℕ} (minus : Bool) (ds r : List ℕ) → x ≡ (sign_text minus ++ ds) ++ r → IsTrue (are_digits ds) → IsFalse (starts is_digit r)
      → greatest minus < digits_value 10 ds → FaultsHere x fault.NumberRange
  stray_byte : {b : ℕ} {r : List ℕ} → IsFalse (is_beginning b r) → FaultsHere (b ∷ r) fault.StrayByte

-- the leftmost fault of the bytes x, which stand at the place n of a text, and its place
pub data FaultsFrom : ℕ → List ℕ → ℕ → LexError → Type 0 where
  here : {n : ℕ} {x : List ℕ} {e : LexError} → FaultsHere x e → FaultsFrom n x n e
  later : {n place : ℕ} {x : List ℕ} {e : LexError} (w r : List ℕ) (o : Option Lexeme) → x ≡ w ++ r → Spells w o r
      → FaultsFrom (n + length w) r place e → FaultsFrom n x place e

-- the leftmost fault of a text stands at this place
abbrev pub FaultsAt : List ℕ → ℕ → LexError → Type 0
FaultsAt text place e = FaultsFrom 0 text place e
