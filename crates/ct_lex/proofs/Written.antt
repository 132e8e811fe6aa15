-- Words and nulls of a text's tokens have names that are spelled as words.
use Rattle.std.{proofs.Common.{◌≡◌, ℕ, true, ◌||◌, List, [], ◌∷◌, map, refl, arith, Option, Some, None}, specs.List.list_all, specs.Char.to_ascii_lowercase}
use Rattle.std.proofs.lemmas.Bool.Decides.{nat_tests}
use Rattle.ct_word.specs.Writable.{is_letter, is_digit, is_word}
use Rattle.ct_lex.{specs.declared.token.Lexeme.Lexeme, specs.declared.token.Token.Token, specs.Tokens.{LexesFrom, ended, skipped, taken}}
use Rattle.ct_lex.{specs.Spelling.{is_spelling, is_word_byte, lowered, Spells, word, null}, specs.Written.{IsWritten, AreWritten}}

byte_lowered : (b : ℕ) → is_word_byte b ≡ true → (is_letter (to_ascii_lowercase b) || is_digit (to_ascii_lowercase b)) ≡ true
byte_lowered b h = grind (arith, nat_tests)

bytes_lowered : (w : List ℕ) → list_all is_word_byte w ≡ true → list_all (λ c. is_letter c || is_digit c) (lowered w) ≡ true
bytes_lowered [] h = refl
bytes_lowered (b ∷ w) h =
    let first : is_word_byte b ≡ true = grind arith in
    let rest : list_all is_word_byte w ≡ true = grind arith in
    let one = byte_lowered b first in
    let others = bytes_lowered w rest in
    rw (one, others)

pub lowered_is_word : (w : List ℕ) → is_spelling w ≡ true → is_word (lowered w) ≡ true
lowered_is_word [] h = absurd (grind arith)
lowered_is_word (b ∷ w) h =
    let first : is_letter (to_ascii_lowercase b) ≡ true = grind arith in
    let rest : list_all is_word_byte w ≡ true = grind arith in
    let others = bytes_lowered w rest in
    rw (first, others)

abbrev IsFound : Option Lexeme → Type 0
IsFound None = Unit {0}
IsFound (Some l) = IsWritten l

spelled : {w r : List ℕ} {o : Option Lexeme} → Spells w o r → IsFound o
spelled (word {w} h stops) = lowered_is_word w h
spelled (null {w} h stops) = lowered_is_word w h
spelled _ = tt

pub tokens_written : {n : ℕ} {x : List ℕ} {ts : List Token} → LexesFrom n x ts → AreWritten (map (λ t. t.word) ts)
tokens_written ended = tt
tokens_written (skipped w r is spells more) = tokens_written more
tokens_written (taken w r t is spells more) = (spelled spells, tokens_written more)
