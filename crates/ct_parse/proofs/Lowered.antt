-- A text spells a name where it is one in lower case, and no other.
use Rattle.std.{proofs.Common.{◌≡◌, ℕ, true, false, ◌||◌, List, [], ◌∷◌, refl, sym, ap, subst, ◌∙◌, arith}, specs.List.list_all, specs.Char.to_ascii_lowercase}
use Rattle.std.{proofs.lemmas.Bool.true≢false, proofs.lemmas.Bool.Decides.nat_tests}
use Rattle.ct_word.specs.Writable.{is_letter, is_digit, is_word, is_name}
use Rattle.ct_lex.specs.Spelling.{is_spelling, is_word_byte, lowered, word}
use Rattle.ct_parse.specs.Names.{SpellsName}

byte_spelled : (b : ℕ) → (is_letter (to_ascii_lowercase b) || is_digit (to_ascii_lowercase b)) ≡ true → is_word_byte b ≡ true
byte_spelled b h = grind (arith, nat_tests)

bytes_spelled : (w : List ℕ) → list_all (λ c. is_letter c || is_digit c) (lowered w) ≡ true → list_all is_word_byte w ≡ true
bytes_spelled [] h = refl
bytes_spelled (b ∷ w) h =
    let first : (is_letter (to_ascii_lowercase b) || is_digit (to_ascii_lowercase b)) ≡ true = grind arith in
    let rest : list_all (λ c. is_letter c || is_digit c) (lowered w) ≡ true = grind arith in
    let one = byte_spelled b first in
    let others = bytes_spelled w rest in
    rw (one, others)

word_spelled : (w : List ℕ) → is_word (lowered w) ≡ true → is_spelling w ≡ true
word_spelled [] h = absurd (grind arith)
word_spelled (b ∷ w) h =
    let first : is_letter (to_ascii_lowercase b) ≡ true = grind arith in
    let rest : list_all (λ c. is_letter c || is_digit c) (lowered w) ≡ true = grind arith in
    let others = bytes_spelled w rest in
    rw (first, others)

name_lowered : {w n : List ℕ} → SpellsName w n → n ≡ lowered w
name_lowered (word h stops, p) = refl

pub name_found : {w t : List ℕ} → t ≡ lowered w → is_name t ≡ true → SpellsName w t
name_found {w} {t} e h =
    let is : is_word t ≡ true = grind arith in
    subst (SpellsName w) (sym e) (word (word_spelled w (subst (λ x. is_word x ≡ true) e is)) refl, subst (λ x. is_name x ≡ true) e h)

pub one_name : {w t : List ℕ} → t ≡ lowered w → (n : List ℕ) → SpellsName w n → n ≡ t
one_name e n s = name_lowered s ∙ sym e

pub no_name : {w t : List ℕ} → t ≡ lowered w → is_name t ≡ false → (n : List ℕ) → SpellsName w n → ⊥
no_name e f n s = true≢false (sym s.1 ∙ ap is_name (one_name e n s) ∙ f)
