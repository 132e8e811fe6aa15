-- Bytes that spell lexemes one after the other, with blanks between and no comment.
use Rattle.std.proofs.Common.{◌≡◌, ℕ, ◌+◌, Bool, true, false, ◌||◌, List, [], ◌∷◌, ◌++◌, length, refl, ap, sym, ◌∙◌, subst, append_assoc, append-nil, arith, Option, Some, IsTrue, nat_eq}
use Rattle.std.{specs.List.list_all, proofs.lemmas.Bool.Decides.nat_tests, proofs.lemmas.List.Folds.list_all-append}
use Rattle.ct_word.specs.Writable.{is_digit}
use Rattle.ct_lex.{specs.declared.token.Lexeme.Lexeme, specs.declared.token.Token.Token, specs.Tokens.{LexesFrom, ended, skipped, taken}}
use Rattle.ct_lex.specs.Spelling.{Spells, blank, comment, word, number, text, null, left_paren, right_paren, comma, dot, star, equal, unequal, not_equal, starts, doubled, sign_text, are_digits, is_blank, is_word_byte}
use Rattle.ct_lex.{specs.Texts.begins_comment, specs.Splitting.{is_no_quote, IsPiece, ended as piece_ended, literal, other}}
use Rattle.ct_parse.specs.Grammar.{said}

-- bytes spell these lexemes, where r follows
pub data AreSpelled : List ℕ → List Lexeme → List ℕ → Type 0 where
  nothing : {r : List ℕ} → AreSpelled [] [] r
  blank_first : {b : ℕ} {x r : List ℕ} {ls : List Lexeme} → IsTrue (is_blank b) → AreSpelled x ls r → AreSpelled (b ∷ x) ls r
  one_first : {x r : List ℕ} {ls : List Lexeme} (w y : List ℕ) (l : Lexeme) → x ≡ w ++ y → Spells w (Some l) (y ++ r) → AreSpelled y ls r → AreSpelled x (l ∷ ls) r

-- bytes before others
pub joined : {x y r s : List ℕ} {ls ks : List Lexeme} → AreSpelled x ls s → s ≡ y ++ r → AreSpelled y ks r → AreSpelled (x ++ y) (ls ++ ks) r
joined nothing e others = others
joined (blank_first h more) e others = blank_first h (joined more e others)
joined {y = y} {r = r} (one_first w z l is spells more) e others =
    one_first w (z ++ y) l (ap (λ v. v ++ y) is ∙ append_assoc w z y) (subst (Spells w (Some l)) (ap (λ v. z ++ v) e ∙ sym (append_assoc z y r)) spells) (joined more e others)

-- with their places the lexemes are tokens
pub placed : {x : List ℕ} {ls : List Lexeme} (n : ℕ) → AreSpelled x ls [] → (ts : List Token) × LexesFrom n x ts × (said ts ≡ ls)
placed n nothing = ([], ended, refl)
placed n (blank_first {b} {x} h more) = let rest = placed (n + 1) more in (rest.0, skipped (b ∷ []) x refl (blank h) rest.1, rest.2)
placed n (one_first w y l is spells more) =
    let rest = placed (n + length w) more in
    (record { word = l; start = n; end = n + length w } ∷ rest.0, taken w y l is (subst (Spells w (Some l)) (append-nil y) spells) rest.1, ap (λ ks. l ∷ ks) rest.2)

-- what may follow any token
pub record IsFree (r : List ℕ) : Type 0 where
  pub no_word : starts is_word_byte r ≡ false
  pub no_digit : starts is_digit r ≡ false
  pub no_quote : starts (nat_eq 39) r ≡ false

pub free_end : IsFree []
free_end = record { no_word = refl; no_digit = refl; no_quote = refl }

pub free_blank : {r : List ℕ} → IsFree (32 ∷ r)
free_blank = record { no_word = refl; no_digit = refl; no_quote = refl }

pub free_comma : {r : List ℕ} → IsFree (44 ∷ r)
free_comma = record { no_word = refl; no_digit = refl; no_quote = refl }

pub free_close : {r : List ℕ} → IsFree (41 ∷ r)
free_close = record { no_word = refl; no_digit = refl; no_quote = refl }

-- what spells a token before some bytes spells it before any such
pub respelled : {w r : List ℕ} {o : Option Lexeme} {l : Lexeme} (s : List ℕ) → IsFree s → Spells w o r → o ≡ Some l → Spells w o s
respelled s free (blank h) is = cc is
respelled s free (comment h k) is = cc is
respelled s free (word h stops) is = word h free.no_word
respelled s free (number minus ds whole h stops within) is = number minus ds whole h free.no_digit within
respelled s free (text t whole stops) is = text t whole free.no_quote
respelled s free (null h stops) is = null h free.no_word
respelled s free left_paren is = left_paren
respelled s free right_paren is = right_paren
respelled s free comma is = comma
respelled s free dot is = dot
respelled s free star is = star
respelled s free equal is = equal
respelled s free unequal is = unequal
respelled s free not_equal is = not_equal

-- a byte of a word ends no piece
word_inside : (b : ℕ) (z : List ℕ) → is_word_byte b ≡ true → (nat_eq b 59 || nat_eq b 39 || begins_comment b z) ≡ false
word_inside b z h =
    let semicolon : nat_eq b 59 ≡ false = grind (arith, nat_tests) in
    let quote : nat_eq b 39 ≡ false = grind (arith, nat_tests) in
    let minus : nat_eq b 45 ≡ false = grind (arith, nat_tests) in
    rw (semicolon, quote, minus)

blank_inside : (b : ℕ) (z : List ℕ) → is_blank b ≡ true → (nat_eq b 59 || nat_eq b 39 || begins_comment b z) ≡ false
blank_inside b z h =
    let semicolon : nat_eq b 59 ≡ false = grind (arith, nat_tests) in
    let quote : nat_eq b 39 ≡ false = grind (arith, nat_tests) in
    let minus : nat_eq b 45 ≡ false = grind (arith, nat_tests) in
    rw (semicolon, quote, minus)

word_piece : (w y s : List ℕ) → list_all is_word_byte w ≡ true → IsPiece y s → IsPiece (w ++ y) s
word_piece [] y s h more = more
word_piece (b ∷ w) y s h more =
    let first : is_word_byte b ≡ true = grind arith in
    let rest : list_all is_word_byte w ≡ true = grind arith in
    other (word_inside b ((w ++ y) ++ s) first) (word_piece w y s rest more)

digits_are : (ds : List ℕ) → list_all is_digit ds ≡ true → list_all is_word_byte ds ≡ true
digits_are [] h = refl
digits_are (d ∷ ds) h =
    let first : is_word_byte d ≡ true = grind (arith, nat_tests) in
    let rest : list_all is_digit ds ≡ true = grind arith in
    let others = digits_are ds rest in
    rw (first, others)

-- the digit behind a minus begins no comment
minus_inside : (ds z : List ℕ) → are_digits ds ≡ true → starts (nat_eq 45) (ds ++ z) ≡ false
minus_inside [] z h = absurd (grind arith)
minus_inside (d ∷ ds) z h = grind (arith, nat_tests)

number_piece : (minus : Bool) (ds y s : List ℕ) → are_digits ds ≡ true → IsPiece y s → IsPiece ((sign_text minus ++ ds) ++ y) s
number_piece true ds y s h more =
    let all : list_all is_digit ds ≡ true = grind arith in
    let calm : starts (nat_eq 45) ((ds ++ y) ++ s) ≡ false = ap (starts (nat_eq 45)) (append_assoc ds y s) ∙ minus_inside ds (y ++ s) h in
    other (rw calm) (word_piece ds y s (digits_are ds all) more)
number_piece false ds y s h more =
    let all : list_all is_digit ds ≡ true = grind arith in
    word_piece ds y s (digits_are ds all) more

-- a text is a run of literals side by side; u is what was read of one of them, and t is left
abbrev quoted : List ℕ → List ℕ → List ℕ → List ℕ
quoted u t y = (39 ∷ (u ++ (doubled t ++ 39 ∷ []))) ++ y

text_more : (u : List ℕ) (b : ℕ) (t y s : List ℕ) (q : Bool) → nat_eq b 39 ≡ q → list_all is_no_quote u ≡ true → IsPiece (quoted [] t y) s
    → (list_all is_no_quote (u ++ b ∷ []) ≡ true → IsPiece (quoted (u ++ b ∷ []) t y) s) → IsPiece (quoted u (b ∷ t) y) s
text_more u b t y s true e h begun longer =
    let rest = 39 ∷ (doubled t ++ 39 ∷ []) in
    rw e (literal u h (ap (λ v. 39 ∷ v) (append_assoc u (39 ∷ rest) y ∙ sym (append_assoc u (39 ∷ []) (rest ++ y)))) begun)
text_more u b t y s false e h begun longer =
    let rest = doubled t ++ 39 ∷ [] in
    let last : list_all is_no_quote (b ∷ []) ≡ true = rw e in
    let whole : (39 ∷ ((u ++ b ∷ []) ++ rest)) ++ y ≡ (39 ∷ (u ++ (b ∷ rest))) ++ y = ap (λ v. (39 ∷ v) ++ y) (append_assoc u (b ∷ []) rest) in
    rw e (subst (λ v. IsPiece v s) whole (longer (rw (list_all-append is_no_quote u (b ∷ []), h, last))))

text_piece : (u t y s : List ℕ) → list_all is_no_quote u ≡ true → IsPiece y s → IsPiece (quoted u t y) s
text_piece u [] y s h more = literal u h refl more
text_piece u (b ∷ t) y s h more = text_more u b t y s (nat_eq b 39) refl h (text_piece [] t y s refl more) (λ k. text_piece (u ++ b ∷ []) t y s k more)

-- a token stands whole in a piece
token_piece : {w r : List ℕ} {o : Option Lexeme} {l : Lexeme} (y s : List ℕ) → Spells w o r → o ≡ Some l → IsPiece y s → IsPiece (w ++ y) s
token_piece y s (blank h) is more = cc is
token_piece y s (comment h k) is more = cc is
token_piece y s (word {w} h stops) is more = let all : list_all is_word_byte w ≡ true = grind arith in word_piece w y s all more
token_piece y s (number minus ds whole h stops within) is more = subst (λ v. IsPiece (v ++ y) s) (sym whole) (number_piece minus ds y s h more)
token_piece y s (text t whole stops) is more = subst (λ v. IsPiece (v ++ y) s) (sym whole) (text_piece [] t y s refl more)
token_piece y s (null {w} h stops) is more = let all : list_all is_word_byte w ≡ true = grind arith in other refl (word_piece w y s all more)
token_piece y s left_paren is more = other refl more
token_piece y s right_paren is more = other refl more
token_piece y s comma is more = other refl more
token_piece y s dot is more = other refl more
token_piece y s star is more = other refl more
token_piece y s equal is more = other refl more
token_piece y s unequal is more = other refl (other refl more)
token_piece y s not_equal is more = other refl (other refl more)

-- such bytes are a piece of a script, whatever follows
pub pieced : {x r : List ℕ} {ls : List Lexeme} (s : List ℕ) → AreSpelled x ls r → IsPiece x s
pieced s nothing = piece_ended
pieced s (blank_first {b} {x} h more) = other (blank_inside b (x ++ s) h) (pieced s more)
pieced s (one_first w y l is spells more) = subst (λ z. IsPiece z s) (sym is) (token_piece y s spells refl (pieced s more))
