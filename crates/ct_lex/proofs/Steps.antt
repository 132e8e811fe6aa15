-- The steps of the loop over a text's tokens.
use Rattle.std.proofs.Common.{◌≡◌, ℕ, true, false, ◌+◌, ◌-◌, ◌<◌, ◌≤◌, List, [], ◌∷◌, ◌++◌, length, take, drop, refl, sym, subst, ◌∙◌, ap, arith, append_assoc, Option, Some, None, take-append-drop, length-append}
use Rattle.std.{specs.Prelude.slice_range, proofs.lemmas.List.{take_at, drop_at, drop-drop, length-take-le, drop_all}}
use Rattle.ct_lex.{specs.declared.token.Lexeme.Lexeme, specs.declared.token.LexError.LexError, specs.declared.token.Token.Token, specs.Scan.IsFront}
use Rattle.ct_lex.specs.Spelling.{Spells, word, number, text as literal, is_spelling, are_digits}
use Rattle.ct_lex.specs.Tokens.{LexesFrom, ended, skipped, taken, AreSlicesFrom, FaultsFrom, later}

-- the token of a front, if it is one, before the others
abbrev pub with_front : ℕ → ℕ → Option Lexeme → List Token → List Token
with_front n len None ts = ts
with_front n len (Some t) ts = record { word = t; start = n; end = n + len } ∷ ts

front_length : (x : List ℕ) (len : ℕ) (o : Option Lexeme) → IsFront x len o → length (take len x) ≡ len
front_length x len o front = length-take-le len x front.cut.0

-- a front, and the tokens behind it
pub front_lexes : (text : List ℕ) (n len : ℕ) (o : Option Lexeme) (ts : List Token) → IsFront (drop n text) len o → LexesFrom (n + len) (drop (n + len) text) ts
    → LexesFrom n (drop n text) (with_front n len o ts)
front_lexes text n len o ts front more =
    let x = drop n text in
    let w = take len x in
    let is : x ≡ w ++ drop len x = sym (take-append-drop len x) in
    let at : length w ≡ len = front_length x len o front in
    let rest : LexesFrom (n + length w) (drop len x) ts = subst (λ k. LexesFrom (n + k) (drop len x) ts) (sym at) (subst (λ y. LexesFrom (n + len) y ts) (sym (drop-drop len n text)) more) in
    lexed o front.spells is at rest
  where
    lexed : {x r : List ℕ} {w : List ℕ} (o : Option Lexeme) → Spells w o r → x ≡ w ++ r → length w ≡ len → LexesFrom (n + length w) r ts → LexesFrom n x (with_front n len o ts)
    lexed {w = w} None spells is at rest = skipped w _ is spells rest
    lexed {x} {w = w} (Some t) spells is at rest = subst (λ k. LexesFrom n x (record { word = t; start = n; end = n + k } ∷ ts)) at (taken w _ t is spells rest)

-- a front, and the fault behind it
pub front_faults : (text : List ℕ) (n len : ℕ) (o : Option Lexeme) (place : ℕ) (e : LexError) → IsFront (drop n text) len o → FaultsFrom (n + len) (drop (n + len) text) place e
    → FaultsFrom n (drop n text) place e
front_faults text n len o place e front more =
    let x = drop n text in
    let w = take len x in
    let is : x ≡ w ++ drop len x = sym (take-append-drop len x) in
    let at : length w ≡ len = front_length x len o front in
    later w (drop len x) o is front.spells (subst (λ k. FaultsFrom (n + k) (drop len x) place e) (sym at) (subst (λ y. FaultsFrom (n + len) y place e) (sym (drop-drop len n text)) more))

-- where the text ends
pub end_lexes : (text : List ℕ) (n : ℕ) → length text ≤ n → LexesFrom n (drop n text) []
end_lexes text n past = rw (drop_all n text past) ended

pub some_spelled : {w r : List ℕ} {o : Option Lexeme} → Spells w o r → 0 < length w
some_spelled (word {w} spelled stops) = elim w as (λ v. is_spelling v ≡ true → 0 < length v) [ [] ↦ λ h. absurd (grind arith) | ◌∷◌ b v ↦ λ h. omega arith ] spelled
some_spelled (number true ds is digits stops within) = rw is (omega arith)
some_spelled (number false ds is digits stops within) = rw is (elim ds as (λ v. are_digits v ≡ true → 0 < length v) [ [] ↦ λ h. absurd (grind arith) | ◌∷◌ b v ↦ λ h. omega arith ] digits)
some_spelled (literal t is stops) = rw is (omega arith)
some_spelled _ = omega arith

slice_there : (before w r : List ℕ) (n : ℕ) → length before ≡ n → slice_range ((before ++ w) ++ r) n (n + length w) ≡ w
slice_there before w r n at =
    let size : (n + length w) - n ≡ length w = omega arith in
    rw (append_assoc before w r, drop_at before (w ++ r) n at, size) (take_at w r (length w) refl)

-- the spans of tokens rise, and each slice spells its token
pub slices : {n : ℕ} {x : List ℕ} {ts : List Token} (before : List ℕ) (m : ℕ) → length before ≡ n → m ≤ n → LexesFrom n x ts → AreSlicesFrom m (before ++ x) ts
slices before m at le ended = tt
slices {n} {ts = ts} before m at le (skipped w r is spells more) =
    let joined : (before ++ w) ++ r ≡ before ++ _ = append_assoc before w r ∙ ap (λ y. before ++ y) (sym is) in
    subst (λ y. AreSlicesFrom m y ts) joined (slices (before ++ w) m (length-append before w ∙ ap (λ k. k + length w) at) (omega arith) more)
slices {n} before m at le (taken {ts = ts} w r t is spells more) =
    let joined : (before ++ w) ++ r ≡ before ++ _ = append_assoc before w r ∙ ap (λ y. before ++ y) (sym is) in
    let end : length (before ++ w) ≡ n + length w = length-append before w ∙ ap (λ k. k + length w) at in
    subst (λ y. AreSlicesFrom m y (record { word = t; start = n; end = n + length w } ∷ ts)) joined (
      le,
      omega (arith, some_spelled spells),
      omega (arith, length-append (before ++ w) r),
      rw (slice_there before w r n at, drop_at (before ++ w) r (n + length w) end) spells,
      slices (before ++ w) (n + length w) end (omega arith) more,
    )
