-- The name that a whole field is.
use Rattle.std.{proofs.Common.{◌≡◌, ℕ, Bool, true, false, ◌||◌, List, [], ◌∷◌, refl, ap, ap₂, ◌∙◌, arith}, specs.List.list_all, specs.Char.to_ascii_lowercase}
use Rattle.std.{specs.Prelude.{Option, Some, None, IfSome, IfNone, IfOk, Result, Ok, Err, if◌then◌else◌}, specs.Option.is_some, proofs.lemmas.Bool.Decides.nat_tests}
use Rattle.ct_word.specs.Names.{is_letter, is_digit, is_word, is_name}
use Rattle.ct_lex.specs.Spelling.{lowered, word}
use Rattle.ct_parse.{specs.Names.SpellsName, proofs.Lowered.name_found}
use Rattle.ct_csv.specs.Fields.{field_name}

some_name : {w n : List ℕ} → SpellsName w n → ◌≡◌ {A = Option (List ℕ)} (Some n) (field_name w)
some_name (word h stops, p) = rw p refl

no_name : (w : List ℕ) (b : Bool) → is_name (lowered w) ≡ b → ((n : List ℕ) → SpellsName w n → ⊥) → ◌≡◌ {A = Option (List ℕ)} None (field_name w)
no_name w true e none = absurd (none (lowered w) (name_found refl e))
no_name w false e none = rw e refl

pub name_is : (w : List ℕ) (o : Option (List ℕ)) → IfSome o (λ n. SpellsName w n) → IfNone o ((n : List ℕ) → SpellsName w n → ⊥) → o ≡ field_name w
name_is w (Some n) s h = some_name s
name_is w None s h = no_name w (is_name (lowered w)) refl h

pub named : {E : Type 0} (w : List ℕ) (r : Result (Option (List ℕ)) E) → IfOk r (λ o. IfSome o (λ n. SpellsName w n)) → IfOk r (λ o. IfNone o ((n : List ℕ) → SpellsName w n → ⊥)) → IfOk r (λ o. o ≡ field_name w)
named w (Ok o) s h = name_is w o s h
named w (Err e) s h = tt

byte_low : (b : ℕ) → (is_letter b || is_digit b) ≡ true → to_ascii_lowercase b ≡ b
byte_low b h = grind (arith, nat_tests)

bytes_low : (w : List ℕ) → list_all (λ c. is_letter c || is_digit c) w ≡ true → lowered w ≡ w
bytes_low [] h = refl
bytes_low (b ∷ w) h =
    let first : (is_letter b || is_digit b) ≡ true = grind arith in
    let rest : list_all (λ c. is_letter c || is_digit c) w ≡ true = grind arith in
    ap₂ (λ (c : ℕ) (cs : List ℕ). c ∷ cs) (byte_low b first) (bytes_low w rest)

word_low : (w : List ℕ) → is_word w ≡ true → lowered w ≡ w
word_low [] h = refl
word_low (b ∷ w) h =
    let first : (is_letter b || is_digit b) ≡ true = grind arith in
    let rest : list_all (λ c. is_letter c || is_digit c) w ≡ true = grind arith in
    ap₂ (λ (c : ℕ) (cs : List ℕ). c ∷ cs) (byte_low b first) (bytes_low w rest)

some_if : (b : Bool) (n : List ℕ) → is_some (if b then Some n else None) ≡ b
some_if true n = refl
some_if false n = refl

-- a word in lower case is a name where there is one that it spells
pub word_named : (w : List ℕ) (o : Option (List ℕ)) → IfSome o (λ n. SpellsName w n) → IfNone o ((n : List ℕ) → SpellsName w n → ⊥) → is_word w ≡ true → is_some o ≡ is_name w
word_named w o s h low = ap is_some (name_is w o s h) ∙ some_if (is_name (lowered w)) (lowered w) ∙ ap is_name (word_low w low)
