-- The name that a word is.
use Rattle.std.proofs.Common.{◌≡◌, ℕ, Bool, true, false, List, refl}
use Rattle.std.specs.Prelude.{Option, Some, None, IfSome, IfNone, IfOk, Result, Ok, Err}
use Rattle.ct_word.specs.Names.{is_name}
use Rattle.ct_lex.specs.Spelling.{lowered, word}
use Rattle.ct_parse.{specs.Names.SpellsName, proofs.Lowered.name_found}
use Rattle.ct_words.specs.Asked.{name_in}

some_name : {w n : List ℕ} → SpellsName w n → ◌≡◌ {A = Option (List ℕ)} (Some n) (name_in w)
some_name (word h stops, p) = rw p refl

no_name : (w : List ℕ) (b : Bool) → is_name (lowered w) ≡ b → ((n : List ℕ) → SpellsName w n → ⊥) → ◌≡◌ {A = Option (List ℕ)} None (name_in w)
no_name w true e none = absurd (none (lowered w) (name_found refl e))
no_name w false e none = rw e refl

name_is : (w : List ℕ) (o : Option (List ℕ)) → IfSome o (λ n. SpellsName w n) → IfNone o ((n : List ℕ) → SpellsName w n → ⊥) → o ≡ name_in w
name_is w (Some n) s h = some_name s
name_is w None s h = no_name w (is_name (lowered w)) refl h

pub named : {E : Type 0} (w : List ℕ) (r : Result (Option (List ℕ)) E) → IfOk r (λ o. IfSome o (λ n. SpellsName w n)) → IfOk r (λ o. IfNone o ((n : List ℕ) → SpellsName w n → ⊥)) → IfOk r (λ o. o ≡ name_in w)
named w (Ok o) s h = name_is w o s h
named w (Err e) s h = tt
