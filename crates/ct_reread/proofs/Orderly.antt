-- How deep lexemes nest, and that none is a name or a set operator.
use Rattle.std.proofs.Common.{◌≡◌, ℕ, ◌+◌, ◌≤◌, max, true, List, [], ◌∷◌, ◌++◌, arith, append_assoc, codes}
use Rattle.std.specs.{Prelude.IsTrue, List.list_all}
use Rattle.ct_lex.specs.declared.token.Lexeme.{Lexeme}
use Rattle.ct_parse.specs.Nest.{turn_of, start_of_level, nest_from}
use Rattle.ct_parse.specs.declared.nest.Turn.TheVariants.{Stays}
use Rattle.ct_reread.specs.Reread.{is_inner}
use Rattle.ct_lex.specs.declared.token.Lexeme.TheVariants as lexeme
use Rattle.ct_lex.specs.declared.token.Symbol.TheVariants as symbol

-- lexemes open at most k parentheses at once, wherever they stand at the start of a level
abbrev pub NestsWithin : List Lexeme → ℕ → Type 0
NestsWithin ls k =
    (opened : List ℕ) (ks : List Lexeme) → nest_from opened (start_of_level opened) (ls ++ ks) ≤ max (start_of_level opened + k) (nest_from opened (start_of_level opened) ks)

-- none of the lexemes is a name or a set operator
abbrev pub AreInner : List Lexeme → Type 0
AreInner ls = (ks : List Lexeme) → IsTrue (list_all is_inner ks) → IsTrue (list_all is_inner (ls ++ ks))

pub record AreOrderly (ls : List Lexeme) (k : ℕ) : Type 0 where
  pub within : NestsWithin ls k
  pub inner : AreInner ls

-- a lexeme that nests nothing
pub record IsCalm (l : Lexeme) : Type 0 where
  pub stays : turn_of l ≡ Stays
  pub inner : is_inner l ≡ true

pub orderly_word : (l : Lexeme) → IsCalm l → AreOrderly (l ∷ []) 0
orderly_word l calm = record {
  within = λ opened ks. rw calm.stays (omega arith);
  inner = λ ks h. rw (calm.inner, h);
}

pub orderly_compared : (l k m : Lexeme) → IsCalm l → IsCalm k → IsCalm m → AreOrderly (l ∷ k ∷ m ∷ []) 0
orderly_compared l k m left sign right = record {
  within = λ opened ks. rw (left.stays, sign.stays, right.stays) (omega arith);
  inner = λ ks h. rw (left.inner, sign.inner, right.inner, h);
}

pub orderly_nothing : AreOrderly [] 0
orderly_nothing = record { within = λ opened ks. omega arith; inner = λ ks h. h }

module _ (ls ms : List Lexeme) (j k : ℕ) (first : AreOrderly ls j) (others : AreOrderly ms k) where
  within_both : NestsWithin (ls ++ ms) (max j k)
  within_both opened ks =
      rw (append_assoc ls ms ks) (omega (arith, first.within opened (ms ++ ks), others.within opened ks))

  inner_both : AreInner (ls ++ ms)
  inner_both ks h = rw (append_assoc ls ms ks) (first.inner (ms ++ ks) (others.inner ks h))

  pub orderly_both : AreOrderly (ls ++ ms) (max j k)
  orderly_both = record { within = within_both; inner = inner_both }

  pub orderly_and : AreOrderly (lexeme.Word (codes "and") ∷ (ls ++ ms)) (max j k)
  orderly_and = record {
    within = λ opened ks. omega (arith, within_both opened ks);
    inner = inner_both;
  }

  pub orderly_or : AreOrderly (lexeme.Word (codes "or") ∷ (ls ++ ms)) (max j k)
  orderly_or = record {
    within = λ opened ks. omega (arith, within_both opened ks);
    inner = inner_both;
  }

pub orderly_nested : (ls : List Lexeme) (k : ℕ) → AreOrderly ls k → AreOrderly (lexeme.Symbol symbol.LeftParen ∷ (ls ++ lexeme.Symbol symbol.RightParen ∷ [])) (k + 1)
orderly_nested ls k h = record {
  within = λ opened ks.
      rw (append_assoc ls (lexeme.Symbol symbol.RightParen ∷ []) ks)
      (omega (arith, h.within (start_of_level opened ∷ opened) (lexeme.Symbol symbol.RightParen ∷ ks)));
  inner = λ ks g. rw (append_assoc ls (lexeme.Symbol symbol.RightParen ∷ []) ks) (h.inner (lexeme.Symbol symbol.RightParen ∷ ks) g);
}
