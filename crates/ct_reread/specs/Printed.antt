-- The conditions whose text is a condition of the grammar.
use Rattle.std.specs.Prelude.{IsTrue, FitsSigned}
use mir.Syntax.{w64}
use Rattle.ct_word.specs.declared.values.Value.TheVariants as val
use Rattle.ct_word.specs.declared.values.Null.TheVariants as null
use Rattle.ct_word.specs.declared.values.Term.{Term}
use Rattle.ct_word.specs.declared.values.Term.TheVariants as term
use Rattle.ct_word.specs.Condition.{Condition, Conditions, True, False, Same, Not, And, Or, none, also}
use Rattle.ct_word.specs.Names.{is_word}

-- a term is printed as one token: a number of 64 bits, a text, or a null whose name is spelled as a word
abbrev pub IsPlain : Term → Type 0
IsPlain (term.Column k) = ⊥
IsPlain (term.Null (null.Named t)) = IsTrue (is_word t)
IsPlain (term.Null (null.Fresh s n)) = ⊥
IsPlain (term.Value (val.Int i)) = FitsSigned w64 i
IsPlain (term.Value (val.Text t)) = Unit {0}
IsPlain (term.Value (val.Other k)) = ⊥

-- there is a part
abbrev pub HasPart : Conditions → Type 0
HasPart none = ⊥
HasPart (also c cs) = Unit {0}

-- a condition that a node list may have, with such terms: only equalities are denied, and each And and Or has a part
abbrev mutual
  pub IsPrinted : (Term → Type 0) → Condition → Type 0
  IsPrinted P True = Unit {0}
  IsPrinted P False = Unit {0}
  IsPrinted P (Same s t) = P s × P t
  IsPrinted P (Not (Same s t)) = P s × P t
  IsPrinted P (Not c) = ⊥
  IsPrinted P (And cs) = HasPart cs × ArePrinted P cs
  IsPrinted P (Or cs) = HasPart cs × ArePrinted P cs

  -- each of these is
  pub ArePrinted : (Term → Type 0) → Conditions → Type 0
  ArePrinted P none = Unit {0}
  ArePrinted P (also c cs) = IsPrinted P c × ArePrinted P cs
