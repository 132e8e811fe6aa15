-- Literals, each put into a list once.
use Rattle.std.specs.Prelude.{List, [], ◌∷◌, ◌++◌, cond}
use Rattle.ct_derivation.specs.declared.literals.Lit.{Lit}
use Rattle.ct_derivation.specs.Literal.{has}

-- the literals and one more, unless it is among them
unfoldable pub added : List Lit → Lit → List Lit
added ls l = cond (has ls l) ls (ls ++ l ∷ [])

-- the literals and each of some more that is not among those before it
abbrev pub added_all : List Lit → List Lit → List Lit
added_all ls [] = ls
added_all ls (m ∷ ms) = added_all (added ls m) ms
