-- Values, nulls and terms as they are printed.
use Rattle.std.specs.Prelude.{ℕ, ◌+◌, List, [], ◌∷◌, ◌++◌, flat_map, nat_eq, if◌then◌else◌, codes, decimal}
use Rattle.std.specs.List.{join_by}
use Rattle.std.specs.Fmt.{signed_decimal}
use Rattle.ct_word.specs.declared.values.Value.{Value}
use Rattle.ct_word.specs.declared.values.Value.TheVariants as val
use Rattle.ct_word.specs.declared.values.Null.{Null}
use Rattle.ct_word.specs.declared.values.Null.TheVariants as null
use Rattle.ct_word.specs.declared.values.Term.{Term}
use Rattle.ct_word.specs.declared.values.Term.TheVariants as term
use Rattle.ct_word.specs.Value.{World}

-- a text in parentheses
abbrev pub in_parentheses : List ℕ → List ℕ
in_parentheses t = codes "(" ++ t ++ codes ")"

-- the pieces, with a comma and a blank between
abbrev pub with_commas : {X : Type 0} → (X → List ℕ) → List X → List ℕ
with_commas f xs = join_by f (codes ", ") xs

-- a byte of a text, a quote written twice
abbrev pub quoted_byte : ℕ → List ℕ
quoted_byte b = if nat_eq b 39 then 39 ∷ 39 ∷ [] else b ∷ []

-- a value as it is printed
abbrev pub value_text : Value → List ℕ
value_text (val.Int i) = signed_decimal i
value_text (val.Text t) = codes "'" ++ flat_map quoted_byte t ++ codes "'"
value_text (val.Other k) = codes "@" ++ decimal k

-- a null as it is printed
abbrev pub null_text : Null → List ℕ
null_text (null.Named t) = codes "?" ++ t
null_text (null.Fresh s k) = codes "?" ++ decimal s ++ codes "#" ++ decimal k

-- a term as it is printed; columns count from 1
abbrev pub term_text : Term → List ℕ
term_text (term.Column k) = codes "$" ++ decimal (k + 1)
term_text (term.Null n) = null_text n
term_text (term.Value x) = value_text x

-- cells as they are printed
abbrev pub cells_text : List Term → List ℕ
cells_text cells = in_parentheses (with_commas term_text cells)

-- a tuple as it is printed
abbrev pub tuple_text : List Value → List ℕ
tuple_text tuple = in_parentheses (with_commas value_text tuple)

-- a null and its value, as a world is printed
abbrev pub pair_text : Null × Value → List ℕ
pair_text pair = null_text pair.0 ++ codes " = " ++ value_text pair.1

-- a world as it is printed; the empty one gives each null the default value
abbrev pub world_text : World → List ℕ
world_text [] = codes "default"
world_text (pair ∷ pairs) = with_commas pair_text (pair ∷ pairs)
