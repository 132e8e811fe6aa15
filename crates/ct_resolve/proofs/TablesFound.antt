-- Tables that are found by their names, and those that are not.
use Rattle.std.specs.Prelude.{◌≡◌, ℕ, Bool, true, false, ◌||◌, List, [], ◌∷◌, Option, Some, None, Ok, Err, is_some, if◌then◌else◌, MatchOption}
use Rattle.std.proofs.Common.{refl, ap, sym, ◌∙◌}
use Rattle.ct_word.specs.Value.{same_text}
use Rattle.ct_query.specs.declared.schema.Heading.{Heading}
use Rattle.ct_headings.specs.Named.{heading_in}
use Rattle.ct_resolve.{specs.Found.Found, specs.Names.{table_in, is_table}}
use Rattle.ct_resolve.specs.declared.error.ResolveError.TheVariants as fault

-- what is found, or UnknownTable
abbrev pub known : Option Heading → Found Heading
known None = Err fault.UnknownTable
known (Some h) = Ok h

pub table_is : (hs : List Heading) (name : List ℕ) → table_in hs name ≡ known (heading_in hs name)
table_is [] name = refl
table_is (h ∷ hs) name = by_test (same_text h.name name) (table_is hs name) where
  by_test : (b : Bool) → table_in hs name ≡ known (heading_in hs name) → (if b then Ok h else table_in hs name) ≡ known (if b then Some h else heading_in hs name)
  by_test true e = refl
  by_test false e = e

is_there : (hs : List Heading) (name : List ℕ) → is_table hs name ≡ is_some (heading_in hs name)
is_there [] name = refl
is_there (h ∷ hs) name = by_test (same_text h.name name) (is_there hs name) where
  by_test : (b : Bool) → is_table hs name ≡ is_some (heading_in hs name) → b || is_table hs name ≡ is_some (if b then Some h else heading_in hs name)
  by_test true e = refl
  by_test false e = e

-- whether something is found tells whether a table has the name
pub there_is : {B : Type 0} (of : B → Heading) (o : Option B) (hs : List Heading) (name : List ℕ) → MatchOption o (heading_in hs name ≡ None) (λ b. heading_in hs name ≡ Some (of b)) → is_some o ≡ is_table hs name
there_is of None hs name none = sym (is_there hs name ∙ ap is_some none)
there_is of (Some b) hs name found = sym (is_there hs name ∙ ap is_some found)
