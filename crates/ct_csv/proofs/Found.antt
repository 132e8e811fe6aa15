-- What the private calls of `src/fields.rt` find.
use Rattle.std.proofs.Common.{◌≡◌, ℕ, zero, suc, ◌-◌, ◌<◌, Bool, true, false, List, [], ◌∷◌, length, take, get_or, refl, sym, ap, subst, ◌∙◌, arith, length-take}
use Rattle.std.{specs.Prelude.{Option, Some, None, Ok, Err, codes, if◌then◌else◌}, proofs.lemmas.List.get_or-take}
use Rattle.csv.specs.Records.{field_at}
use Rattle.ct_word.specs.Value.{same_text}
use Rattle.ct_lex.{specs.declared.token.Token.Token, specs.Reading.Read}
use Rattle.ct_csv.specs.Fields.{found, cell_fields, condition_field, field_name, names_of, some_of, columns_of}
use Rattle.ct_csv.proofs.Rows.{names_none, few_fields}

pub some_field : (fs : List (List ℕ)) (k : ℕ) (t : List ℕ) → Some t ≡ field_at fs k → t ≡ get_or fs k []
unfolding field_at
some_field [] k t e = cc e
some_field (f ∷ fs) zero t e = cc
some_field (f ∷ fs) (suc k) t e = some_field fs k t e

pub none_field : (fs : List (List ℕ)) (k : ℕ) → ◌≡◌ {A = Option (List ℕ)} None (field_at fs k) → ◌≡◌ {A = List ℕ} [] (get_or fs k [])
unfolding field_at
none_field [] k e = refl
none_field (f ∷ fs) zero e = cc e
none_field (f ∷ fs) (suc k) e = none_field fs k e

pub found_some : (r : Read) (ts : List Token) → Some ts ≡ found r → r ≡ Ok ts
found_some (Ok us) ts e = let same : ts ≡ us = cc in ap Ok (sym same)
found_some (Err x) ts e = cc e

pub nothing : (xs : List ℕ) → length xs ≡ 0 → xs ≡ []
nothing [] e = refl
nothing (x ∷ xs) e = absurd (omega (arith, e))

if_false : (b : Bool) (o : Option (List (List ℕ))) → b ≡ false → (if b then o else None) ≡ None
if_false true o e = cc e
if_false false o e = refl

if_none : (b : Bool) (o : Option (List (List ℕ))) → o ≡ None → (if b then o else None) ≡ None
if_none true o e = e
if_none false o e = refl

some_names : (names : List (List ℕ)) → 0 < length names → some_of (Some names) ≡ Some names
some_names [] h = absurd (omega arith)
some_names (n ∷ ns) h = refl

pub columns_are : (fields names : List (List ℕ)) (last : ℕ) → last ≡ length fields - 1 → same_text (get_or fields last []) (codes "if") ≡ true
    → names_of (take last fields) ≡ Some names → length names ≡ last → 0 < last → columns_of fields ≡ Some names
columns_are fields names last at is named size some =
    let is' : same_text (condition_field fields) (codes "if") ≡ true = subst (λ n. same_text (get_or fields n []) (codes "if") ≡ true) at is in
    let named' : names_of (cell_fields fields) ≡ Some names = subst (λ n. names_of (take n fields) ≡ Some names) at named in
    rw (is', named') (some_names names (omega (arith, size)))

pub not_if : (fields : List (List ℕ)) (last : ℕ) → last ≡ length fields - 1 → same_text (get_or fields last []) (codes "if") ≡ false → columns_of fields ≡ None
not_if fields last at is =
    let is' : same_text (condition_field fields) (codes "if") ≡ false = subst (λ n. same_text (get_or fields n []) (codes "if") ≡ false) at is in
    if_false _ _ is'

pub too_few : (fields : List (List ℕ)) (last : ℕ) → last ≡ length fields - 1 → last ≡ 0 → columns_of fields ≡ None
too_few fields last at none = if_none _ _ (few_fields fields (omega (arith, at, none)))

some_of_none : (o : Option (List (List ℕ))) → o ≡ None → some_of o ≡ None
some_of_none o e = rw e refl

pub no_name_at : (fields : List (List ℕ)) (last k : ℕ) → last ≡ length fields - 1 → k < last → field_name (get_or fields k []) ≡ None → columns_of fields ≡ None
no_name_at fields last k at less none =
    let size : length (cell_fields fields) ≡ length fields - 1 = omega (arith, length-take (length fields - 1) fields) in
    let here : field_name (get_or (cell_fields fields) k []) ≡ None = ap field_name (get_or-take (length fields - 1) fields k [] (omega (arith, at))) ∙ none in
    if_none _ _ (some_of_none _ (names_none (cell_fields fields) k (omega (arith, at, size)) here))
