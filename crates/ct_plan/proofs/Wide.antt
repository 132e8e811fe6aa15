-- The tuples of a query that fits are as wide as the query, on a database with the schema.
use Rattle.std.proofs.Common.{◌≡◌, ℕ, ◌+◌, Bool, true, false, List, [], ◌∷◌, ◌++◌, map, length, sym, subst, ◌∙◌, length-append}
use Rattle.std.{specs.Prelude.{not, All, if◌then◌else◌, Some}, proofs.lemmas.List.length-map}
use Rattle.std.proofs.lemmas.List.Elements.{All-nil, All-weaker, All-append, All-map, All-filter, All-head, All-tail}
use Rattle.ct_word.{specs.declared.values.Value.Value, specs.Value.{World, cell_at, same_text}, specs.Condition.holds}
use Rattle.ct_query.specs.declared.schema.Heading.{Heading}
use Rattle.ct_query.{specs.Plain.{PlainQuery, Table, Select, Project, Product, Union, Except, Intersect}, specs.Fits.{Fits, width, columns_in, count_of}}
use Rattle.ct_query.{specs.Database.{Database, tuples_of, has_tuple}, specs.Rows.{rows, joins}}
use Rattle.ct_plan.specs.Over.{HasSchema}

-- each tuple has so many values
abbrev pub AreWide : ℕ → List (List Value) → Type 0
AreWide n tuples = All (λ t. length t ≡ n) tuples

one_row : (l : List Value) (n m : ℕ) (rs : List (List Value)) → length l ≡ n → AreWide m rs → AreWide (n + m) (map (λ r. l ++ r) rs)
one_row l n m rs e all =
    All-map (λ t. length t ≡ n + m) (λ r. l ++ r) rs (All-weaker (λ r. length r ≡ m) (λ r. length (l ++ r) ≡ n + m) (λ r f. length-append l r ∙ (λ i. e i + f i)) rs all)

wide_joins : (n m : ℕ) (ls rs : List (List Value)) → AreWide n ls → AreWide m rs → AreWide (n + m) (joins ls rs)
wide_joins n m [] rs left right = All-nil (λ t. length t ≡ n + m)
wide_joins n m (l ∷ ls) rs left right =
    All-append (λ t. length t ≡ n + m) (map (λ r. l ++ r) rs) (joins ls rs) (one_row l n m rs (All-head (λ t. length t ≡ n) l ls left) right)
    (wide_joins n m ls rs (All-tail (λ t. length t ≡ n) l ls left) right)

table_wide : (s : List Heading) (w : Database) (t : List ℕ) → HasSchema s w → AreWide (count_of (columns_in s t)) (tuples_of w t)
table_wide [] [] t has = All-nil (λ r. length r ≡ 0)
table_wide (h ∷ s) (r ∷ w) t has =
    subst (λ name. AreWide (count_of (if same_text h.name t then Some h.columns else columns_in s t)) (if same_text name t then r.tuples else tuples_of w t)) (sym has.0.name)
    (by_test (same_text h.name t) (table_wide s w t has.1)) where
      by_test : (b : Bool) → AreWide (count_of (columns_in s t)) (tuples_of w t) → AreWide (count_of (if b then Some h.columns else columns_in s t)) (if b then r.tuples else tuples_of w t)
      by_test true rest = has.0.tuples
      by_test false rest = rest
table_wide [] (r ∷ w) t has = absurd has
table_wide (h ∷ s) [] t has = absurd has

module _ (s : List Heading) (v : World) (w : Database) (has : HasSchema s w) where
  pub rows_wide : (q : PlainQuery) → Fits s q → AreWide (width s q) (rows v q w)
  rows_wide (Table t) fit = table_wide s w t has
  rows_wide (Select c q) fit = All-filter (λ r. holds v r c) (λ t. length t ≡ width s q) (rows v q w) (rows_wide q fit.1)
  rows_wide (Project ks q) fit =
      All-map (λ t. length t ≡ length ks) (λ r. map (cell_at r) ks) (rows v q w)
      (All-weaker (λ t. length t ≡ width s q) (λ r. length (map (cell_at r) ks) ≡ length ks) (λ r e. length-map ks (cell_at r)) (rows v q w) (rows_wide q fit.1))
  rows_wide (Product a b) fit = wide_joins (width s a) (width s b) (rows v a w) (rows v b w) (rows_wide a fit.0) (rows_wide b fit.1)
  rows_wide (Union a b) fit =
      All-append (λ t. length t ≡ width s a) (rows v a w) (rows v b w) (rows_wide a fit.1) (subst (λ n. AreWide n (rows v b w)) (sym fit.0) (rows_wide b fit.2))
  rows_wide (Except a b) fit = All-filter (λ r. not (has_tuple (rows v b w) r)) (λ t. length t ≡ width s a) (rows v a w) (rows_wide a fit.1)
  rows_wide (Intersect a b) fit = All-filter (has_tuple (rows v b w)) (λ t. length t ≡ width s a) (rows v a w) (rows_wide a fit.1)
