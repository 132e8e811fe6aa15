-- The size of a query by the counts of its own tables.
use Rattle.std.{proofs.Common.{◌≡◌, ℕ, ◌+◌, ◌*◌, Bool, true, false, List, [], ◌∷◌, ◌++◌, map, length, Some, max, refl, ap, sym, ◌∙◌, inl, inr}, specs.List.{fold, Contains}}
use Rattle.std.{specs.Prelude.{if◌then◌else◌}, proofs.lemmas.List.{map-append, append_assoc}, proofs.lemmas.List.Elements.{Contains-append_left, Contains-append_right}}
use Rattle.std.proofs.lemmas.Bool.{false≢true}
use Rattle.ct_word.{specs.Value.same_text, proofs.Alike.text_decides, proofs.Items.{first_item, no_item, item_cases}}
use Rattle.ct_query.{specs.Plain.PlainQuery, specs.Size.{rows_in, row_bound, number, parts, size}, specs.Reads.tables_of, specs.declared.schema.Count.Count}
use Rattle.ct_query.specs.Plain as plain
use Rattle.ct_table.{specs.Denotes.{TableView, find_table}, specs.Counting.{count_of, count_at, rows_of_found}, proofs.Entries.cases}

-- counts that agree on the tables of a query give it the same size
module _ (f g : List ℕ → ℕ) where
  abbrev Agree : List (List ℕ) → Type 0
  Agree names = (name : List ℕ) → Contains names name → f name ≡ g name

  module _ (s t : List (List ℕ)) (agree : Agree (s ++ t)) where
    on_left : Agree s
    on_left name h = agree name (Contains-append_left s t name h)

    on_right : Agree t
    on_right name h = agree name (Contains-append_right s t name h)

  bound_same : (q : PlainQuery) → Agree (tables_of q) → row_bound f q ≡ row_bound g q
  bound_same (plain.Table t) agree = agree t (first_item [] t)
  bound_same (plain.Select c q) agree = bound_same q agree
  bound_same (plain.Project ks q) agree = bound_same q agree
  bound_same (plain.Product a b) agree = λ i. bound_same a (on_left (tables_of a) (tables_of b) agree) i * bound_same b (on_right (tables_of a) (tables_of b) agree) i
  bound_same (plain.Union a b) agree = λ i. bound_same a (on_left (tables_of a) (tables_of b) agree) i + bound_same b (on_right (tables_of a) (tables_of b) agree) i
  bound_same (plain.Except a b) agree = bound_same a (on_left (tables_of a) (tables_of b) agree)
  bound_same (plain.Intersect a b) agree = bound_same a (on_left (tables_of a) (tables_of b) agree)

  pairs_same : (a b : PlainQuery) → Agree (tables_of a ++ tables_of b) → row_bound f a * row_bound f b ≡ row_bound g a * row_bound g b
  pairs_same a b agree = bound_same (plain.Product a b) agree

  number_same : (q : PlainQuery) → Agree (tables_of q) → number f q ≡ number g q
  number_same (plain.Table t) agree = bound_same (plain.Table t) agree
  number_same (plain.Select c q) agree = bound_same q agree
  number_same (plain.Project ks q) agree = bound_same q agree
  number_same (plain.Product a b) agree = pairs_same a b agree
  number_same (plain.Union a b) agree = bound_same (plain.Union a b) agree
  number_same (plain.Except a b) agree = pairs_same a b agree
  number_same (plain.Intersect a b) agree = pairs_same a b agree

  all_same : (a b : List PlainQuery) → map (number f) a ≡ map (number g) a → map (number f) b ≡ map (number g) b → map (number f) (a ++ b) ≡ map (number g) (a ++ b)
  all_same a b l r = map-append (number f) a b ∙ (λ i. l i ++ r i) ∙ sym (map-append (number g) a b)

  numbers_same : (q : PlainQuery) → Agree (tables_of q) → map (number f) (parts q) ≡ map (number g) (parts q)
  numbers_same (plain.Table t) agree = λ i. number_same (plain.Table t) agree i ∷ []
  numbers_same (plain.Select c q) agree = λ i. number_same (plain.Select c q) agree i ∷ numbers_same q agree i
  numbers_same (plain.Project ks q) agree = λ i. number_same (plain.Project ks q) agree i ∷ numbers_same q agree i
  numbers_same (plain.Product a b) agree =
      let both = all_same (parts a) (parts b) (numbers_same a (on_left (tables_of a) (tables_of b) agree)) (numbers_same b (on_right (tables_of a) (tables_of b) agree)) in
      λ i. number_same (plain.Product a b) agree i ∷ both i
  numbers_same (plain.Union a b) agree =
      let both = all_same (parts a) (parts b) (numbers_same a (on_left (tables_of a) (tables_of b) agree)) (numbers_same b (on_right (tables_of a) (tables_of b) agree)) in
      λ i. number_same (plain.Union a b) agree i ∷ both i
  numbers_same (plain.Except a b) agree =
      let both = all_same (parts a) (parts b) (numbers_same a (on_left (tables_of a) (tables_of b) agree)) (numbers_same b (on_right (tables_of a) (tables_of b) agree)) in
      λ i. number_same (plain.Except a b) agree i ∷ both i
  numbers_same (plain.Intersect a b) agree =
      let both = all_same (parts a) (parts b) (numbers_same a (on_left (tables_of a) (tables_of b) agree)) (numbers_same b (on_right (tables_of a) (tables_of b) agree)) in
      λ i. number_same (plain.Intersect a b) agree i ∷ both i

  size_same : (q : PlainQuery) → Agree (tables_of q) → size f q ≡ size g q
  size_same q agree = ap (fold max 0) (numbers_same q agree)

module _ (db : List TableView) where
  -- the counts of two sides are added one side after the other
  pub counts_added : (cs : List Count) (s t : List (List ℕ)) → (cs ++ map (count_at db) s) ++ map (count_at db) t ≡ cs ++ map (count_at db) (s ++ t)
  counts_added cs s t = append_assoc cs (map (count_at db) s) (map (count_at db) t) ∙ ap (λ ds. cs ++ ds) (sym (map-append (count_at db) s t))

  -- a table that is named has its count
  own_rows : (names : List (List ℕ)) (name : List ℕ) → Contains names name → rows_in (map (count_at db) names) name ≡ rows_of_found (find_table db name)
  own_rows [] name h = absurd (no_item name h)
  own_rows (n ∷ names) name h = cases (same_text n name)
      (λ p. ap (λ b. if b then rows_of_found (find_table db n) else rows_in (map (count_at db) names) name) p ∙ ap (λ m. rows_of_found (find_table db m)) ((text_decides n name).0 p))
      (λ p.
      ap (λ b. if b then rows_of_found (find_table db n) else rows_in (map (count_at db) names) name) p
      ∙ own_rows names name (elim (item_cases names n name h) [
        | inl q ↦ absurd (false≢true (sym p ∙ (text_decides n name).1 q))
        | inr later ↦ later
      ]))

-- the count of a table among those of all
all_rows : (db : List TableView) (name : List ℕ) → rows_of_found (find_table db name) ≡ rows_in (map count_of db) name
all_rows [] name = refl
all_rows (t ∷ db) name = by_test (same_text t.name name) (all_rows db name) where
  by_test : (b : Bool) → rows_of_found (find_table db name) ≡ rows_in (map count_of db) name
      → rows_of_found (if b then Some t else find_table db name) ≡ (if b then length t.rows else rows_in (map count_of db) name)
  by_test true e = refl
  by_test false e = e

-- by the counts of its own tables a query has the size that it has by those of all tables
pub own_size : (db : List TableView) (q : PlainQuery) → size (rows_in (map (count_at db) (tables_of q))) q ≡ size (rows_in (map count_of db)) q
own_size db q = size_same (rows_in (map (count_at db) (tables_of q))) (rows_in (map count_of db)) q (λ name h. own_rows db (tables_of q) name h ∙ all_rows db name)
