-- The tuples of a query are the same set over the same tables, as those of each operator are over the same sets.
use Rattle.std.{proofs.Common.{◌≡◌, Bool, true, false, not, ◌&&◌, ◌||◌, List, [], ◌∷◌, ◌++◌, map, cond, refl, ap, sym, subst, ◌∙◌}, specs.Cmp.both_ways}
use Rattle.std.{specs.Prelude.{ℕ, filter, flat_map, if◌then◌else◌}, proofs.lemmas.Bool.{false≢true, or_left, or_right}}
use Rattle.std.proofs.lemmas.List.Concat.{flat_map_single}
use Rattle.ct_word.{specs.declared.values.Value.Value, specs.Value.{World, cell_at, same_text, same_tuple}, specs.Condition.holds, proofs.Alike.tuple_decides}
use Rattle.ct_query.{specs.Plain.PlainQuery, specs.Database.{Database, tuples_of, has_tuple, SameSet, SameDatabase}, specs.Rows.{rows, joins}}
use Rattle.ct_query.proofs.Sets.{has_tuple-append, same_set_on, same_set-append}
use Rattle.ct_query.specs.Plain as plain

-- a test of the tuples
module _ (h : List Value → Bool) where
  has_front : (b : Bool) (x : List Value) (a : List (List Value)) (t : List Value) → has_tuple (cond b (x ∷ a) a) t ≡ cond b (same_tuple x t || has_tuple a t) (has_tuple a t)
  has_front true x a t = refl
  has_front false x a t = refl

  both_tests : (s hx ht all kept : Bool) → (s ≡ true → hx ≡ ht) → kept ≡ (all && ht) → cond hx (s || kept) kept ≡ ((s || all) && ht)
  both_tests true true ht all kept f e = f refl
  both_tests true false ht true kept f e = e
  both_tests true false ht false kept f e = e ∙ f refl
  both_tests false true ht all kept f e = e
  both_tests false false ht all kept f e = e

  has_filter : (a : List (List Value)) (t : List Value) → has_tuple (filter h a) t ≡ (has_tuple a t && h t)
  has_filter [] t = refl
  has_filter (x ∷ a) t =
      has_front (h x) x (filter h a) t
      ∙ both_tests (same_tuple x t) (h x) (h t) (has_tuple a t) (has_tuple (filter h a) t) (λ p. ap h ((tuple_decides x t).0 p)) (has_filter a t)

  pub same_set_filter : (a b : List (List Value)) → SameSet a b → SameSet (filter h a) (filter h b)
  same_set_filter a b s t = has_filter a t ∙ ap (λ q. q && h t) (s t) ∙ sym (has_filter b t)

-- the tuples that are not among others
pub same_set_without : (a b c d : List (List Value)) → SameSet a b → SameSet c d → SameSet (filter (λ t. not (has_tuple c t)) a) (filter (λ t. not (has_tuple d t)) b)
same_set_without a b c d s r t = same_set_filter (λ u. not (has_tuple c u)) a b s t ∙ (λ i. has_tuple (filter (λ u. not (r u i)) b) t)

-- the tuples that are among others
pub same_set_within : (a b c d : List (List Value)) → SameSet a b → SameSet c d → SameSet (filter (has_tuple c) a) (filter (has_tuple d) b)
same_set_within a b c d s r t = same_set_filter (has_tuple c) a b s t ∙ (λ i. has_tuple (filter (λ u. r u i) b) t)

-- tuples for each tuple
module _ (f : List Value → List (List Value)) where
  -- a tuple of a set that gives this one
  record Comes (a : List (List Value)) (t : List Value) : Type 0 where
    pub from : List Value
    pub is_there : has_tuple a from ≡ true
    pub gives : has_tuple (f from) t ≡ true

  comes : (a : List (List Value)) (t : List Value) → has_tuple (flat_map f a) t ≡ true → Comes a t
  comes [] t e = absurd (false≢true e)
  comes (x ∷ a) t e = by_test (has_tuple (f x) t) refl (comes a t) where
    by_test : (b : Bool) → has_tuple (f x) t ≡ b → (has_tuple (flat_map f a) t ≡ true → Comes a t) → Comes (x ∷ a) t
    by_test true p rest = record { from = x; is_there = or_left (same_tuple x x) (has_tuple a x) ((tuple_decides x x).1 refl); gives = p }
    by_test false p rest =
        let c = rest (sym (ap (λ b. b || has_tuple (flat_map f a) t) p) ∙ sym (has_tuple-append (f x) (flat_map f a) t) ∙ e) in
        record { from = c.from; is_there = or_right (same_tuple x c.from) (has_tuple a c.from) c.is_there; gives = c.gives }

  went : (a : List (List Value)) (t x : List Value) → has_tuple a x ≡ true → has_tuple (f x) t ≡ true → has_tuple (flat_map f a) t ≡ true
  went [] t x e g = absurd (false≢true e)
  went (y ∷ a) t x e g = has_tuple-append (f y) (flat_map f a) t ∙ by_test (same_tuple y x) refl (went a t x) where
    by_test : (b : Bool) → same_tuple y x ≡ b → (has_tuple a x ≡ true → has_tuple (f x) t ≡ true → has_tuple (flat_map f a) t ≡ true) → (has_tuple (f y) t || has_tuple (flat_map f a) t) ≡ true
    by_test true p rest = or_left (has_tuple (f y) t) (has_tuple (flat_map f a) t) (ap (λ z. has_tuple (f z) t) ((tuple_decides y x).0 p) ∙ g)
    by_test false p rest = or_right (has_tuple (f y) t) (has_tuple (flat_map f a) t) (rest (sym (ap (λ b. b || has_tuple a x) p) ∙ e) g)

  one_way : (a b : List (List Value)) → SameSet a b → (t : List Value) → has_tuple (flat_map f a) t ≡ true → has_tuple (flat_map f b) t ≡ true
  one_way a b s t e = let c = comes a t e in went b t c.from (sym (s c.from) ∙ c.is_there) c.gives

  pub same_set_flat_map : (a b : List (List Value)) → SameSet a b → SameSet (flat_map f a) (flat_map f b)
  same_set_flat_map a b s t = both_ways (has_tuple (flat_map f a) t) (has_tuple (flat_map f b) t) (one_way a b s t) (one_way b a (λ u. sym (s u)) t)

-- a tuple for each tuple
pub same_set_map : (f : List Value → List Value) (a b : List (List Value)) → SameSet a b → SameSet (map f a) (map f b)
same_set_map f a b s t =
    ap (λ l. has_tuple l t) (sym (flat_map_single f a)) ∙ same_set_flat_map (λ x. f x ∷ []) a b s t ∙ ap (λ l. has_tuple l t) (flat_map_single f b)

same_right : (a c d : List (List Value)) → SameSet c d → SameSet (joins a c) (joins a d)
same_right [] c d r t = refl
same_right (l ∷ a) c d r t = same_set-append (map (λ x. l ++ x) c) (map (λ x. l ++ x) d) (joins a c) (joins a d) (same_set_map (λ x. l ++ x) c d r) (same_right a c d r) t

-- each tuple joined with each of others
pub same_set_joins : (a b c d : List (List Value)) → SameSet a b → SameSet c d → SameSet (joins a c) (joins b d)
same_set_joins a b c d s r = same_set_on (joins a c) (joins b c) (joins b d) (same_set_flat_map (λ l. map (λ x. l ++ x) c) a b s) (same_right b c d r)

-- the same tables are worth the same
pub same_database_append : (a b c d : Database) → SameDatabase a b → SameDatabase c d → SameDatabase (a ++ c) (b ++ d)
same_database_append [] [] c d s r = r
same_database_append (x ∷ a) (y ∷ b) c d s r = (s.0, same_database_append a b c d s.1 r)
same_database_append [] (y ∷ b) c d s r = absurd s
same_database_append (x ∷ a) [] c d s r = absurd s

-- the tuples of the table with a name
pub same_tuples_of : (t : List ℕ) (a b : Database) → SameDatabase a b → SameSet (tuples_of a t) (tuples_of b t)
same_tuples_of t [] [] s = λ u. refl
same_tuples_of t (x ∷ a) (y ∷ b) s =
    subst (λ n. SameSet (tuples_of (x ∷ a) t) (if same_text n t then y.tuples else tuples_of b t)) s.0.name (by_test (same_text x.name t) (same_tuples_of t a b s.1)) where
      by_test : (c : Bool) → SameSet (tuples_of a t) (tuples_of b t) → SameSet (if c then x.tuples else tuples_of a t) (if c then y.tuples else tuples_of b t)
      by_test true rest = s.0.tuples
      by_test false rest = rest
same_tuples_of t [] (y ∷ b) s = absurd s
same_tuples_of t (x ∷ a) [] s = absurd s

-- a query gives the same set of tuples on databases of the same tables
pub rows_same : (v : World) (q : PlainQuery) (a b : Database) → SameDatabase a b → SameSet (rows v q a) (rows v q b)
rows_same v (plain.Table t) a b s = same_tuples_of t a b s
rows_same v (plain.Select c q) a b s = same_set_filter (λ r. holds v r c) (rows v q a) (rows v q b) (rows_same v q a b s)
rows_same v (plain.Project ks q) a b s = same_set_map (λ r. map (cell_at r) ks) (rows v q a) (rows v q b) (rows_same v q a b s)
rows_same v (plain.Product p q) a b s = same_set_joins (rows v p a) (rows v p b) (rows v q a) (rows v q b) (rows_same v p a b s) (rows_same v q a b s)
rows_same v (plain.Union p q) a b s = same_set-append (rows v p a) (rows v p b) (rows v q a) (rows v q b) (rows_same v p a b s) (rows_same v q a b s)
rows_same v (plain.Except p q) a b s = same_set_without (rows v p a) (rows v p b) (rows v q a) (rows v q b) (rows_same v p a b s) (rows_same v q a b s)
rows_same v (plain.Intersect p q) a b s = same_set_within (rows v p a) (rows v p b) (rows v q a) (rows v q b) (rows_same v p a b s) (rows_same v q a b s)
