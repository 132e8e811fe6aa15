-- What is resolved is resolved to the same where further tables come behind the others.
use Rattle.std.{proofs.Common.{◌≡◌, ℕ, ◌+◌, Bool, true, false, List, [], ◌∷◌, ◌++◌, map, length, refl, ap, sym, subst, ◌∙◌}, specs.List.list_all}
use Rattle.std.{specs.Prelude.{Some, None, Ok, Err, not, nat_eq, filter_map, ◌||◌, if◌then◌else◌}, proofs.lemmas.List.append-nil}
use Rattle.std.{proofs.lemmas.List.Elements.filter_map-append, proofs.lemmas.Grind.flat_map-append}
use Rattle.ct_word.{specs.Value.same_text, specs.Change.PlainCommit}
use Rattle.ct_query.{specs.declared.schema.Heading.Heading, specs.declared.schema.Schema.Schema, specs.Fits.columns_in, specs.Worlds.changes_of}
use Rattle.ct_query.{specs.Plain.{PlainAction, PlainStatement}, specs.Schema.{schema, created_by_change}}
use Rattle.ct_parse.{specs.declared.tree.Statement.Statement, specs.declared.tree.Table.Table, specs.declared.tree.Select.Select}
use Rattle.ct_parse.specs.declared.tree.QueryPrimary.{QueryPrimary, more_of-Query}
use Rattle.ct_parse.specs.declared.tree.Query.{Query, Query', Row_of-QueryPrimary, end_of-QueryPrimary, more_of-QueryPrimary, Row_of-Query-rest-2, end_of-Query-rest-2, more_of-Query-rest-2}
use Rattle.ct_resolve.{specs.Found.{Found, and_then, unless, each}, specs.Conditions.condition_or_true, specs.Names.{table_in, is_table, are_distinct, column_in}}
use Rattle.ct_resolve.specs.Statements.{resolved, row_terms, cells_of, set_at, columns_set}
use Rattle.ct_resolve.specs.Queries.{Named, visible, tables_of, seen_table, selected, select_at, sides, operation, primary_at, primaries_at, terms_at, query_at}
use Rattle.ct_query.specs.declared.action.Ask.TheVariants as ask
use Rattle.ct_query.specs.Plain as plain
use Rattle.ct_parse.specs.declared.tree.Statement.TheVariants as statement
use Rattle.ct_parse.specs.declared.tree.QueryPrimary as primary
use Rattle.ct_resolve.specs.declared.error.ResolveError.TheVariants as fault

-- what is found first is found the second time too
abbrev Follows : {A : Type 0} → Found A → Found A → Type 0
Follows (Ok a) r = r ≡ Ok a
Follows (Err e) r = Unit {0}

follows_same : {A : Type 0} (r : Found A) → Follows r r
follows_same (Ok a) = refl
follows_same (Err e) = tt

follows_then : {A B : Type 0} (r r' : Found A) (f f' : A → Found B) → Follows r r' → ((a : A) → Follows (f a) (f' a)) → Follows (and_then r f) (and_then r' f')
follows_then (Ok a) r' f f' p q = subst (λ s. Follows (f a) (and_then s f')) (sym p) (q a)
follows_then (Err e) r' f f' p q = tt

follows_each : {A B : Type 0} (f f' : A → Found B) → ((x : A) → Follows (f x) (f' x)) → (xs : List A) → Follows (each f xs) (each f' xs)
follows_each f f' p [] = refl
follows_each f f' p (x ∷ xs) =
    follows_then (f x) (f' x) (λ y. and_then (each f xs) (λ ys. Ok (y ∷ ys))) (λ y. and_then (each f' xs) (λ ys. Ok (y ∷ ys))) (p x)
    (λ y. follows_then (each f xs) (each f' xs) (λ ys. Ok (y ∷ ys)) (λ ys. Ok (y ∷ ys)) (follows_each f f' p xs) (λ ys. refl))

taken : {A : Type 0} (r r' : Found A) (a : A) → Follows r r' → r ≡ Ok a → r' ≡ Ok a
taken (Ok b) r' a p e = p ∙ e
taken (Err x) r' a p e = cc

-- a name without columns has no table
no_table : (hs : List Heading) (name : List ℕ) → columns_in hs name ≡ None → is_table hs name ≡ false
no_table [] name e = refl
no_table (h ∷ hs) name e = by_test (same_text h.name name) e (no_table hs name) where
  by_test : (b : Bool) → (if b then Some h.columns else columns_in hs name) ≡ None → (columns_in hs name ≡ None → is_table hs name ≡ false) → (b || is_table hs name) ≡ false
  by_test true f rest = cc
  by_test false f rest = rest f

-- these tables come behind the others
module _ (hs more : List Heading) where
  table_follows : (all : List Heading) (name : List ℕ) → Follows (table_in all name) (table_in (all ++ more) name)
  table_follows [] name = tt
  table_follows (h ∷ all) name = by_test (same_text h.name name) (table_follows all name) where
    by_test : (b : Bool) → Follows (table_in all name) (table_in (all ++ more) name) → Follows (if b then Ok h else table_in all name) (if b then Ok h else table_in (all ++ more) name)
    by_test true p = refl
    by_test false p = p

  seen_follows : (t : Table) → Follows (seen_table hs t) (seen_table (hs ++ more) t)
  seen_follows t =
      let given : Heading → Found Heading = λ h. Ok (record { name = visible t; columns = h.columns }) in
      follows_then (table_in hs t.name) (table_in (hs ++ more) t.name) given given (table_follows hs t.name) (λ h. refl)

  select_follows : (s : Select) → Follows (select_at hs s) (select_at (hs ++ more) s)
  select_follows s =
      let given : List Heading → Found Named = λ scope. unless (are_distinct (map visible (tables_of s.tables))) fault.DuplicateName (selected scope s) in
      follows_then (each (seen_table hs) (tables_of s.tables)) (each (seen_table (hs ++ more)) (tables_of s.tables)) given given
      (follows_each (seen_table hs) (seen_table (hs ++ more)) seen_follows (tables_of s.tables)) (λ scope. follows_same (given scope))

  -- one query more behind a set operator
  more_follow : (f : Named → Named → Found Named) (a a' b b' : Found Named) → Follows a a' → Follows b b' → Follows (and_then a (λ x. and_then b (f x))) (and_then a' (λ x. and_then b' (f x)))
  more_follow f a a' b b' p q = follows_then a a' (λ x. and_then b (f x)) (λ x. and_then b' (f x)) p (λ x. follows_then b b' (f x) (f x) q (λ y. follows_same (f x y)))

  mutual
    primary_follows : (p : QueryPrimary) → Follows (primary_at hs p) (primary_at (hs ++ more) p)
    primary_follows (primary.Nested' shape (more_of-Query q rest)) = query_follows q
    primary_follows (primary.Select s) = select_follows s

    primaries_follow : {n : _} (a a' : Found Named) (row : Row_of-QueryPrimary n) → Follows a a' → Follows (primaries_at hs a row) (primaries_at (hs ++ more) a' row)
    primaries_follow a a' end_of-QueryPrimary same = same
    primaries_follow a a' (more_of-QueryPrimary p rest) same =
        primaries_follow (and_then a (λ x. and_then (primary_at hs p) (λ y. sides (λ l r. plain.Intersect l r) x y)))
        (and_then a' (λ x. and_then (primary_at (hs ++ more) p) (λ y. sides (λ l r. plain.Intersect l r) x y))) rest
        (more_follow (λ x y. sides (λ l r. plain.Intersect l r) x y) a a' (primary_at hs p) (primary_at (hs ++ more) p) same (primary_follows p))

    terms_follow : {n : _} (a a' : Found Named) (row : Row_of-Query-rest-2 n) → Follows a a' → Follows (terms_at hs a row) (terms_at (hs ++ more) a' row)
    terms_follow a a' end_of-Query-rest-2 same = same
    terms_follow a a' (more_of-Query-rest-2 o p shape ps rest) same =
        terms_follow (and_then a (λ x. and_then (primaries_at hs (primary_at hs p) ps) (λ y. sides (operation o) x y)))
        (and_then a' (λ x. and_then (primaries_at (hs ++ more) (primary_at (hs ++ more) p) ps) (λ y. sides (operation o) x y))) rest
        (more_follow (λ x y. sides (operation o) x y) a a' (primaries_at hs (primary_at hs p) ps) (primaries_at (hs ++ more) (primary_at (hs ++ more) p) ps) same
        (primaries_follow (primary_at hs p) (primary_at (hs ++ more) p) ps (primary_follows p)))

    query_follows : (q : Query) → Follows (query_at hs q) (query_at (hs ++ more) q)
    query_follows (Query' p shape ps shapes rest) =
        terms_follow (primaries_at hs (primary_at hs p) ps) (primaries_at (hs ++ more) (primary_at (hs ++ more) p) ps) rest
        (primaries_follow (primary_at hs p) (primary_at (hs ++ more) p) ps (primary_follows p))

-- a table that an action creates is none of these
abbrev pub IsNewAmong : List Heading → PlainAction → Type 0
IsNewAmong hs (plain.Create name columns) = columns_in hs name ≡ None
IsNewAmong hs _ = Unit {0}

-- an action, where the tables that it creates are not among the further ones
module _ (hs more : List Heading) (session fresh : ℕ) (a : PlainAction) (new : IsNewAmong (hs ++ more) a) where
  abbrev few : Schema
  few = record { tables = hs }

  abbrev many : Schema
  many = record { tables = hs ++ more }

  abbrev acts : PlainAction → Found PlainStatement
  acts b = Ok (plain.Act b)

  created : (was is distinct : Bool) (made : PlainAction) → (made ≡ a → is ≡ false)
      → unless (not was) fault.TableExists (unless distinct fault.DuplicateName (Ok (plain.Act made))) ≡ Ok (plain.Act a)
      → unless (not is) fault.TableExists (unless distinct fault.DuplicateName (Ok (plain.Act made))) ≡ Ok (plain.Act a)
  created true is distinct made none e = cc
  created false is false made none e = cc
  created false is true made none e = subst (λ b. unless (not b) fault.TableExists (Ok (plain.Act made)) ≡ Ok (plain.Act a)) (sym (none (one made a e))) e where
    one : (x y : PlainAction) → acts x ≡ acts y → x ≡ y
    one x y p = cc

  -- it is resolved among all of them
  pub resolves_among : (st : Statement) → resolved (record { tables = hs }) session fresh st ≡ Ok (plain.Act a) → resolved (record { tables = hs ++ more }) session fresh st ≡ Ok (plain.Act a)
  resolves_among (statement.Create name c cs) e =
      created (is_table hs name) (is_table (hs ++ more) name) (are_distinct (c ∷ cs)) (plain.Create name (c ∷ cs))
      (λ same. no_table (hs ++ more) name (subst (IsNewAmong (hs ++ more)) (sym same) new)) e
  resolves_among (statement.InsertRows name r rs c) e =
      let given : Heading → Found PlainStatement = λ h. unless (list_all (λ w. nat_eq (length (cells_of w)) (length h.columns)) (r ∷ rs)) fault.ColumnCount (
      and_then (condition_or_true [] c) (λ d. Ok (plain.Act (plain.InsertRows name (row_terms session (fresh + 1) (r ∷ rs)) d)))) in
      taken (and_then (table_in hs name) given) (and_then (table_in (hs ++ more) name) given) (plain.Act a)
      (follows_then (table_in hs name) (table_in (hs ++ more) name) given given (table_follows hs more hs name) (λ h. follows_same (given h))) e
  resolves_among (statement.InsertQuery name q) e =
      let last : Heading → Named → Found PlainStatement = λ h n. unless (nat_eq (length n.columns) (length h.columns)) fault.ColumnCount (Ok (plain.Act (plain.InsertQuery name n.query))) in
      taken (and_then (table_in hs name) (λ h. and_then (query_at hs q) (last h))) (and_then (table_in (hs ++ more) name) (λ h. and_then (query_at (hs ++ more) q) (last h))) (plain.Act a)
      (follows_then (table_in hs name) (table_in (hs ++ more) name) (λ h. and_then (query_at hs q) (last h)) (λ h. and_then (query_at (hs ++ more) q) (last h)) (table_follows hs more hs name)
      (λ h. follows_then (query_at hs q) (query_at (hs ++ more) q) (last h) (last h) (query_follows hs more q) (λ n. follows_same (last h n)))) e
  resolves_among (statement.Delete name c) e =
      let given : Heading → Found PlainStatement = λ h. and_then (condition_or_true (h ∷ []) c) (λ d. Ok (plain.Act (plain.Delete name d))) in
      taken (and_then (table_in hs name) given) (and_then (table_in (hs ++ more) name) given) (plain.Act a)
      (follows_then (table_in hs name) (table_in (hs ++ more) name) given given (table_follows hs more hs name) (λ h. follows_same (given h))) e
  resolves_among (statement.Update name b bs c) e =
      let given : Heading → Found PlainStatement = λ h. and_then (each (set_at h) (b ∷ bs)) (λ sets. unless (are_distinct (columns_set (b ∷ bs))) fault.DuplicateName (
      and_then (condition_or_true (h ∷ []) c) (λ d. Ok (plain.Act (plain.Update name sets d))))) in
      taken (and_then (table_in hs name) given) (and_then (table_in (hs ++ more) name) given) (plain.Act a)
      (follows_then (table_in hs name) (table_in (hs ++ more) name) given given (table_follows hs more hs name) (λ h. follows_same (given h))) e
  resolves_among (statement.Assert c) e = e
  resolves_among (statement.AssertExists negated q) e =
      let given : Named → Found PlainStatement = λ n. Ok (plain.Act (plain.AssertQuery (not negated) n.query)) in
      taken (and_then (query_at hs q) given) (and_then (query_at (hs ++ more) q) given) (plain.Act a)
      (follows_then (query_at hs q) (query_at (hs ++ more) q) given given (query_follows hs more q) (λ n. refl)) e
  resolves_among (statement.AssertKey name c cs) e =
      let given : Heading → Found PlainStatement = λ h. and_then (each (column_in h) (c ∷ cs)) (λ ks. unless (are_distinct (c ∷ cs)) fault.DuplicateName (Ok (plain.Act (plain.AssertKey name ks)))) in
      taken (and_then (table_in hs name) given) (and_then (table_in (hs ++ more) name) given) (plain.Act a)
      (follows_then (table_in hs name) (table_in (hs ++ more) name) given given (table_follows hs more hs name) (λ h. follows_same (given h))) e
  resolves_among (statement.Rows q) e = absurd (no_ask (query_at hs q) e) where
    no_ask : (r : Found Named) → and_then r (λ n. Ok (plain.Asks ask.Rows n.columns n.query)) ≡ Ok (plain.Act a) → ⊥
    no_ask (Ok n) p = cc
    no_ask (Err x) p = cc
  resolves_among (statement.Possible q) e = absurd (no_ask (query_at hs q) e) where
    no_ask : (r : Found Named) → and_then r (λ n. Ok (plain.Asks ask.Possible n.columns n.query)) ≡ Ok (plain.Act a) → ⊥
    no_ask (Ok n) p = cc
    no_ask (Err x) p = cc
  resolves_among (statement.Certain q) e = absurd (no_ask (query_at hs q) e) where
    no_ask : (r : Found Named) → and_then r (λ n. Ok (plain.Asks ask.Certain n.columns n.query)) ≡ Ok (plain.Act a) → ⊥
    no_ask (Ok n) p = cc
    no_ask (Err x) p = cc
  resolves_among statement.Begin e = cc
  resolves_among statement.Commit e = cc
  resolves_among statement.Rollback e = cc

-- a statement that resolves to an action after a history resolves to the same after further commits, where these create no
-- table that the action creates
pub resolves_later : (h later : List PlainCommit) (session fresh : ℕ) (st : Statement) (a : PlainAction) → IsNewAmong (schema (h ++ later) []).tables a
    → resolved (schema h []) session fresh st ≡ Ok (plain.Act a) → resolved (schema (h ++ later) []) session fresh st ≡ Ok (plain.Act a)
resolves_later h later session fresh st a new e =
    ap (λ ts. resolved (record { tables = ts }) session fresh st) same
    ∙ resolves_among first more session fresh a (subst (λ ts. IsNewAmong ts a) same new) st (ap (λ ts. resolved (record { tables = ts }) session fresh st) (sym (append-nil first)) ∙ e) where
      first : List Heading
      first = filter_map created_by_change (changes_of h)

      more : List Heading
      more = filter_map created_by_change (changes_of later)

      same : (schema (h ++ later) []).tables ≡ first ++ more
      same =
          append-nil (filter_map created_by_change (changes_of (h ++ later)))
          ∙ ap (filter_map created_by_change) (flat_map-append (λ (c : PlainCommit). c.changes) h later) ∙ filter_map-append created_by_change (changes_of h) (changes_of later)
