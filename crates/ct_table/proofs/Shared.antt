-- Shared tables, as the list that contracts see.
use Rattle.std.{proofs.Common.{◌≡◌, ℕ, ◌≤◌, ◌<◌, Bool, true, false, cond, List, [], ◌∷◌, ◌++◌, length, map, get_or, set, refl, ap, sym, subst, ◌∙◌}, specs.Map.set_value}
use Rattle.std.specs.Prelude.{nat_eq, nat_lt, if◌then◌else◌, position, slice_get, Option, Some, None, IsSome, IfSome, MatchOption, Result, Ok, Err, OnOk, OnErr, IsOk}
use Rattle.std.{proofs.lemmas.Bool.false≢true, specs.Borrow.Bor, proofs.lemmas.Option.{slice_get_past, slice_get_read}, specs.List.{HoldsAt, position_or_len}, specs.Cmp.Lexicographic.pointwise}
use Rattle.indexmap.specs.IndexMap.{insert_entry}
use Rattle.ct_query.specs.declared.schema.Heading.{Heading}
use Rattle.ct_headings.specs.Named.{heading_in}
use Rattle.ct_word.{specs.Value.same_text, proofs.Alike.text_decides, specs.declared.values.CRow.CRow}
use Rattle.ct_operators.{specs.Merging.rows_of, specs.declared.table.CTable.CTable}
use Rattle.ct_table.{specs.Denotes.{TableView, heading_of, find_table, with_table}, specs.Shared.{view_of, entry_of}, specs.Pending.put_into}
use Rattle.ct_table.{specs.Growing.{grown, rows_after}, proofs.Putting.entries_back}
use Rattle.ct_table.proofs.Entries.{cases, unalike, none_some, value_at, with_value, place_of, put_hit, put_miss, find_hit, find_miss, at_hit, at_miss}

module _ (t new : TableView) (db : List TableView) where
  with_hit : same_text t.name new.name ≡ true → with_table (t ∷ db) new ≡ new ∷ db
  with_hit p = ap (λ b. if b then new ∷ db else t ∷ with_table db new) p

  with_miss : same_text t.name new.name ≡ false → with_table (t ∷ db) new ≡ t ∷ with_table db new
  with_miss p = ap (λ b. if b then new ∷ db else t ∷ with_table db new) p

-- an entry that is put in is the table at its name's place
pub put_entry : (name : List ℕ) (shared : CTable) (es : List (List ℕ × CTable))
    → map entry_of (insert_entry (pointwise nat_eq) es name shared) ≡ with_table (map entry_of es) (entry_of (name, shared))
put_entry name shared [] = refl
put_entry name shared (e ∷ es) = cases (same_text name e.0)
    (λ p.
    let n : name ≡ e.0 = (text_decides name e.0).0 p in
    ap (map entry_of) (put_hit name shared e es p)
    ∙ (λ i. entry_of (sym n i, shared) ∷ map entry_of es)
    ∙ sym (with_hit (entry_of e) (entry_of (name, shared)) (map entry_of es) ((text_decides e.0 name).1 (sym n))))
    (λ p.
    ap (map entry_of) (put_miss name shared e es p)
    ∙ ap (λ l. entry_of e ∷ l) (put_entry name shared es)
    ∙ sym (with_miss (entry_of e) (entry_of (name, shared)) (map entry_of es) (unalike name e.0 p)))

-- the table of a name is that of its entry
abbrev pub its_view : List ℕ → Option CTable → Option TableView
its_view k None = None
its_view k (Some x) = Some (view_of k x)

pub found_entry : (k : List ℕ) (es : List (List ℕ × CTable)) → find_table (map entry_of es) k ≡ its_view k (value_at k es)
found_entry k [] = refl
found_entry k (e ∷ es) = cases (same_text k e.0)
    (λ p.
    let n : k ≡ e.0 = (text_decides k e.0).0 p in
    ap (λ b. if b then Some (entry_of e) else find_table (map entry_of es) k) ((text_decides e.0 k).1 (sym n))
    ∙ (λ i. Some (view_of (sym n i) e.1)) ∙ sym (ap (its_view k) (find_hit k e es p)))
    (λ p.
    ap (λ b. if b then Some (entry_of e) else find_table (map entry_of es) k) (unalike k e.0 p)
    ∙ found_entry k es ∙ sym (ap (its_view k) (find_miss k e es p)))

-- the headings of entries
abbrev pub headings_in : List (List ℕ × CTable) → List Heading
headings_in es = map heading_of (map entry_of es)

-- a new entry's heading stands last
pub heading_last : (k : List ℕ) (x : CTable) (h : Heading) → h ≡ heading_of (view_of k x) → (es : List (List ℕ × CTable)) → value_at k es ≡ None
    → headings_in es ++ h ∷ [] ≡ headings_in (with_value es k x)
heading_last k x h is [] none = ap (λ y. y ∷ []) is
heading_last k x h is (e ∷ es) none = cases (same_text k e.0)
    (λ p. none_some e.1 (value_at k (e ∷ es)) none (find_hit k e es p))
    (λ p. ap (λ hs. heading_of (entry_of e) ∷ hs) (heading_last k x h is es (sym (find_miss k e es p) ∙ none)) ∙ sym (ap headings_in (put_miss k x e es p)))

-- an entry that is there gets its heading at its place
pub heading_set : (k : List ℕ) (x y : CTable) (h : Heading) → h ≡ heading_of (view_of k x) → (es : List (List ℕ × CTable)) → value_at k es ≡ Some y
    → set (headings_in es) (place_of k es) h ≡ headings_in (with_value es k x)
heading_set k x y h is [] found = none_some y (value_at k []) refl found
heading_set k x y h is (e ∷ es) found = cases (same_text k e.0)
    (λ p.
    let n : k ≡ e.0 = (text_decides k e.0).0 p in
    ap (λ i. set (headings_in (e ∷ es)) i h) (at_hit k e es p)
    ∙ ap (λ z. z ∷ headings_in es) is
    ∙ (λ i. heading_of (view_of (n i) x) ∷ headings_in es)
    ∙ sym (ap headings_in (put_hit k x e es p)))
    (λ p.
    ap (λ i. set (headings_in (e ∷ es)) i h) (at_miss k e es p)
    ∙ ap (λ hs. heading_of (entry_of e) ∷ hs) (heading_set k x y h is es (sym (find_miss k e es p) ∙ found))
    ∙ sym (ap headings_in (put_miss k x e es p)))

-- the heading of a name that is there stands at the place of its entry
pub heading_at : (k : List ℕ) (es : List (List ℕ × CTable)) (i : ℕ) → i ≡ place_of k es → IsSome (value_at k es) → slice_get (headings_in es) i ≡ heading_in (headings_in es) k
heading_at k es i at there = ap (slice_get (headings_in es)) at ∙ at_place es there where
  at_place : (es : List (List ℕ × CTable)) → IsSome (value_at k es) → slice_get (headings_in es) (place_of k es) ≡ heading_in (headings_in es) k
  at_place [] there = absurd (false≢true there)
  at_place (e ∷ es) there = cases (same_text k e.0)
      (λ p.
      ap (slice_get (headings_in (e ∷ es))) (at_hit k e es p)
      ∙ sym (ap (λ b. if b then Some (heading_of (entry_of e)) else heading_in (headings_in es) k) ((text_decides e.0 k).1 (sym ((text_decides k e.0).0 p)))))
      (λ p.
      ap (slice_get (headings_in (e ∷ es))) (at_miss k e es p)
      ∙ at_place es (subst IsSome (find_miss k e es p) there)
      ∙ sym (ap (λ b. if b then Some (heading_of (entry_of e)) else heading_in (headings_in es) k) (unalike k e.0 p)))

-- one of a name that is not there stands nowhere
pub heading_missing : (k : List ℕ) (es : List (List ℕ × CTable)) → value_at k es ≡ None → heading_in (headings_in es) k ≡ None
heading_missing k [] none = refl
heading_missing k (e ∷ es) none = cases (same_text k e.0)
    (λ p. none_some e.1 (value_at k (e ∷ es)) none (find_hit k e es p))
    (λ p. ap (λ b. if b then Some (heading_of (entry_of e)) else heading_in (headings_in es) k) (unalike k e.0 p) ∙ heading_missing k es (sym (find_miss k e es p) ∙ none))

-- what stands at a place, or that it is past the last one
pub found_as : {A : Type 0} (xs : List A) (i : ℕ) (o : Option (Bor A)) (x : Option A) → MatchOption o (length xs ≤ i) (λ b. (i < length xs) × HoldsAt (λ y. b.now ≡ y) xs i)
    → IfSome o (λ b. b.now ≡ get_or xs i b.now) → slice_get xs i ≡ x → MatchOption o (x ≡ None) (λ b. x ≡ Some b.now)
found_as xs i None x past value is = sym is ∙ slice_get_past xs i past
found_as xs i (Some b) x within value is = sym is ∙ slice_get_read xs (length xs) i b.now refl within.0 value

found_none : (k : List ℕ) (es : List (List ℕ × CTable)) → IsSome (value_at k es) → (y : CTable) × (value_at k es ≡ Some y)
found_none k es there = by_entry (value_at k es) refl there where
  by_entry : (o : Option CTable) → value_at k es ≡ o → IsSome o → (y : CTable) × (value_at k es ≡ Some y)
  by_entry None e s = absurd (false≢true s)
  by_entry (Some y) e s = (y, e)

-- the headings with that of a table put in
module _ (k : List ℕ) (t : TableView) (h : Heading) (n : t.name ≡ k) (is : h ≡ heading_of t) (es : List (List ℕ × CTable)) where
  abbrev x : CTable
  x = record { columns = t.columns; rows = t.rows }

  its : h ≡ heading_of (view_of k x)
  its = is ∙ (λ i. record { name = n i; columns = t.columns })

  put_in : map heading_of (map entry_of (with_value es k x)) ≡ map heading_of (with_table (map entry_of es) t)
  put_in = ap (map heading_of) (put_entry k x es) ∙ (λ i. map heading_of (with_table (map entry_of es) (record { name = sym n i; columns = t.columns; rows = t.rows })))

  pub headed_last : value_at k es ≡ None → headings_in es ++ h ∷ [] ≡ map heading_of (with_table (map entry_of es) t)
  headed_last none = heading_last k x h its es none ∙ put_in

  pub headed_set : (i : ℕ) → i ≡ place_of k es → IsSome (value_at k es) → set (headings_in es) i h ≡ map heading_of (with_table (map entry_of es) t)
  headed_set i e there = let y = found_none k es there in ap (λ j. set (headings_in es) j h) e ∙ heading_set k x y.0 h its es y.1 ∙ put_in

-- a place that is found is where the name stands
pub position_is : {X : Type 0} (test : X → Bool) (xs : List X) (i : ℕ) → Some i ≡ position test xs → i ≡ position_or_len test xs
position_is test xs i e = by_test (nat_lt (position_or_len test xs) (length xs)) e where
  by_test : (b : Bool) → Some i ≡ cond b (Some (position_or_len test xs)) None → i ≡ position_or_len test xs
  by_test true p = cc
  by_test false p = cc

-- what holds where a call succeeds, holds, where it cannot fail
pub done_of : {A E : Type 0} {P Q : Type 0} (r : Result A E) → OnOk r P → OnErr r Q → (Q → IsOk r) → P
done_of (Ok a) p q right = p
done_of (Err e) p q right = absurd (false≢true (right q))

pub on_ok_both : {A E P Q R : Type 0} (r : Result A E) → (P → Q → R) → OnOk r P → OnOk r Q → OnOk r R
on_ok_both (Ok a) f p q = f p q
on_ok_both (Err e) f p q = tt

-- the later of two tables of one name stays
pub with_again : (a b : TableView) → a.name ≡ b.name → (db : List TableView) → with_table (with_table db a) b ≡ with_table db b
with_again a b n [] = with_hit a b [] ((text_decides a.name b.name).1 n)
with_again a b n (t ∷ db) =
    let there : same_text t.name a.name ≡ same_text t.name b.name = ap (same_text t.name) n in
    cases (same_text t.name a.name)
    (λ p. ap (λ l. with_table l b) (with_hit t a db p) ∙ with_hit a b db ((text_decides a.name b.name).1 n) ∙ sym (with_hit t b db (sym there ∙ p)))
    (λ p.
    ap (λ l. with_table l b) (with_miss t a db p) ∙ with_miss t b (with_table db a) (sym there ∙ p) ∙ ap (λ l. t ∷ l) (with_again a b n db) ∙ sym (with_miss t b db (sym there ∙ p)))

-- a table that is there already, put in, leaves the tables
pub with_found : (k : List ℕ) (x : TableView) (db : List TableView) → find_table db k ≡ Some x
    → with_table db (record { name = k; columns = x.columns; rows = x.rows }) ≡ db
with_found k x [] found = let bad : None ≡ Some x = found in cc
with_found k x (t ∷ db) found =
    let new : TableView = record { name = k; columns = x.columns; rows = x.rows } in
    cases (same_text t.name k)
    (λ p.
    let same : Some t ≡ Some x = sym (ap (λ b. if b then Some t else find_table db k) p) ∙ found in
    let is : t ≡ x = cc in
    let n : t.name ≡ k = (text_decides t.name k).0 p in
    with_hit t new db p ∙ (λ i. record { name = sym n i; columns = (sym is i).columns; rows = (sym is i).rows } ∷ db))
    (λ p. with_miss t new db p ∙ ap (λ l. t ∷ l) (with_found k x db (sym (ap (λ b. if b then Some t else find_table db k) p) ∙ found)))

-- tables of one name and the same columns leave the same headings
pub same_headings : (a b : TableView) → a.name ≡ b.name → a.columns ≡ b.columns → (db : List TableView) → map heading_of (with_table db a) ≡ map heading_of (with_table db b)
same_headings a b n c [] = λ i. record { name = n i; columns = c i } ∷ []
same_headings a b n c (t ∷ db) =
    let there : same_text t.name a.name ≡ same_text t.name b.name = ap (same_text t.name) n in
    cases (same_text t.name a.name)
    (λ p.
    ap (map heading_of) (with_hit t a db p) ∙ (λ i. record { name = n i; columns = c i } ∷ map heading_of db) ∙ sym (ap (map heading_of) (with_hit t b db (sym there ∙ p))))
    (λ p.
    ap (map heading_of) (with_miss t a db p) ∙ ap (λ hs. heading_of t ∷ hs) (same_headings a b n c db) ∙ sym (ap (map heading_of) (with_miss t b db (sym there ∙ p))))

-- a value that is written at a name that is there
set_entry : (k : List ℕ) (t w : CTable) (es : List (List ℕ × CTable)) → value_at k es ≡ Some t → set_value (same_text k) es w ≡ with_value es k w
set_entry k t w [] found = none_some t (value_at k []) refl found
set_entry k t w (e ∷ es) found = cases (same_text k e.0)
    (λ p. ap (λ b. cond b ((e.0, w) ∷ es) (e ∷ set_value (same_text k) es w)) p ∙ sym (put_hit k w e es p))
    (λ p. ap (λ b. cond b ((e.0, w) ∷ es) (e ∷ set_value (same_text k) es w)) p ∙ ap (λ l. e ∷ l) (set_entry k t w es (sym (find_miss k e es p) ∙ found)) ∙ sym (put_miss k w e es p))

-- another table is written in the place of one that is there
module _ (k : List ℕ) (t w : CTable) (es fs : List (List ℕ × CTable)) (found : value_at k es ≡ Some t) (written : fs ≡ set_value (same_text k) es w) where
  seen : find_table (map entry_of es) k ≡ Some (view_of k t)
  seen = found_entry k es ∙ ap (its_view k) found

  same : with_table (map entry_of es) (view_of k t) ≡ map entry_of es
  same = with_found k (view_of k t) (map entry_of es) seen

  written_is : map entry_of fs ≡ with_table (map entry_of es) (view_of k w)
  written_is = ap (map entry_of) (written ∙ set_entry k t w es found) ∙ put_entry k w es

  -- one with conditions put at their cells
  pub grown_put : (puts : List (List ℕ × ℕ)) → w.columns ≡ t.columns → w.rows ≡ rows_after t.rows puts → map entry_of fs ≡ put_into (map entry_of es) k puts (find_table (map entry_of es) k)
  grown_put puts columns rows =
      written_is ∙ (λ i. with_table (map entry_of es) (record { name = k; columns = columns i; rows = rows i }))
      ∙ sym (ap (put_into (map entry_of es) k puts) seen)

  pub grown_headings : w.columns ≡ t.columns → map heading_of (map entry_of fs) ≡ map heading_of (map entry_of es)
  grown_headings columns =
      ap (map heading_of) written_is ∙ same_headings (view_of k w) (view_of k t) refl columns (map entry_of es) ∙ ap (map heading_of) same

  -- the old table at the name again
  pub grown_back : (old : CTable) → old ≡ t → with_table (map entry_of fs) (view_of k old) ≡ map entry_of es
  grown_back old is =
      ap (λ db. with_table db (view_of k old)) written_is ∙ with_again (view_of k w) (view_of k old) refl (map entry_of es)
      ∙ ap (λ x. with_table (map entry_of es) (view_of k x)) is ∙ same

  pub grown_same : w ≡ t → map entry_of fs ≡ map entry_of es
  grown_same is = written_is ∙ ap (λ x. with_table (map entry_of es) (view_of k x)) is ∙ same

-- what is said of a table with a map of its rows is said of the table
pub of_table : (columns : List (List ℕ)) (es : List (List ℕ × ℕ)) (t : CTable) → columns ≡ t.columns → rows_of es ≡ t.rows
    → (P : List (List ℕ) → List CRow → (List (List ℕ × ℕ) → List CRow) → Type 0) → P columns (rows_of es) (λ ps. rows_of (grown es ps)) → P t.columns t.rows (rows_after t.rows)
of_table columns es t c r P p =
    subst (λ rs. P t.columns rs (rows_after rs)) r
    (subst (λ l. P t.columns (rows_of es) (λ ps. rows_of (grown l ps))) (sym (entries_back es)) (subst (λ cs. P cs (rows_of es) (λ ps. rows_of (grown es ps))) c p))
