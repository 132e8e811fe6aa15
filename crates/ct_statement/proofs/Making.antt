-- The words of each call are within those of its statement.
use Rattle.std.proofs.Common.{◌≡◌, ℕ, ◌+◌, ◌*◌, ◌^◌, ◌<◌, ◌≤◌, Bool, true, false, List, [], ◌∷◌, map, length, refl, ap, sym, subst, arith}
use Rattle.std.specs.Prelude.{Option, Some, None, IsSome, Err, All, sum_by, unwrap_or}
use Rattle.std.specs.Option.{option_map_or}
use Rattle.std.proofs.lemmas.{Bool.false≢true, Nat.mul-le, List.length-map, List.Sums.sum_by-le, List.Elements.All-weaker}
use Rattle.ct_word.{specs.declared.values.CRow.CRow, specs.Change.{PlainRow, PlainChange, Create, Insert, Delete, Update, Assert, PlainCommit}}
use Rattle.ct_query.{specs.Plain.{PlainQuery, PlainAction}, specs.Size.{row_bound, greatest}, specs.Patterns.count, specs.Schema.schema, specs.declared.schema.Heading.Heading}
use Rattle.ct_query.specs.Bounds.{ops, characters, width, query_words, side_words, nodes, change_words, applying_words, bound}
use Rattle.ct_arena.specs.Seen.{Seen}
use Rattle.ct_condition.{specs.Writes.charge, proofs.Writes.writes_of}
use Rattle.ct_condition.specs.Writes.{PassWrites}
use Rattle.ct_history.specs.Encodes.{IsChangeFor, HasOpsOf, asserted_by, row_words, encode_words}
use Rattle.ct_operators.specs.declared.error.TableError.{TableError}
use Rattle.ct_operators.specs.Tables.{IsRow}
use Rattle.ct_table.{specs.Denotes.{TableView, Denotes, find_table}, proofs.ByTables.tables_counted, proofs.QuerySizes.row_bound_grows}
use Rattle.ct_keeper.{specs.Bounds.applied_words, specs.Effects.{rows_found, effect_words}, specs.declared.effects.Effect.Effect}
use Rattle.ct_transcript.specs.declared.reply.Refusal.{Refusal}
use Rattle.ct_statement.{specs.Making.{says_full, widths_in, taking_words, taken_rows, IsLight}, specs.Narrowing.{unapplied, IsWorldless, IsUnkept}}
use Rattle.ct_statement.{specs.Sources.AreTakenFor, proofs.Weights.lists_grow}
use Rattle.ct_query.specs.Plain as plain
use Rattle.ct_query.specs.Fits as fits
use Rattle.ct_query.specs.declared.action.Ask.TheVariants as ask
use Rattle.ct_operators.specs.Refusals as operators
use Rattle.ct_operators.specs.declared.error.TableError.TheVariants as table
use Rattle.ct_keeper.specs.declared.effects.Effect.TheVariants as effect
use Rattle.ct_transcript.specs.declared.reply.Refusal.TheVariants as refusal

-- a query whose words are counted has as many columns as are counted
first_counted : (m : ℕ) (a b : Option ℕ) → IsSome (side_words m a b) → IsSome a
first_counted m None b some = some
first_counted m (Some a) b some = refl

counted_width : (counts : List ℕ → ℕ) (s : List Heading) (q : PlainQuery) → IsSome (query_words counts q) → fits.width s q ≡ width q
counted_width counts s (plain.Project ks q) some = refl
counted_width counts s (plain.Union a b) some = counted_width counts s a (first_counted _ (query_words counts a) (query_words counts b) some)
counted_width counts s (plain.Except a b) some = counted_width counts s a (first_counted _ (query_words counts a) (query_words counts b) some)
counted_width counts s (plain.Intersect a b) some = counted_width counts s a (first_counted _ (query_words counts a) (query_words counts b) some)
counted_width counts s _ some = absurd (false≢true some)

-- so what is told from its columns is told from those that are counted, or is more than a session can make
by_width : (counts : List ℕ → ℕ) (s : List Heading) (q : PlainQuery) (made total : ℕ) (more : ℕ → ℕ) → total ≤ 2 ^ 28
    → total ≤ made + nodes counts q + more (fits.width s q) → total ≤ made + nodes counts q + more (width q)
by_width counts s q made total more few le = by_words (query_words counts q) refl where
  by_words : (o : Option ℕ) → query_words counts q ≡ o → total ≤ made + nodes counts q + more (width q)
  by_words (Some n) e = subst (λ k. total ≤ made + nodes counts q + more k) (counted_width counts s q (subst IsSome (sym e) refl)) le
  by_words None e = let all : nodes counts q ≡ greatest = ap (λ o. unwrap_or o greatest) e in omega (arith, all, few)

-- at most one is charged
charge_most : (b : Bool) → charge b ≤ 1
charge_most true = omega arith
charge_most false = omega arith

-- the words of a query and of the questions about its tuples
pub asks_certain : (counts : List ℕ → ℕ) (s : List Heading) (q : PlainQuery) (r k : ℕ) → r ≤ row_bound counts q → k ≡ fits.width s q → {cap : ℕ} {old new : Seen} {refused : Bool} → 2 + new.made ≤ length new.words
    → length new.words < 2 ^ 28 → PassWrites cap old new (nodes counts q + r * (r * (2 * k + 2) + k + 1)) refused → PassWrites cap old new (bound counts (widths_in s) None (plain.Asks ask.Certain [] q)) refused
asks_certain counts s q r k few wide {old = old} {new} {refused} counted small w =
    let total = new.made + charge refused in
    let own : total ≤ old.made + (nodes counts q + r * (r * (2 * fits.width s q + 2) + fits.width s q + 1)) = subst (λ n. total ≤ old.made + (nodes counts q + r * (r * (2 * n + 2) + n + 1))) wide w.made in
    let one = charge_most refused in
    let all = by_width counts s q old.made total (λ n. r * (r * (2 * n + 2) + n + 1)) (omega (arith, counted, small, one)) (omega (arith, own)) in
    let lists = lists_grow ask.Certain r (row_bound counts q) (width q) few in
    writes_of w (omega (arith, all, lists))

-- what an action takes, and a further five words, are within the words of its change
pub taking_within : (counts widths : List ℕ → ℕ) (a : PlainAction) → taking_words counts widths a + 6 ≤ change_words counts widths a
taking_within counts widths (plain.Create name columns) = omega arith
taking_within counts widths (plain.AssertKey name columns) = omega arith
taking_within counts widths _ = omega arith

-- rows of so many cells
rows_words : (k : ℕ) (rs : List CRow) → All (λ r. length r.cells ≡ k) rs → sum_by row_words rs ≤ length rs * (k + 2)
rows_words k rs all = sum_by-le row_words (k + 2) rs (All-weaker (λ (r : CRow). length r.cells ≡ k) (λ (r : CRow). row_words r ≤ k + 2) (λ r e. omega (arith, e)) rs all)

-- a list that is begun, the rows of a query, and the change of an action; one word is left for the commit word
module _ (words : List ℕ) (global : ℕ) (h : List PlainCommit) (before : List PlainAction) (counts widths : List ℕ → ℕ) (made0 made1 made2 total : ℕ) (one : made1 ≤ made0 + 1) (most : total + 1 ≤ 2 ^ 28) where
  pub added_within : (a : PlainAction) (rs : List CRow) → AreTakenFor words global h before a rs → length rs ≤ taken_rows counts a → made2 ≤ made1 + taking_words counts widths a
      → total ≤ made2 + encode_words a rs → total + 1 ≤ made0 + change_words counts widths a
  added_within (plain.InsertQuery name q) rs its few took put =
      let s = (schema h before).tables in
      let n = fits.width s q in
      let rows = rows_words n rs (All-weaker (IsRow words n) (λ (r : CRow). length r.cells ≡ n) (λ r is. is.width_is) rs its.are.each) in
      let all = by_width counts s q made0 (total + 1) (λ k. length rs * (k + 2) + characters name + 7) (omega (arith, most)) (omega (arith, one, took, put, rows)) in
      let wide = mul-le (length rs) (width q + 2) (row_bound counts q) (width q + 2) few (omega arith) in
      omega (arith, all, wide)
  added_within (plain.Create name columns) rs its few took put = omega (arith, one, took, put)
  added_within (plain.AssertKey name columns) rs its few took put = omega (arith, one, took, put)
  added_within _ rs its few took put = omega (arith, one, took, put)

-- an assertion is applied by one word
assertion_light : (g : List ℕ → ℕ) (rs : List PlainRow) → applied_words g (asserted_by rs) ≤ 1
assertion_light g [] = omega arith
assertion_light g (r ∷ rs) = omega arith

-- a change is light for its action, where an insertion has no more rows than its query may have
pub light_for : (counts : List ℕ → ℕ) (a : PlainAction) (rs : List PlainRow) (x : PlainChange) → IsChangeFor a rs x → HasOpsOf a x → length rs ≤ taken_rows counts a → IsLight counts a x
light_for counts (plain.InsertQuery name q) rs x is ops_are few = λ g more.
    let grown = row_bound_grows counts g more q in
    subst (λ y. applied_words g y ≤ row_bound g q) (sym is) (omega (arith, few, grown))
light_for counts (plain.Create name columns) rs (Create name' columns') is ops_are few = λ g more. omega arith
light_for counts (plain.InsertRows name lists p) rs (Insert name' rs') is ops_are few = λ g more.
    let same : length (map (λ (r : PlainRow). r.cells) rs') ≡ length lists = ap (λ l. length l) is.1 in
    omega (arith, same, length-map rs' (λ (r : PlainRow). r.cells))
light_for counts (plain.Delete name p) rs (Delete name' c) is ops_are few = λ g more.
    subst (λ n. g n * (ops c + 2) ≤ g name * (ops p + 2)) (sym is.0) (mul-le (g name) (ops c + 2) (g name) (ops p + 2) (omega arith) (omega (arith, ops_are)))
light_for counts (plain.Update name sets p) rs (Update name' sets' c) is ops_are few = λ g more.
    subst (λ n. g n * (ops c + 5) ≤ g name * (ops p + 5)) (sym is.0) (mul-le (g name) (ops c + 5) (g name) (ops p + 5) (omega arith) (omega (arith, ops_are)))
light_for counts (plain.AssertQuery wanted q) rs x is ops_are few = λ g more. subst (λ y. applied_words g y ≤ 1) (sym is) (assertion_light g rs)
light_for counts (plain.AssertKey name columns) rs x is ops_are few = λ g more. subst (λ y. applied_words g y ≤ 1) (sym is) (assertion_light g rs)
light_for counts (plain.Assert p) rs (Assert c) is ops_are few = λ g more. omega arith
light_for counts _ rs _ is ops_are few = absurd is

-- the effect of a change on tables that denote a history and actions
module _ (words : List ℕ) (h : List PlainCommit) (actions : List PlainAction) (db : List TableView) (d : Denotes words h actions db) where
  found_within : (name : List ℕ) → rows_found (find_table db name) ≤ count h actions name
  found_within name = by_found (find_table db name) (tables_counted words h actions db d.worth name) where
    by_found : (o : Option TableView) → option_map_or (λ t. length t.rows) o 0 ≤ count h actions name → rows_found o ≤ count h actions name
    by_found None le = le
    by_found (Some t) le = le

  effect_counted : (x : PlainChange) → effect_words db x ≤ applied_words (count h actions) x
  effect_counted (Delete name c) = mul-le (rows_found (find_table db name)) (ops c + 2) (count h actions name) (ops c + 2) (found_within name) (omega arith)
  effect_counted (Update name sets c) = mul-le (rows_found (find_table db name)) (ops c + 5) (count h actions name) (ops c + 5) (found_within name) (omega arith)
  effect_counted _ = omega arith

  pub effect_within : (a : PlainAction) (x : PlainChange) → IsLight (count h actions) a x → effect_words db x ≤ applying_words (count h actions) a
  effect_within a x light = let first = effect_counted x in let rest = light (count h actions) (λ t. omega arith) in omega (arith, first, rest)

-- a refusal of the keeper tells of a full log where its own does
pub unapplied_full : (T : Type 0) (e : TableError) → says_full (unapplied e) ≡ operators.is_full {T = T} (Err e)
unapplied_full T table.Full = refl
unapplied_full T table.Memory = refl

-- where there is no world, the log was not full
worldless_room : (words : List ℕ) (place : ℕ) (why : Refusal) → IsWorldless words place why → says_full why ≡ false
worldless_room words place (refusal.Inconsistent proof) w = refl
worldless_room words place refusal.Memory w = refl
worldless_room words place _ w = absurd w

pub unkept_room : (words : List ℕ) (e : Effect) (why : Refusal) → IsUnkept words e why → says_full why ≡ false
unkept_room words (effect.Grows growth) why u = absurd u
unkept_room words (effect.Narrows place) why u = worldless_room words place why u
