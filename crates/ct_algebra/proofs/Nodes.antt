-- The words of a query that is evaluated in place of another are within the number that is computed for this one.
use Rattle.std.{proofs.Common.{ℕ, ◌+◌, ◌≤◌, ◌<◌, ◌^◌, Bool, true, false, List, map, Result, arith}, specs.Prelude.{Option, Some, None, unwrap_or, IfSome, if◌then◌else◌}}
use Rattle.std.proofs.lemmas.List.Sums.{sum_by-le-sum_by}
use Rattle.ct_query.{specs.Plain.PlainQuery, specs.Bounds.{literal_words, query_words, nodes}, specs.Size.{rows_in, greatest}, specs.Terms.query_terms}
use Rattle.ct_arena.specs.Seen.{Seen}
use Rattle.ct_condition.{specs.Places.{has_place, new_literal_words}, specs.Writes.charge, proofs.Writes.writes_of}
use Rattle.ct_plan.{specs.Spent.literals, specs.Replaces.Replaces}
use Rattle.ct_operators.{specs.declared.error.TableError.TableError, specs.Refusals.is_full}
use Rattle.ct_table.{specs.Counting.count_of, specs.Denotes.{TableView, heading_of}}
use Rattle.ct_condition.specs.Writes.{PassWrites}
use Rattle.ct_algebra.{specs.Words.{most_words, unplaced, GrowsWithin}, proofs.Appending.charged}

-- a literal without a place is put by its words at most
by_test : (b : Bool) (n : ℕ) → (if b then 0 else n) ≤ n
by_test true n = omega arith
by_test false n = omega arith

most_unplaced : (ws : List ℕ) (q : PlainQuery) → unplaced ws (query_terms q) ≤ literals q
most_unplaced ws q = sum_by-le-sum_by (new_literal_words ws) literal_words (query_terms q) (λ t. by_test (has_place ws t) (literal_words t))

-- no session appends as many words as the greatest number
by_option : (o : Option ℕ) (before x more most left : ℕ) → IfSome o (λ n. most + left ≤ n) → x ≤ 2 ^ 28 → more ≤ left → x ≤ before + (more + most) → x ≤ before + unwrap_or o greatest
by_option None before x more most left h small le made = omega (arith, small)
by_option (Some n) before x more most left h small le made = omega (arith, h, le, made)

at_most_one : (refused : Bool) → charge refused ≤ 1
at_most_one true = omega arith
at_most_one false = omega arith

pub nodes_within : {A : Type 0} {cap : ℕ} (out : Result A TableError) (db : List TableView) (q p : PlainQuery) (old new : Seen) → Replaces (map heading_of db) q p → new.made < 2 ^ 28
    → GrowsWithin cap out old new (query_terms p) (most_words db p) → PassWrites cap old new (nodes (rows_in (map count_of db)) q) (is_full out)
nodes_within out db q p old new replaces small w =
    let counts = rows_in (map count_of db) in
    let more = unplaced old.words (query_terms q) in
    let most = most_words db p in
    let grows = w.grows (query_terms q) replaces.named in
    let made = charged out new.made (unplaced new.words (query_terms q)) (old.made + (more + most)) (omega (arith, grows)) in
    writes_of w.writes (by_option (query_words counts q) old.made (new.made + charge (is_full out)) more most (literals q) (replaces.words counts)
    (let one = at_most_one (is_full out) in omega (arith, small, one)) (most_unplaced old.words q) made)
