-- Reads that are added to a list one after another.
use Rattle.std.{proofs.Common.{◌≡◌, ℕ, Bool, true, false, List, [], ◌∷◌, ◌++◌, map, refl, ap, sym, ◌∙◌, subst}, specs.Prelude.if◌then◌else◌}
use Rattle.std.{specs.List.{list_any, IsDistinct}, specs.Cmp.IsEquivalence, proofs.lemmas.Cmp.nat_list_eq_equiv, proofs.lemmas.Bool.false≢true}
use Rattle.std.{proofs.lemmas.List.map-append, proofs.lemmas.Map.Keys.IsDistinct-push}
use Rattle.ct_query.{specs.Plain.{PlainQuery, PlainAction, PlainStatement}, specs.declared.action.Read.Read}
use Rattle.ct_query.specs.Reads.{same_read, with_reads, tables_of, query_reads, action_reads, reads_of}
use Rattle.ct_query.specs.Plain as plain
use Rattle.ct_query.specs.declared.action.Read.TheVariants as read

with_reads-append : (a xs ys : List Read) → with_reads a (xs ++ ys) ≡ with_reads (with_reads a xs) ys
with_reads-append a [] ys = refl
with_reads-append a (x ∷ xs) ys = with_reads-append (if list_any (same_read x) a then a else a ++ x ∷ []) xs ys

-- the tables of two sides are added one side after the other
pub tables_added : (a : List Read) (s t : List (List ℕ))
    → with_reads (with_reads a (map read.Table s)) (map read.Table t) ≡ with_reads a (map read.Table (s ++ t))
tables_added a s t = sym (ap (with_reads a) (map-append read.Table s t) ∙ with_reads-append a (map read.Table s) (map read.Table t))

-- the worlds are added last
pub worlds_added : (q : PlainQuery) → with_reads (with_reads [] (map read.Table (tables_of q))) (read.Worlds ∷ []) ≡ query_reads q
worlds_added q = sym (with_reads-append [] (map read.Table (tables_of q)) (read.Worlds ∷ []))

same_read_turns : (r s : Read) → same_read r s ≡ same_read s r
same_read_turns (read.Table a) (read.Table b) = nat_list_eq_equiv.symm a b
same_read_turns (read.Table a) read.Worlds = refl
same_read_turns read.Worlds (read.Table b) = refl
same_read_turns read.Worlds read.Worlds = refl

same_read_self : (r : Read) → same_read r r ≡ true
same_read_self (read.Table a) = nat_list_eq_equiv.refl a
same_read_self read.Worlds = refl

same_read_along : (r s t : Read) → same_read r s ≡ true → same_read r t ≡ same_read s t
same_read_along (read.Table a) (read.Table b) (read.Table c) e = nat_list_eq_equiv.congr a b c e
same_read_along (read.Table a) (read.Table b) read.Worlds e = refl
same_read_along (read.Table a) read.Worlds t e = absurd (false≢true e)
same_read_along read.Worlds (read.Table b) t e = absurd (false≢true e)
same_read_along read.Worlds read.Worlds t e = refl

same_read_equiv : IsEquivalence same_read
same_read_equiv = record { refl = same_read_self; symm = same_read_turns; congr = same_read_along }

added_once : (a : List Read) (x : Read) (b : Bool) → list_any (same_read x) a ≡ b → IsDistinct same_read a → IsDistinct same_read (if b then a else a ++ x ∷ [])
added_once a x true e d = d
added_once a x false e d = IsDistinct-push same_read_equiv a x d e

-- no read is added twice
with_reads_once : (a xs : List Read) → IsDistinct same_read a → IsDistinct same_read (with_reads a xs)
with_reads_once a [] d = d
with_reads_once a (x ∷ xs) d = with_reads_once (if list_any (same_read x) a then a else a ++ x ∷ []) xs (added_once a x (list_any (same_read x) a) refl d)

none_once : IsDistinct same_read []
unfolding IsDistinct
none_once = tt

one_once : (r : Read) → IsDistinct same_read (r ∷ [])
one_once r = IsDistinct-push same_read_equiv [] r none_once refl

query_reads_once : (q : PlainQuery) → IsDistinct same_read (query_reads q)
query_reads_once q = with_reads_once [] (map read.Table (tables_of q) ++ read.Worlds ∷ []) none_once

action_reads_once : (a : PlainAction) → IsDistinct same_read (action_reads a)
action_reads_once (plain.Create name columns) = one_once (read.Table name)
action_reads_once (plain.InsertRows name rs p) = none_once
action_reads_once (plain.InsertQuery name q) = query_reads_once q
action_reads_once (plain.Delete name p) = none_once
action_reads_once (plain.Update name sets p) = none_once
action_reads_once (plain.Assert p) = one_once read.Worlds
action_reads_once (plain.AssertQuery wanted q) = query_reads_once q
action_reads_once (plain.AssertKey name columns) = IsDistinct-push same_read_equiv (read.Table name ∷ []) read.Worlds (one_once (read.Table name)) refl

reads_once : (s : PlainStatement) → IsDistinct same_read (reads_of s)
reads_once (plain.Act a) = action_reads_once a
reads_once (plain.Asks ask columns q) = query_reads_once q
reads_once plain.Begin = none_once
reads_once plain.Commit = none_once
reads_once plain.Rollback = none_once

-- the reads of a statement stand once each
pub once_each : (s : PlainStatement) (rs : List Read) → rs ≡ reads_of s → IsDistinct same_read rs
once_each s rs e = subst (IsDistinct same_read) (sym e) (reads_once s)
