-- The changes of a transaction and what it read, with those of one more action.
use Rattle.std.{proofs.Common.{◌≡◌, Bool, true, false, ◌&&◌, ◌||◌, List, [], ◌∷◌, ◌++◌, refl, ap, sym, subst, ◌∙◌}, specs.Option.option_to_list}
use Rattle.std.{specs.Prelude.{Option, Some, None, All, IsTrue, filter_map, if◌then◌else◌}, specs.List.{Contains, cons_option, list_all, list_any}}
use Rattle.std.{proofs.lemmas.Bool.false≢true, proofs.lemmas.List.{append-nil, append_assoc}, proofs.lemmas.List.Concat.flat_map-append}
use Rattle.std.proofs.lemmas.List.Elements.{All-nil, All-cons, All-append, All-weaker, Contains-push, Contains-append_left, Contains-append_right, filter_map-append}
use Rattle.ct_word.{specs.Change.{PlainChange, PlainCommit}, specs.Writable.is_writable, proofs.Alike.text_decides}
use Rattle.ct_query.{specs.Plain.PlainAction, specs.declared.action.Read.Read, specs.declared.schema.Heading.Heading, specs.Worlds.changes_of}
use Rattle.ct_query.{specs.Schema.{schema, created_by_change}, specs.Agrees.{Agrees, AgreesAfter, AgreesWith}, specs.Fits.{FitsChange, FitChanges, FitAfter}}
use Rattle.ct_query.{specs.Reads.{same_read, with_reads, action_reads}, specs.Frame.reads_of_actions, proofs.Laws.changes_of-snoc, proofs.Committed.commit_does}
use Rattle.ct_query.specs.declared.action.Read.TheVariants as read

-- changes that agree, and one more that agrees after them
agrees_after_push : (h : List PlainCommit) (before actions : List PlainAction) (xs : List PlainChange) (a : PlainAction) (x : PlainChange) → AgreesAfter h before actions xs
    → AgreesWith h (before ++ actions) a x → AgreesAfter h before (actions ++ a ∷ []) (xs ++ x ∷ [])
agrees_after_push h before [] [] a x f w = (subst (λ l. AgreesWith h l a x) (append-nil before) w, tt)
agrees_after_push h before (b ∷ actions) (y ∷ xs) a x f w =
    (f.0, agrees_after_push h (before ++ b ∷ []) actions xs a x f.1 (subst (λ l. AgreesWith h l a x) (sym (append_assoc before (b ∷ []) actions)) w))
agrees_after_push h before _ _ a x f w = absurd f

pub agrees_push : (h : List PlainCommit) (actions : List PlainAction) (xs : List PlainChange) (a : PlainAction) (x : PlainChange) → Agrees h actions xs → AgreesWith h actions a x
    → Agrees h (actions ++ a ∷ []) (xs ++ x ∷ [])
agrees_push h actions xs a x f w = agrees_after_push h [] actions xs a x f w

-- changes that fit, and one more that fits after them
created_split : (s : List Heading) (o : Option Heading) (more : List Heading) → s ++ cons_option o more ≡ (s ++ option_to_list o) ++ more
created_split s None more = ap (λ l. l ++ more) (sym (append-nil s))
created_split s (Some t) more = sym (append_assoc s (t ∷ []) more)

fit_changes_push : (s : List Heading) (xs : List PlainChange) (x : PlainChange) → FitChanges s xs → FitsChange (s ++ filter_map created_by_change xs) x → FitChanges s (xs ++ x ∷ [])
fit_changes_push s [] x f g = (subst (λ l. FitsChange l x) (append-nil s) g, tt)
fit_changes_push s (y ∷ xs) x f g = (
  f.0,
  fit_changes_push (s ++ option_to_list (created_by_change y)) xs x f.1 (subst (λ l. FitsChange l x) (created_split s (created_by_change y) (filter_map created_by_change xs)) g),
)

-- the tables after actions are those after the changes that agree with them
tables_agreed : (h : List PlainCommit) (actions : List PlainAction) (xs : List PlainChange) → Agrees h actions xs
    → (schema h actions).tables ≡ (schema h []).tables ++ filter_map created_by_change xs
tables_agreed h actions xs f =
    let c : PlainCommit = record { session = 0; number = 0; changes = xs } in
    let first = filter_map created_by_change (changes_of h) in
    ap (λ s. s.tables) (commit_does h actions c f).schemas
    ∙ append-nil (filter_map created_by_change (changes_of (h ++ c ∷ [])))
    ∙ ap (filter_map created_by_change) (changes_of-snoc h c)
    ∙ filter_map-append created_by_change (changes_of h) xs
    ∙ ap (λ l. l ++ filter_map created_by_change xs) (sym (append-nil first))

pub fits_push : (h : List PlainCommit) (actions : List PlainAction) (xs : List PlainChange) (x : PlainChange) → Agrees h actions xs → FitAfter h xs → FitsChange (schema h actions).tables x
    → FitAfter h (xs ++ x ∷ [])
fits_push h actions xs x f fits one = fit_changes_push (schema h []).tables xs x fits (subst (λ s. FitsChange s x) (tables_agreed h actions xs f) one)

-- changes that can be written, and one more
pub writable_push : (xs : List PlainChange) (x : PlainChange) → IsTrue (list_all is_writable xs) → IsTrue (is_writable x) → IsTrue (list_all is_writable (xs ++ x ∷ []))
writable_push [] x p q = ap (λ b. b && true) q
writable_push (y ∷ xs) x p q = by_test (is_writable y) (list_all is_writable xs) p (λ rest. writable_push xs x rest q) where
  by_test : (a b : Bool) → IsTrue (a && b) → (IsTrue b → IsTrue (list_all is_writable (xs ++ x ∷ []))) → IsTrue (a && list_all is_writable (xs ++ x ∷ []))
  by_test true b both rest = rest both
  by_test false b both rest = absurd (false≢true both)

-- reads that are the same are equal
same_read_is : (r s : Read) → same_read r s ≡ true → r ≡ s
same_read_is (read.Table a) (read.Table b) e = ap read.Table ((text_decides a b).0 e)
same_read_is read.Worlds read.Worlds e = refl
same_read_is _ _ e = absurd (false≢true e)

first_of_all : (r : Read) (reads : List Read) → Contains (r ∷ reads) r
first_of_all r reads = Contains-append_left (r ∷ []) reads r (Contains-push [] r)

found_read : (r : Read) (reads : List Read) → list_any (same_read r) reads ≡ true → Contains reads r
found_read r [] e = absurd (false≢true e)
found_read r (s ∷ reads) e = by_test (same_read r s) refl (found_read r reads) where
  by_test : (b : Bool) → same_read r s ≡ b → (list_any (same_read r) reads ≡ true → Contains reads r) → Contains (s ∷ reads) r
  by_test true is rest = subst (λ x. Contains (s ∷ reads) x) (sym (same_read_is r s is)) (first_of_all s reads)
  by_test false is rest = Contains-append_right (s ∷ []) reads r (rest (sym (ap (λ b. b || list_any (same_read r) reads) is) ∙ e))

one_kept : (reads : List Read) (x : Read) (b : Bool) (r : Read) → Contains reads r → Contains (if b then reads else reads ++ x ∷ []) r
one_kept reads x true r c = c
one_kept reads x false r c = Contains-append_left reads (x ∷ []) r c

one_there : (reads : List Read) (x : Read) (b : Bool) → list_any (same_read x) reads ≡ b → Contains (if b then reads else reads ++ x ∷ []) x
one_there reads x true e = found_read x reads e
one_there reads x false e = Contains-push reads x

read_kept : (reads more : List Read) (r : Read) → Contains reads r → Contains (with_reads reads more) r
read_kept reads [] r c = c
read_kept reads (x ∷ more) r c =
    read_kept (if list_any (same_read x) reads then reads else reads ++ x ∷ []) more r (one_kept reads x (list_any (same_read x) reads) r c)

-- what was read is among the reads with more
pub reads_kept : (reads more all : List Read) → All (Contains reads) all → All (Contains (with_reads reads more)) all
reads_kept reads more all c = All-weaker (Contains reads) (Contains (with_reads reads more)) (read_kept reads more) all c

-- and so is what is read besides
reads_there : (reads more : List Read) → All (Contains (with_reads reads more)) more
reads_there reads [] = All-nil (Contains reads)
reads_there reads (x ∷ more) =
    let first = if list_any (same_read x) reads then reads else reads ++ x ∷ [] in
    All-cons (Contains (with_reads first more)) x more (read_kept first more x (one_there reads x (list_any (same_read x) reads) refl)) (reads_there first more)

-- what actions read, and one more
pub reads_push : (reads : List Read) (actions : List PlainAction) (a : PlainAction) → All (Contains reads) (reads_of_actions actions)
    → All (Contains (with_reads reads (action_reads a))) (reads_of_actions (actions ++ a ∷ []))
reads_push reads actions a c =
    let more = action_reads a in
    subst (All (Contains (with_reads reads more))) (sym (flat_map-append action_reads actions (a ∷ []) ∙ ap (λ l. reads_of_actions actions ++ l) (append-nil more)))
    (All-append (Contains (with_reads reads more)) (reads_of_actions actions) more (reads_kept reads more (reads_of_actions actions) c) (reads_there reads more))
