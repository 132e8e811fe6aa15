-- No table that a statement sees has more columns than a word can tell apart, since each of their names has a word.
use Rattle.std.{proofs.Common.{◌≡◌, ◌≤◌, ◌<◌, ◌^◌, ℕ, Bool, true, false, List, [], ◌∷◌, ◌++◌, length, Option, Some, None, ap, subst, arith, length-append}, specs.List.cons_option}
use Rattle.std.specs.Prelude.{All, IfSome, filter_map, flat_map, if◌then◌else◌}
use Rattle.std.proofs.lemmas.List.Elements.{All-nil, All-cons, All-append, All-weaker, All-contains, All-head, All-tail, All-take, Contains-push}
use Rattle.ct_word.{specs.declared.values.Term.Term, specs.Value.same_text, specs.Change.{PlainChange, Create, PlainCommit}, specs.Reading.commits_of}
use Rattle.ct_word.proofs.Few.{HasFewColumns, listed_have_few_columns, commits_have_few_columns}
use Rattle.ct_query.{specs.Plain.PlainAction, specs.Agrees.AgreesWith, specs.declared.schema.Heading.Heading, specs.Schema.{created_by_change, created_by_action, schema}}
use Rattle.ct_query.{specs.Worlds.changes_of, specs.Fields.{FitsFields, FitsFieldsOn}, specs.Fits.{columns_in, count_of, IsColumnBelow, FitsAction}, proofs.Fitting.{condition_on, below_fits, narrow_fits}}
use Rattle.ct_history.specs.Encodes.{IsEncodable}
use Rattle.ct_operators.proofs.Reaching.{both_all}
use Rattle.ct_statement.{specs.declared.sight.Sight.Sight, specs.Proposals.IsProposal, specs.Sight.{IsNarrow, IsSight, actions_before, history_of}}
use mathlib.Core.List.{IsPrefix}
use Rattle.ct_query.specs.Plain as plain

-- a table has at most so many columns
abbrev AtMost : ℕ → Heading → Type 0
AtMost n t = length t.columns ≤ n

module _ {Y : Type 0} (P : Y → Type 0) where
  put : (o : Option Y) (ys : List Y) → IfSome o P → All P ys → All P (cons_option o ys)
  put (Some y) ys p all = All-cons P y ys p all
  put None ys p all = all

  -- all that is given holds, where each that is given does
  given_hold : {X : Type 0} (f : X → Option Y) (xs : List X) → All (λ x. IfSome (f x) P) xs → All P (filter_map f xs)
  given_hold f [] each = All-nil P
  given_hold f (x ∷ xs) each = put (f x) (filter_map f xs) (All-head (λ z. IfSome (f z) P) x xs each) (given_hold f xs (All-tail (λ z. IfSome (f z) P) x xs each))

  joined_hold : {X : Type 0} (f : X → List Y) (xs : List X) → All (λ x. All P (f x)) xs → All P (flat_map f xs)
  joined_hold f [] each = All-nil P
  joined_hold f (x ∷ xs) each = All-append P (f x) (flat_map f xs) (All-head (λ z. All P (f z)) x xs each) (joined_hold f xs (All-tail (λ z. All P (f z)) x xs each))

created_few : (n : ℕ) (x : PlainChange) → HasFewColumns n x → IfSome (created_by_change x) (AtMost n)
created_few n (Create name columns) few = few
created_few n _ few = tt

-- where the changes of a history and further actions create tables of at most so many columns, the schema has such tables
pub schema_few : (n : ℕ) (h : List PlainCommit) (actions : List PlainAction) → All (λ (c : PlainCommit). All (HasFewColumns n) c.changes) h
    → All (λ a. IfSome (created_by_action a) (λ t. length t.columns ≤ n)) actions → All (λ t. length t.columns ≤ n) (schema h actions).tables
schema_few n h actions few own =
    let xs = changes_of h in
    All-append (AtMost n) (filter_map created_by_change xs) (filter_map created_by_action actions)
    (given_hold (AtMost n) created_by_change xs
    (All-weaker (HasFewColumns n) (λ x. IfSome (created_by_change x) (AtMost n)) (created_few n) xs (joined_hold (HasFewColumns n) (λ (c : PlainCommit). c.changes) h few)))
    (given_hold (AtMost n) created_by_action actions own)

-- the tables that a statement sees
pub seen_few : (words : List ℕ) → length words < 2 ^ 28 → (s : Sight) → IsSight words s → All (λ t. length t.columns ≤ 2 ^ 28) (schema (history_of words s) (actions_before s)).tables
seen_few words small s is =
    schema_few (2 ^ 28) (history_of words s) (actions_before s)
    (All-take Few s.version (commits_of words) (All-weaker Within Few (λ c few. All-weaker (HasFewColumns (length words)) (HasFewColumns (2 ^ 28)) widened c.changes few) (commits_of words) (commits_have_few_columns words)))
    is.narrow where
      Within : PlainCommit → Type 0
      Within c = All (HasFewColumns (length words)) c.changes

      Few : PlainCommit → Type 0
      Few c = All (HasFewColumns (2 ^ 28)) c.changes

      widened : (x : PlainChange) → HasFewColumns (length words) x → HasFewColumns (2 ^ 28) x
      widened (Create name columns) few = omega (arith, few, small)
      widened _ few = tt

-- the table of an action with which a change agrees
agreed_narrow : (n : ℕ) → n < 2 ^ 28 → (h : List PlainCommit) (before : List PlainAction) (a : PlainAction) (x : PlainChange) → AgreesWith h before a x → HasFewColumns n x → IsNarrow a
agreed_narrow n small h before (plain.Create name columns) (Create name' columns') agrees few =
    let same : length columns' ≡ length columns = ap (λ l. length l) agrees.1 in omega (arith, few, small, same)
agreed_narrow n small h before (plain.Create name columns) _ agrees few = absurd agrees
agreed_narrow n small h before _ x agrees few = tt

-- the table that is created by a proposal over words that further ones follow
pub proposed_narrow : (old new : List ℕ) → IsPrefix old new → length new < 2 ^ 28 → (h : List PlainCommit) (before : List PlainAction) (list : List PlainChange) (a : PlainAction) (changes : ℕ)
    → IsProposal old h before list a changes → IsNarrow a
proposed_narrow old new longer small h before list a changes p =
    let some = length-append old longer.0 in
    let all : length (old ++ longer.0) ≡ length new = ap (λ l. length l) longer.1 in
    agreed_narrow (length old) (omega (arith, small, some, all)) h before a p.change p.agrees
    (All-contains (HasFewColumns (length old)) (list ++ p.change ∷ []) p.change (subst (All (HasFewColumns (length old))) p.list_is (listed_have_few_columns old changes)) (Contains-push list p.change))

columns_few : (n : ℕ) (s : List Heading) (name : List ℕ) → All (λ t. length t.columns ≤ n) s → count_of (columns_in s name) ≤ n
columns_few n [] name few = omega arith
columns_few n (t ∷ s) name few = by_test (same_text t.name name) (columns_few n s name (All-tail (AtMost n) t s few)) where
  by_test : (b : Bool) → count_of (columns_in s name) ≤ n → count_of (if b then Some t.columns else columns_in s name) ≤ n
  by_test true rest = All-head (AtMost n) t s few
  by_test false rest = rest

-- the terms of an action that fits such tables have numbers that a word has room for
pub encodable : (s : List Heading) → All (λ t. length t.columns ≤ 2 ^ 28) s → (a : PlainAction) → FitsAction s a → IsEncodable a
encodable s few (plain.InsertRows name rs c) f = (f.2, f.3)
encodable s few (plain.Delete name c) f = condition_on 0 c (narrow_fits (count_of (columns_in s name)) c (columns_few (2 ^ 28) s name few) f.1)
encodable s few (plain.Update name sets c) f =
    let n = count_of (columns_in s name) in
    let small = columns_few (2 ^ 28) s name few in (
      both_all (λ (b : ℕ × Term). b.0 < n) (λ (b : ℕ × Term). FitsFieldsOn n b.1 × IsColumnBelow n b.1) (λ (b : ℕ × Term). (b.0 < 2 ^ 28) × FitsFields b.1)
          (λ b lt on. (omega (arith, lt, small), below_fits n b.1 small on.0 on.1)) sets f.1.within
          (both_all (λ (b : ℕ × Term). FitsFieldsOn n b.1) (λ (b : ℕ × Term). IsColumnBelow n b.1) (λ (b : ℕ × Term). FitsFieldsOn n b.1 × IsColumnBelow n b.1) (λ b on below. (on, below)) sets f.2 f.1.columns),
      condition_on 0 c (narrow_fits n c small f.3),
    )
encodable s few (plain.Assert c) f = f
encodable s few _ f = tt
