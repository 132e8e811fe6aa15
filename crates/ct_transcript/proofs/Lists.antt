-- Closed tests: lists of possible rows and of certain tuples.
use Rattle.std.{proofs.Common.{◌≡◌, ℕ, zero, suc, ◌<◌, List, [], ◌∷◌, refl, arith, sym, true≢false}, specs.Prelude.{true, false, pos, codes, slice_index_or}}
use Rattle.std.specs.List.{IsDistinct}
use Rattle.ct_word.{specs.declared.values.Value.Value, specs.declared.values.Null.Null, specs.declared.values.Term.Term, specs.Value.World}
use Rattle.ct_word.{specs.Condition.True, specs.Word.{word_of, kind_with}, specs.Reading.meaning_of, specs.Sublist.{ended, taken}}
use Rattle.ct_word.specs.Change.{PlainRow, PlainChange, PlainCommit, Create, Insert}
use Rattle.ct_query.specs.Plain.{PlainQuery, Table}
use Rattle.ct_rewrite.{specs.declared.answer.PossibleRow.PossibleRow, specs.declared.answer.CertainRow.CertainRow, specs.Tidy.{IsTidy, are_ascending}}
use Rattle.ct_derivation.{specs.declared.steps.Proof.Proof, specs.Literal.{yes_of, no_of, same_lit, has, same_members}}
use Rattle.ct_derivation.specs.Accepts.{fits_atom, fits_lit, gives, is_right, accepts}
use Rattle.ct_transcript.{specs.Possible.{PossibleRight, ShowsRow}, specs.Certain.{CertainRight, RefutesAbsence}}
use Rattle.ct_word.specs.declared.values.Value.TheVariants as val
use Rattle.ct_word.specs.declared.values.Null.TheVariants as null
use Rattle.ct_word.specs.declared.values.Term.TheVariants as term
use Rattle.ct_word.specs.declared.kinds.Kind.TheVariants as kind
use Rattle.ct_derivation.specs.declared.literals.Atom.TheVariants as atom
use Rattle.ct_derivation.specs.declared.steps.Why.TheVariants as why

abbrev int : ℕ → Value
int n = val.Int (pos n)

abbrev one : Term
one = term.Value (int 1)

abbrev named_x : Null
named_x = null.Named (codes "x")

abbrev x : Term
x = term.Null named_x

abbrev by_one : ℕ → PlainChange → PlainCommit
by_one number change = record { session = 1; number = number; changes = change ∷ [] }

abbrev row : Term → PlainRow
row t = record { cells = t ∷ []; condition = True }

-- create table t (a), and these rows inserted
abbrev table_with : List PlainRow → List PlainCommit
table_with rs = by_one 0 (Create (codes "t") (codes "a" ∷ [])) ∷ by_one 1 (Insert (codes "t") rs) ∷ []

abbrev query : PlainQuery
query = Table (codes "t")

-- (?x) with this world
abbrev x_in : World → PossibleRow
x_in v = record { cells = x ∷ []; world = v }

x_shows : (k : ℕ) (d : PossibleRow) → k < 1 → ShowsRow query (table_with (row x ∷ [])) [] (slice_index_or (x_in [] ∷ []) k d)
x_shows zero d lt = refl
x_shows (suc k) d lt = absurd (omega (arith, lt))

x_tidy : (k : ℕ) (d : PossibleRow) → k < 1 → IsTidy (slice_index_or (x_in [] ∷ []) k d).world
x_tidy zero d lt = refl
x_tidy (suc k) d lt = absurd (omega (arith, lt))

-- after `insert (?x)` the row (?x) is possible, in the empty world
x_possible : PossibleRight (x_in [] ∷ []) query (table_with (row x ∷ [])) []
unfolding IsDistinct
x_possible = record {
  distinct = (tt, tt);
  in_pattern = taken ended;
  witnessed = x_shows;
  tidy = x_tidy;
  complete = λ v tuple e. e;
}

-- a world with a pair that has @0 is wrong, though it shows the row
zero_listed : PossibleRight (x_in ((named_x, val.Other 0) ∷ []) ∷ []) query (table_with (row x ∷ [])) [] → ⊥
zero_listed right = true≢false (sym (right.tidy 0 (x_in []) (omega arith)))

zero_shows : ShowsRow query (table_with (row x ∷ [])) [] (x_in ((named_x, val.Other 0) ∷ []))
zero_shows = refl

-- the empty list is not complete
none_listed : PossibleRight [] query (table_with (row x ∷ [])) [] → ⊥
none_listed right = true≢false (sym (right.complete [] (val.Other 0 ∷ []) refl))

-- a null with a value
abbrev seven : Null → Null × Value
seven n = (n, int 7)

abbrev fresh : ℕ → ℕ → Null × Value
fresh s n = seven (null.Fresh s n)

-- named nulls by their bytes, then fresh ones by session and number
in_order : are_ascending (
    seven (null.Named (codes "a")) ∷ seven (null.Named (codes "ab")) ∷ seven (null.Named (codes "b"))
    ∷ fresh 1 1 ∷ fresh 1 10 ∷ fresh 2 3 ∷ []) ≡ true
in_order = refl

fresh_before_named : are_ascending (fresh 1 1 ∷ seven named_x ∷ []) ≡ false
fresh_before_named = refl

later_session_first : are_ascending (fresh 2 1 ∷ fresh 1 2 ∷ []) ≡ false
later_session_first = refl

listed_twice : are_ascending (seven named_x ∷ seven named_x ∷ []) ≡ false
listed_twice = refl

-- the words of true and false
abbrev log : List ℕ
log = word_of kind.True 0 0 ∷ word_of kind.False 0 0 ∷ []

-- the condition false is refuted by its own clause
abbrev false_refuted : Proof
false_refuted = record {
  root = 1;
  derivation = record {
    steps = record { clause = yes_of (atom.Node 1) ∷ []; why = why.Root }
        ∷ record { clause = no_of (atom.Node 1) ∷ []; why = why.Def 1 0 }
        ∷ record { clause = []; why = why.Rup (0 ∷ 1 ∷ []) } ∷ [];
  };
}

abbrev one_listed : List CertainRow
one_listed = record { tuple = int 1 ∷ []; proof = false_refuted } ∷ []

one_refuted : (k : ℕ) (d : CertainRow) → k < 1 → RefutesAbsence (slice_index_or one_listed k d) query (table_with (row one ∷ [])) [] log
unfolding kind_with meaning_of accepts is_right gives fits_lit fits_atom same_members has same_lit
one_refuted zero d lt = record { accepted = refl; root = λ v. refl }
one_refuted (suc k) d lt = absurd (omega (arith, lt))

-- after `insert (1)` the tuple (1) is certain, and nothing else
one_certain : CertainRight one_listed query (table_with (row one ∷ [])) [] log
unfolding IsDistinct
one_certain = record {
  distinct = (tt, tt);
  exact = λ tuple. (λ e v. e, λ f. f []);
  refuted = one_refuted;
}

-- and the empty list is wrong
one_left_out : CertainRight [] query (table_with (row one ∷ [])) [] log → ⊥
one_left_out right = true≢false (sym ((right.exact (int 1 ∷ [])).1 (λ v. refl)))

-- after `insert (?x)` the tuple (1) is not certain, as the empty world shows
one_not_certain : CertainRight one_listed query (table_with (row x ∷ [])) [] log → ⊥
one_not_certain right = true≢false (sym ((right.exact (int 1 ∷ [])).0 refl []))
