-- A closed test: the words of three commits, and of two conditions that are refuted over them.
use Rattle.std.{proofs.Common.{◌≡◌, ℕ, List, [], ◌∷◌, refl, sym, subst}, specs.Prelude.{pos, codes, length, take}}
use Rattle.ct_word.{specs.declared.values.Null.Null, specs.declared.values.Term.Term, specs.Word.{word_of, kind_with}, specs.StandsFor.{SameCommits, StandsFor}}
use Rattle.ct_word.{specs.Condition.{Condition, True, Same, Not, both}, specs.Change.{PlainChange, PlainCommit, Create, Insert, Assert}}
use Rattle.ct_word.{specs.Reading.{meaning_of, condition_at, commits_of}, specs.WellFormed.{is_word_after, IsWellFormed}}
use Rattle.ct_arena.specs.Counts.{opening, commit_word}
use Rattle.ct_derivation.{specs.declared.literals.Lit.Lit, specs.declared.steps.Why.Why, specs.declared.steps.Step.Step, specs.declared.steps.Proof.Proof}
use Rattle.ct_derivation.{specs.declared.steps.Derivation.Derivation, specs.Literal.{Clause, yes_of, no_of, same_lit, has, same_members}}
use Rattle.ct_derivation.{specs.Path.{is_constant, ends_clause, is_path}, specs.Accepts.{fits_atom, fits_lit, gives, is_right, accepts, AcceptsProof}}
use lib.Utf8.{encode}
use Rattle.ct_word.specs.declared.kinds.Kind.TheVariants as kind
use Rattle.ct_word.specs.declared.values.Value.TheVariants as val
use Rattle.ct_word.specs.declared.values.Null.TheVariants as null
use Rattle.ct_word.specs.declared.values.Term.TheVariants as term
use Rattle.ct_derivation.specs.declared.literals.Atom.TheVariants as atom
use Rattle.ct_derivation.specs.declared.steps.Why.TheVariants as why

abbrev pub x : Null
x = null.Named (codes "x")

abbrev pub number : ℕ → Term
number n = term.Value (val.Int (pos n))

-- the null ?x has this value
abbrev pub x_is : ℕ → Condition
x_is n = Same (term.Null x) (number n)

-- commit n of session 1, from 0
abbrev pub by_one : ℕ → PlainChange → PlainCommit
by_one n change = record { session = 1; number = n; changes = change ∷ [] }

-- `create table t (a)`, `insert into t values (?x)`, `assert ?x = 1`
abbrev pub created : PlainCommit
created = by_one 0 (Create (codes "t") (codes "a" ∷ []))

abbrev pub filled : PlainCommit
filled = by_one 1 (Insert (codes "t") (record { cells = term.Null x ∷ []; condition = True } ∷ []))

abbrev pub asserted : PlainCommit
asserted = by_one 2 (Assert (x_is 1))

abbrev pub history : List PlainCommit
history = created ∷ filled ∷ asserted ∷ []

-- their words, and at place 29 that ?x = 1 and ?x = 2, and at 31 that ?x = 1 and not ?x = 1
pub words : List ℕ
words =
    word_of kind.True 0 0 ∷ word_of kind.False 0 0 ∷ word_of kind.TextEnd 0 0
    ∷ word_of kind.TextCharacter 2 116 ∷ word_of kind.NamesEnd 0 0 ∷ word_of kind.TextCharacter 2 97 ∷ word_of kind.Names 4 5
    ∷ word_of kind.Create 3 6 ∷ word_of kind.ChangesEnd 0 0 ∷ word_of kind.Changes 8 7 ∷ commit_word 1 0 9
    ∷ word_of kind.TextCharacter 2 120 ∷ word_of kind.NamedNull 11 0 ∷ word_of kind.RowEnd 0 0 ∷ word_of kind.RowCell 13 12
    ∷ word_of kind.ConditionalRow 14 0 ∷ word_of kind.RowsEnd 0 0 ∷ word_of kind.Rows 16 15
    ∷ word_of kind.Insert 3 17 ∷ word_of kind.Changes 8 18 ∷ commit_word 1 1 19
    ∷ word_of kind.NumberHigh 0 0 ∷ word_of kind.Number 21 1 ∷ word_of kind.Equal 12 22
    ∷ word_of kind.Assert 23 0 ∷ word_of kind.Changes 8 24 ∷ commit_word 1 2 25
    ∷ word_of kind.Number 21 2 ∷ word_of kind.Equal 12 27 ∷ word_of kind.And 23 28
    ∷ word_of kind.Not 23 0 ∷ word_of kind.And 23 30 ∷ []

pub front : take 2 words ≡ opening
unfolding words opening
front = refl

pub many : length words ≡ 32
unfolding words
many = refl

pub formed : IsWellFormed words
unfolding words is_word_after kind_with
formed = refl

holds_commits : commits_of words ≡ history
unfolding words meaning_of kind_with encode
holds_commits = refl

pub stands : StandsFor history words
stands =
    subst (SameCommits history) (sym holds_commits)
    (refl, refl, ((refl, refl), tt), (refl, refl, ((refl, (refl, (λ v row. refl), tt)), tt), (refl, refl, ((λ v row. refl), tt), tt)))

pub two_numbers : condition_at words 29 ≡ both (x_is 1) (x_is 2)
unfolding words meaning_of kind_with encode
two_numbers = refl

pub number_and_not : condition_at words 31 ≡ both (x_is 1) (Not (x_is 1))
unfolding words meaning_of kind_with encode
number_and_not = refl

abbrev node : ℕ → Lit
node p = yes_of (atom.Node p)

abbrev no_node : ℕ → Lit
no_node p = no_of (atom.Node p)

abbrev step : Clause → Why → Step
step ls w = record { clause = ls; why = w }

-- ?x is not both 1 and 2, as these differ
pub not_both : Derivation
not_both = record {
  steps =
      step (node 29 ∷ []) why.Root
      ∷ step (no_node 29 ∷ node 23 ∷ []) (why.Def 29 0)
      ∷ step (no_node 29 ∷ node 28 ∷ []) (why.Def 29 1)
      ∷ step (no_node 23 ∷ yes_of (atom.Same 12 22) ∷ []) (why.Def 23 0)
      ∷ step (no_node 28 ∷ yes_of (atom.Same 12 27) ∷ []) (why.Def 28 0)
      ∷ step (no_of (atom.Same 12 22) ∷ no_of (atom.Same 12 27) ∷ []) (why.Path (22 ∷ 12 ∷ 27 ∷ []))
      ∷ step [] (why.Rup (0 ∷ 1 ∷ 2 ∷ 3 ∷ 4 ∷ 5 ∷ [])) ∷ [];
}

abbrev pub not_two : Proof
not_two = record { root = 29; derivation = not_both }

pub not_two_accepted : AcceptsProof words not_two
unfolding words not_both kind_with accepts is_right gives fits_lit fits_atom is_path ends_clause is_constant same_members has same_lit
not_two_accepted = refl

-- no condition holds together with its negation
pub not_opposed : Derivation
not_opposed = record {
  steps =
      step (node 31 ∷ []) why.Root
      ∷ step (no_node 31 ∷ node 23 ∷ []) (why.Def 31 0)
      ∷ step (no_node 31 ∷ node 30 ∷ []) (why.Def 31 1)
      ∷ step (no_node 30 ∷ no_node 23 ∷ []) (why.Def 30 0)
      ∷ step [] (why.Rup (0 ∷ 1 ∷ 2 ∷ 3 ∷ [])) ∷ [];
}

abbrev pub not_absent : Proof
not_absent = record { root = 31; derivation = not_opposed }

pub not_absent_accepted : AcceptsProof words not_absent
unfolding words not_opposed kind_with accepts is_right gives fits_lit fits_atom same_members has same_lit
not_absent_accepted = refl
