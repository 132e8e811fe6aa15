-- What is known of the commits of a version in words, as the words go on: it holds for every history that stands for them.
use Rattle.std.proofs.Common.{◌≡◌, ℕ, ◌≤◌, List, ◌++◌, length, take, drop, ap, sym, subst, ◌∙◌, arith, length-append}
use Rattle.std.proofs.lemmas.List.{take-append-drop, take-append-le}
use Rattle.ct_word.{specs.Change.PlainCommit, specs.Reading.commits_of, specs.StandsFor.StandsFor, proofs.Prefixes.commits_prefix}
use Rattle.ct_query.{specs.Keeping.Keeps, specs.Patterns.count, specs.Plain.PlainAction, proofs.Keeping.same_throughout}
use Rattle.ct_table.specs.Snapshot.{commits_to}
use Rattle.ct_transaction.proofs.Sameness.{commits_back}
use Rattle.ct_statement.proofs.Weights.{count_grows}
use mathlib.Core.List.{IsPrefix}

-- a prefix is no longer
pub prefix_short : {A : Type 0} (xs ys : List A) → IsPrefix xs ys → length xs ≤ length ys
prefix_short xs ys p = let sum : length (xs ++ p.0) ≡ length ys = ap length p.1 in omega (arith, length-append xs p.0, sum)

-- a version of words is one of further words
pub version_within : (words more : List ℕ) → IsPrefix words more → (version : ℕ) → version ≤ length (commits_of words) → version ≤ length (commits_of more)
version_within words more longer version within =
    let short = prefix_short (commits_of words) (commits_of more) (commits_prefix words more longer) in omega (arith, within, short)

-- the length of a prefix takes it
pub front_taken : {A : Type 0} (n : ℕ) (xs ys : List A) → IsPrefix xs ys → n ≤ length xs → take n ys ≡ take n xs
front_taken n xs ys p le = ap (take n) (sym p.1) ∙ take-append-le n xs p.0 le

-- what is known of the commits of a version is so of the first in each history that stands for further words
pub record IsOnward (h : List PlainCommit) (version : ℕ) (H : List PlainCommit) : Type 0 where
  pub within : version ≤ length H
  pub keeps : Keeps h (take version H)
  pub counts : (actions : List PlainAction) (t : List ℕ) → count h actions t ≤ count H actions t

pub onward : (words : List ℕ) (version : ℕ) → version ≤ length (commits_of words) → (W : List ℕ) → IsPrefix words W → (H : List PlainCommit) → StandsFor H W
    → IsOnward (commits_to words version) version H
onward words version le W longer H stands =
    let h = commits_to words version in
    let same = front_taken version (commits_of words) (commits_of W) (commits_prefix words W longer) le in
    let both = same_throughout (commits_of W) H (commits_back H (commits_of W) stands) in
    let keeps : Keeps h (take version H) = subst (λ g. Keeps g (take version H)) same (both.keeps version) in
    record {
      within = let there = version_within words W longer version le in let equal = both.length in omega (arith, there, equal);
      keeps = keeps;
      counts = λ actions t.
          subst (λ n. n ≤ count H actions t) (sym (keeps.counts actions t)) (count_grows (take version H) H (drop version H, take-append-drop version H) actions t);
    }
