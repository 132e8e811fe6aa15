-- Closed tests: what the definitions say of small logs.
use Rattle.std.{proofs.Common.{◌≡◌, ℕ, List, [], ◌∷◌, ◌++◌, refl}, specs.Prelude.{pos, negsuc, codes, true, false}}
use Rattle.ct_word.{specs.Word.kind_with, specs.Condition.{True, Same}, specs.Change.{Create, Insert, Update}, specs.Reading.{meaning_of, commits_of, int_of_bits}}
use Rattle.ct_word.{specs.Writable.is_writable, specs.WellFormed.{is_word_after, each_follows, IsWellFormed}}
use lib.Utf8.{encode}
use Rattle.ct_word.specs.declared.values.Value.TheVariants as val
use Rattle.ct_word.specs.declared.values.Term.TheVariants as term

-- the log after `create table t (a);`
first_log : List ℕ
first_log = 720575940379279360 ∷ 792633534417207296 ∷ 72057594037927936 ∷ 144115188612726900 ∷ 1513209474796486656 ∷ 144115188612726881 ∷ 1585267069908156421 ∷ 1657324663677648902 ∷ 1945555039024054272 ∷ 2017612635209465863 ∷ 2089740595844087817 ∷ []

-- its words are well formed
well_formed : IsWellFormed first_log
unfolding first_log is_word_after kind_with
well_formed = refl

-- they hold one commit, which creates t with the column a
one_commit : commits_of first_log ≡ record { session = 1; number = 0; changes = Create (codes "t") (codes "a" ∷ []) ∷ [] } ∷ []
unfolding first_log meaning_of kind_with encode
one_commit = refl

-- the log after a second commit, of `update t set a = 7 where a = 5`: number high, 7, set, sets end, sets, column, 5, equal,
-- update body, update, changes, commit
update_log : List ℕ
update_log = first_log ++ 216172782113783808 ∷ 288230379104501767 ∷ 2161727821137838092 ∷ 2233785415175766016 ∷ 2305843012971790349 ∷ 648518346341351424 ∷ 288230379104501765 ∷ 864691132750102545 ∷ 2377900607278153746 ∷ 2449958198094856211 ∷ 2017612635209465876 ∷ 2089740596112523285 ∷ []

update_well_formed : IsWellFormed update_log
unfolding first_log update_log is_word_after kind_with
update_well_formed = refl

-- it holds two commits, the second of which puts 7 for 5
two_commits :
    commits_of update_log
    ≡ record { session = 1; number = 0; changes = Create (codes "t") (codes "a" ∷ []) ∷ [] }
    ∷ record { session = 1; number = 1; changes = Update (codes "t") ((0, term.Value (val.Int (pos 7))) ∷ []) (Same (term.Column 0) (term.Value (val.Int (pos 5)))) ∷ [] }
    ∷ []
unfolding first_log update_log meaning_of kind_with encode
two_commits = refl

-- a set names an earlier term
no_term : each_follows [] (2161727821137838080 ∷ []) ≡ false
unfolding is_word_after kind_with
no_term = refl

-- a word that stands already may not stand again
no_repeat : each_follows [] (720575940379279360 ∷ 720575940379279360 ∷ []) ≡ false
unfolding is_word_after kind_with
no_repeat = refl

-- the ends of numbers
least_number : int_of_bits 9223372036854775808 ≡ negsuc 9223372036854775807
least_number = refl

minus_one : int_of_bits 18446744073709551615 ≡ negsuc 0
minus_one = refl

-- `t (a)` can be created, a table `select` can't, nor a row with another value inserted
create_writable : is_writable (Create (codes "t") (codes "a" ∷ [])) ≡ true
create_writable = refl

keyword_no_name : is_writable (Create (codes "select") (codes "a" ∷ [])) ≡ false
keyword_no_name = refl

other_not_written : is_writable (Insert (codes "t") (record { cells = term.Value (val.Other 0) ∷ []; condition = True } ∷ [])) ≡ false
other_not_written = refl

-- an update that puts a number can be written, one that puts another value can't
update_writable : is_writable (Update (codes "t") ((0, term.Value (val.Int (pos 7))) ∷ []) True) ≡ true
update_writable = refl

other_not_put : is_writable (Update (codes "t") ((0, term.Value (val.Other 0)) ∷ []) True) ≡ false
other_not_put = refl
