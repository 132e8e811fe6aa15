-- What the keeper interns for its guest.
use Rattle.std.{proofs.Common.{◌≡◌, ℕ, ◌+◌, ◌≤◌, List, [], ◌∷◌, ◌++◌, length, refl, ap, ◌∙◌, arith, length-append}, specs.Prelude.{Some, IsTrue}}
use Rattle.ct_word.{specs.WellFormed.{IsWellFormed, is_place_of}, proofs.Prefixes.{place_within, prefix_same, prefix_of_prefix, change_list_in_prefix}}
use Rattle.ct_arena.{specs.declared.tally.Tally.Tally, specs.Counts.commit_of, specs.Seen.Keeping}
use Rattle.ct_condition.proofs.Seating.{left_of, session_left, mine_left, enrolled_left, ended_left, commits_are_left}
use Rattle.ct_keeper.specs.Steps.{Interns, Appends}
use mathlib.Core.List.{IsPrefix}
use Rattle.ct_word.specs.declared.kinds.Class.TheVariants as class

-- a pass and its guest after a call are those that interned
pub interned : (old new pass : Keeping) (guest guest' tally : Tally) → new ≡ pass → guest' ≡ tally → new.guest ≡ Some guest' → IsPrefix old.words new.words → IsWellFormed new.words
    → left_of pass tally ≡ left_of old guest → Interns old guest new guest'
interned old new pass guest guest' tally same same' entered longer formed kept =
    let left : left_of new guest' ≡ left_of old guest = (λ i. left_of (same i) (same' i)) ∙ kept in
    record {
      entered = entered;
      longer = longer;
      formed = formed;
      commits = commits_are_left old new guest guest' left longer;
      enrolled = enrolled_left old new guest guest' left;
      ended = ended_left old new guest guest' left;
      session = session_left old new guest guest' left;
      mine = mine_left old new guest guest' left;
    }

-- one call after another
pub interned_on : (old mid new : Keeping) (guest guest' guest'' : Tally) → Interns old guest mid guest' → Interns mid guest' new guest'' → Interns old guest new guest''
interned_on old mid new guest guest' guest'' a b = record {
  entered = b.entered;
  longer = prefix_of_prefix old.words mid.words new.words a.longer b.longer;
  formed = b.formed;
  commits = b.commits ∙ a.commits;
  enrolled = b.enrolled ∙ a.enrolled;
  ended = b.ended ∙ a.ended;
  session = b.session ∙ a.session;
  mine = b.mine ∙ a.mine;
}

-- and none at all
pub interned_none : (k : Keeping) (guest : Tally) → k.guest ≡ Some guest → IsWellFormed k.words → Interns k guest k guest
interned_none k guest entered formed = record {
  entered = entered;
  longer = prefix_same k.words;
  formed = formed;
  commits = refl;
  enrolled = refl;
  ended = refl;
  session = refl;
  mine = refl;
}

pub prefix_short : {A : Type 0} (old new : List A) → IsPrefix old new → length old ≤ length new
prefix_short old new p = let all = ap length p.1 in omega (arith, all, length-append old p.0)

same_commit : (old mid : List ℕ) (s t m n list : ℕ) → IsPrefix old mid → IsTrue (is_place_of old class.ChangeList list) → t ≡ s → n ≡ m → commit_of mid t n list ≡ commit_of old s m list
same_commit old mid s t m n list p place e f =
    λ i. record { session = e i; number = f i; changes = change_list_in_prefix old mid list p (place_within old class.ChangeList list place) i }

-- a commit after interning
pub appended_on : (list : ℕ) (old mid new : Keeping) (guest guest' guest'' : Tally) → IsTrue (is_place_of old.words class.ChangeList list) → Interns old guest mid guest'
    → Appends list mid guest' new guest'' → Appends list old guest new guest''
appended_on list old mid new guest guest' guest'' place a b =
    let short = prefix_short old.words mid.words a.longer in
    record {
      entered = b.entered;
      longer = prefix_of_prefix old.words mid.words new.words a.longer b.longer;
      formed = b.formed;
      commits = b.commits ∙ (λ i. a.commits i ++ same_commit old.words mid.words guest.session guest'.session guest.mine guest'.mine list a.longer place a.session a.mine i ∷ []);
      enrolled = b.enrolled ∙ a.enrolled;
      ended = b.ended ∙ a.ended;
      session = b.session ∙ a.session;
      mine = b.mine ∙ ap (λ n. n + 1) a.mine;
      grown = omega (arith, short, b.grown);
    }
