-- The shared log: the words of its table, what each seat has seen of them, and the sessions that it holds.
use Rattle.std.specs.Prelude.{◌≡◌, ℕ, ◌+◌, ◌<◌, ◌≤◌, ◌≢◌, ◌⊎◌, ◌^◌, true, false, List, [], ◌∷◌, ◌++◌, length, replicate, Option, Some, None, nat_eq, nat_lt, if◌then◌else◌, IsTrue}
use mathlib.Core.Option.{some}
use mathlib.Core.List.{IsPrefix}
use lib.ListN.{get_elem?}
use Rattle.atomic_table.specs.Table.{Me}
use Rattle.ct_word.specs.Reading.{commits_of}
use Rattle.ct_word.specs.WellFormed.{IsWellFormed, is_plain_word, is_commit_word, is_word_after}
use Rattle.ct_arena.specs.Counts.{opening, commit_word, AreNumbered}
use Rattle.ct_arena.specs.declared.sharing.View.{View}
use Rattle.ct_arena.specs.declared.tally.Tally.{Tally}

-- the keeper's view, which has seen these words
abbrev pub keeper_view : ℕ → List ℕ → ℕ → Option Tally → List Tally → View
keeper_view room words enrolled guest ended = record { keeps = true; seen = words; other = []; guest = guest; ended = ended; enrolled = enrolled; room = room }

-- the view of a session
abbrev pub session_view : List ℕ → Option Tally → View
session_view words t = record { keeps = false; seen = words; other = []; guest = t; ended = []; enrolled = 0; room = 0 }

-- the first view: the keeper's
abbrev pub first_view : ℕ → View
first_view room = keeper_view room opening 0 None []

-- the view of a seat that was joined to the keeper's
abbrev pub spent : View
spent = session_view [] None

abbrev pub as_list : Option Tally → List Tally
as_list None = []
as_list (Some t) = t ∷ []

-- the sessions that a view holds
abbrev pub held : View → List Tally
held v = as_list v.guest ++ v.ended

-- the session's counts after it put a word
abbrev pub counts_word : ℕ → Tally → Tally
counts_word w t = record { session = t.session; made = t.made + 1; mine = t.mine + (if is_commit_word w then 1 else 0) }

abbrev pub guest_after : ℕ → Option Tally → Option Tally
guest_after w None = None
guest_after w (Some t) = Some (counts_word w t)

-- one word more was seen
abbrev pub grown : View → ℕ → View
grown v w = record { keeps = v.keeps; seen = v.seen ++ w ∷ []; other = v.other; guest = v.guest; ended = v.ended; enrolled = v.enrolled; room = v.room }

-- one word more was put
abbrev pub put_on : View → ℕ → View
put_on v w = record { keeps = v.keeps; seen = v.seen ++ w ∷ []; other = v.other; guest = guest_after w v.guest; ended = v.ended; enrolled = v.enrolled; room = v.room }

-- the longer of two lists
abbrev pub longer : List ℕ → List ℕ → List ℕ
longer xs ys = if nat_lt (length xs) (length ys) then ys else xs

-- the keeper's view once it takes the longer of its lists
abbrev pub settled : View → View
settled v = record { keeps = v.keeps; seen = longer v.seen v.other; other = []; guest = v.guest; ended = v.ended; enrolled = v.enrolled; room = v.room }

-- the keeper's view once its guest is ended
abbrev pub laid_by : View → View
laid_by v = record { keeps = v.keeps; seen = v.seen; other = v.other; guest = None; ended = v.ended ++ as_list v.guest; enrolled = v.enrolled; room = v.room }

-- the keeper's view as it takes a session in
abbrev pub joined : View → View → View
joined k v = record { keeps = k.keeps; seen = k.seen; other = v.seen; guest = v.guest; ended = k.ended; enrolled = k.enrolled; room = k.room }

-- the keeper's view once its guest has left, and the view of who left
abbrev pub kept : View → View
kept k = record { keeps = k.keeps; seen = k.seen; other = k.other; guest = None; ended = k.ended; enrolled = k.enrolled; room = k.room }

abbrev pub given : View → View
given k = session_view k.seen k.guest

-- the keeper's view once one session more was enrolled, and the view of that session
abbrev pub enrolled_by : View → View
enrolled_by k = record { keeps = k.keeps; seen = k.seen; other = k.other; guest = k.guest; ended = k.ended; enrolled = k.enrolled + 1; room = k.room }

abbrev pub newcomer : ℕ → Tally
newcomer session = record { session = session; made = 0; mine = 0 }

abbrev pub enrolled : View → View
enrolled k = session_view k.seen (Some (newcomer (k.enrolled + 1)))

-- f of each, added up
abbrev pub total : {A : Type 0} → (A → ℕ) → List A → ℕ
total f [] = 0
total f (x ∷ xs) = f x + total f xs

-- what the sessions of all views weigh together
abbrev pub weight : (Tally → ℕ) → List View → ℕ
weight g views = total (λ v. total g (held v)) views

-- one where it is this session
abbrev pub is_of : ℕ → Tally → ℕ
is_of s t = if nat_eq t.session s then 1 else 0

-- its commits where it is this session
abbrev pub mine_of : ℕ → Tally → ℕ
mine_of s t = if nat_eq t.session s then t.mine else 0

-- the log has 2 words and those that the sessions made, so many are held, each number once, and none past them, and the commits of each are as many as it has
pub record IsCounted (enrolled : ℕ) (log : List ℕ) (total : (Tally → ℕ) → ℕ) : Type 0 where
  pub made : 2 + total (λ t. t.made) ≡ length log
  pub many : total (λ t. 1) ≡ enrolled
  pub once : (s : ℕ) → total (is_of s) ≤ 1
  pub past : (s : ℕ) → enrolled < s → total (is_of s) ≡ 0
  pub numbered : (s : ℕ) → AreNumbered s (total (mine_of s)) log

-- the keeper has seen each commit
pub record IsKept (cap enrolled : ℕ) (log : List ℕ) (v : View) : Type 0 where
  pub commits : commits_of v.seen ≡ commits_of log
  pub many : v.enrolled ≡ enrolled
  pub room : v.room ≡ cap

-- what the views have seen are fronts of the log, and only the first one is the keeper's
pub record IsFronted (cap enrolled : ℕ) (log : List ℕ) (views : List View) : Type 0 where
  pub fronts : (id : ℕ) (v : View) → get_elem? views id ≡ some v → IsPrefix v.seen log × IsPrefix v.other log
  pub keeper : (id : ℕ) (v : View) → get_elem? views id ≡ some v → v.keeps ≡ true → (id ≡ 0) × IsKept cap enrolled log v

-- the views fit the log and hold each session once
pub record IsTied (cap : ℕ) (log : List ℕ) (views : List View) : Type 0 where
  pub enrolled : ℕ
  pub room : length log ≤ cap
  pub fronted : IsFronted cap enrolled log views
  pub counted : IsCounted enrolled log (λ g. weight g views)

-- the words of the table are those of a log and then zeros
pub record IsShared (cap : ℕ) (words : List ℕ) (views : List View) : Type 0 where
  pub log : List ℕ
  pub empty : ℕ
  pub are : words ≡ log ++ replicate empty 0
  pub size : length words ≡ cap
  pub formed : IsWellFormed log
  pub begins : IsPrefix opening log
  pub tied : IsTied cap log views

-- at some moment the log and the views were tied, and this was one of them
pub record IsMoment (v : View) : Type 0 where
  pub cap : ℕ
  pub log : List ℕ
  pub views : List View
  pub id : ℕ
  pub formed : IsWellFormed log
  pub begins : IsPrefix opening log
  pub tied : IsTied cap log views
  pub at : get_elem? views id ≡ some v

-- the word is the session's next commit, and the keeper puts it
pub record IsNextCommit (v : View) (t : Tally) (w : ℕ) : Type 0 where
  pub changes : ℕ
  pub keeps : v.keeps ≡ true
  pub numbered : AreNumbered t.session t.mine v.seen
  pub session : t.session ≤ 1023
  pub number : t.mine < 2 ^ 18
  pub small : changes < 2 ^ 28
  pub word : w ≡ commit_word t.session t.mine changes

-- a seat may put this word at the end of what it has seen
pub record MayPut (v : View) (w : ℕ) : Type 0 where
  pub session : Tally
  pub guest : v.guest ≡ Some session
  pub after : IsTrue (is_word_after v.seen w)
  pub kind : IsTrue (is_plain_word v.seen w) ⊎ IsNextCommit v session w

-- nothing more stood in the log, or one word more was seen
pub record IsRead (v : View) (found : ℕ) (after : Me ℕ View) : Type 0 where
  pub none : found ≡ 0 → (after ≡ (v, [])) × ((m : IsMoment v) × (m.log ≡ v.seen))
  pub some : found ≢ 0 → (after ≡ (grown v found, [])) × ((m : IsMoment v) × IsPrefix (v.seen ++ found ∷ []) m.log)

-- the word was put, or one that stood there was seen
pub record IsPut (v : View) (w found : ℕ) (after : Me ℕ View) : Type 0 where
  pub none : found ≡ 0 → after ≡ (put_on v w, [])
  pub some : found ≢ 0 → (after ≡ (grown v found, [])) × ((m : IsMoment v) × IsPrefix (v.seen ++ found ∷ []) m.log)

-- nothing changed
abbrev pub IsSeen : View → Me ℕ View → Type 0
IsSeen v after = (after ≡ (v, [])) × IsMoment v

-- both lists were fronts of the log, and the longer one was taken
pub record IsSettled (v : View) (after : Me ℕ View) : Type 0 where
  pub is : after ≡ (settled v, [])
  pub moment : IsMoment v

-- the guest was ended
abbrev pub IsLaidBy : View → Me ℕ View → Type 0
IsLaidBy v after = after ≡ (laid_by v, [])
