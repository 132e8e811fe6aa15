-- What a table that answers a query makes possible and certain, its query makes so over the history.
use Rattle.std.{proofs.Common.{◌≡◌, ℕ, Bool, true, false, not, ◌&&◌, ◌||◌, List, ◌∷◌, map, cond, refl, ap, sym, ◌∙◌}, specs.List.{IsDistinct, AllByRecursion}}
use Rattle.std.{specs.Prelude.{Option, Some, None, IfSome, IsSomeAnd, IsTrue, All, is_some}, proofs.lemmas.Bool.{false≢true, or_left, or_right, and_parts}}
use Rattle.std.{proofs.lemmas.Map.Keys.{IsDistinct-head, IsDistinct-tail, IsDistinct-cons}, proofs.lemmas.List.Elements.{All-nil, All-cons, All-weaker}}
use Rattle.ct_word.{specs.declared.values.Value.Value, specs.declared.values.CRow.CRow, specs.Value.{World, same_cells, same_tuple, tuple_at}}
use Rattle.ct_word.{specs.Sublist.{IsSublist, ended, left_out, taken}, specs.Condition.holds_at, specs.Change.PlainCommit, proofs.Alike.tuple_decides}
use Rattle.ct_word.specs.Reading.{term_at, condition_at, plain_crow}
use Rattle.ct_query.{specs.Plain.{PlainQuery, PlainAction}, specs.Database.{Database, has_tuple, SameSet}, specs.Rows.rows, specs.Worlds.world}
use Rattle.ct_query.proofs.Sublists.{sublist_of_sublist}
use Rattle.ct_rewrite.{specs.declared.answer.PossibleRow.PossibleRow, specs.declared.answer.CertainRow.CertainRow, specs.Tidy.IsTidy}
use Rattle.ct_operators.specs.Tables.{cells_of, value_of_rows}
use Rattle.ct_transcript.{specs.Possible.{ShowsRow, PossibleRight}, specs.Certain.{IsCertain, is_absent, RefutesAbsence, CertainRight}}
use Rattle.ct_certain.{specs.Possible.{shown_row, ListsPossible}, specs.Certain.{IsInAll, is_missing, RefutesMissing, ListsCertain}}
use Rattle.ct_statement.{specs.Asking.AnswersQuery, proofs.Printed.shown_more}
use Rattle.ct_certain.specs.Possible as lists

-- what holds of each item holds of each of a part
all_in_part : {A : Type 0} (P : A → Type 0) (xs ys : List A) → IsSublist xs ys → AllByRecursion P ys → AllByRecursion P xs
all_in_part P xs ys ended all = tt
all_in_part P xs (y ∷ ys) (left_out p) all = all_in_part P xs ys p all.1
all_in_part P (x ∷ xs) (x' ∷ ys) (taken p) all = (all.0, all_in_part P xs ys p all.1)

-- a part of distinct items is distinct
distinct_part : {A : Type 0} (same : A → A → Bool) (xs ys : List A) → IsSublist xs ys → IsDistinct same ys → IsDistinct same xs
distinct_part same xs ys ended d = d
distinct_part same xs (y ∷ ys) (left_out p) d = distinct_part same xs ys p (IsDistinct-tail same y ys d)
distinct_part same (x ∷ xs) (x' ∷ ys) (taken p) d =
    IsDistinct-cons same x xs (all_in_part (λ y. same x y ≡ false) xs ys p (IsDistinct-head same x ys d)) (distinct_part same xs ys p (IsDistinct-tail same x ys d))

-- a tuple is a member of these and those
alike : (x : List Value) → same_tuple x x ≡ true
alike x = (tuple_decides x x).1 refl

-- the tuples that one row more is worth
value_more : (words : List ℕ) (v : World) (r : CRow) (rs : List CRow)
    → value_of_rows words v (r ∷ rs) ≡ cond (holds_at v (condition_at words r.cond)) (tuple_at v (map (term_at words) r.cells) ∷ value_of_rows words v rs) (value_of_rows words v rs)
value_more words v r rs = shown_more v (plain_crow words r) (map (plain_crow words) rs)

module _ (words : List ℕ) (v : World) (r : CRow) (rs : List CRow) (tuple : List Value) where
  -- a member is of the first row, which is shown, or of those after it
  has_more : has_tuple (value_of_rows words v (r ∷ rs)) tuple
      ≡ cond (holds_at v (condition_at words r.cond)) (same_tuple (tuple_at v (map (term_at words) r.cells)) tuple || has_tuple (value_of_rows words v rs) tuple) (has_tuple (value_of_rows words v rs) tuple)
  has_more = ap (λ ts. has_tuple ts tuple) (value_more words v r rs) ∙ by_test (holds_at v (condition_at words r.cond)) where
    by_test : (b : Bool) → has_tuple (cond b (tuple_at v (map (term_at words) r.cells) ∷ value_of_rows words v rs) (value_of_rows words v rs)) tuple
        ≡ cond b (same_tuple (tuple_at v (map (term_at words) r.cells)) tuple || has_tuple (value_of_rows words v rs) tuple) (has_tuple (value_of_rows words v rs) tuple)
    by_test true = refl
    by_test false = refl

  -- a member of the later rows is one of all
  has_later : has_tuple (value_of_rows words v rs) tuple ≡ true → has_tuple (value_of_rows words v (r ∷ rs)) tuple ≡ true
  has_later e = has_more ∙ by_test (holds_at v (condition_at words r.cond)) where
    by_test : (b : Bool) → cond b (same_tuple (tuple_at v (map (term_at words) r.cells)) tuple || has_tuple (value_of_rows words v rs) tuple) (has_tuple (value_of_rows words v rs) tuple) ≡ true
    by_test true = or_right (same_tuple (tuple_at v (map (term_at words) r.cells)) tuple) (has_tuple (value_of_rows words v rs) tuple) e
    by_test false = e

-- the tuple of a row that is shown is a member
has_first : (words : List ℕ) (v : World) (r : CRow) (rs : List CRow) → holds_at v (condition_at words r.cond) ≡ true
    → has_tuple (value_of_rows words v (r ∷ rs)) (tuple_at v (map (term_at words) r.cells)) ≡ true
has_first words v r rs e =
    let t = tuple_at v (map (term_at words) r.cells) in
    has_more words v r rs t ∙ ap (λ b. cond b (same_tuple t t || has_tuple (value_of_rows words v rs) t) (has_tuple (value_of_rows words v rs) t)) e
    ∙ or_left (same_tuple t t) (has_tuple (value_of_rows words v rs) t) (alike t)

-- the listed cells are a part of the rows' cells
listed_part : (words : List ℕ) (global : ℕ) (rs : List CRow) (ps : List PossibleRow) → ListsPossible words global rs ps → IsSublist (map (λ p. p.cells) ps) (cells_of words rs)
listed_part words global rs ps lists.ended = ended
listed_part words global (r ∷ rs) ps (lists.left_out hidden rest) = left_out (listed_part words global rs ps rest)
listed_part words global (r ∷ rs) (p ∷ ps) (lists.taken v tidy shown rest) = taken (listed_part words global rs ps rest)

-- the worlds of the list are written in one way
listed_tidy : (words : List ℕ) (global : ℕ) (rs : List CRow) (ps : List PossibleRow) → ListsPossible words global rs ps → All (λ p. IsTidy p.world) ps
listed_tidy words global rs ps lists.ended = All-nil _
listed_tidy words global (r ∷ rs) ps (lists.left_out hidden rest) = listed_tidy words global rs ps rest
listed_tidy words global (r ∷ rs) (p ∷ ps) (lists.taken v tidy shown rest) = All-cons (λ x. IsTidy x.world) p ps tidy (listed_tidy words global rs ps rest)

-- in the world of a listed row the global condition holds, and its tuple is a member
record IsMember (words : List ℕ) (global : ℕ) (rs : List CRow) (p : PossibleRow) : Type 0 where
  pub allowed : holds_at p.world (condition_at words global) ≡ true
  pub there : has_tuple (value_of_rows words p.world rs) (tuple_at p.world p.cells) ≡ true

members_of_more : (words : List ℕ) (global : ℕ) (r : CRow) (rs : List CRow) (ps : List PossibleRow) → All (IsMember words global rs) ps → All (IsMember words global (r ∷ rs)) ps
members_of_more words global r rs =
    All-weaker (IsMember words global rs) (IsMember words global (r ∷ rs)) (λ x m. record { allowed = m.allowed; there = has_later words x.world r rs (tuple_at x.world x.cells) m.there })

listed_members : (words : List ℕ) (global : ℕ) (rs : List CRow) (ps : List PossibleRow) → ListsPossible words global rs ps → All (IsMember words global rs) ps
listed_members words global rs ps lists.ended = All-nil _
listed_members words global (r ∷ rs) ps (lists.left_out hidden rest) = members_of_more words global r rs ps (listed_members words global rs ps rest)
listed_members words global (r ∷ rs) (p ∷ ps) (lists.taken v tidy shown rest) =
    let both = and_parts (holds_at v (condition_at words global)) (holds_at v (condition_at words r.cond)) shown in
    All-cons (IsMember words global (r ∷ rs)) (shown_row words r v) ps (record { allowed = both.0; there = has_first words v r rs both.1 })
    (members_of_more words global r rs ps (listed_members words global rs ps rest))

-- where the global condition holds each member is that of a listed row
module _ (words : List ℕ) (global : ℕ) (v : World) (tuple : List Value) (g : holds_at v (condition_at words global) ≡ true) where
  listed_complete : (rs : List CRow) (ps : List PossibleRow) → ListsPossible words global rs ps
      → has_tuple (value_of_rows words v rs) tuple ≡ true → has_tuple (map (λ p. tuple_at v p.cells) ps) tuple ≡ true
  listed_complete rs ps lists.ended e = e
  listed_complete (r ∷ rs) ps (lists.left_out hidden rest) e =
      let not_here : holds_at v (condition_at words r.cond) ≡ false = sym (ap (λ b. b && holds_at v (condition_at words r.cond)) g) ∙ hidden v in
      let x = tuple_at v (map (term_at words) r.cells) in
      let others = has_tuple (value_of_rows words v rs) tuple in
      listed_complete rs ps rest (sym (has_more words v r rs tuple ∙ ap (λ b. cond b (same_tuple x tuple || others) others) not_here) ∙ e)
  listed_complete (r ∷ rs) (p ∷ ps) (lists.taken u tidy shown rest) e =
      by_test (holds_at v (condition_at words r.cond)) (sym (has_more words v r rs tuple) ∙ e) (listed_complete rs ps rest) where
        here : Bool
        here = same_tuple (tuple_at v (map (term_at words) r.cells)) tuple

        later : Bool
        later = has_tuple (map (λ y. tuple_at v y.cells) ps) tuple

        by_first : (b others : Bool) → (b || others) ≡ true → (others ≡ true → later ≡ true) → (b || later) ≡ true
        by_first true others h more = refl
        by_first false others h more = more h

        by_test : (b : Bool) → cond b (here || has_tuple (value_of_rows words v rs) tuple) (has_tuple (value_of_rows words v rs) tuple) ≡ true
            → (has_tuple (value_of_rows words v rs) tuple ≡ true → later ≡ true) → (here || later) ≡ true
        by_test true h more = by_first here (has_tuple (value_of_rows words v rs) tuple) h more
        by_test false h more = or_right here later (more h)

module _ (words : List ℕ) (global : ℕ) (h : List PlainCommit) (actions : List PlainAction) (q : PlainQuery) (width : ℕ) (rs : List CRow) (a : AnswersQuery words global h actions q width rs) where
  -- a member where the global condition holds is one of the query's tuples there
  member_shown : (v : World) (tuple : List Value) → holds_at v (condition_at words global) ≡ true → has_tuple (value_of_rows words v rs) tuple ≡ true
      → IsSomeAnd (world v h actions) (λ w. IsTrue (has_tuple (rows v q w) tuple))
  member_shown v tuple g e = by_world (world v h actions) (sym (a.condition.holds v) ∙ g) (a.tuples v) where
    by_world : (o : Option Database) → is_some o ≡ true → IfSome o (λ w. SameSet (value_of_rows words v rs) (rows v q w)) → IsSomeAnd o (λ w. IsTrue (has_tuple (rows v q w) tuple))
    by_world None n s = absurd (false≢true n)
    by_world (Some w) n s = sym (s tuple) ∙ e

  pub possible_right : (ps : List PossibleRow) → ListsPossible words global rs ps → PossibleRight ps q h actions
  possible_right ps l = record {
    distinct = distinct_part same_cells (map (λ p. p.cells) ps) (cells_of words rs) (listed_part words global rs ps l) a.are.distinct;
    in_pattern = sublist_of_sublist _ _ _ (listed_part words global rs ps l) a.part;
    witnessed = All-weaker (IsMember words global rs) (ShowsRow q h actions) (λ p m. member_shown p.world (tuple_at p.world p.cells) m.allowed m.there) ps (listed_members words global rs ps l);
    tidy = listed_tidy words global rs ps l;
    complete = λ v tuple. complete_at v tuple (world v h actions) (a.condition.holds v) (a.tuples v);
  } where
    complete_at : (v : World) (tuple : List Value) (o : Option Database) → holds_at v (condition_at words global) ≡ is_some o → IfSome o (λ w. SameSet (value_of_rows words v rs) (rows v q w))
        → IfSome o (λ w. IsTrue (has_tuple (rows v q w) tuple) → IsTrue (has_tuple (map (λ r. tuple_at v r.cells) ps) tuple))
    complete_at v tuple None g s = tt
    complete_at v tuple (Some w) g s = λ e. listed_complete words global v tuple g rs ps l (s tuple ∙ e)

  -- the tuples that are certain over the table are so over the history
  certain_from : (tuple : List Value) → IsInAll words global rs tuple → IsCertain q h actions tuple
  certain_from tuple all v = by_world (world v h actions) (a.condition.holds v) (a.tuples v) where
    by_world : (o : Option Database) → holds_at v (condition_at words global) ≡ is_some o → IfSome o (λ w. SameSet (value_of_rows words v rs) (rows v q w))
        → IfSome o (λ w. IsTrue (has_tuple (rows v q w) tuple))
    by_world None g s = tt
    by_world (Some w) g s = sym (s tuple) ∙ all v g

  certain_back : (tuple : List Value) → IsCertain q h actions tuple → IsInAll words global rs tuple
  certain_back tuple all v holds = by_world (world v h actions) (sym (a.condition.holds v) ∙ holds) (a.tuples v) (all v) where
    by_world : (o : Option Database) → is_some o ≡ true → IfSome o (λ w. SameSet (value_of_rows words v rs) (rows v q w)) → IfSome o (λ w. IsTrue (has_tuple (rows v q w) tuple))
        → IsTrue (has_tuple (value_of_rows words v rs) tuple)
    by_world None n s e = absurd (false≢true n)
    by_world (Some w) n s e = s tuple ∙ e

  -- and so are the worlds in which a tuple is absent
  absent_there : (v : World) (tuple : List Value) → is_missing words global rs tuple v ≡ is_absent v q tuple (world v h actions)
  absent_there v tuple = by_world (world v h actions) (a.condition.holds v) (a.tuples v) where
    by_world : (o : Option Database) → holds_at v (condition_at words global) ≡ is_some o → IfSome o (λ w. SameSet (value_of_rows words v rs) (rows v q w))
        → (holds_at v (condition_at words global) && not (has_tuple (value_of_rows words v rs) tuple)) ≡ is_absent v q tuple o
    by_world None g s = ap (λ b. b && not (has_tuple (value_of_rows words v rs) tuple)) g
    by_world (Some w) g s = (λ i. g i && not (s tuple i))

  -- over more words
  pub certain_right : (now : List ℕ) (kept : World) (list : List CertainRow) → ListsCertain words now global rs kept list → CertainRight list q h actions now
  certain_right now kept list c = record {
    distinct = c.distinct;
    exact = λ tuple. (λ e. certain_from tuple ((c.exact tuple).0 e), λ all. (c.exact tuple).1 (certain_back tuple all));
    refuted = All-weaker (RefutesMissing words now global rs) (λ r. RefutesAbsence r q h actions now) (λ r n. record { accepted = n.accepted; root = λ v. n.root v ∙ absent_there v r.tuple }) list c.refuted;
  }
