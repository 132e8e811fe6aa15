-- The questions that workers decide: the roots are questions, and what is right for these is right for rows and candidates.
use Rattle.std.proofs.Common.{◌≡◌, ℕ, suc, List, [], ◌∷◌, length, map, refl, ap}
use Rattle.std.{specs.Prelude.{All, IsTrue}, specs.List.AllZip, proofs.lemmas.List.Elements.{All-nil, All-cons, All-head, All-tail}}
use Rattle.ct_word.{specs.declared.values.CRow.CRow, specs.WellFormed.is_place_of}
use Rattle.ct_decide.specs.declared.deciding.Decision.{Decision}
use Rattle.ct_certain.specs.Answered.{IsSettled}
use Rattle.ct_questions.specs.{Candidates.IsCandidate, Roots.{AreRowRoots}, declared.tuples.Candidate.Candidate}
use Rattle.ct_workers.specs.Right.{IsQuestion, IsRight}
use Rattle.ct_word.specs.declared.kinds.Class.TheVariants as class
use Rattle.ct_decide.specs.declared.deciding.Decision.TheVariants as decision

-- a right decision settles its root
settled : (words : List ℕ) (root : ℕ) (d : Decision) → IsRight words root d → IsSettled words root d
settled words root (decision.World v) h = h
settled words root (decision.Refuted d) h = h

module _ (old now : List ℕ) (global : ℕ) where
  -- the roots of rows
  pub rows_asked : (rs : List CRow) (roots : List ℕ) → AreRowRoots old now global rs roots → All (IsQuestion now) roots
  rows_asked [] [] are = All-nil _
  rows_asked (r ∷ rs) (p ∷ ps) are = All-cons (IsQuestion now) p ps (record { condition = are.0.asks.class; plain = are.0.asks.plain }) (rows_asked rs ps are.1)
  rows_asked [] (p ∷ ps) are = absurd are
  rows_asked (r ∷ rs) [] are = absurd are

  pub rows_placed : (rs : List CRow) (roots : List ℕ) → AreRowRoots old now global rs roots → All (λ p. IsTrue (is_place_of now class.Cond p)) roots
  rows_placed [] [] are = All-nil _
  rows_placed (r ∷ rs) (p ∷ ps) are = All-cons (λ p. IsTrue (is_place_of now class.Cond p)) p ps are.0.asks.class (rows_placed rs ps are.1)
  rows_placed [] (p ∷ ps) are = absurd are
  rows_placed (r ∷ rs) [] are = absurd are

  pub as_many : (rs : List CRow) (roots : List ℕ) → AreRowRoots old now global rs roots → length roots ≡ length rs
  as_many [] [] are = refl
  as_many (r ∷ rs) (p ∷ ps) are = ap (λ n. suc n) (as_many rs ps are.1)
  as_many [] (p ∷ ps) are = absurd are
  as_many (r ∷ rs) [] are = absurd are

  -- the roots of candidates
  pub candidates_asked : (rs : List CRow) (cs : List Candidate) → All (IsCandidate old now global rs) cs → All (IsQuestion now) (map (λ c. c.root) cs)
  candidates_asked rs [] all = All-nil _
  candidates_asked rs (c ∷ cs) all =
      let first = All-head (IsCandidate old now global rs) c cs all in
      All-cons (IsQuestion now) c.root (map (λ c. c.root) cs) (record { condition = first.class; plain = first.plain }) (candidates_asked rs cs (All-tail (IsCandidate old now global rs) c cs all))

-- right decisions for roots
pub roots_settled : (words roots : List ℕ) (ds : List Decision) → AllZip (IsRight words) roots ds → AllZip (IsSettled words) roots ds
roots_settled words [] [] all = tt
roots_settled words (p ∷ ps) (d ∷ ds) all = (settled words p d all.0, roots_settled words ps ds all.1)
roots_settled words [] (d ∷ ds) all = absurd all
roots_settled words (p ∷ ps) [] all = absurd all

pub candidates_settled : (words : List ℕ) (cs : List Candidate) (ds : List Decision) → AllZip (IsRight words) (map (λ c. c.root) cs) ds → AllZip (λ (c : Candidate) d. IsSettled words c.root d) cs ds
candidates_settled words [] [] all = tt
candidates_settled words (c ∷ cs) (d ∷ ds) all = (settled words c.root d all.0, candidates_settled words cs ds all.1)
candidates_settled words [] (d ∷ ds) all = absurd all
candidates_settled words (c ∷ cs) [] all = absurd all
