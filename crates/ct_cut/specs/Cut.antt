-- A derivation cut to the steps that its last one needs.
use Rattle.std.specs.Prelude.{◌≡◌, ◌⊎◌, ◌<◌, ◌≤◌, ℕ, zero, suc, Bool, true, List, [], ◌∷◌, map, length, Some, slice_get, slice_index_or, Contains, if◌then◌else◌}
use Rattle.ct_word.specs.Stands.{Below}
use Rattle.ct_derivation.specs.declared.literals.Atom.{Atom}
use Rattle.ct_derivation.specs.declared.literals.Atom.TheVariants as atom
use Rattle.ct_derivation.specs.declared.literals.Lit.{Lit}
use Rattle.ct_derivation.specs.declared.steps.Why.{Why}
use Rattle.ct_derivation.specs.declared.steps.Why.TheVariants as why
use Rattle.ct_derivation.specs.declared.steps.Step.{Step}
use Rattle.ct_derivation.specs.declared.steps.Derivation.{Derivation}
use Rattle.ct_derivation.specs.Accepts.{hints_of}
use Rattle.ct_trail.specs.declared.log.Entry.{Entry}
use Rattle.ct_trail.specs.declared.log.Entry.TheVariants as entry
use Rattle.ct_cut.specs.Marks.{is_marked}
use Rattle.ct_cut.specs.Translation.{step, steps_of}

-- the atom is of the root, or of what stands below it
abbrev pub IsAtomBelow : List ℕ → ℕ → Atom → Type 0
IsAtomBelow words root (atom.Node p) = Below words root p
IsAtomBelow words root (atom.Same s t) = Below words root s × Below words root t

-- the step at this place is a hint of a later one
pub record IsHintOfLater (steps : List Step) (k : ℕ) : Type 0 where
  pub place : ℕ
  pub step : Step
  pub there : slice_get steps place ≡ Some step
  pub later : k < place
  pub hint : Contains (hints_of step.why) k

-- the atoms of a derivation are of the root and of what stands below it, and each step but the last is a hint of a later one
pub record IsCut (words : List ℕ) (root : ℕ) (d : Derivation) : Type 0 where
  pub below : (s : Step) (l : Lit) → Contains d.steps s → Contains s.clause l → IsAtomBelow words root l.atom
  pub used : (k : ℕ) → suc k < length d.steps → IsHintOfLater d.steps k

-- the items that are marked
abbrev pub kept : {X : Type 0} → List Bool → List X → List X
kept ms [] = []
kept [] (x ∷ xs) = []
kept (m ∷ ms) (x ∷ xs) = if m then x ∷ kept ms xs else kept ms xs

-- how many of the places before k are marked
abbrev pub rank : List Bool → ℕ → ℕ
rank ms zero = 0
rank [] (suc k) = 0
rank (m ∷ ms) (suc k) = if m then suc (rank ms k) else rank ms k

-- for each place how many are marked before it, with n more
abbrev pub ranks : ℕ → List Bool → List ℕ
ranks n [] = []
ranks n (m ∷ ms) = n ∷ ranks (if m then suc n else n) ms

-- hints by new numbers
abbrev pub renumbered : List ℕ → List ℕ → List ℕ
renumbered numbers hs = map (λ h. slice_index_or numbers h 0) hs

abbrev pub why_by : List ℕ → Why → Why
why_by numbers why.Root = why.Root
why_by numbers (why.Def p k) = why.Def p k
why_by numbers (why.Path ts) = why.Path ts
why_by numbers (why.Rup hs) = why.Rup (renumbered numbers hs)

abbrev pub step_by : List ℕ → Step → Step
step_by numbers s = step s.clause (why_by numbers s.why)

-- the marked steps, with their hints by new numbers
abbrev pub cut : List ℕ → List Bool → List Step → List Step
cut numbers ms ss = kept ms (map (step_by numbers) ss)

-- the hints of an entry; an added clause has none
abbrev pub entry_hints : Entry → List ℕ
entry_hints (entry.Added c) = []
entry_hints (entry.Learned r) = r.hints

-- the hints of each entry
abbrev pub all_hints : List Entry → List (List ℕ)
all_hints es = map entry_hints es

-- the hints at a place
abbrev pub hints_at : List (List ℕ) → ℕ → List ℕ
hints_at hints k = slice_index_or hints k []

-- hints name earlier places
abbrev pub HaveEarlier : List (List ℕ) → Type 0
HaveEarlier hints = (k h : ℕ) → Contains (hints_at hints k) h → h < k

-- a marked place has this hint
pub record IsMarkedHint (hints : List (List ℕ)) (marks : List Bool) (h : ℕ) : Type 0 where
  pub place : ℕ
  pub marked : is_marked marks place ≡ true
  pub hint : Contains (hints_at hints place) h

-- the last place is marked, with the hints of the marked places from one place on, and no other
pub record AreNeeded (hints : List (List ℕ)) (from : ℕ) (marks : List Bool) : Type 0 where
  pub long : length marks ≡ length hints
  pub last : (k : ℕ) → suc k ≡ length hints → is_marked marks k ≡ true
  pub closed : (k h : ℕ) → from ≤ k → is_marked marks k ≡ true → Contains (hints_at hints k) h → is_marked marks h ≡ true
  pub each : (k : ℕ) → is_marked marks k ≡ true → (suc k ≡ length hints) ⊎ IsMarkedHint hints marks k

-- the entries that are needed, over the atoms
pub record IsCutOf (atoms : List Atom) (ws : List Why) (es : List Entry) (d : Derivation) : Type 0 where
  pub marks : List Bool
  pub needed : AreNeeded (all_hints es) 0 marks
  pub is : d.steps ≡ cut (ranks 0 marks) marks (steps_of atoms ws es)
