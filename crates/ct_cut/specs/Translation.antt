-- The steps of a derivation that the log of a solver gives.
use Rattle.std.specs.Prelude.{ℕ, List, [], ◌∷◌, drop, slice_index_or}
use Rattle.ct_derivation.specs.declared.literals.Atom.{Atom}
use Rattle.ct_derivation.specs.declared.steps.Why.{Why}
use Rattle.ct_derivation.specs.declared.steps.Why.TheVariants as why
use Rattle.ct_derivation.specs.declared.steps.Step.{Step}
use Rattle.ct_derivation.specs.Literal.{Clause}
use Rattle.ct_trail.specs.declared.log.Entry.{Entry}
use Rattle.ct_trail.specs.declared.log.Entry.TheVariants as entry
use Rattle.ct_cnf.specs.Encoding.{through}

abbrev pub step : Clause → Why → Step
step ls w = record { clause = ls; why = w }

-- an entry over the atoms: an added clause with this origin, a learned one with its hints
abbrev pub entry_step : List Atom → Why → Entry → Step
entry_step atoms w (entry.Added c) = step (through atoms c) w
entry_step atoms w (entry.Learned r) = step (through atoms r.clause) (why.Rup r.hints)

-- how many origins an entry has
abbrev pub origin_count : Entry → ℕ
origin_count (entry.Added c) = 1
origin_count (entry.Learned r) = 0

-- the origin at a place
abbrev pub origin_at : List Why → ℕ → Why
origin_at ws k = slice_index_or ws k why.Root

-- the entries over the atoms, each added clause with the next origin
abbrev pub steps_of : List Atom → List Why → List Entry → List Step
steps_of atoms ws [] = []
steps_of atoms ws (e ∷ es) = entry_step atoms (origin_at ws 0) e ∷ steps_of atoms (drop (origin_count e) ws) es
