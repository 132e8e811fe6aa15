-- One turn of the loop that translates a log.
use Rattle.std.proofs.Common.{◌≡◌, ℕ, ◌+◌, ◌<◌, ◌≤◌, true, List, ◌∷◌, length, drop, get_or, ap, ◌∙◌, sym, subst, arith}
use Rattle.std.{specs.Prelude.Contains, specs.List.list_all, proofs.lemmas.List.Elements.Contains-get_or, proofs.lemmas.List.{drop_more, get_or-drop, drop-drop}}
use Rattle.ct_derivation.{specs.declared.literals.Atom.Atom, specs.declared.steps.Why.Why}
use Rattle.ct_trail.specs.{declared.log.Entry.Entry, Literal.is_clause, Log.{entry_clause, clauses_in}}
use Rattle.ct_cut.{specs.Translation.{entry_step, origin_count, origin_at, steps_of}, proofs.Kept.all_item}
use Rattle.ct_word.proofs.Items.{mapped_item}
use Rattle.ct_derivation.specs.declared.steps.Why.TheVariants as why
use Rattle.ct_trail.specs.declared.log.Entry.TheVariants as entry

pub steps_turn : (atoms : List Atom) (ws : List Why) (es : List Entry) (next k : ℕ) (d : Entry) → k < length es
    → steps_of atoms (drop next ws) (drop k es) ≡ entry_step atoms (origin_at ws next) (get_or es k d) ∷ steps_of atoms (drop (next + origin_count (get_or es k d)) ws) (drop (k + 1) es)
steps_turn atoms ws es next k d lt =
    let e = get_or es k d in
    ap (steps_of atoms (drop next ws)) (drop_more es k d lt)
    ∙ ap (λ w. entry_step atoms w e ∷ steps_of atoms (drop (origin_count e) (drop next ws)) (drop (k + 1) es)) (get_or-drop next ws 0 why.Root ∙ ap (λ n. get_or ws n why.Root) (omega arith))
    ∙ ap (λ xs. entry_step atoms (origin_at ws next) e ∷ steps_of atoms xs (drop (k + 1) es)) (drop-drop (origin_count e) next ws)

pub entry_within : (n : ℕ) (es : List Entry) (k : ℕ) (e : Entry) → list_all (is_clause n) (clauses_in es) ≡ true → k < length es → e ≡ get_or es k e → is_clause n (entry_clause e) ≡ true
entry_within n es k e w lt is = all_item (is_clause n) (clauses_in es) (entry_clause e) w (mapped_item entry_clause es e (subst (Contains es) (sym is) (Contains-get_or es k e lt)))

pub count_one : (e : Entry) → origin_count e ≤ 1
count_one (entry.Added c) = omega arith
count_one (entry.Learned r) = omega arith
