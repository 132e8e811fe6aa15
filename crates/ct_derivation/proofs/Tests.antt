-- Closed tests: what the definitions say of small derivations.
use Rattle.std.{proofs.Common.{◌≡◌, ℕ, Bool, true, false, List, [], ◌∷◌, ◌++◌, refl}, specs.Prelude.{pos, negsuc, map}}
use Rattle.ct_word.specs.Word.{word_of, kind_with}
use Rattle.ct_derivation.{specs.declared.literals.Lit.Lit, specs.declared.steps.Why.Why, specs.declared.steps.Step.Step, specs.Propagation.follows}
use Rattle.ct_derivation.{specs.Literal.{Clause, yes_of, no_of, same_lit, has, same_members}, specs.Variables.{signed, over_variables, is_literal}}
use Rattle.ct_derivation.{specs.Path.{is_constant, ends_clause, is_path}, specs.Accepts.{fits_atom, fits_lit, gives, is_right, accepts, widest}}
use Rattle.ct_word.specs.declared.kinds.Kind.TheVariants as kind
use Rattle.ct_derivation.specs.declared.literals.Atom.TheVariants as atom
use Rattle.ct_derivation.specs.declared.steps.Why.TheVariants as why

-- (?x = ?y and ?y = ?z) and not ?x = ?z, at place 14
chain_words : List ℕ
chain_words =
    word_of kind.True 0 0 ∷ word_of kind.False 0 0 ∷ word_of kind.TextEnd 0 0
    ∷ word_of kind.TextCharacter 2 120 ∷ word_of kind.NamedNull 3 0
    ∷ word_of kind.TextCharacter 2 121 ∷ word_of kind.NamedNull 5 0
    ∷ word_of kind.TextCharacter 2 122 ∷ word_of kind.NamedNull 7 0
    ∷ word_of kind.Equal 4 6 ∷ word_of kind.Equal 6 8 ∷ word_of kind.Equal 4 8
    ∷ word_of kind.Not 11 0 ∷ word_of kind.And 9 10 ∷ word_of kind.And 12 13 ∷ []

abbrev node : ℕ → Lit
node p = yes_of (atom.Node p)

abbrev no_node : ℕ → Lit
no_node p = no_of (atom.Node p)

abbrev same : ℕ → ℕ → Lit
same s t = yes_of (atom.Same s t)

abbrev differ : ℕ → ℕ → Lit
differ s t = no_of (atom.Same s t)

abbrev step : Clause → Why → Step
step ls w = record { clause = ls; why = w }

-- the steps that refute it, with these hints for the last
chain_steps : List ℕ → List Step
chain_steps hints =
    step (node 14 ∷ []) why.Root
    ∷ step (no_node 14 ∷ node 12 ∷ []) (why.Def 14 0)
    ∷ step (no_node 14 ∷ node 13 ∷ []) (why.Def 14 1)
    ∷ step (no_node 12 ∷ no_node 11 ∷ []) (why.Def 12 0)
    ∷ step (no_node 13 ∷ node 9 ∷ []) (why.Def 13 0)
    ∷ step (no_node 13 ∷ node 10 ∷ []) (why.Def 13 1)
    ∷ step (no_node 9 ∷ same 4 6 ∷ []) (why.Def 9 0)
    ∷ step (no_node 10 ∷ same 6 8 ∷ []) (why.Def 10 0)
    ∷ step (node 11 ∷ differ 4 8 ∷ []) (why.Def 11 1)
    ∷ step (differ 4 6 ∷ differ 6 8 ∷ same 4 8 ∷ []) (why.Path (4 ∷ 6 ∷ 8 ∷ []))
    ∷ step [] (why.Rup hints) ∷ []

accepted : accepts chain_words 14 (record { steps = chain_steps (0 ∷ 1 ∷ 2 ∷ 3 ∷ 4 ∷ 5 ∷ 6 ∷ 7 ∷ 8 ∷ 9 ∷ []) }) ≡ true
unfolding chain_words chain_steps kind_with accepts is_right gives fits_lit fits_atom is_path ends_clause is_constant same_members has same_lit
accepted = refl

-- without hint 3 step 8 has two open literals
hint_left_out : accepts chain_words 14 (record { steps = chain_steps (0 ∷ 1 ∷ 2 ∷ 4 ∷ 5 ∷ 6 ∷ 7 ∷ 8 ∷ 9 ∷ []) }) ≡ false
unfolding chain_words chain_steps kind_with accepts is_right gives fits_lit fits_atom is_path ends_clause is_constant same_members has same_lit
hint_left_out = refl

-- a hint after the falsified clause still has to name an earlier step
hint_past_the_end : accepts chain_words 14 (record { steps = chain_steps (0 ∷ 1 ∷ 2 ∷ 3 ∷ 4 ∷ 5 ∷ 6 ∷ 7 ∷ 8 ∷ 9 ∷ 10 ∷ []) }) ≡ false
unfolding chain_words chain_steps kind_with accepts is_right gives fits_lit fits_atom is_path ends_clause is_constant same_members has same_lit
hint_past_the_end = refl

hint_repeated_after : accepts chain_words 14 (record { steps = chain_steps (0 ∷ 1 ∷ 2 ∷ 3 ∷ 4 ∷ 5 ∷ 6 ∷ 7 ∷ 8 ∷ 9 ∷ 0 ∷ []) }) ≡ true
unfolding chain_words chain_steps kind_with accepts is_right gives fits_lit fits_atom is_path ends_clause is_constant same_members has same_lit
hint_repeated_after = refl

no_steps : accepts chain_words 14 (record { steps = [] }) ≡ false
unfolding chain_words kind_with accepts
no_steps = refl

-- (1 or 2) and (not 1 or 2) and not 2, over variables
units : follows over_variables (map (map signed) ((pos 1 ∷ pos 2 ∷ []) ∷ (negsuc 0 ∷ pos 2 ∷ []) ∷ (negsuc 1 ∷ []) ∷ [])) [] (2 ∷ 0 ∷ 1 ∷ []) ≡ true
units = refl

-- the last of these clauses is not empty
empty_before_the_end : accepts chain_words 14 (record { steps = chain_steps (0 ∷ 1 ∷ 2 ∷ 3 ∷ 4 ∷ 5 ∷ 6 ∷ 7 ∷ 8 ∷ 9 ∷ []) ++ step (node 1 ∷ []) (why.Rup (10 ∷ [])) ∷ [] }) ≡ false
unfolding chain_words chain_steps kind_with accepts is_right gives fits_lit fits_atom is_path ends_clause is_constant same_members has same_lit
empty_before_the_end = refl

-- a clause is a set
literal_repeated : is_right chain_words 14 [] (step (node 12 ∷ no_node 14 ∷ node 12 ∷ []) (why.Def 14 0)) ≡ true
unfolding chain_words kind_with is_right gives fits_lit fits_atom same_members has same_lit
literal_repeated = refl

literal_added : is_right chain_words 14 [] (step (no_node 14 ∷ node 12 ∷ node 13 ∷ []) (why.Def 14 0)) ≡ false
unfolding chain_words kind_with is_right gives fits_lit fits_atom same_members has same_lit
literal_added = refl

literal_left_out : is_right chain_words 14 [] (step (no_node 14 ∷ []) (why.Def 14 0)) ≡ false
unfolding chain_words kind_with is_right gives fits_lit fits_atom same_members has same_lit
literal_left_out = refl

-- a hint names no step but an earlier one
step_by_itself : accepts chain_words 14 (record { steps = step [] (why.Rup (0 ∷ [])) ∷ [] }) ≡ false
unfolding chain_words kind_with accepts is_right gives fits_lit fits_atom
step_by_itself = refl

-- a step by a clause before it that has one literal, which is the first here
unfoldable resolved : Lit → Bool
resolved l = is_right chain_words 14 (step (node 14 ∷ []) why.Root ∷ []) (step (node 14 ∷ l ∷ []) (why.Rup (0 ∷ [])))

smaller_place_first : resolved (same 4 6) ≡ true
unfolding chain_words kind_with resolved is_right gives fits_lit fits_atom same_members has same_lit
smaller_place_first = refl

greater_place_first : resolved (same 6 4) ≡ false
unfolding chain_words kind_with resolved is_right gives fits_lit fits_atom same_members has same_lit
greater_place_first = refl

condition_as_a_term : resolved (same 4 9) ≡ false
unfolding chain_words kind_with resolved is_right gives fits_lit fits_atom same_members has same_lit
condition_as_a_term = refl

term_as_a_condition : resolved (node 4) ≡ false
unfolding chain_words kind_with resolved is_right gives fits_lit fits_atom same_members has same_lit
term_as_a_condition = refl

path_turned_round : is_right chain_words 14 [] (step (same 4 8 ∷ differ 6 8 ∷ differ 4 6 ∷ []) (why.Path (8 ∷ 6 ∷ 4 ∷ []))) ≡ true
unfolding chain_words kind_with is_right gives fits_lit fits_atom is_path ends_clause is_constant same_members has same_lit
path_turned_round = refl

-- 'x' and 'y' at places 15 and 16
with_constants : List ℕ
with_constants = chain_words ++ word_of kind.TextConstant 3 0 ∷ word_of kind.TextConstant 5 0 ∷ []

different_constants : is_right with_constants 14 [] (step (differ 15 16 ∷ []) (why.Path (15 ∷ 16 ∷ []))) ≡ true
unfolding with_constants chain_words kind_with is_right gives fits_lit fits_atom is_path ends_clause is_constant same_members has same_lit
different_constants = refl

path_back_to_its_constant : is_right with_constants 14 [] (step (differ 4 15 ∷ []) (why.Path (15 ∷ 4 ∷ 15 ∷ []))) ≡ false
unfolding with_constants chain_words kind_with is_right gives fits_lit fits_atom is_path ends_clause is_constant same_members has same_lit
path_back_to_its_constant = refl

one_constant : is_right with_constants 14 [] (step (differ 4 15 ∷ []) (why.Path (4 ∷ 15 ∷ []))) ≡ false
unfolding with_constants chain_words kind_with is_right gives fits_lit fits_atom is_path ends_clause is_constant same_members has same_lit
one_constant = refl

-- (1 or 1) and not 1, over variables: a literal that stands twice is one open literal
open_literal_repeated : follows over_variables (map (map signed) ((pos 1 ∷ pos 1 ∷ []) ∷ (negsuc 0 ∷ []) ∷ [])) [] (0 ∷ 1 ∷ []) ≡ true
open_literal_repeated = refl

-- (1 or 2) and not 1
two_open_literals : follows over_variables (map (map signed) ((pos 1 ∷ pos 2 ∷ []) ∷ (negsuc 0 ∷ []) ∷ [])) [] (0 ∷ 1 ∷ []) ≡ false
two_open_literals = refl

-- 1 and (1 or 2) and not 2
true_literal : follows over_variables (map (map signed) ((pos 1 ∷ []) ∷ (pos 1 ∷ pos 2 ∷ []) ∷ (negsuc 1 ∷ []) ∷ [])) [] (0 ∷ 1 ∷ 2 ∷ []) ≡ false
true_literal = refl

-- the last step has no literals and these ten hints
width_of_the_last : widest (record { steps = chain_steps (0 ∷ 1 ∷ 2 ∷ 3 ∷ 4 ∷ 5 ∷ 6 ∷ 7 ∷ 8 ∷ 9 ∷ []) }) ≡ 10
unfolding chain_steps
width_of_the_last = refl

-- two literals and one hint
width_of_both : widest (record { steps = step (node 14 ∷ node 12 ∷ []) (why.Rup (0 ∷ [])) ∷ [] }) ≡ 3
width_of_both = refl

-- a step by the root says no more
root_with_more : is_right chain_words 14 [] (step (node 14 ∷ node 13 ∷ []) why.Root) ≡ false
unfolding chain_words kind_with is_right gives fits_lit fits_atom same_members has same_lit
root_with_more = refl

-- ?x = ?y or ?y = ?z, at place 15
with_disjunction : List ℕ
with_disjunction = chain_words ++ word_of kind.Or 9 10 ∷ []

left_of_a_disjunction : is_right with_disjunction 14 [] (step (node 15 ∷ no_node 9 ∷ []) (why.Def 15 1)) ≡ true
unfolding with_disjunction chain_words kind_with is_right gives fits_lit fits_atom same_members has same_lit
left_of_a_disjunction = refl

right_of_a_disjunction : is_right with_disjunction 14 [] (step (node 15 ∷ no_node 10 ∷ []) (why.Def 15 2)) ≡ true
unfolding with_disjunction chain_words kind_with is_right gives fits_lit fits_atom same_members has same_lit
right_of_a_disjunction = refl

-- a condition that is its own negation is no well formed word; its steps refute any root that is a condition
unfoldable own_negation : ℕ → Bool
own_negation root = accepts (word_of kind.Not 0 0 ∷ []) root (record { steps = step (no_node 0 ∷ []) (why.Def 0 0) ∷ step (node 0 ∷ []) (why.Def 0 1) ∷ step [] (why.Rup (0 ∷ 1 ∷ [])) ∷ [] })

root_there : own_negation 0 ≡ true
unfolding own_negation kind_with accepts is_right gives fits_lit fits_atom same_members has same_lit
root_there = refl

root_past_the_words : own_negation 1 ≡ false
unfolding own_negation kind_with accepts is_right gives fits_lit fits_atom same_members has same_lit
root_past_the_words = refl

-- a path stays nowhere
equal_neighbours : is_path chain_words 4 (4 ∷ 6 ∷ []) ≡ false
unfolding chain_words kind_with is_path
equal_neighbours = refl

zero_is_no_literal : is_literal 3 (pos 0) ≡ false
zero_is_no_literal = refl

last_literal : is_literal 3 (negsuc 2) ≡ true
last_literal = refl

literal_past_the_last : is_literal 3 (negsuc 3) ≡ false
literal_past_the_last = refl
