use Rattle.std.{proofs.Common.{◌≡◌, ◌∙◌, [], filter, length, sym, subst, rules}, specs.{Prelude.All, List.IsDistinct}, proofs.lemmas.{List.Elements.All-nil, Result.IfOk-weaker}}
use Rattle.ct_word.specs.Value.{same_tuple}
use Rattle.ct_condition.proofs.Reached.{both_of}
use Rattle.ct_operators.specs.Tables.{firsts, value_of_rows}
use Rattle.ct_certain.{specs.Missing.{IsSure, is_in_each}, proofs.Candidates.{distinct_keys, firsts_asked, firsts_few}}
use Rattle.ct_questions.{specs.Candidates.{AreCandidates, IsCandidate, tuples_of}, proofs.Listing.{candidates_are, none_left_out}}
use Rattle.ct_questions.proofs.tuples.certain_questions.Goals as goal

pub candidates_in-requires-clause-few : goal.candidates_in-requires-clause-few
candidates_in-requires-clause-few g c =
    let words = c.args.pass.now.words in
    let rows = c.args.table.now.rows in
    let kept = c.args.kept.now in
    let worth : c.as_slice.result.now ≡ firsts same_tuple (value_of_rows words kept rows) = search rules in
    firsts_few words kept rows c.as_slice.result.now worth

pub candidates_in-requires-clause-asked : goal.candidates_in-requires-clause-asked
candidates_in-requires-clause-asked g c =
    let words = c.args.pass.now.words in
    let rows = c.args.table.now.rows in
    let kept = c.args.kept.now in
    let worth : c.as_slice.result.now ≡ firsts same_tuple (value_of_rows words kept rows) = search rules in
    firsts_asked words kept rows c.as_slice.result.now worth c.args.global (length c.args.table.now.columns) c.words.ensures.formed c.words.ensures.begins c.requires.global c.requires.plain c.requires.rows c.requires.kept

pub candidates_in-requires-clause-sure : goal.candidates_in-requires-clause-sure
candidates_in-requires-clause-sure g c =
    let rows = c.args.table.now.rows in
    subst (λ ws. All (IsSure ws rows) c.in_ok-sure.sure.keys) c.words-2.ensures.words (subst (λ rs. All (IsSure c.words-2.result.now rs) c.in_ok-sure.sure.keys) c.as_slice-rows.ensures c.in_ok-sure.ensures.sure)

pub returns-clause-candidates : goal.returns-clause-candidates
returns-clause-candidates g c =
    let words = c.args.pass.now.words in
    let new = c.candidates_in.new.pass.words in
    let rows = c.args.table.now.rows in
    let kept = c.args.kept.now in
    let global = c.args.global in
    let tuples = c.as_slice.result.now in
    let worth : tuples ≡ firsts same_tuple (value_of_rows words kept rows) = search rules in
    let once = subst (IsDistinct same_tuple) (sym c.as_slice.ensures.keys) (distinct_keys _ c.as_slice.ensures.unique) in
    both_of c.candidates_in.result (λ list. tuples_of list ≡ filter (is_in_each []) tuples) (All (IsCandidate words new global rows)) (AreCandidates words new global rows kept)
    (λ list these roots. candidates_are words new global rows kept [] tuples list worth once c.requires.kept.holds (All-nil _) these roots) c.candidates_in.ensures.tuples c.candidates_in.ensures.roots

pub returns-clause-all : goal.returns-clause-all
returns-clause-all g c =
    let words = c.args.pass.now.words in
    let rows = c.args.table.now.rows in
    let kept = c.args.kept.now in
    let tuples = c.as_slice.result.now in
    let worth : tuples ≡ firsts same_tuple (value_of_rows words kept rows) = search rules in
    IfOk-weaker c.candidates_in.result (λ list. tuples_of list ≡ filter (is_in_each []) tuples) (λ list. tuples_of list ≡ firsts same_tuple (value_of_rows words kept rows))
    (λ list these. these ∙ none_left_out tuples ∙ worth) c.candidates_in.ensures.tuples
