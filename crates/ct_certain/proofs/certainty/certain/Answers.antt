use Rattle.std.{proofs.Common.{◌≡◌, length, sym, subst, ◌∙◌, rules}, specs.Prelude.All, specs.List.IsDistinct, proofs.lemmas.Result.IfOk-weaker}
use Rattle.ct_word.specs.Value.{same_tuple}
use Rattle.ct_operators.specs.Tables.{firsts, value_of_rows}
use Rattle.ct_certain.{specs.Certain.{IsCutProof, ListsCertain}, specs.Missing.{AreListed, IsSeen, IsSure}}
use Rattle.ct_certain.{proofs.Candidates.{distinct_keys, firsts_asked, firsts_few}, proofs.Certainties.{all_cut, listed_all}}
use Rattle.ct_certain.proofs.certainty.certain.Goals as goal

pub each_certain-requires-clause-few : goal.each_certain-requires-clause-few
each_certain-requires-clause-few g c =
    let words = c.args.pass.now.words in
    let rows = c.args.table.now.rows in
    let kept = c.args.kept.now in
    let worth : c.as_slice.result.now ≡ firsts same_tuple (value_of_rows words kept rows) = search rules in
    firsts_few words kept rows c.as_slice.result.now worth

pub each_certain-requires-clause-asked : goal.each_certain-requires-clause-asked
each_certain-requires-clause-asked g c =
    let words = c.args.pass.now.words in
    let rows = c.args.table.now.rows in
    let kept = c.args.kept.now in
    let worth : c.as_slice.result.now ≡ firsts same_tuple (value_of_rows words kept rows) = search rules in
    firsts_asked words kept rows c.as_slice.result.now worth c.args.global (length c.args.table.now.columns) c.words-words.ensures.formed c.words-words.ensures.begins c.requires.global c.requires.plain c.requires.rows c.requires.kept

pub each_certain-requires-clause-pool : goal.each_certain-requires-clause-pool
each_certain-requires-clause-pool g c =
    subst (λ ws. All (IsSeen ws c.args.global c.args.table.now.rows) c.in_ok-pool.pool.items) c.words-words.ensures.words
    (subst (λ rs. All (IsSeen c.words-words.result.now c.args.global rs) c.in_ok-pool.pool.items) c.as_slice-rows.ensures c.in_ok-pool.ensures)

pub each_certain-requires-clause-sure : goal.each_certain-requires-clause-sure
each_certain-requires-clause-sure g c =
    subst (λ ws. All (IsSure ws c.args.table.now.rows) c.in_ok-sure.sure.keys) c.words-words.ensures.words
    (subst (λ rs. All (IsSure c.words-words.result.now rs) c.in_ok-sure.sure.keys) c.as_slice-rows.ensures c.in_ok-sure.ensures.sure)

pub returns-clause-lists : goal.returns-clause-lists
returns-clause-lists g c =
    let words = c.args.pass.now.words in
    let new = c.each_certain.new.pass.words in
    let rows = c.args.table.now.rows in
    let kept = c.args.kept.now in
    let global = c.args.global in
    let worth : c.as_slice.result.now ≡ firsts same_tuple (value_of_rows words kept rows) = search rules in
    let distinct = subst (IsDistinct same_tuple) (sym c.as_slice.ensures.keys ∙ worth) (distinct_keys _ c.as_slice.ensures.unique) in
    IfOk-weaker c.each_certain.result _ (ListsCertain words new global rows kept)
    (λ list is. listed_all words global rows new c.each_certain.ensures.writes.formed kept c.requires.kept.holds list distinct
    (subst (λ ts. AreListed words new global rows ts list) worth is))
    c.each_certain.ensures.lists

pub returns-clause-cut : goal.returns-clause-cut
returns-clause-cut g c =
    let new = c.each_certain.new.pass.words in
    IfOk-weaker c.each_certain.result _ (All (λ r. IsCutProof new r.proof))
    (λ list is. all_cut c.args.pass.now.words c.args.global c.args.table.now.rows new list is.refuted) c.each_certain.ensures.lists
