use Rattle.std.{proofs.Common.{◌≡◌, ◌<◌, length, take, sym, arith, ◌∙◌}, proofs.lemmas.List.take_all}
use Rattle.std.proofs.lemmas.Slice.Zip.{AllZip-long}
use Rattle.ct_questions.proofs.Listing.{all_cut, lists_certain, proofs_of, proofs_turn}
use Rattle.ct_questions.proofs.tuples.certain_list.Goals as goal

pub bounds-decisions-number : goal.bounds-decisions-number
bounds-decisions-number c = let long = AllZip-long _ c.args.candidates.now c.args.decisions.now c.requires.right in omega (arith, long, c.loop-number-test.true)

pub loop-number-preserved : goal.loop-number-preserved
loop-number-preserved c =
    let cs = c.args.candidates.now in
    let ds = c.args.decisions.now in
    let long = AllZip-long _ cs ds c.requires.right in
    proofs_turn cs ds c.loop-number.number c.index-candidates-number.result c.index-decisions-number.result c.loop-number.list.items c.list_candidate.new.list.items c.loop-number-test.true (omega (arith, long, c.loop-number-test.true))
    c.index-candidates-number.is c.index-decisions-number.is c.loop-number.invariant c.in_ok-list_candidate.ensures

pub returns-clause-lists : goal.returns-clause-lists
returns-clause-lists c = λ old global rs kept are.
    let cs = c.args.candidates.now in
    let ds = c.args.decisions.now in
    let long = AllZip-long _ cs ds c.requires.right in
    let list = c.from_vec.ensures ∙ c.loop-number.invariant ∙ (λ i. proofs_of (take_all c.loop-number.number cs c.loop-number-test.false i) (take_all c.loop-number.number ds (omega (arith, long, c.loop-number-test.false)) i)) in
    lists_certain c.args.words.now old global rs c.requires.formed kept cs ds _ c.requires.right list are

pub returns-clause-cut : goal.returns-clause-cut
returns-clause-cut c =
    let cs = c.args.candidates.now in
    let ds = c.args.decisions.now in
    let long = AllZip-long _ cs ds c.requires.right in
    let list = c.from_vec.ensures ∙ c.loop-number.invariant ∙ (λ i. proofs_of (take_all c.loop-number.number cs c.loop-number-test.false i) (take_all c.loop-number.number ds (omega (arith, long, c.loop-number-test.false)) i)) in
    all_cut c.args.words.now cs ds _ c.requires.right list
