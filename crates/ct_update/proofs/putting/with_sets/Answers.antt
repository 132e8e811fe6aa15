use Rattle.std.{proofs.Common.{◌<◌, ◌∙◌, length, take, get_or, ap, subst, arith}, specs.Prelude.{IsTrue}}
use Rattle.std.{proofs.lemmas.List.{take_all, get_or_default}, proofs.lemmas.List.Elements.All-get_or}
use Rattle.ct_word.specs.WellFormed.{is_place_of}
use Rattle.ct_operators.specs.Placing.{IsCellFor}
use Rattle.ct_update.{specs.Updating.updated_places, proofs.Updates.{places_long, sets_more}}
use Rattle.ct_word.specs.declared.kinds.Class.TheVariants as class
use Rattle.ct_update.proofs.putting.with_sets.Goals as goal

pub index_mut-requires : goal.index_mut-requires
index_mut-requires c =
    let cells = c.args.cells.now in
    let below = All-get_or (λ r. r.0 < length cells) c.args.sets.now c.loop-number.number (0, 0) c.loop-number-test.true c.requires.positions in
    let long = ap (λ l. length l) c.loop-number.invariant ∙ places_long c.args.words.now (take c.loop-number.number c.args.sets.now) cells in
    omega (arith, below, long)

pub cell_for-requires-clause-term : goal.cell_for-requires-clause-term
cell_for-requires-clause-term c =
    All-get_or (λ r. IsTrue (is_place_of c.args.words.now class.Term r.1)) c.args.sets.now c.loop-number.number (0, 0) c.loop-number-test.true c.requires.terms

pub loop-number-init : goal.loop-number-init
loop-number-init c = c.in_ok-out.ensures

pub loop-number-preserved : goal.loop-number-preserved
loop-number-preserved c =
    let words = c.args.words.now in
    let sets = c.args.sets.now in
    let cells = c.args.cells.now in
    let i = c.loop-number.number in
    let s = get_or sets i (0, 0) in
    let place = c.cell_for.result in
    let put : IsCellFor words cells s.1 place = subst (λ cs. IsCellFor words cs s.1 place) c.as_slice.ensures c.cell_for.ensures in
    let lt = c.loop-number-test.true in
    sets_more words sets i s cells c.loop-number.out.items place lt (get_or_default sets i (0, 0) s lt) c.loop-number.invariant put.is

pub returns : goal.returns
returns c =
    c.from_vec.ensures ∙ c.loop-number.invariant ∙ ap (λ ss. updated_places c.args.words.now ss c.args.cells.now) (take_all c.loop-number.number c.args.sets.now (omega (arith, c.loop-number-test.false)))
