use Rattle.std.{proofs.Common.{◌≡◌, false, [], ◌∙◌, ◌<◌, length, get_or, sym, subst, take_all}, proofs.lemmas.List.Folds.list_all_at, proofs.lemmas.List.Elements.{All-get_or, All-more}}
use Rattle.ct_word.specs.Value.{same_value, cell_at}
use Rattle.ct_condition.{specs.Folding.are_apart, proofs.Truths.apart_differ}
use Rattle.ct_operators.{specs.Placing.tuple_of, proofs.Selecting.cell_of_tuple}
use Rattle.ct_constraint.specs.Comparing.{MayAgree}
use Rattle.ct_constraint.proofs.comparing.differ_at.Goals as goal

pub bounds-left-k : goal.bounds-left-k
bounds-left-k c = All-get_or (λ k. k < length c.args.left.now) c.args.columns.now c.loop-column.column-index 0 c.loop-column-test.true c.requires.left

pub bounds-right-k : goal.bounds-right-k
bounds-right-k c = All-get_or (λ k. k < length c.args.right.now) c.args.columns.now c.loop-column.column-index 0 c.loop-column-test.true c.requires.right

pub loop-column-preserved : goal.loop-column-preserved
loop-column-preserved c =
    let words = c.args.words.now in
    let left = c.args.left.now in
    let right = c.args.right.now in
    let columns = c.args.columns.now in
    All-more (λ k. are_apart words (get_or left k 0) (get_or right k 0) ≡ false) columns c.loop-column.column-index 0 c.loop-column-test.true c.loop-column.invariant (sym c.are_apart.ensures ∙ c.if-are_apart.false)

pub returns-clause-may : goal.returns-clause-may
returns-clause-may c e =
    let columns = c.args.columns.now in
    subst (MayAgree c.args.words.now c.args.left.now c.args.right.now) (take_all c.loop-column.column-index columns c.loop-column-test.false) c.loop-column.invariant

pub returns-then-are_apart-clause-differ : goal.returns-then-are_apart-clause-differ
returns-then-are_apart-clause-differ c e v =
    let words = c.args.words.now in
    let left = c.args.left.now in
    let right = c.args.right.now in
    let columns = c.args.columns.now in
    let i = c.loop-column.column-index in
    let k = get_or columns i 0 in
    let in_left = All-get_or (λ k. k < length left) columns i 0 c.loop-column-test.true c.requires.left in
    let in_right = All-get_or (λ k. k < length right) columns i 0 c.loop-column-test.true c.requires.right in
    list_all_at (λ k. same_value (cell_at (tuple_of words left v) k) (cell_at (tuple_of words right v) k)) columns i 0 c.loop-column-test.true
    ((λ j. same_value (cell_of_tuple words v left k in_left j) (cell_of_tuple words v right k in_right j))
    ∙ apart_differ words (get_or left k 0) (get_or right k 0) c.requires.formed (sym c.are_apart.ensures ∙ c.if-are_apart.true) v [])
