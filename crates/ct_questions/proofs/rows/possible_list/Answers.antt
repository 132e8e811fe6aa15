use Rattle.std.{proofs.Common.{◌≡◌, ◌<◌, ◌∙◌, [], get_or, length, ap, sym, subst, arith}, specs.Prelude.{All, IsTrue}, proofs.lemmas.List.{get_or_default, take_all}}
use Rattle.std.proofs.lemmas.List.Elements.{All-get_or, All-nil}
use Rattle.std.proofs.lemmas.Slice.Zip.{AllZip-long}
use Rattle.ct_word.specs.WellFormed.{is_place_of}
use Rattle.ct_operators.specs.Tables.{IsRow}
use Rattle.ct_certain.specs.{Answered.IsSettled, Own.IsOwn, Possible.{ListsPossible, ended}}
use Rattle.ct_questions.proofs.Rooted.{lists_one, owns_one, zip_at}
use Rattle.ct_word.specs.declared.kinds.Class.TheVariants as class
use Rattle.ct_questions.proofs.rows.possible_list.Goals as goal

pub loop-number-init : goal.loop-number-init
loop-number-init c = record {
  lists = λ old global are. subst (ListsPossible old global []) (sym c.new-list.ensures.items) ended;
  own = λ old global are. subst (All (IsOwn old global c.args.table.now.rows)) (sym c.new-list.ensures.items) (All-nil _);
}

pub bounds-decisions-number : goal.bounds-decisions-number
bounds-decisions-number c =
    let long = AllZip-long _ c.args.roots.now c.args.decisions.now c.requires.right in
    let rows = ap (λ l. length l) c.as_slice-rows.ensures in
    omega (arith, long, rows, c.requires.count, c.loop-number-test.true)

pub shown-requires-clause-root : goal.shown-requires-clause-root
shown-requires-clause-root c =
    let rows = ap (λ l. length l) c.as_slice-rows.ensures in
    All-get_or (λ p. IsTrue (is_place_of c.args.words.now class.Cond p)) c.args.roots.now c.loop-number.number 0 (omega (arith, rows, c.requires.count, c.loop-number-test.true)) c.requires.roots

pub shown-requires-clause-right : goal.shown-requires-clause-right
shown-requires-clause-right c =
    let words = c.args.words.now in
    let roots = c.args.roots.now in
    let i = c.loop-number.number in
    let rows = ap (λ l. length l) c.as_slice-rows.ensures in
    subst (IsSettled words (get_or roots i 0)) (sym c.index-decisions-number.is)
    (zip_at (IsSettled words) roots c.args.decisions.now i 0 c.index-decisions-number.result c.requires.right (omega (arith, rows, c.requires.count, c.loop-number-test.true)))

pub loop-number-preserved : goal.loop-number-preserved
loop-number-preserved c =
    let words = c.args.words.now in
    let rows = c.args.table.now.rows in
    let roots = c.args.roots.now in
    let i = c.loop-number.number in
    let long = ap (λ l. length l) c.as_slice-rows.ensures in
    let lt : i < length rows = omega (arith, long, c.loop-number-test.true) in
    let row = c.index-rows-number.result in
    let root = get_or roots i 0 in
    let root_is : root ≡ get_or roots i root = sym (get_or_default roots i root 0 (omega (arith, lt, c.requires.count))) in
    let is : row ≡ get_or rows i row = c.index-rows-number.is ∙ ap (λ l. get_or l i row) c.as_slice-rows.ensures in
    record {
      lists = λ old global are. lists_one words rows roots i row root lt is root_is c.loop-number.list.items c.list_row.new.list.items c.in_ok-found.found c.in_ok-found.ensures c.in_ok-list_row.ensures old global are (c.loop-number.invariant.lists old global are);
      own = λ old global are. owns_one words rows roots i row root lt is root_is c.loop-number.list.items c.list_row.new.list.items c.in_ok-found.found c.in_ok-found.ensures c.in_ok-list_row.ensures old global are (c.loop-number.invariant.own old global are);
    }

pub returns-clause-lists : goal.returns-clause-lists
returns-clause-lists c = λ old global are.
    let rows = c.args.table.now.rows in
    let long = ap (λ l. length l) c.as_slice-rows.ensures in
    subst (ListsPossible old global rows) (sym c.from_vec.ensures) (subst (λ d. ListsPossible old global d c.loop-number.list.items) (take_all c.loop-number.number rows (omega (arith, long, c.loop-number-test.false))) (c.loop-number.invariant.lists old global are))

pub returns-clause-own : goal.returns-clause-own
returns-clause-own c = λ old global are. subst (All (IsOwn old global c.args.table.now.rows)) (sym c.from_vec.ensures) (c.loop-number.invariant.own old global are)
