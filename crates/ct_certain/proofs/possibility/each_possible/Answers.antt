use Rattle.std.{proofs.Common.{◌≡◌, ◌≤◌, ◌*◌, ◌++◌, [], length, ap, sym, subst, ◌∙◌, arith}, specs.Prelude.{All, IsTrue}, proofs.lemmas.List.take_all}
use Rattle.std.{proofs.lemmas.List.Elements.All-nil, proofs.lemmas.Result.err_from_is_err_and}
use Rattle.ct_condition.proofs.Writes.{writes_none, writes_within, writes_as, writes_more, writes_last}
use Rattle.ct_word.{specs.WellFormed.is_place_of, proofs.Prefixes.prefix_of_prefix}
use Rattle.ct_condition.proofs.OnRows.{places_in_prefix}
use Rattle.ct_certain.{specs.Answered.{AreOf, IsPool}, specs.Own.{IsOwn, IsOwnAnswer}, specs.Possible.{ListsPossible, ended, listed}}
use Rattle.ct_certain.proofs.{Earlier.{front_is, listed_before, prefix_long}, Listing.{listed_turn, own_turn, row_of}}
use Rattle.ct_word.specs.declared.kinds.Class.TheVariants as class
use Rattle.ct_certain.proofs.possibility.each_possible.Goals as goal

pub loop-row-init : goal.loop-row-init
loop-row-init g c =
    let words = g.I.Interner.list c.args.pass.now in
    record {
      writes = writes_none _ c.words-count.ensures.formed c.words-count.ensures.room;
      lists = subst (ListsPossible words c.args.global []) (sym c.new-list.ensures.items) ended;
      own = subst (All (IsOwn words c.args.global c.args.rows.now)) (sym c.new-list.ensures.items) (All-nil _);
      pool = c.requires.pool;
    }

pub show-requires-clause-count : goal.show-requires-clause-count
show-requires-clause-count g c =
    let longer = prefix_long (g.I.Interner.list c.args.pass.now) (g.I.Interner.list c.loop-row.pass) c.loop-row.invariant.writes.longer in
    let count : (length c.words-count.result.now) ≡ length (g.I.Interner.list c.args.pass.now) = ap length c.words-count.ensures.words in
    omega (arith, longer, count)

pub show-requires-clause-asked : goal.show-requires-clause-asked
show-requires-clause-asked g c =
    let words = g.I.Interner.list c.args.pass.now in
    let same = front_is words (g.I.Interner.list c.loop-row.pass) (length c.words-count.result.now) c.loop-row.invariant.writes.longer (ap length c.words-count.ensures.words) in
    subst (λ ws. AreOf ws c.args.global c.row-item.result) (sym same) (row_of words c.args.global c.args.rows.now c.loop-row.row-index c.row-item.result c.loop-row-test.true c.row-item.is c.requires.rows)

pub show-requires-clause-pool : goal.show-requires-clause-pool
show-requires-clause-pool g c =
    let words = g.I.Interner.list c.args.pass.now in
    let same = front_is words (g.I.Interner.list c.loop-row.pass) (length c.words-count.result.now) c.loop-row.invariant.writes.longer (ap length c.words-count.ensures.words) in
    subst (λ ws. IsPool ws c.args.global c.loop-row.pool) (sym same) c.loop-row.invariant.pool

pub list_row-requires-clause-cells : goal.list_row-requires-clause-cells
list_row-requires-clause-cells g c =
    let words = g.I.Interner.list c.args.pass.now in
    let now = g.I.Interner.list c.show.new.pass in
    let longer = prefix_of_prefix words (g.I.Interner.list c.loop-row.pass) now c.loop-row.invariant.writes.longer c.in_ok-found.ensures.writes.longer in
    let of_words = row_of words c.args.global c.args.rows.now c.loop-row.row-index c.row-item.result c.loop-row-test.true c.row-item.is c.requires.rows in
    subst (λ ws. All (λ p. IsTrue (is_place_of ws class.Term p)) c.row-item.result.cells) (sym c.words.ensures.words) (places_in_prefix words now c.row-item.result.cells longer of_words.terms)

pub loop-row-preserved : goal.loop-row-preserved
loop-row-preserved g c =
    let words = g.I.Interner.list c.args.pass.now in
    let old = g.I.Interner.list c.loop-row.pass in
    let now = g.I.Interner.list c.show.new.pass in
    let global = c.args.global in
    let rows = c.args.rows.now in
    let i = c.loop-row.row-index in
    let row = c.row-item.result in
    let found = c.in_ok-found.found in
    let list = c.loop-row.list.items in
    let same = front_is words old (length c.words-count.result.now) c.loop-row.invariant.writes.longer (ap length c.words-count.ensures.words) in
    let of_words = row_of words global rows i row c.loop-row-test.true c.row-item.is c.requires.rows in
    let longer = prefix_of_prefix words old now c.loop-row.invariant.writes.longer c.in_ok-found.ensures.writes.longer in
    let answer = subst (λ ws. IsOwnAnswer ws global row found) same c.in_ok-found.ensures.answer in
    let put = c.in_ok-list_row.ensures ∙ ap (λ l. list ++ l) (ap (λ ws. listed ws row found) c.words.ensures.words ∙ listed_before words now longer c.in_ok-found.ensures.writes.formed global row of_words found) in
    record {
      writes = writes_more _ i c.loop-row.invariant.writes c.in_ok-found.ensures.writes;
      lists = listed_turn words global rows i row list c.list_row.new.list.items found c.loop-row-test.true c.row-item.is answer put c.loop-row.invariant.lists;
      own = own_turn words global rows i row list c.list_row.new.list.items found c.loop-row-test.true c.row-item.is answer put c.loop-row.invariant.own;
      pool = subst (λ ws. IsPool ws global c.show.new.pool) same c.in_ok-found.ensures.pool;
    }

pub returns-clause-lists : goal.returns-clause-lists
returns-clause-lists g c =
    let words = g.I.Interner.list c.args.pass.now in
    let done = take_all c.loop-row.row-index c.args.rows.now c.loop-row-test.false in
    subst (ListsPossible words c.args.global c.args.rows.now) (sym c.from_vec.ensures) (subst (λ d. ListsPossible words c.args.global d c.loop-row.list.items) done c.loop-row.invariant.lists)

pub returns-clause-writes : goal.returns-clause-writes
returns-clause-writes g c = let le : c.loop-row.row-index ≤ length c.args.rows.now = c.loop-row.auto.row-index-end in writes_within _ (omega (arith, le)) c.loop-row.invariant.writes

pub returns-in_err-found-clause-writes : goal.returns-in_err-found-clause-writes
returns-in_err-found-clause-writes g c =
    let exit = err_from_is_err_and c.from_residual.result c.from_residual.ensures.1 in
    let n : length c.args.rows.now * 1 ≡ length c.args.rows.now = omega arith in
    rw (exit.1, exit.2) (writes_as n (writes_last _ _ c.loop-row.invariant.writes _ c.loop-row-test.true c.in_err-found.ensures.writes))

pub returns-in_err-list_row-clause-writes : goal.returns-in_err-list_row-clause-writes
returns-in_err-list_row-clause-writes g c =
    let exit = err_from_is_err_and c.from_residual-in_err-list_row.result c.from_residual-in_err-list_row.ensures.1 in
    let n : length c.args.rows.now * 1 ≡ length c.args.rows.now = omega arith in
    rw (exit.1, exit.2) (writes_as n (writes_last _ _ c.loop-row.invariant.writes _ c.loop-row-test.true c.in_ok-found.ensures.writes))
