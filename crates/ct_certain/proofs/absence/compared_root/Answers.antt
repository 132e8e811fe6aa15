use Rattle.std.{proofs.Common.{◌*◌, ◌+◌, [], ◌∷◌, not, length, refl, ap, sym, subst, ◌∙◌}, specs.Prelude.filter, proofs.lemmas.List.Elements.All-weaker}
use Rattle.std.proofs.lemmas.Result.{IfOk-at_ok, err_from_is_err_and}
use Rattle.ct_word.specs.Sublist.{IsSublist}
use Rattle.ct_query.specs.Database.{has_tuple, SameSet}
use Rattle.ct_condition.{specs.Writes.Writes, proofs.Writes.{writes_both, writes_within, writes_as}}
use Rattle.ct_operators.{specs.Refusals.is_full, specs.Tables.{AreRows, value_of_rows, cells_of}}
use Rattle.ct_certain.{specs.Missing.{IsAtHand, IsRootOf, condition_of}, proofs.Candidates.asked_later, proofs.Values.at_hand_grows}
use Rattle.ct_certain.proofs.Roots.{alone_rows, one, table_rows, root_of, root_most, root_begun}
use Rattle.ct_certain.proofs.absence.compared_root.Goals as goal

pub places-requires : goal.places-requires
places-requires g c =
    let words = g.I.Interner.list c.args.pass.now in
    let old = g.I.Interner.list c.args.pass.now in
    All-weaker (IsAtHand words) (IsAtHand old) (λ x. at_hand_grows words old x c.requires.grown) c.args.tuple.now c.requires.values

pub except-rest-requires : goal.except-rest-requires
except-rest-requires g c =
    let words = g.I.Interner.list c.args.pass.now in
    let old = g.I.Interner.list c.args.pass.now in
    let mid = g.I.Interner.list c.places.new.pass in
    let width = length c.args.table.now.columns in
    let rows = c.args.table.now.rows in
    let tuple = c.args.tuple.now in
    let asked = asked_later words old mid c.args.global width rows tuple c.in_ok-cells.ensures.writes.longer c.requires in
    record {
      left = alone_rows words mid mid c.args.global width rows tuple asked c.words.ensures.formed c.in_ok-cells.cells c.in_ok-cells.ensures.places;
      right = table_rows words mid mid c.args.global width rows tuple asked c.words.ensures.formed c.in_ok-cells.cells c.in_ok-cells.ensures.places;
      columns = refl;
    }

pub returns-in-Ok-clause-root : goal.returns-in-Ok-clause-root
returns-in-Ok-clause-root g c =
    let words = g.I.Interner.list c.args.pass.now in
    let old = g.I.Interner.list c.args.pass.now in
    let mid = g.I.Interner.list c.places.new.pass in
    let new = g.I.Interner.list c.except-rest.new.pass in
    let width = length c.args.table.now.columns in
    let rows = c.args.table.now.rows in
    let tuple = c.args.tuple.now in
    let global = c.args.global in
    let alone = one c.in_ok-cells.cells global ∷ [] in
    let out = c.in-Ok.left.rows in
    subst (IsRootOf words new global rows tuple) (sym (c.first_condition.ensures ∙ ap condition_of c.as_slice.ensures))
    (root_of words mid new global width rows tuple (asked_later words old mid global width rows tuple c.in_ok-cells.ensures.writes.longer c.requires) c.words.ensures.formed c.in_ok-cells.cells c.in_ok-cells.ensures.places
    out c.words-2.ensures.formed c.words-2.ensures.begins
    (IfOk-at_ok (λ t. AreRows new width t.rows) c.in-Ok.is c.except-rest.ensures.rows)
    (IfOk-at_ok (λ t. IsSublist (cells_of new t.rows) (cells_of mid alone)) c.in-Ok.is c.except-rest.ensures.part)
    (λ v. IfOk-at_ok (λ t. SameSet (value_of_rows new v t.rows) (filter (λ u. not (has_tuple (value_of_rows mid v rows) u)) (value_of_rows mid v alone))) c.in-Ok.is (c.except-rest.ensures.tuples v)))

pub returns-in-Ok-clause-writes : goal.returns-in-Ok-clause-writes
returns-in-Ok-clause-writes g c =
    let k = length c.args.table.now.columns in
    let r = length c.args.table.now.rows in
    subst (λ x. Writes g.I.Interner.list g.I.Interner.made g.I.Interner.kept g.I.Interner.lent g.N.Site.log.cap c.args.pass.now c.except-rest.new.pass (r * (2 * k + 2) + k + 1) (is_full x)) c.in-Ok.is
    (writes_as (root_most (length c.args.tuple.now) k r 1 k c.requires.width_is refl refl)
    (writes_both c.in_ok-cells.ensures.writes c.except-rest.ensures.writes))

pub returns-in-Err-clause-writes : goal.returns-in-Err-clause-writes
returns-in-Err-clause-writes g c =
    let k = length c.args.table.now.columns in
    let r = length c.args.table.now.rows in
    subst (λ x. Writes g.I.Interner.list g.I.Interner.made g.I.Interner.kept g.I.Interner.lent g.N.Site.log.cap c.args.pass.now c.except-rest.new.pass (r * (2 * k + 2) + k + 1) (is_full x)) c.in-Err.is
    (writes_as (root_most (length c.args.tuple.now) k r 1 k c.requires.width_is refl refl)
    (writes_both c.in_ok-cells.ensures.writes c.except-rest.ensures.writes))

pub returns-in_err-cells-clause-writes : goal.returns-in_err-cells-clause-writes
returns-in_err-cells-clause-writes g c =
    let exit = err_from_is_err_and c.from_residual.result c.from_residual.ensures.1 in
    rw (exit.1, exit.2) (writes_within _ (root_begun (length c.args.tuple.now) (length c.args.table.now.columns) (length c.args.table.now.rows * (2 * length c.args.table.now.columns + 2)) c.requires.width_is) c.in_err-cells.ensures.writes)
