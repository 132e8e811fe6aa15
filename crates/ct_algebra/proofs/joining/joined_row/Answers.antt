use Rattle.std.{proofs.Common.{ℕ, Bool, ◌≡◌, ◌<◌, ◌≤◌, ◌+◌, [], ◌∷◌, ◌*◌, length, refl, ap, sym, subst, ◌∙◌, arith}, specs.Prelude.{All, filter}, specs.List.range_with_len}
use Rattle.std.{proofs.Math.Nat.mul-le-mul_right, proofs.lemmas.List.length-map, proofs.lemmas.Result.{IfOk-weaker, err_from_is_err_and}}
use Rattle.ct_query.specs.Pred.{condition_of}
use Rattle.ct_condition.proofs.Writes.{writes_none, writes_within}
use Rattle.ct_join.specs.Pairs.{may_agree, key_at}
use Rattle.ct_algebra.{specs.declared.equals.Equal.Equal, specs.Keyed.{column_on, key_of}, specs.Joining.{MakesPairs, TermOfJoin, TellApart, rows_at, pair_words}, proofs.Making.{row_whole, partners_below, few_partners}, proofs.Telling.{left_columns, right_within, tell_apart, others_never}}
use Rattle.ct_algebra.proofs.joining.joined_row.Goals.{After-as_slice-2}
use Rattle.ct_algebra.proofs.joining.joined_row.Goals as goal
use Rattle.ct_plan.specs.declared.sides.Side.TheVariants as side

pub key_of-key-requires : goal.key_of-key-requires
key_of-key-requires g c =
    let l = c.args.left.now in
    subst (λ ps. All (λ (e : Equal). column_on side.Left e < length ps) c.args.asked.equals.now) (sym c.as_slice.ensures)
    (left_columns (condition_of c.args.asked.pred.now) (length l.cells) c.args.asked.equals.now l.cells refl c.requires.equals)

-- a key for each row
long : (g : _) (c : After-as_slice-2 g) → length c.args.index.now ≡ length c.args.right.now.rows
long g c = ap (λ ks. length ks) c.requires.keys ∙ length-map c.args.right.now.rows _

-- the places of the partners
found : (g : _) (c : After-as_slice-2 g)
    → c.as_slice-2.result.now ≡ filter (λ j. may_agree c.key_of-key.result (key_at c.args.index.now j)) (range_with_len 0 (length c.args.right.now.rows))
found g c =
    c.as_slice-2.ensures.value ∙ c.in_ok-find.ensures
    ∙ ap (λ n. filter (λ j. may_agree c.key_of-key.result (key_at c.args.index.now j)) (range_with_len 0 n)) (long g c)

-- the predicate holds for no other
apart : (g : _) (c : After-as_slice-2 g)
    → TellApart (g.I.Interner.list c.args.pass.now) (condition_of c.args.asked.pred.now) c.args.left.now c.args.right.now.rows c.key_of-key.result c.args.index.now
apart g c =
    let cond = condition_of c.args.asked.pred.now in
    let m = length c.args.left.now.cells in
    let n = length c.args.right.now.columns in
    let es = c.args.asked.equals.now in
    tell_apart (g.I.Interner.list c.args.pass.now) cond m n es c.args.left.now c.args.right.now.rows c.requires.equals (right_within cond m n es c.requires.equals c.requires.predicate.columns) c.words.ensures.formed c.requires.left
    c.requires.right.each _ _ (c.key_of-key.ensures ∙ (λ i. key_of (c.words.ensures.words i) side.Left es (c.as_slice.ensures i))) c.requires.keys

pub joined_at-requires-clause-places : goal.joined_at-requires-clause-places
joined_at-requires-clause-places g c =
    subst (All (λ j. j < length c.args.right.now.rows)) (sym (found g (goal.at.joined_at-requires-clause-places g c).After-as_slice-2))
    (partners_below (λ j. may_agree c.key_of-key.result (key_at c.args.index.now j)) (length c.args.right.now.rows))

pub returns-clause-rows : goal.returns-clause-rows
returns-clause-rows g c =
    let old = g.I.Interner.list c.args.pass.now in
    let new = g.I.Interner.list c.joined_at.new.pass in
    let l = c.args.left.now in
    let rows = c.args.right.now.rows in
    let cond = condition_of c.args.asked.pred.now in
    let width = length l.cells + length c.args.right.now.columns in
    let source = TermOfJoin old cond (l ∷ rows) in
    let at = (goal.at.returns-clause-rows g c).After-as_slice-2 in
    let test : ℕ → Bool = λ j. may_agree c.key_of-key.result (key_at c.args.index.now j) in
    IfOk-weaker c.joined_at.result (λ out. MakesPairs old new width cond (l ∷ []) (rows_at rows l c.as_slice-2.result.now) source out.items) (λ out. MakesPairs old new width cond (l ∷ []) rows source out.items)
    (λ out h. row_whole old cond l rows test (others_never old cond l rows c.key_of-key.result c.args.index.now (long g at) (apart g at)) old new width source out.items
    (subst (λ js. MakesPairs old new width cond (l ∷ []) (rows_at rows l js) source out.items) (found g at) h))
    c.joined_at.ensures.rows

pub returns-clause-writes : goal.returns-clause-writes
returns-clause-writes g c =
    let each = pair_words (condition_of c.args.asked.pred.now) in
    let few = few_partners (λ j. may_agree c.key_of-key.result (key_at c.args.index.now j)) (length c.args.right.now.rows) in
    let le : length c.as_slice-2.result.now ≤ length c.args.right.now.rows = omega (arith, ap (λ js. length js) (found g (goal.at.returns-clause-writes g c).After-as_slice-2), few) in
    writes_within (length c.args.right.now.rows * each) (mul-le-mul_right each le) c.joined_at.ensures.writes

pub returns-in_err-find-clause-writes : goal.returns-in_err-find-clause-writes
returns-in_err-find-clause-writes g c =
    let exit = err_from_is_err_and c.from_residual.result c.from_residual.ensures.1 in
    rw (exit.1, exit.2) (writes_none _ c.words.ensures.formed c.words.ensures.room)
