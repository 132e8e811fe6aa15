use Rattle.std.{proofs.Common.{[], ◌∷◌, sym, subst}, specs.Prelude.{◌⊎◌, Contains}, proofs.lemmas.Result.IfOk-weaker}
use Rattle.ct_word.{specs.Stands.TermBelow, proofs.Items.{first_item, later_item}}
use Rattle.ct_condition.{specs.Truth.{HasTruth, not_at, join_at}, specs.Terms.{TermsFrom, BelowEither}}
use Rattle.ct_worlds.{specs.Shape.{parts_of, parts_at, IsShaped}, proofs.Shaped.shaped}
use Rattle.ct_operators.{specs.Terms.IsPlaced, specs.Building.HoldsWhere, specs.Placing.{holds_for, equal_for}}
use Rattle.ct_operators.proofs.Putting.{read_as, literal_put, equal_holds, equal_terms, not_holds, not_terms, join_holds, join_terms, put_is}
use Rattle.ct_operators.proofs.placing.over_parts.Goals as goal

pub equal_on-requires-clause-left : goal.equal_on-requires-clause-left
equal_on-requires-clause-left g c =
    let old = g.I.Interner.list c.args.pass.now in
    let cond = c.args.cond in
    let is = read_as cond c.shape_at.ensures c.words.ensures.words c.in-Equal.is in
    (subst (IsShaped old cond) is (shaped old cond c.words.ensures.formed c.requires.cond)).terms.0

pub equal_on-requires-clause-right : goal.equal_on-requires-clause-right
equal_on-requires-clause-right g c =
    let old = g.I.Interner.list c.args.pass.now in
    let cond = c.args.cond in
    let is = read_as cond c.shape_at.ensures c.words.ensures.words c.in-Equal.is in
    (subst (IsShaped old cond) is (shaped old cond c.words.ensures.formed c.requires.cond)).terms.1.0

pub put_for-second-requires-clause-among : goal.put_for-second-requires-clause-among
put_for-second-requires-clause-among g c =
    let old = g.I.Interner.list c.args.pass.now in
    let cond = c.args.cond in
    let is = read_as cond c.shape_at.ensures c.words.ensures.words c.in-Joined.is in
    let a = c.in-Joined.a in
    let b = c.in-Joined.b in
    c.requires.listed b (subst (λ s. Contains (parts_of s) b) (sym is) (later_item (b ∷ []) a b (first_item [] b)))

pub join-requires-clause-left : goal.join-requires-clause-left
join-requires-clause-left g c =
    let old = g.I.Interner.list c.args.pass.now in
    let cond = c.args.cond in
    let cells = c.args.cells.now in
    let is = read_as cond c.shape_at.ensures c.words.ensures.words c.in-Joined.is in
    let a = c.in-Joined.a in
    let b = c.in-Joined.b in
    let one = put_is old cells c.args.places.now c.args.put.now (Contains (parts_at old cond)) a c.put_for-first.result c.requires.put (subst (λ s. Contains (parts_of s) a) (sym is) (first_item (b ∷ []) a)) c.put_for-first.ensures in
    one.holds.class

pub join-requires-clause-right : goal.join-requires-clause-right
join-requires-clause-right g c =
    let old = g.I.Interner.list c.args.pass.now in
    let cond = c.args.cond in
    let cells = c.args.cells.now in
    let is = read_as cond c.shape_at.ensures c.words.ensures.words c.in-Joined.is in
    let a = c.in-Joined.a in
    let b = c.in-Joined.b in
    let other = put_is old cells c.args.places.now c.args.put.now (Contains (parts_at old cond)) b c.put_for-second.result c.requires.put (subst (λ s. Contains (parts_of s) b) (sym is) (later_item (b ∷ []) a b (first_item [] b))) c.put_for-second.ensures in
    other.holds.class

pub returns-in-Literal-clause-holds : goal.returns-in-Literal-clause-holds
returns-in-Literal-clause-holds g c =
    let old = g.I.Interner.list c.args.pass.now in
    let cond = c.args.cond in
    let cells = c.args.cells.now in
    let is = read_as cond c.shape_at.ensures c.words.ensures.words c.in-Literal.is in
    (literal_put old cond cells c.words.ensures.formed c.requires.cond c.in-Literal.field-0 is).holds

pub returns-in-Literal-clause-terms : goal.returns-in-Literal-clause-terms
returns-in-Literal-clause-terms g c =
    let old = g.I.Interner.list c.args.pass.now in
    let cond = c.args.cond in
    let cells = c.args.cells.now in
    let is = read_as cond c.shape_at.ensures c.words.ensures.words c.in-Literal.is in
    (literal_put old cond cells c.words.ensures.formed c.requires.cond c.in-Literal.field-0 is).terms

pub returns-in-Equal-clause-holds : goal.returns-in-Equal-clause-holds
returns-in-Equal-clause-holds g c =
    let old = g.I.Interner.list c.args.pass.now in
    let cond = c.args.cond in
    let cells = c.args.cells.now in
    let new = g.I.Interner.list c.equal_on.new.pass in
    let is = read_as cond c.shape_at.ensures c.words.ensures.words c.in-Equal.is in
    let s = c.in-Equal.s in
    let t = c.in-Equal.t in
    IfOk-weaker c.equal_on.result (λ place. HoldsWhere new place (equal_for old s t cells)) (λ place. HoldsWhere new place (holds_for old cond cells)) (λ place. equal_holds old cond cells c.words.ensures.formed c.requires.cond new place s t is) c.equal_on.ensures.holds

pub returns-in-Equal-clause-terms : goal.returns-in-Equal-clause-terms
returns-in-Equal-clause-terms g c =
    let old = g.I.Interner.list c.args.pass.now in
    let cond = c.args.cond in
    let cells = c.args.cells.now in
    let new = g.I.Interner.list c.equal_on.new.pass in
    let is = read_as cond c.shape_at.ensures c.words.ensures.words c.in-Equal.is in
    let s = c.in-Equal.s in
    let t = c.in-Equal.t in
    IfOk-weaker c.equal_on.result (λ place. TermsFrom new place (λ u. IsPlaced old s cells u ⊎ IsPlaced old t cells u)) (λ place. TermsFrom new place (IsPlaced old cond cells)) (λ place. equal_terms old cond cells c.words.ensures.formed c.requires.cond new place s t is) c.equal_on.ensures.terms

pub returns-in-Not-clause-holds : goal.returns-in-Not-clause-holds
returns-in-Not-clause-holds g c =
    let old = g.I.Interner.list c.args.pass.now in
    let cond = c.args.cond in
    let cells = c.args.cells.now in
    let new = g.I.Interner.list c.not.new.pass in
    let is = read_as cond c.shape_at.ensures c.words.ensures.words c.in-Not.is in
    let part = c.in-Not.part in
    let put = put_is old cells c.args.places.now c.args.put.now (Contains (parts_at old cond)) part c.put_for.result c.requires.put (subst (λ s. Contains (parts_of s) part) (sym is) (first_item [] part)) c.put_for.ensures in
    IfOk-weaker c.not.result (λ place. HasTruth new place (not_at old c.put_for.result)) (λ place. HoldsWhere new place (holds_for old cond cells)) (λ place. not_holds old cond cells c.words.ensures.formed c.requires.cond new place part c.put_for.result is put) c.not.ensures.truth

pub returns-in-Not-clause-terms : goal.returns-in-Not-clause-terms
returns-in-Not-clause-terms g c =
    let old = g.I.Interner.list c.args.pass.now in
    let cond = c.args.cond in
    let cells = c.args.cells.now in
    let new = g.I.Interner.list c.not.new.pass in
    let is = read_as cond c.shape_at.ensures c.words.ensures.words c.in-Not.is in
    let part = c.in-Not.part in
    let put = put_is old cells c.args.places.now c.args.put.now (Contains (parts_at old cond)) part c.put_for.result c.requires.put (subst (λ s. Contains (parts_of s) part) (sym is) (first_item [] part)) c.put_for.ensures in
    IfOk-weaker c.not.result (λ place. TermsFrom new place (TermBelow old c.put_for.result)) (λ place. TermsFrom new place (IsPlaced old cond cells)) (λ place. not_terms old cond cells c.words.ensures.formed c.requires.cond new place part c.put_for.result is put) c.not.ensures.terms

pub returns-in-Joined-clause-holds : goal.returns-in-Joined-clause-holds
returns-in-Joined-clause-holds g c =
    let old = g.I.Interner.list c.args.pass.now in
    let cond = c.args.cond in
    let cells = c.args.cells.now in
    let new = g.I.Interner.list c.join.new.pass in
    let is = read_as cond c.shape_at.ensures c.words.ensures.words c.in-Joined.is in
    let a = c.in-Joined.a in
    let b = c.in-Joined.b in
    let one = put_is old cells c.args.places.now c.args.put.now (Contains (parts_at old cond)) a c.put_for-first.result c.requires.put (subst (λ s. Contains (parts_of s) a) (sym is) (first_item (b ∷ []) a)) c.put_for-first.ensures in
    let other = put_is old cells c.args.places.now c.args.put.now (Contains (parts_at old cond)) b c.put_for-second.result c.requires.put (subst (λ s. Contains (parts_of s) b) (sym is) (later_item (b ∷ []) a b (first_item [] b))) c.put_for-second.ensures in
    let j = c.in-Joined.connective in
    let p = c.put_for-first.result in
    let q = c.put_for-second.result in
    IfOk-weaker c.join.result (λ place. HasTruth new place (join_at j old p q)) (λ place. HoldsWhere new place (holds_for old cond cells)) (λ place. join_holds old cond cells c.words.ensures.formed c.requires.cond new place j a b p q is one other) c.join.ensures.truth

pub returns-in-Joined-clause-terms : goal.returns-in-Joined-clause-terms
returns-in-Joined-clause-terms g c =
    let old = g.I.Interner.list c.args.pass.now in
    let cond = c.args.cond in
    let cells = c.args.cells.now in
    let new = g.I.Interner.list c.join.new.pass in
    let is = read_as cond c.shape_at.ensures c.words.ensures.words c.in-Joined.is in
    let a = c.in-Joined.a in
    let b = c.in-Joined.b in
    let one = put_is old cells c.args.places.now c.args.put.now (Contains (parts_at old cond)) a c.put_for-first.result c.requires.put (subst (λ s. Contains (parts_of s) a) (sym is) (first_item (b ∷ []) a)) c.put_for-first.ensures in
    let other = put_is old cells c.args.places.now c.args.put.now (Contains (parts_at old cond)) b c.put_for-second.result c.requires.put (subst (λ s. Contains (parts_of s) b) (sym is) (later_item (b ∷ []) a b (first_item [] b))) c.put_for-second.ensures in
    let j = c.in-Joined.connective in
    let p = c.put_for-first.result in
    let q = c.put_for-second.result in
    IfOk-weaker c.join.result (λ place. TermsFrom new place (BelowEither old p q)) (λ place. TermsFrom new place (IsPlaced old cond cells)) (λ place. join_terms old cond cells c.words.ensures.formed c.requires.cond new place j a b p q is one other) c.join.ensures.terms
