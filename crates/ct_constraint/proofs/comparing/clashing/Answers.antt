use Rattle.std.{proofs.Common.{◌≡◌, ℕ, List, [], ◌++◌, not, ◌&&◌, map, length, sym, ◌∙◌, arith}, proofs.lemmas.List.length-map, proofs.lemmas.Result.{IfOk-weaker}}
use Rattle.ct_word.{specs.Reading.term_at, specs.Value.{World, at}, proofs.Prefixes.{place_in_prefix, place_within}}
use Rattle.ct_condition.{specs.Truth.{HasTruth, and_at}, specs.Terms.{TermsFrom, BelowEither, BelowSome}, proofs.Writes.{writes_both, writes_within}}
use Rattle.ct_operators.{specs.Building.HoldsWhere, specs.Placing.tuple_of, proofs.Holding.{holds_as, holds_later, holds_not, holds_and}, proofs.Reaching.{from_two, from_later}}
use Rattle.ct_query.specs.Assertions.{clash}
use Rattle.ct_constraint.{specs.Comparing.{is_in, same_below}, proofs.Agreeing.clash_is}
use Rattle.ct_word.specs.declared.kinds.Class.TheVariants as class
use Rattle.ct_constraint.proofs.comparing.clashing.Goals as goal

-- the tuples of the cells are as long as these
long_tuple : (ws : List ℕ) (v : World) (ps : List ℕ) → length (tuple_of ws ps v) ≡ length ps
long_tuple ws v ps = length-map (map (term_at ws) ps) (at v []) ∙ length-map ps (term_at ws)

pub not-requires : goal.not-requires
not-requires g c = record { condition = c.in_ok-inside.ensures.outside.class }

pub and-requires-clause-left : goal.and-requires-clause-left
and-requires-clause-left g c = place_in_prefix _ _ class.Cond c.in_ok-inside.inside c.in_ok-other.ensures.longer c.in_ok-inside.ensures.inside.class

pub and-requires-clause-right : goal.and-requires-clause-right
and-requires-clause-right g c = c.in_ok-other.ensures.truth.class

pub returns-clause-holds : goal.returns-clause-holds
returns-clause-holds g c =
    let old = g.I.Interner.list c.args.pass.now in
    let m1 = g.I.Interner.list c.compared.new.pass in
    let m2 = g.I.Interner.list c.not.new.pass in
    let new = g.I.Interner.list c.and.new.pass in
    let left = c.args.left.now in
    let right = c.args.right.now in
    let columns = c.args.columns.now in
    let inside = c.in_ok-inside.inside in
    let outside = c.in_ok-inside.outside in
    let other = c.in_ok-other.other in
    IfOk-weaker c.and.result (λ p. HasTruth new p (and_at m2 inside other)) (λ p. HoldsWhere new p (λ v. clash columns (tuple_of old left v) (tuple_of old right v)))
    (λ p h. holds_as new p
    (λ v. same_below (length left) (is_in columns) (tuple_of old left v) (tuple_of old right v) && not (same_below (length left) (λ k. not (is_in columns k)) (tuple_of old left v) (tuple_of old right v)))
    (λ v. clash columns (tuple_of old left v) (tuple_of old right v))
    (λ v. clash_is (tuple_of old left v) (tuple_of old right v) (length left) (long_tuple old v left) (long_tuple old v right ∙ sym c.requires.lengths) columns c.requires.columns)
    (holds_and m2 new inside other p _ _ (holds_later m1 m2 inside _ c.in_ok-other.ensures.longer c.in_ok-inside.ensures.inside)
    (holds_not m1 m2 outside other _ c.in_ok-inside.ensures.outside c.in_ok-other.ensures.truth) h))
    c.and.ensures.truth

pub returns-clause-terms : goal.returns-clause-terms
returns-clause-terms g c =
    let old = g.I.Interner.list c.args.pass.now in
    let m1 = g.I.Interner.list c.compared.new.pass in
    let m2 = g.I.Interner.list c.not.new.pass in
    let new = g.I.Interner.list c.and.new.pass in
    let inside = c.in_ok-inside.inside in
    let other = c.in_ok-other.other in
    let source = BelowSome old (c.args.left.now ++ c.args.right.now) in
    let within = place_within m1 class.Cond inside c.in_ok-inside.ensures.inside.class in
    IfOk-weaker c.and.result (λ p. TermsFrom new p (BelowEither m2 inside other)) (λ p. TermsFrom new p source)
    (λ p. from_two m2 new inside other p source
    (from_later m1 m2 c.in_ok-other.ensures.longer c.in_ok-inside.ensures.writes.formed inside source within c.in_ok-inside.ensures.inside_terms)
    (λ t h. c.in_ok-inside.ensures.outside_terms t (c.in_ok-other.ensures.terms t h)))
    c.and.ensures.terms

pub returns-clause-writes : goal.returns-clause-writes
returns-clause-writes g c = writes_within _ (omega arith) (writes_both c.in_ok-inside.ensures.writes (writes_both c.in_ok-other.ensures.writes c.and.ensures.writes))
