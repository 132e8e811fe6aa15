use Rattle.std.{proofs.Common.{◌≡◌, ◌*◌, ◌+◌, ℕ, true, length, sym, subst}, specs.Prelude.All}
use Rattle.std.proofs.lemmas.Result.{err_from_is_err_and}
use Rattle.ct_word.{specs.Stands.HasNoColumn, specs.WellFormed.is_place_of}
use Rattle.ct_condition.specs.Writes.{Writes}
use Rattle.ct_decide.specs.declared.deciding.Decision.{Decision}
use Rattle.ct_certain.{specs.Answered.{IsNear, IsRefutation, IsSettled}, proofs.Nearby.near_grows, proofs.Certainties.refutations_later, proofs.Roots.handed_on}
use Rattle.ct_word.specs.declared.kinds.Class.TheVariants as class
use Rattle.ct_certain.proofs.absence.ask_tuple.Goals as goal

pub settle_near-requires-clause-condition : goal.settle_near-requires-clause-condition
settle_near-requires-clause-condition g c = subst (λ ws. is_place_of ws class.Cond c.in_ok-place.place ≡ true) (sym c.words-words.ensures.words) c.in_ok-place.ensures.root.class

pub settle_near-requires-clause-columns : goal.settle_near-requires-clause-columns
settle_near-requires-clause-columns g c = subst (λ ws. HasNoColumn ws c.in_ok-place.place) (sym c.words-words.ensures.words) c.in_ok-place.ensures.root.plain

pub settle_near-requires-clause-near : goal.settle_near-requires-clause-near
settle_near-requires-clause-near g c =
    let old = g.I.Interner.list c.args.pass.now in
    let new = g.I.Interner.list c.missing_root.new.pass in
    subst (λ ws. IsNear ws c.args.global c.args.near.now) (sym c.words-words.ensures.words)
    (near_grows old new c.in_ok-place.ensures.writes.longer c.words-words.ensures.formed c.requires.asked.formed c.args.global c.args.near.now c.requires.near)

pub returns-clause-settled : goal.returns-clause-settled
returns-clause-settled g c = subst (λ ws. IsSettled ws c.in_ok-place.place c.in_ok-decision.decision) c.words-words.ensures.words c.in_ok-decision.ensures.settled

pub returns-in_err-place-clause-writes : goal.returns-in_err-place-clause-writes
returns-in_err-place-clause-writes g c =
    let k = length c.args.table.now.columns in
    let r = length c.args.table.now.rows in
    let exit = err_from_is_err_and c.from_residual.result c.from_residual.ensures.1 in
    rw (exit.1, exit.2) (subst (λ b. Writes g.I.Interner.list g.I.Interner.made g.I.Interner.kept g.I.Interner.lent g.N.Site.log.cap c.args.pass.now c.missing_root.new.pass (r * (2 * k + 2) + k + 1) b) (handed_on (ℕ × Decision) c.in_err-place.field-0.0) c.in_err-place.ensures.writes)

pub known-requires : goal.known-requires
known-requires g c =
    let old = g.I.Interner.list c.args.pass.now in
    let new = g.I.Interner.list c.missing_root.new.pass in
    subst (λ ws. All (λ r. IsRefutation ws r.proof.root r.proof.derivation) c.args.list.now.rows.items) (sym c.words-words.ensures.words)
    (refutations_later old new c.in_ok-place.ensures.writes.longer c.args.list.now.rows.items c.requires.listed)
