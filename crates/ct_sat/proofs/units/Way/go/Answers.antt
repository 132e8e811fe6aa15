use Rattle.std.{proofs.Common.{◌≡◌, true, false, ◌++◌, ◌∷◌, [], ap, ◌∙◌, sym, subst, neg_ℤ, w32}, proofs.lemmas.Int.to_z-of_z}
use borrow.Author.Rules.{sfits_of}
use Rattle.ct_trail.specs.{Literal.{has, is_literal, LARGEST}, Log.clauses_in, Units.IsAloneAt}
use Rattle.ct_sat.proofs.Ways.{goes, literal_fits}
use Rattle.ct_sat.proofs.units.Way.go.Goals as goal

pub returns : goal.returns
returns c = λ _.
    let log = clauses_in c.args.entries.now in
    let old = c.args.self.now in
    let m = c.args.literal.now in
    let other = to_z-of_z w32 c.opposite-other.result (sfits_of c.opposite-other.type_inv) ∙ c.opposite-other.ensures in
    let out : has old.known.items m ≡ false = ap (λ x. has x m) (sym c.as_slice.ensures.value) ∙ sym c.is_in.ensures ∙ c.if-is_in.false in
    let opposite : has old.known.items (neg_ℤ m) ≡ false =
    ap (λ x. has x (neg_ℤ m)) (sym c.as_slice-2.ensures.value) ∙ ap (has c.as_slice-2.result.now) (sym other) ∙ sym c.is_in-2.ensures ∙ c.if-is_in-2.false in
    let within : is_literal LARGEST m ≡ true = sym c.is_within.ensures ∙ c.if-not-is_within.false in
    let known = c.in_ok-push.ensures.items ∙ ap (λ l. old.known.items ++ l ∷ []) (to_z-of_z w32 m (literal_fits m within)) in
    goes log old (record { known = c.push.new.self; hints = c.push-2.new.self }) m c.args.position known c.in_ok-push-2.ensures.items
    (subst (IsAloneAt log c.args.position) other (c.is_alone.ensures c.if-not-is_alone.false)) out opposite
