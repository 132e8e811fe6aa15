use Rattle.std.{proofs.Common.{◌≡◌, ◌+◌, ◌*◌, ◌/◌, ◌%◌, ◌∙◌, ap, sym, subst, Some, arith, of_z, w64}, proofs.lemmas.Int.to_z-of_z}
use Rattle.std.{proofs.lemmas.Result.IfOk-weaker, proofs.lemmas.Bool.false≢true}
use Rattle.ct_word.{specs.Reading.{IsHigh, IsTerm, as_high, int_of_bits}, specs.Stands.StandsAt, proofs.Prefixes.place_within}
use Rattle.ct_condition.{proofs.Known.{high_there, number_there}, proofs.Fields.{kept, bits_of_number, pieces}, specs.Terms.TermsFrom}
use Rattle.ct_condition.proofs.Reached.{formed_before, both_of, only_term, under_none, under_one, none_under, terms_before}
use Rattle.ct_word.specs.declared.kinds.Class.TheVariants as class
use Rattle.ct_word.specs.declared.values.Value.TheVariants as val
use Rattle.ct_word.specs.declared.values.Term.TheVariants as term
use Rattle.ct_word.specs.declared.kinds.Kind.TheVariants as kind
use Rattle.std.proofs.lemmas.Result.{err_from_is_err_and}
use Rattle.ct_condition.proofs.Writes.{writes_both, writes_within}
use Rattle.ct_condition.proofs.terms.number.Goals as goal

pub returns-clause-stands : goal.returns-clause-stands
returns-clause-stands g c =
    let new = g.I.Interner.list c.put-2.new.pass in
    let n = c.cast_unsigned-bits.result in
    let stays : StandsAt new c.in_ok-high.high (IsHigh (n / 68719476736 * 268435456 + n / 256 % 268435456)) =
    kept (g.I.Interner.list c.put.new.pass) new class.High c.in_ok-high.high _ c.put-2.ensures.longer c.in_ok-high.ensures.place c.in_ok-high.ensures.stands in
    let is : int_of_bits n ≡ c.args.number = bits_of_number c.args.number n c.ranges.number (c.cast_unsigned-bits.ensures ∙ ap (of_z w64) (to_z-of_z w64 c.args.number c.ranges.number)) (omega arith) in
    IfOk-weaker c.put-2.result _ (λ place. StandsAt new place (IsTerm (term.Value (val.Int c.args.number))))
    (λ place s. s ∙ ap (λ o. Some (IsTerm (term.Value (val.Int (int_of_bits (as_high o * 256 + n % 256)))))) stays
    ∙ ap (λ m. Some (IsTerm (term.Value (val.Int (int_of_bits m))))) (pieces n)
    ∙ ap (λ z. Some (IsTerm (term.Value (val.Int z)))) is) c.put-2.ensures.stands

pub returns-clause-terms : goal.returns-clause-terms
returns-clause-terms g c =
    let old = g.I.Interner.list c.put.new.pass in
    let new = g.I.Interner.list c.put-2.new.pass in
    let high = c.in_ok-high.high in
    let t = term.Value (val.Int c.args.number) in
    both_of c.put-2.result (λ place. StandsAt new place (IsTerm t)) _ (λ place. TermsFrom new place (λ u. u ≡ t))
    (λ place stands from. only_term new place kind.Number high 0 t
    (λ u h. none_under old class.High high kind.NumberHigh 0 0 c.in_ok-high.ensures.place (λ e. cc) (under_none old) c.in_ok-high.ensures.terms u
    (terms_before old new c.put-2.ensures.longer c.put-2.ensures.formed high u (place_within old class.High high c.in_ok-high.ensures.place) (under_one new high u h))) stands from)
    (returns-clause-stands g c) c.put-2.ensures.terms

pub returns-in_err-high-clause-known : goal.returns-in_err-high-clause-known
returns-in_err-high-clause-known g c p s =
    let old = g.I.Interner.list c.args.pass.now in
    let n = c.cast_unsigned-bits.result in
    let is : int_of_bits n ≡ c.args.number = bits_of_number c.args.number n c.ranges.number (c.cast_unsigned-bits.ensures ∙ ap (of_z w64) (to_z-of_z w64 c.args.number c.ranges.number)) (omega arith) in
    let wf = formed_before old (g.I.Interner.list c.put.new.pass) c.in_err-high.ensures.longer c.in_err-high.ensures.formed in
    absurd (false≢true (c.in_err-high.ensures.known (high_there old wf p n c.args.number (omega arith) is s)).0)

pub returns-clause-known : goal.returns-clause-known
returns-clause-known g c p s =
    let old = g.I.Interner.list c.args.pass.now in
    let mid = g.I.Interner.list c.put.new.pass in
    let n = c.cast_unsigned-bits.result in
    let is : int_of_bits n ≡ c.args.number = bits_of_number c.args.number n c.ranges.number (c.cast_unsigned-bits.ensures ∙ ap (of_z w64) (to_z-of_z w64 c.args.number c.ranges.number)) (omega arith) in
    let first = c.in_ok-high.ensures.known (high_there old (formed_before old mid c.in_ok-high.ensures.longer c.in_ok-high.ensures.formed) p n c.args.number (omega arith) is s) in
    let still = subst (λ ws. StandsAt ws p (IsTerm (term.Value (val.Int c.args.number)))) (sym first.1) s in
    let second = c.put-2.ensures.known (number_there mid c.in_ok-high.ensures.formed p n c.args.number (omega arith) is still c.in_ok-high.high c.in_ok-high.ensures.word) in
    (second.0, second.1 ∙ first.1, second.2 ∙ first.2)

pub returns-clause-writes : goal.returns-clause-writes
returns-clause-writes g c = writes_both c.in_ok-high.ensures.writes c.put-2.ensures.writes

pub returns-in_err-high-clause-writes : goal.returns-in_err-high-clause-writes
returns-in_err-high-clause-writes g c =
    rw (err_from_is_err_and c.from_residual.result c.from_residual.ensures.1).1 (writes_within _ (omega arith) c.in_err-high.ensures.writes)
