use Rattle.std.proofs.Common.{◌≡◌, ◌+◌, ◌++◌, [], false, true, get_or, drop, length, map, sym, ap, ◌∙◌, subst, arith}
use Rattle.std.specs.List.{IsDistinct}
use Rattle.std.proofs.lemmas.List.{drop_all, Elements.Contains-get_or}
use mathlib.Core.List.{append-nil}
use Rattle.ct_derivation.specs.declared.literals.Lit.{Lit}
use Rattle.ct_derivation.specs.declared.literals.Atom.TheVariants as atom
use Rattle.ct_derivation.specs.Literal.{has, same_lit}
use Rattle.ct_cert.{specs.{Alike.Alike, Numbered.{AreLow, IsNoted, number_of}}, proofs.{Alike.{alike_kept, alike_left, alike_self}, Noted.{AreKept, kept_more, none_kept}}}
use Rattle.ct_cert.proofs.repeats.distinct.Goals.{then-not-is_repeated+in_ok-push, else-not-is_repeated}
use Rattle.ct_cert.proofs.repeats.distinct.Goals as goal

abbrev none : Lit
none = record { positive = false; atom = atom.Node 0 }

pub loop-literal-init : goal.loop-literal-init
loop-literal-init c =
    let clause = c.args.clause.now in
    let none_noted = ap (λ n. n.words) c.in_ok-noted.ensures in
    record {
      alike = subst (λ ls. Alike clause (ls ++ clause)) (sym c.new-kept.ensures.items) (alike_self clause);
      room = ap (λ n. n.room) c.in_ok-noted.ensures ∙ c.in_ok-small.ensures;
      few = let no_words = ap (λ ws. length ws) none_noted in omega (arith, no_words);
      kept = λ low. none_kept c.in_ok-noted.noted.words c.new-kept.result.items none_noted c.new-kept.ensures.items;
    }

pub loop-literal-preserved : goal.loop-literal-preserved
loop-literal-preserved c =
    let clause = c.args.clause.now in
    let i = c.loop-literal.literal-index in
    let kept = c.loop-literal.kept.items in
    let literal = get_or clause i none in
    let listed = Contains-get_or clause i none c.loop-literal-test.true in
    let behind = drop (i + 1) clause in
    let before = c.loop-literal.invariant in
    let words = c.is_repeated.new.noted.words in
    let noted = λ (low : AreLow clause).
    let are = before.kept low in
    subst (λ ks. IsNoted literal ks c.is_repeated.result words) c.as_slice.ensures.value
    (c.is_repeated.ensures.noted (subst AreLow (sym c.as_slice.ensures.value) are.2) (low literal listed) (subst (λ ks. c.loop-literal.noted.words ≡ map number_of ks) (sym c.as_slice.ensures.value) are.0)) in
    record {
      alike = elim c.if-not-is_repeated.branch [
        | then-not-is_repeated+in_ok-push w ↦
            subst (λ ls. Alike clause (ls ++ behind)) (sym (ap (λ v. v.items) w.kept-is ∙ w.in_ok-push.ensures.items)) (alike_kept clause kept i none c.loop-literal-test.true before.alike)
        | else-not-is_repeated w ↦
            subst (λ ls. Alike clause (ls ++ behind)) (sym (ap (λ v. v.items) w.kept-is))
            (alike_left clause kept i none c.loop-literal-test.true
            (subst (λ ls. has ls literal ≡ true) c.as_slice.ensures.value (c.is_repeated.ensures.repeated w.if-not-is_repeated.false)) before.alike)
      ];
      room = c.is_repeated.ensures.room ∙ before.room;
      few = omega (arith, c.is_repeated.ensures.more, before.few);
      kept = λ low. elim c.if-not-is_repeated.branch [
        | then-not-is_repeated+in_ok-push w ↦
            kept_more c.loop-literal.noted.words words kept _ literal (low literal listed) (ap (λ v. v.items) w.kept-is ∙ w.in_ok-push.ensures.items)
            (subst (λ b. IsNoted literal kept b words) w.if-not-is_repeated.true (noted low)) (before.kept low)
        | else-not-is_repeated w ↦
            let are = before.kept low in
            subst (AreKept words) (sym (ap (λ v. v.items) w.kept-is)) (subst (λ b. IsNoted literal kept b words) w.if-not-is_repeated.false (noted low), are.1, are.2)
      ];
    }

pub returns-clause-alike : goal.returns-clause-alike
returns-clause-alike c =
    let clause = c.args.clause.now in
    let none_left : drop c.loop-literal.literal-index clause ≡ [] = drop_all c.loop-literal.literal-index clause (omega (arith, c.loop-literal-test.false)) in
    subst (Alike clause) (ap (λ ls. c.loop-literal.kept.items ++ ls) none_left ∙ append-nil c.loop-literal.kept.items ∙ sym c.from_vec.ensures) c.loop-literal.invariant.alike

pub returns-clause-once : goal.returns-clause-once
returns-clause-once c = λ low. subst (IsDistinct same_lit) (sym c.from_vec.ensures) (c.loop-literal.invariant.kept low).1
