use Rattle.std.{proofs.Common.{◌++◌, [], ◌∷◌, ap, sym, ◌∙◌, subst, Some, arith, ℕ}, specs.Prelude.{encode_utf8, encode_utf8_all, Contains}}
use Rattle.std.{proofs.lemmas.Bool.false≢true, proofs.lemmas.Str.encodes-append, proofs.lemmas.List.{append-nil, length-append}}
use Rattle.std.proofs.lemmas.Result.{err_from_is_err_and}
use Rattle.ct_word.{specs.Word.word_of, specs.Reading.{IsText, as_text}, specs.Stands.StandsAt, proofs.Prefixes.stands_in_prefix}
use Rattle.ct_word.proofs.Growth.{place_within}
use Rattle.ct_condition.proofs.Writes.{writes_both, writes_within, writes_made, writes_fewer}
use Rattle.ct_condition.{proofs.Chains.{ends_there, next_there}, proofs.Characters.{spelled_more, spelled_before, spelled_so_far}}
use Rattle.ct_condition.{proofs.Reached.{formed_before, none_under, under_none, under_one, terms_before}, proofs.texts.text.Goals.In-Some}
use Rattle.ct_word.specs.declared.kinds.Kind.TheVariants as kind
use Rattle.ct_word.specs.declared.kinds.Class.TheVariants as class
use Rattle.ct_condition.proofs.texts.text.Given as given
use Rattle.ct_condition.proofs.texts.text.Goals as goal

-- the next word of a text that has a place
next : (g : given.Over) (c : In-Some g) (p : ℕ) → StandsAt (g.I.Interner.list c.args.pass.now) p (IsText c.args.text.now) → Contains (g.I.Interner.list c.loop-character.pass) (word_of kind.TextCharacter c.loop-character.place c.in-Some.character)
next g c p is =
    let first = g.I.Interner.list c.args.pass.now in
    let same = (c.loop-character.invariant.known p is).0 in
    subst (λ ws. Contains ws (word_of kind.TextCharacter c.loop-character.place c.in-Some.character)) (sym same)
    (next_there first (formed_before first (g.I.Interner.list c.loop-character.pass) c.loop-character.invariant.writes.longer c.loop-character.invariant.writes.formed) p c.loop-character.place c.args.text.now c.loop-character.yielded c.next.new.self.rest.now c.in-Some.character is
    (subst (λ ws. StandsAt ws c.loop-character.place (IsText (encode_utf8_all c.loop-character.yielded))) same c.loop-character.invariant.stands)
    (ap (λ r. encode_utf8_all c.loop-character.yielded ++ r) (sym c.in-Some.ensures.steps.0) ∙ c.loop-character.invariant.spelled))

pub loop-character-init : goal.loop-character-init
loop-character-init g c = record {
  stands = c.in_ok-place.ensures.stands;
  class = c.in_ok-place.ensures.place;
  small = c.in_ok-place.ensures.small;
  terms =
      none_under (g.I.Interner.list c.put.new.pass) class.Text c.in_ok-place.place kind.TextEnd 0 0 c.in_ok-place.ensures.place (λ e. cc)
      (under_none (g.I.Interner.list c.put.new.pass)) c.in_ok-place.ensures.terms;
  writes = c.in_ok-place.ensures.writes;
  spelled = ap (λ s. s.rest.now) c.into_iter-character-iterator.ensures.into_iter_gives ∙ c.chars-character-items.ensures.rest;
  known = λ p is.
      let old = g.I.Interner.list c.args.pass.now in
      let after = c.in_ok-place.ensures.known (ends_there old (formed_before old (g.I.Interner.list c.put.new.pass) c.in_ok-place.ensures.longer c.in_ok-place.ensures.formed) p c.args.text.now is) in
      (after.1, after.2);
}

pub loop-character-preserved : goal.loop-character-preserved
loop-character-preserved g c =
    let old = g.I.Interner.list c.loop-character.pass in
    let new = g.I.Interner.list c.put-in-loop-character.new.pass in
    let kept : StandsAt new c.loop-character.place (IsText (encode_utf8_all c.loop-character.yielded)) =
    stands_in_prefix old new c.loop-character.place _ c.in_ok-place-2.ensures.longer (place_within old class.Text c.loop-character.place c.loop-character.invariant.class) c.loop-character.invariant.stands in
    record {
      stands =
          c.in_ok-place-2.ensures.stands
          ∙ ap (λ o. Some (IsText (as_text o ++ encode_utf8 c.in-Some.character))) kept
          ∙ ap (λ t. Some (IsText t)) (ap (λ t. encode_utf8_all c.loop-character.yielded ++ t) (sym (append-nil (encode_utf8 c.in-Some.character)))
          ∙ sym (encodes-append c.loop-character.yielded (c.in-Some.character ∷ [])));
      class = c.in_ok-place-2.ensures.place;
      small = c.in_ok-place-2.ensures.small;
      terms =
          none_under new class.Text c.in_ok-place-2.place kind.TextCharacter c.loop-character.place c.in-Some.character c.in_ok-place-2.ensures.place (λ e. cc)
          (λ t u. c.loop-character.invariant.terms t
          (terms_before old new c.in_ok-place-2.ensures.longer c.in_ok-place-2.ensures.formed c.loop-character.place t
          (place_within old class.Text c.loop-character.place c.loop-character.invariant.class) (under_one new c.loop-character.place t u)))
          c.in_ok-place-2.ensures.terms;
      writes = writes_within _ (omega (arith, length-append c.loop-character.yielded (c.in-Some.character ∷ []))) (writes_both c.loop-character.invariant.writes c.in_ok-place-2.ensures.writes);
      spelled =
          spelled_more c.loop-character.yielded c.loop-character.character-iterator.rest.now c.next.new.self.rest.now c.args.text.now c.in-Some.character
          c.loop-character.invariant.spelled c.in-Some.ensures.steps.0;
      known = λ p is.
          let before = c.loop-character.invariant.known p is in
          let after = c.in_ok-place-2.ensures.known (next g (goal.at.loop-character-preserved g c).In-Some p is) in
          (after.1 ∙ before.0, after.2 ∙ before.1);
    }

pub returns-in_err-place-clause-known : goal.returns-in_err-place-clause-known
returns-in_err-place-clause-known g c p is =
    let old = g.I.Interner.list c.args.pass.now in
    let after = c.in_err-place.ensures.known
    (ends_there old (formed_before old (g.I.Interner.list c.put.new.pass) c.in_err-place.ensures.longer c.in_err-place.ensures.formed) p c.args.text.now is) in
    absurd (false≢true after.0)

pub returns-in_err-place-2-clause-known : goal.returns-in_err-place-2-clause-known
returns-in_err-place-2-clause-known g c p is =
    absurd (false≢true (c.in_err-place-2.ensures.known (next g (goal.at.returns-in_err-place-2-clause-known g c).In-Some p is)).0)

pub returns-in_err-place-clause-writes : goal.returns-in_err-place-clause-writes
returns-in_err-place-clause-writes g c =
    rw (err_from_is_err_and c.from_residual.result c.from_residual.ensures.1).1 (writes_within _ (omega arith) c.in_err-place.ensures.writes)

pub returns-in_err-place-2-clause-writes : goal.returns-in_err-place-2-clause-writes
returns-in_err-place-2-clause-writes g c =
    let most = spelled_before c.loop-character.yielded c.loop-character.character-iterator.rest.now c.next.new.self.rest.now c.args.text.now c.in-Some.character
    c.loop-character.invariant.spelled c.in-Some.ensures.steps.0 in
    rw (err_from_is_err_and c.from_residual-in_err-place-2.result c.from_residual-in_err-place-2.ensures.1).1
    (writes_within _ (omega arith) (writes_both c.loop-character.invariant.writes c.in_err-place-2.ensures.writes))

pub returns-clause-writes : goal.returns-clause-writes
returns-clause-writes g c =
    writes_within _ (omega (arith, spelled_so_far c.loop-character.yielded c.loop-character.character-iterator.rest.now c.args.text.now c.loop-character.invariant.spelled)) c.loop-character.invariant.writes

pub returns-clause-made : goal.returns-clause-made
returns-clause-made g c = writes_made (returns-clause-writes g c)

pub returns-in_err-place-2-clause-made : goal.returns-in_err-place-2-clause-made
returns-in_err-place-2-clause-made g c = writes_made (returns-in_err-place-2-clause-writes g c)

pub returns-in_err-place-2-clause-err : goal.returns-in_err-place-2-clause-err
returns-in_err-place-2-clause-err g c = writes_fewer _ (returns-in_err-place-2-clause-writes g c)
