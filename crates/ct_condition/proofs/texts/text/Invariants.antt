use Rattle.std.{proofs.Common.{ℕ, ◌≡◌, ◌+◌, ◌<◌, ◌^◌, ◌++◌, false, length}, specs.Prelude.{IsTrue, encode_utf8_all}}
use Rattle.ct_word.{specs.Reading.IsText, specs.Stands.StandsAt, specs.WellFormed.is_place_of}
use Rattle.ct_condition.{specs.Terms.TermsFrom, specs.Writes.Writes}
use Rattle.ct_word.specs.declared.kinds.Class.TheVariants as class
use Rattle.ct_condition.proofs.texts.text.Given as goal

abbrev pub invariant-loop-character : goal.invariant-loop-character
invariant-loop-character g l = record {
  stands : StandsAt (g.I.Interner.list l.pass) l.place (IsText (encode_utf8_all l.yielded));
  class : IsTrue (is_place_of (g.I.Interner.list l.pass) class.Text l.place);
  small : l.place < 2 ^ 28;
  terms : TermsFrom (g.I.Interner.list l.pass) l.place (λ t. ⊥);
  writes : Writes g.I.Interner.list g.I.Interner.made g.I.Interner.kept g.I.Interner.lent g.N.Site.log.cap l.fn.pass l.pass (length l.yielded + 1) false;
  spelled : encode_utf8_all l.yielded ++ l.character-iterator.rest.now ≡ l.text;
  known : (p : ℕ) → StandsAt (g.I.Interner.list l.fn.pass) p (IsText l.text) → (g.I.Interner.list l.pass ≡ g.I.Interner.list l.fn.pass) × (g.I.Interner.made l.pass ≡ g.I.Interner.made l.fn.pass);
}
