use Rattle.std.{proofs.Common.{◌≡◌, ◌∙◌, ap, refl, subst, sym, inl, inr}, specs.Prelude.Contains}
use Rattle.ct_word.specs.Reading.{term_at}
use Rattle.ct_worlds.{specs.Shape.terms_of, proofs.Shaped.shaped_as}
use Rattle.ct_near.{specs.Entries.IsEntryAmong, specs.Walks.IsEntryAt, proofs.{Entries.{entry_named, pair_cases}, Listing.{extends_keeps, extends_more, extends_weaker, keeps_listed}}}
use Rattle.ct_worlds.specs.declared.shape.Shape.TheVariants as shape
use Rattle.ct_near.specs.declared.walking.Way.TheVariants as way
use Rattle.ct_near.proofs.walking.enter_any.Goals as goal

pub add_null-requires-clause-term : goal.add_null-requires-clause-term
add_null-requires-clause-term c = (shaped_as c.args.words.now c.args.place {s = shape.Equal c.in-Equal.left c.in-Equal.right} c.requires.formed c.requires.condition c.shape_at.ensures c.in-Equal.is).terms.0

pub add_null-requires-in-Equal-clause-term : goal.add_null-requires-in-Equal-clause-term
add_null-requires-in-Equal-clause-term c = (shaped_as c.args.words.now c.args.place {s = shape.Equal c.in-Equal.left c.in-Equal.right} c.requires.formed c.requires.condition c.shape_at.ensures c.in-Equal.is).terms.1.0

pub returns-in_ok-add_null-in-Equal-2-clause-added : goal.returns-in_ok-add_null-in-Equal-2-clause-added
returns-in_ok-add_null-in-Equal-2-clause-added c =
    let words = c.args.words.now in
    let conjunct = c.args.conjunct in
    let place = c.args.place in
    let a = c.in-Equal.left in
    let b = c.in-Equal.right in
    let is = sym c.shape_at.ensures ∙ c.in-Equal.is in
    let old = c.args.index.now.entries.items in
    let mid = c.add_null.new.index.entries.items in
    let new = c.add_null-in-Equal.new.index.entries.items in
    extends_more (IsEntryAt words (way.All conjunct) place) old mid new
    (extends_weaker (IsEntryAmong words conjunct (λ x. x ≡ a)) (IsEntryAt words (way.All conjunct) place) old mid (entry_named words conjunct place a b a is (inl refl)) c.in_ok-add_null-in-Equal.ensures.added)
    (extends_weaker (IsEntryAmong words conjunct (λ x. x ≡ b)) (IsEntryAt words (way.All conjunct) place) mid new (entry_named words conjunct place a b b is (inr refl)) c.in_ok-add_null-in-Equal-2.ensures.added)

pub returns-in_ok-add_null-in-Equal-2-clause-listed : goal.returns-in_ok-add_null-in-Equal-2-clause-listed
returns-in_ok-add_null-in-Equal-2-clause-listed c = λ q h n is.
    let words = c.args.words.now in
    elim (pair_cases c.in-Equal.left c.in-Equal.right q (subst (λ s. Contains (terms_of s) q) (sym c.shape_at.ensures ∙ c.in-Equal.is) h)) [
      | inl e ↦
          keeps_listed words c.add_null.new.index.entries.items c.add_null-in-Equal.new.index.entries.items c.args.conjunct n (extends_keeps (IsEntryAmong words c.args.conjunct (λ x. x ≡ c.in-Equal.right)) c.add_null.new.index.entries.items c.add_null-in-Equal.new.index.entries.items c.in_ok-add_null-in-Equal-2.ensures.added)
          (c.in_ok-add_null-in-Equal.ensures.listed n (ap (term_at words) (sym e) ∙ is))
      | inr e ↦ c.in_ok-add_null-in-Equal-2.ensures.listed n (ap (term_at words) (sym e) ∙ is)
    ]
