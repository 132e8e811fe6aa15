use Rattle.std.{proofs.Common.{◌∷◌, [], ◌∙◌, subst, sym, inl, inr}, specs.Prelude.Contains}
use Rattle.ct_word.proofs.Items.{first_item, later_item}
use Rattle.ct_worlds.{specs.Shape.terms_of, proofs.Shaped.{shaped_as, term_stands}}
use Rattle.ct_word.specs.declared.values.Term.TheVariants as term
use Rattle.ct_worlds.specs.declared.shape.Shape.TheVariants as shape
use Rattle.ct_worlds.proofs.nulls.add_terms.Goals as goal

pub add_term-requires-clause-term : goal.add_term-requires-clause-term
add_term-requires-clause-term c = (shaped_as c.args.words.now c.args.place {s = shape.Equal c.in-Equal.left c.in-Equal.right} c.requires.formed c.requires.condition c.shape_at.ensures c.in-Equal.is).terms.0

pub add_term-requires-in-Equal-clause-term : goal.add_term-requires-in-Equal-clause-term
add_term-requires-in-Equal-clause-term c = (shaped_as c.args.words.now c.args.place {s = shape.Equal c.in-Equal.left c.in-Equal.right} c.requires.formed c.requires.condition c.shape_at.ensures c.in-Equal.is).terms.1.0

pub returns-in_ok-add_term-2-clause-only : goal.returns-in_ok-add_term-2-clause-only
returns-in_ok-add_term-2-clause-only c = λ n h.
    let words = c.args.words.now in
    let left = c.in-Equal.left in
    let right = c.in-Equal.right in
    let is = sym c.in-Equal.is ∙ c.shape_at.ensures in
    let one = subst (λ s. Contains (terms_of s) left) is (first_item (right ∷ []) left) in
    let two = subst (λ s. Contains (terms_of s) right) is (later_item (right ∷ []) left right (first_item [] right)) in
    elim (c.in_ok-add_term-2.ensures.only n h) [
      | inr e ↦ inr (term_stands words c.args.place right (term.Null n) c.requires.formed c.requires.condition two e)
      | inl before ↦ elim (c.in_ok-add_term.ensures.only n before) [
        | inl there ↦ inl there
        | inr e ↦ inr (term_stands words c.args.place left (term.Null n) c.requires.formed c.requires.condition one e)
      ]
    ]
