use Rattle.std.{proofs.Common.{◌≡◌, ◌∷◌, ◌++◌, [], ◌∙◌, ℕ, Option, Some, None, false, not, sym, ap, refl}, specs.Option.is_some, proofs.lemmas.Bool.false≢true}
use Rattle.ct_derivation.specs.Path.{pair_of}
use Rattle.ct_decide.{specs.Asking.is_atom, proofs.Pairs.atom_added}
use Rattle.ct_decide.proofs.stars.add_pair.Goals as goal

none_is : (o : Option ℕ) → is_some o ≡ false → o ≡ None
none_is None e = refl
none_is (Some k) e = absurd (false≢true (sym e))

pub returns-in_ok-push-clause-asking : goal.returns-in_ok-push-clause-asking
returns-in_ok-push-clause-asking c =
    let old = c.args.asking.now in
    let found = c.find.ensures.none (none_is c.find.result (c.is_none.ensures ∙ ap not c.if-is_none.true)) in
    let none : is_atom old.atoms.items (pair_of c.args.s c.args.t) ≡ false = rw (c.as_slice.ensures.value, c.pair-equality.ensures) at found in
    atom_added c.args.words.now c.args.aim old _ c.args.s c.args.t c.requires.asking c.requires.room c.requires.first c.requires.second c.requires.differ none refl refl refl
    (c.in_ok-push.ensures.items ∙ ap (λ a. old.atoms.items ++ a ∷ []) c.pair-equality.ensures)
