use Rattle.std.proofs.Common.{length, ap, ◌∙◌, subst, arith, refl, ◌≡◌, true}
use Rattle.ct_decide.proofs.Parts.{same_pair, atom_put, key_put, key_kept, place_is}
use Rattle.ct_decide.proofs.part.place.Goals as goal

pub returns-in_ok-push-clause-part : goal.returns-in_ok-push-clause-part
returns-in_ok-push-clause-part c =
    let told = c.in_ok-place.ensures in
    let put = key_put c.args.part.now.keys.keys c.insert_full.new.self.keys c.key.result _ c.in_ok-place.is_new told.added told.keys c.key.ensures c.if-is_new.true in
    atom_put c.args.words.now c.args.aim c.args.part.now _ c.args.atom c.requires.part c.requires.of put.0 (omega (arith, c.if-as_slice-ge-LARGEST.false, ap length c.as_slice.ensures.value))
    c.in_ok-push.ensures.items refl refl put.1

pub returns-in_ok-push-clause-place : goal.returns-in_ok-push-clause-place
returns-in_ok-push-clause-place c =
    let told = c.in_ok-place.ensures in
    place_is c.push.new.self.items c.args.atom c.insert_full.new.self.keys c.in_ok-place.place told.stored.0 (returns-in_ok-push-clause-part c).keys told.stored.1
    (subst (λ k. same_pair k told.stored.0 ≡ true) c.key.ensures told.stored.2)

pub returns-else-is_new-clause-place : goal.returns-else-is_new-clause-place
returns-else-is_new-clause-place c =
    let told = c.in_ok-place.ensures in
    let kept = key_kept c.args.part.now.keys.keys c.insert_full.new.self.keys c.key.result c.in_ok-place.is_new told.added told.keys c.if-is_new.false in
    place_is c.args.part.now.posed.atoms.items c.args.atom c.insert_full.new.self.keys c.in_ok-place.place told.stored.0 (kept ∙ c.requires.part.keys) told.stored.1
    (subst (λ k. same_pair k told.stored.0 ≡ true) c.key.ensures told.stored.2)
