use Rattle.std.proofs.Common.{◌≡◌, length, ◌∙◌, ap, sym, subst, arith}
use Rattle.ct_equality.{proofs.Listed.no_more_terms, proofs.Steps.plain_ordered, proofs.Joins.joined_back, proofs.Trees.joined_end, proofs.FalsePaths.false_path, proofs.Rooms.few_places}
use Rattle.ct_equality.{specs.Members.members_at, specs.Classes.AreJoined, specs.Indexed.{AreIndexed, AreClassesAt, classed}}
use Rattle.ct_equality.{proofs.Joining.classed_joined, proofs.Indexed.classed_places}
use Rattle.ct_equality.proofs.closing.settle.Goals as goal

pub alone-requires-clause-few : goal.alone-requires-clause-few
alone-requires-clause-few c =
    omega (arith, few_places c.args.words.now c.args.atoms.now c.args.truth.now c.requires.plain c.args.terms.now.places.items c.args.terms.now.found.words c.requires.met c.requires.all, c.requires.few)

pub overflow_cast-len : goal.overflow_cast-len
overflow_cast-len c =
    omega (arith, few_places c.args.words.now c.args.atoms.now c.args.truth.now c.requires.plain c.args.terms.now.places.items c.args.terms.now.found.words c.requires.met c.requires.all, c.requires.few, c.len.ensures, c.args.terms.now.places.ok.0)

pub path-requires-clause-ordered : goal.path-requires-clause-ordered
path-requires-clause-ordered c = plain_ordered c.args.words.now c.args.atoms.now c.requires.plain

pub path-requires-clause-count : goal.path-requires-clause-count
path-requires-clause-count c = omega (arith, no_more_terms c.args.atoms.now c.args.terms.now.places.items c.requires.all, c.len.ensures, c.args.terms.now.places.ok.0)

pub path-requires-clause-end : goal.path-requires-clause-end
path-requires-clause-end c =
    let clash = c.in-Some.ensures.clash in
    joined_end c.args.atoms.now c.args.truth.now (joined_back c.args.atoms.now c.args.truth.now clash.joined) (λ e. clash.differ (sym e))

pub returns-in-Some : goal.returns-in-Some
returns-in-Some c =
    false_path c.args.words.now c.args.atoms.now c.args.truth.now c.requires.plain c.in-Some.s c.in-Some.t c.in_ok-path.field-0 c.in-Some.ensures.clash c.in_ok-path.ensures

pub members-requires : goal.members-requires
members-requires c =
    let j = c.in_default.ensures.joined in
    let at = c.classes-classes.ensures c.args.terms.now.found.words j.members j.forest in
    record { count = ap length c.as_slice-3.ensures.value ∙ at.count ∙ ap length (sym c.requires.met.same) ∙ ap length (sym c.as_slice-2.ensures.value) }

pub valued-requires-clause-indexed : goal.valued-requires-clause-indexed
valued-requires-clause-indexed c =
    let words = c.args.words.now in
    let us = c.args.terms.now.found.words in
    let j = c.in_default.ensures.joined in
    let ms = j.members in
    let is2 : c.as_slice-2.result.now ≡ us = c.as_slice-2.ensures.value ∙ c.requires.met.same in
    let at = subst (λ l. AreClassesAt l ms c.as_slice-3.result.now) (sym is2) (subst (AreClassesAt us ms) (sym c.as_slice-3.ensures.value) (c.classes-classes.ensures us ms j.forest)) in
    let are : c.as_mut_slice.result.now ≡ classed words ms us = c.as_mut_slice.ensures.value ∙ c.in_ok-members.ensures ms at ∙ ap (classed words ms) is2 in
    subst (AreIndexed us) (sym are) (record { places = classed_places words ms us; distinct = c.requires.met.distinct })

pub valued-requires-clause-joined : goal.valued-requires-clause-joined
valued-requires-clause-joined c =
    let words = c.args.words.now in
    let atoms = c.args.atoms.now in
    let truth = c.args.truth.now in
    let us = c.args.terms.now.found.words in
    let j = c.in_default.ensures.joined in
    let ms = j.members in
    let is2 : c.as_slice-2.result.now ≡ us = c.as_slice-2.ensures.value ∙ c.requires.met.same in
    let at = subst (λ l. AreClassesAt l ms c.as_slice-3.result.now) (sym is2) (subst (AreClassesAt us ms) (sym c.as_slice-3.ensures.value) (c.classes-classes.ensures us ms j.forest)) in
    let are : c.as_mut_slice.result.now ≡ classed words ms us = c.as_mut_slice.ensures.value ∙ c.in_ok-members.ensures ms at ∙ ap (classed words ms) is2 in
    subst (AreJoined words atoms truth (length atoms) (members_at words c.args.terms.now.places.items)) (sym are)
    (subst (λ l. AreJoined words atoms truth (length atoms) (members_at words l) (classed words ms us)) (sym c.requires.met.same) (classed_joined words atoms truth us (length atoms) ms j.joined))
