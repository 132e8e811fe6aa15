use Rattle.std.{proofs.Common.{◌≡◌, true, ◌∙◌, ap, sym, subst, arith}, proofs.lemmas.List.length-map}
use Rattle.std.specs.List.{list_all}
use Rattle.ct_word.specs.WellFormed.{is_place_of}
use Rattle.ct_word.specs.declared.kinds.Class.TheVariants as class
use Rattle.ct_equality.specs.Valued.{AreNumbered, HaveValues, IsWorldOf, world_of}
use Rattle.ct_equality.{specs.Terms.{AreAscending, is_among}, specs.Members.member_at, proofs.Listed.{terms_ascend, among_terms, no_more_terms}}
use Rattle.ct_equality.{proofs.Steps.{plain_ordered, contradiction_clash}, proofs.Joins.joined_back, proofs.Trees.joined_end, proofs.Worlds.{start_numbered, have_values, is_world}}
use Rattle.ct_equality.{proofs.FalsePaths.{false_path, term_places}, proofs.Indexed.listed_is, proofs.Rooms.few_places}
use Rattle.ct_equality.proofs.closing.valued.Goals as goal

pub overflow_cast-len : goal.overflow_cast-len
overflow_cast-len c =
    omega (arith, few_places c.args.words.now c.args.atoms.now c.args.truth.now c.requires.plain c.args.terms.now.places.items c.args.terms.now.found.words c.requires.met c.requires.all, c.requires.few, c.len.ensures, c.args.terms.now.places.ok.0)

pub path-requires-clause-ordered : goal.path-requires-clause-ordered
path-requires-clause-ordered c = plain_ordered c.args.words.now c.args.atoms.now c.requires.plain

pub path-requires-clause-count : goal.path-requires-clause-count
path-requires-clause-count c = omega (arith, no_more_terms c.args.atoms.now c.args.terms.now.places.items c.requires.all, c.len.ensures, c.args.terms.now.places.ok.0)

pub path-requires-clause-end : goal.path-requires-clause-end
path-requires-clause-end c =
    let atoms = c.args.atoms.now in
    let truth = c.args.truth.now in
    let clash = contradiction_clash c.args.words.now atoms truth c.args.members.now c.requires.joined.classes c.requires.plain c.in-Some.s c.in-Some.t c.in-Some.ensures.some in
    joined_end atoms truth (joined_back atoms truth clash.joined) (λ e. clash.differ (sym e))

pub path-requires-clause-joined : goal.path-requires-clause-joined
path-requires-clause-joined c = (contradiction_clash c.args.words.now c.args.atoms.now c.args.truth.now c.args.members.now c.requires.joined.classes c.requires.plain c.in-Some.s c.in-Some.t c.in-Some.ensures.some).joined

pub returns-in-Some : goal.returns-in-Some
returns-in-Some c =
    false_path c.args.words.now c.args.atoms.now c.args.truth.now c.requires.plain c.in-Some.s c.in-Some.t c.in_ok-path.field-0
    (contradiction_clash c.args.words.now c.args.atoms.now c.args.truth.now c.args.members.now c.requires.joined.classes c.requires.plain c.in-Some.s c.in-Some.t c.in-Some.ensures.some) c.in_ok-path.ensures

pub number_classes-requires-clause-few : goal.number_classes-requires-clause-few
number_classes-requires-clause-few c =
    omega (
      arith,
      few_places c.args.words.now c.args.atoms.now c.args.truth.now c.requires.plain c.args.terms.now.places.items c.args.terms.now.found.words c.requires.met c.requires.all,
      c.requires.few,
      c.requires.joined.merges.count,
      length-map c.args.terms.now.places.items (member_at c.args.words.now),
    )

pub number_classes-requires-clause-there : goal.number_classes-requires-clause-there
number_classes-requires-clause-there c = λ p e.
    listed_is c.args.terms.now.found.words c.args.members.now c.requires.indexed p ∙ ap (λ l. is_among l p) (sym c.requires.met.same) ∙ c.requires.all p
    ∙ sym (among_terms c.args.atoms.now p) ∙ ap (λ l. is_among l p) (sym (c.as_slice-2.ensures.value ∙ c.in_ok-places.ensures)) ∙ e

pub number_classes-requires-clause-ascending : goal.number_classes-requires-clause-ascending
number_classes-requires-clause-ascending c = subst AreAscending (sym (c.as_slice-2.ensures.value ∙ c.in_ok-places.ensures)) (terms_ascend c.args.atoms.now)

pub number_classes-requires-clause-constants : goal.number_classes-requires-clause-constants
number_classes-requires-clause-constants c = start_numbered c.args.words.now c.requires.formed c.args.terms.now.places.items c.args.members.now c.requires.joined.merges

pub world-requires-clause-terms : goal.world-requires-clause-terms
world-requires-clause-terms c =
    subst (λ l. list_all (is_place_of c.args.words.now class.Term) l ≡ true) (sym (c.as_slice-4.ensures.value ∙ c.in_ok-places.ensures)) (term_places c.args.words.now c.args.atoms.now c.args.truth.now c.requires.plain)

pub world-requires-clause-values : goal.world-requires-clause-values
world-requires-clause-values c =
    subst (HaveValues c.args.words.now c.number_classes.new.members) (sym (c.as_slice-4.ensures.value ∙ c.in_ok-places.ensures)) (have_values c.args.words.now c.requires.formed c.args.atoms.now c.args.truth.now c.requires.plain c.args.terms.now.places.items c.requires.all c.args.members.now c.number_classes.new.members
    c.requires.joined c.in_default.ensures.none (subst (AreNumbered c.args.words.now c.args.members.now c.number_classes.new.members) (c.as_slice-2.ensures.value ∙ c.in_ok-places.ensures) c.number_classes.ensures.numbers))

pub returns : goal.returns
returns c =
    subst (IsWorldOf c.args.words.now c.args.atoms.now c.args.truth.now) (sym (c.in_ok-world.ensures ∙ ap (world_of c.args.words.now c.number_classes.new.members) (c.as_slice-4.ensures.value ∙ c.in_ok-places.ensures))) (is_world c.args.words.now c.requires.formed c.args.atoms.now c.args.truth.now c.requires.plain c.args.terms.now.places.items c.requires.all c.args.members.now c.number_classes.new.members
    c.requires.joined c.in_default.ensures.none (subst (AreNumbered c.args.words.now c.args.members.now c.number_classes.new.members) (c.as_slice-2.ensures.value ∙ c.in_ok-places.ensures) c.number_classes.ensures.numbers))
