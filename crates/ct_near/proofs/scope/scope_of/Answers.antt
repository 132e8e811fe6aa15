use Rattle.std.{proofs.Common.{◌≡◌, ◌<◌, ◌∙◌, arith, length, subst, true}, specs.List.list_all, proofs.lemmas.List.length-set}
use Rattle.ct_near.specs.{Conjuncts.{AreChosen, IsUncovered, is_covered}}
use Rattle.ct_near.proofs.{Near.conjunct_placed, Widening.{fewer, flagged_more, scope_is, uncovered_flag, uncovered_related}}
use Rattle.ct_near.proofs.scope.scope_of.Goals as goal

pub scope_with-requires-clause-conjuncts : goal.scope_with-requires-clause-conjuncts
scope_with-requires-clause-conjuncts c = conjunct_placed c.args.words.now c.args.root c.args.conjuncts.now c.requires.formed c.requires.conjuncts

pub loop-conjunct-init : goal.loop-conjunct-init
loop-conjunct-init c =
    let made = c.in_ok-scope.ensures in
    record {
      room = c.in_ok-is_asked.ensures.room;
      flagged = c.in_ok-is_asked.ensures.related c.args.root c.requires.conjuncts;
      scope = made.is;
      chosen = subst (λ flags. AreChosen c.args.conjuncts.now.places.items flags c.args.own.now c.in_ok-scope.scope.conditions.items) c.as_slice.ensures.value made.chosen;
      nulls = made.nulls;
    }

pub index_mut-requires : goal.index_mut-requires
index_mut-requires c =
    let conjuncts = c.args.conjuncts.now in
    let before = c.loop-conjunct.invariant in
    let flags = c.loop-conjunct.is_asked.items in
    let scope = c.loop-conjunct.scope in
    let one = subst (λ fs. IsUncovered conjuncts.index.entries.items fs scope.nulls c.in-Some.conjunct) c.as_slice-in-loop-conjunct.ensures.value c.in-Some.ensures.one in
    let at = uncovered_related c.args.words.now c.args.root c.args.own.now conjuncts c.requires.formed c.requires.conjuncts flags before.flagged scope before.scope before.chosen before.nulls c.in-Some.conjunct one in
    let within = at.within in
    omega (arith, within, before.room)

pub scope_with-requires-in-Some-clause-conjuncts : goal.scope_with-requires-in-Some-clause-conjuncts
scope_with-requires-in-Some-clause-conjuncts c = conjunct_placed c.args.words.now c.args.root c.args.conjuncts.now c.requires.formed c.requires.conjuncts

pub loop-conjunct-smaller : goal.loop-conjunct-smaller
loop-conjunct-smaller c =
    let conjuncts = c.args.conjuncts.now in
    let before = c.loop-conjunct.invariant in
    let flags = c.loop-conjunct.is_asked.items in
    let scope = c.loop-conjunct.scope in
    let conjunct = c.in-Some.conjunct in
    let one = subst (λ fs. IsUncovered conjuncts.index.entries.items fs scope.nulls conjunct) c.as_slice-in-loop-conjunct.ensures.value c.in-Some.ensures.one in
    let at = uncovered_related c.args.words.now c.args.root c.args.own.now conjuncts c.requires.formed c.requires.conjuncts flags before.flagged scope before.scope before.chosen before.nulls conjunct one in
    let within = at.within in
    let lt : conjunct < length flags = omega (arith, within, before.room) in
    fewer flags conjunct lt (uncovered_flag conjuncts flags scope conjunct one)

pub loop-conjunct-preserved : goal.loop-conjunct-preserved
loop-conjunct-preserved c =
    let conjuncts = c.args.conjuncts.now in
    let before = c.loop-conjunct.invariant in
    let flags = c.loop-conjunct.is_asked.items in
    let scope = c.loop-conjunct.scope in
    let conjunct = c.in-Some.conjunct in
    let one = subst (λ fs. IsUncovered conjuncts.index.entries.items fs scope.nulls conjunct) c.as_slice-in-loop-conjunct.ensures.value c.in-Some.ensures.one in
    let at = uncovered_related c.args.words.now c.args.root c.args.own.now conjuncts c.requires.formed c.requires.conjuncts flags before.flagged scope before.scope before.chosen before.nulls conjunct one in
    let made = c.in_ok-scope-2.ensures in
    record {
      room = length-set flags conjunct true ∙ before.room;
      flagged = flagged_more c.args.words.now c.args.root c.args.own.now conjuncts c.requires.formed c.requires.conjuncts flags before.flagged conjunct at;
      scope = made.is;
      chosen = subst (λ fs. AreChosen conjuncts.places.items fs c.args.own.now c.in_ok-scope-2.scope.conditions.items) c.as_slice-in-Some.ensures.value made.chosen;
      nulls = made.nulls;
    }

pub returns : goal.returns
returns c =
    let before = c.loop-conjunct.invariant in
    let conjuncts = c.args.conjuncts.now in
    let scope = c.loop-conjunct.scope in
    scope_is c.args.words.now c.args.root c.args.own.now conjuncts c.requires.formed c.requires.conjuncts c.loop-conjunct.is_asked.items before.flagged scope before.scope before.chosen before.nulls
    (subst (λ fs. list_all (is_covered fs scope.nulls) conjuncts.index.entries.items ≡ true) c.as_slice-in-loop-conjunct.ensures.value c.in_default.ensures.none)
