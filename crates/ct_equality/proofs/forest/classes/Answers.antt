use Rattle.std.{proofs.Common.{◌∙◌, arith, sym, ap, subst, set, ◌+◌, length, ◌<◌, ◌≡◌, get_or}, proofs.lemmas.List.get_or_read}
use Rattle.ct_equality.{specs.Forest.AreClassesTo, proofs.Forests.{classes_none, classes_more, classes_all}}
use Rattle.ct_equality.proofs.forest.classes.Goals as goal

pub loop-i-init : goal.loop-i-init
loop-i-init c = classes_none c.args.forest.parents.items c.args.forest.chiefs.items

pub loop-i-preserved : goal.loop-i-preserved
loop-i-preserved c =
    let parents = c.args.forest.parents.items in
    let classes = c.loop-i.classes.items in
    let i = c.loop-i.i in
    let up = c.index.result.now in
    let value = c.index-in-loop-i.result.now in
    let are = c.loop-i.invariant in
    let within : i < length classes = (let n = are.count in omega (arith, n, c.loop-i-test.true, c.len-i-end.ensures, c.args.forest.chiefs.ok.0)) in
    let in_parents : i < length parents = (let n = are.count in let m = c.requires.sound.count in omega (arith, within, n, m)) in
    let up_is : up ≡ get_or parents i 0 = get_or_read parents i up in_parents c.index.ensures 0 in
    let low = c.requires.sound.low i in_parents in
    let value_is : value ≡ get_or classes up 0 = get_or_read classes up value (omega (arith, up_is, low, within)) c.index-in-loop-i.ensures 0 in
    subst (λ v. AreClassesTo parents c.args.forest.chiefs.items (i + 1) (set classes i v)) (sym (value_is ∙ ap (λ j. get_or classes j 0) up_is))
    (classes_more parents c.args.forest.chiefs.items classes i c.requires.sound are within)

pub returns : goal.returns
returns c =
    let are = c.loop-i.invariant in
    let at_end : c.loop-i.i ≡ length c.loop-i.classes.items = (let n = are.count in omega (arith, n, c.loop-i-test.false, c.loop-i.auto.i-end, c.len-i-end.ensures, c.args.forest.chiefs.ok.0)) in
    classes_all c.args.forest.parents.items c.args.forest.chiefs.items c.loop-i.classes.items c.requires.sound
    (subst (λ n. AreClassesTo c.args.forest.parents.items c.args.forest.chiefs.items n c.loop-i.classes.items) at_end are)
