use Rattle.std.{proofs.Common.{◌∙◌, arith, sym, subst}, proofs.lemmas.List.get_or_read}
use Rattle.ct_equality.{specs.Forest.{IsSound}, proofs.Forests.{left_same, left_clash, left_linked, sound_way, sound_step}}
use Rattle.ct_equality.proofs.forest.join.Goals as goal

pub returns-then-a-b-clause-step : goal.returns-then-a-b-clause-step
returns-then-a-b-clause-step c = λ us ms forest.
    let cs = c.args.forest.now.chiefs.items in
    let sound = c.requires.sound in
    let up = c.find-first_s.ensures in
    let again = c.find-first_t.ensures in
    let x_is = get_or_read cs c.find-first_s.result c.index-a.result.now (omega (arith, sound.count, up.way.within)) c.index-a.ensures 0 in
    let y_is = get_or_read cs c.find-first_t.result c.index-b.result.now (omega (arith, sound.count, up.way.count, again.way.within)) c.index-b.ensures 0 in
    left_same c.args.words.now us ms c.args.forest.now.parents.items c.find-first_s.new.parents.items c.find-first_t.new.parents.items cs c.args.s c.args.t _ _ _ _ up again x_is y_is forest c.if-a-b.true

pub returns-then-is_constant-clause-step : goal.returns-then-is_constant-clause-step
returns-then-is_constant-clause-step c = λ us ms forest.
    let cs = c.args.forest.now.chiefs.items in
    let sound = c.requires.sound in
    let up = c.find-first_s.ensures in
    let again = c.find-first_t.ensures in
    let x_is = get_or_read cs c.find-first_s.result c.index-a.result.now (omega (arith, sound.count, up.way.within)) c.index-a.ensures 0 in
    let y_is = get_or_read cs c.find-first_t.result c.index-b.result.now (omega (arith, sound.count, up.way.count, again.way.within)) c.index-b.ensures 0 in
    left_clash c.args.words.now us ms c.args.forest.now.parents.items c.find-first_s.new.parents.items c.find-first_t.new.parents.items cs c.args.s c.args.t _ _ _ _ up again x_is y_is forest
    _ _ c.if-a-b.false c.preferred-kept.ensures.kept c.preferred-kept.ensures.gone (sym c.is_constant.ensures.place ∙ c.if-is_constant.true)

pub returns-clause-sound : goal.returns-clause-sound
returns-clause-sound c =
    let cs = c.args.forest.now.chiefs.items in
    let sound = c.requires.sound in
    let up = c.find-first_s.ensures.way in
    let again = c.find-first_t.ensures.way in
    let both = sound_way _ _ cs _ _ (sound_way _ _ cs _ _ sound up) again in
    subst (λ l. IsSound l c.link.new.forest.chiefs.items) (sym c.link.ensures.parents) (subst (IsSound _) (sym c.link.ensures.chiefs)
    (sound_step _ cs c.find-first_s.result c.find-first_t.result c.preferred-kept.result.0 both (omega (arith, up.count, up.within, again.count)) (omega (arith, again.within, again.count))))

pub returns-clause-step : goal.returns-clause-step
returns-clause-step c = λ us ms forest.
    let cs = c.args.forest.now.chiefs.items in
    let sound = c.requires.sound in
    let up = c.find-first_s.ensures in
    let again = c.find-first_t.ensures in
    let x_is = get_or_read cs c.find-first_s.result c.index-a.result.now (omega (arith, sound.count, up.way.within)) c.index-a.ensures 0 in
    let y_is = get_or_read cs c.find-first_t.result c.index-b.result.now (omega (arith, sound.count, up.way.count, again.way.within)) c.index-b.ensures 0 in
    left_linked c.args.words.now us ms c.args.forest.now.parents.items c.find-first_s.new.parents.items c.find-first_t.new.parents.items cs c.args.s c.args.t _ _ _ _ up again x_is y_is forest
    _ _ c.if-a-b.false c.preferred-kept.ensures.kept c.preferred-kept.ensures.gone (sym c.is_constant.ensures.place ∙ c.if-is_constant.false) sound _ _ c.link.ensures.parents c.link.ensures.chiefs
