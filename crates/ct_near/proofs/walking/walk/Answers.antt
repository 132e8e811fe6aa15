use Rattle.std.{proofs.Common.{◌<◌, ◌∙◌, ◌∷◌, ◌++◌, [], length, ap, sym, subst, refl, arith}, proofs.lemmas.List.{get_or_read, length-set}}
use Rattle.ct_near.{specs.declared.walking.Found.Found, specs.Walks.{IsEntryAt, IsEntryFrom, IsTracingOn, IsWalking}, proofs.Listing.{extends_more, extends_same, extends_weaker}}
use Rattle.ct_near.proofs.Steps.{led_under, marks_low, place_led, walking_goes, walking_skips, walking_starts, weight_less, weight_rest}
use Rattle.ct_near.proofs.Traced.{tracing_goes, tracing_skips, tracing_starts}
use Rattle.ct_near.proofs.walking.walk.Goals as goal

pub loop-place-init : goal.loop-place-init
loop-place-init c =
    let found : Found = record { inner = c.clear.new.self; leaves = c.clear-2.new.self; index = c.args.found.now.index } in
    record {
      walking = subst (λ l. IsWalking c.args.words.now c.args.way c.args.root c.args.number c.args.walks.now.marks.items l found) (sym (c.in_ok-push.ensures.items ∙ ap (λ l. l ++ c.args.root ∷ []) c.clear-3.ensures.items))
          (walking_starts c.args.words.now c.args.way c.args.root c.args.number c.args.walks.now.marks.items found c.requires.new c.clear.ensures.items c.clear-2.ensures.items);
      tracing = subst (λ l. IsTracingOn c.args.words.now c.args.way c.args.root c.args.number c.args.walks.now.marks.items l found) (sym (c.in_ok-push.ensures.items ∙ ap (λ l. l ++ c.args.root ∷ []) c.clear-3.ensures.items))
          (tracing_starts c.args.words.now c.args.way c.args.root c.args.number c.args.walks.now.marks.items found c.clear.ensures.items c.clear-2.ensures.items);
      room = refl;
      low = λ p. let lt = c.requires.new p in omega (arith, lt);
      added = extends_same (IsEntryFrom c.args.words.now c.args.way c.args.root) c.args.found.now.index.entries.items c.args.found.now.index.entries.items refl;
    }

pub index-requires : goal.index-requires
index-requires c =
    let led = place_led c.args.words.now c.args.way c.args.root c.args.number c.loop-place.walks.marks.items c.loop-place.walks.waiting.items c.pop.new.self.items c.in-Some.place c.loop-place.found
    c.loop-place.invariant.walking c.in-Some.ensures.items in
    let under = led_under c.args.words.now c.args.way c.args.root c.in-Some.place c.requires.formed c.requires.condition led in
    let within = under.within in
    omega (arith, within, c.requires.room, c.loop-place.invariant.room)

pub index_mut-requires : goal.index_mut-requires
index_mut-requires c =
    let led = place_led c.args.words.now c.args.way c.args.root c.args.number c.loop-place.walks.marks.items c.loop-place.walks.waiting.items c.pop.new.self.items c.in-Some.place c.loop-place.found
    c.loop-place.invariant.walking c.in-Some.ensures.items in
    let under = led_under c.args.words.now c.args.way c.args.root c.in-Some.place c.requires.formed c.requires.condition led in
    let within = under.within in
    omega (arith, within, c.requires.room, c.loop-place.invariant.room)

pub enter-requires-clause-condition : goal.enter-requires-clause-condition
enter-requires-clause-condition c =
    let led = place_led c.args.words.now c.args.way c.args.root c.args.number c.loop-place.walks.marks.items c.loop-place.walks.waiting.items c.pop.new.self.items c.in-Some.place c.loop-place.found
    c.loop-place.invariant.walking c.in-Some.ensures.items in
    (led_under c.args.words.now c.args.way c.args.root c.in-Some.place c.requires.formed c.requires.condition led).placed

pub loop-place-smaller-in-Continue-branch-2 : goal.loop-place-smaller-in-Continue-branch-2
loop-place-smaller-in-Continue-branch-2 c =
    let led = place_led c.args.words.now c.args.way c.args.root c.args.number c.loop-place.walks.marks.items c.loop-place.walks.waiting.items c.pop.new.self.items c.in-Some.place c.loop-place.found
    c.loop-place.invariant.walking c.in-Some.ensures.items in
    let under = led_under c.args.words.now c.args.way c.args.root c.in-Some.place c.requires.formed c.requires.condition led in
    weight_less c.args.words.now c.args.way c.loop-place.walks.waiting.items c.pop.new.self.items c.enter.new.waiting.items c.in-Some.place c.requires.formed under.placed c.in-Some.ensures.items
    c.in_ok-enter.ensures.grown

pub loop-place-preserved-in-Continue-branch-2 : goal.loop-place-preserved-in-Continue-branch-2
loop-place-preserved-in-Continue-branch-2 c =
    let marks = c.loop-place.walks.marks.items in
    let place = c.in-Some.place in
    let led = place_led c.args.words.now c.args.way c.args.root c.args.number marks c.loop-place.walks.waiting.items c.pop.new.self.items place c.loop-place.found c.loop-place.invariant.walking
    c.in-Some.ensures.items in
    let under = led_under c.args.words.now c.args.way c.args.root place c.requires.formed c.requires.condition led in
    let within = under.within in
    let lt : place < length marks = omega (arith, within, c.requires.room, c.loop-place.invariant.room) in
    record {
      walking = walking_goes c.args.words.now c.args.way c.args.root c.args.number marks c.loop-place.walks.waiting.items c.pop.new.self.items place c.loop-place.found c.loop-place.invariant.walking
          c.in-Some.ensures.items c.enter.new.waiting.items c.enter.new.found lt c.in_ok-enter.ensures;
      tracing = tracing_goes c.args.words.now c.args.way c.args.root c.args.number marks c.loop-place.walks.waiting.items c.pop.new.self.items place c.loop-place.found c.enter.new.found c.enter.new.waiting.items
          c.in-Some.ensures.items c.in_ok-enter.ensures.grown c.in_ok-enter.ensures.pushed lt (λ m. c.if-index-number.true (get_or_read marks place c.index.result.now lt c.index.ensures 0 ∙ m)) c.loop-place.invariant.tracing;
      room = length-set marks place c.args.number ∙ c.loop-place.invariant.room;
      low = marks_low marks place c.args.number lt c.loop-place.invariant.low;
      added = extends_more (IsEntryFrom c.args.words.now c.args.way c.args.root) c.args.found.now.index.entries.items c.loop-place.found.index.entries.items c.enter.new.found.index.entries.items
          c.loop-place.invariant.added
          (extends_weaker (IsEntryAt c.args.words.now c.args.way place) (IsEntryFrom c.args.words.now c.args.way c.args.root) c.loop-place.found.index.entries.items c.enter.new.found.index.entries.items
          (λ e h. (place, led, h)) c.in_ok-enter.ensures.entries);
    }

pub loop-place-smaller : goal.loop-place-smaller
loop-place-smaller c = weight_rest c.args.words.now c.args.way c.loop-place.walks.waiting.items c.pop.new.self.items c.in-Some.place c.in-Some.ensures.items

pub loop-place-preserved : goal.loop-place-preserved
loop-place-preserved c =
    let marks = c.loop-place.walks.marks.items in
    let place = c.in-Some.place in
    let led = place_led c.args.words.now c.args.way c.args.root c.args.number marks c.loop-place.walks.waiting.items c.pop.new.self.items place c.loop-place.found c.loop-place.invariant.walking
    c.in-Some.ensures.items in
    let under = led_under c.args.words.now c.args.way c.args.root place c.requires.formed c.requires.condition led in
    let within = under.within in
    let lt : place < length marks = omega (arith, within, c.requires.room, c.loop-place.invariant.room) in
    record {
      walking = walking_skips c.args.words.now c.args.way c.args.root c.args.number marks c.loop-place.walks.waiting.items c.pop.new.self.items place c.loop-place.found c.loop-place.invariant.walking
          c.in-Some.ensures.items (sym (get_or_read marks place c.index.result.now lt c.index.ensures 0) ∙ c.if-index-number.false);
      tracing = tracing_skips c.args.words.now c.args.way c.args.root c.args.number marks c.loop-place.walks.waiting.items c.pop.new.self.items place c.loop-place.found c.in-Some.ensures.items c.loop-place.invariant.tracing;
      room = c.loop-place.invariant.room;
      low = c.loop-place.invariant.low;
      added = c.loop-place.invariant.added;
    }
