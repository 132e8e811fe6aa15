use Rattle.std.{proofs.Common.{◌≡◌, ◌+◌, arith, rules, refl, subst, ◌∙◌}, specs.Prelude.{Result, Ok, Err, OnOk, MatchResult}, proofs.lemmas.Result.{on_ok_weaker, on_err_weaker}}
use Rattle.ct_word.proofs.Prefixes.{place_in_prefix}
use Rattle.ct_condition.specs.Writes.{charge}
use Rattle.ct_table.specs.Pending.{after}
use Rattle.ct_keeper.{specs.Effects.DoesChange, specs.Faults.is_full, proofs.Interning.{interned_on, appended_on}, proofs.Making.{one_rows, one_written, one_fitting, one_words, one_applied}}
use Rattle.ct_word.specs.declared.kinds.Class.TheVariants as class
use Rattle.ct_keeper.specs.declared.effects.Effect.TheVariants as effect
use Rattle.ct_keeper.proofs.committing.commit_one.Goals as goal

-- two facts of a call that was not refused
both_ok : {T E A C X : Type 0} (r : Result T E) (x y z : X) → OnOk r A → MatchResult r (λ _. x ≡ y) (λ _. x ≡ z) → (A → x ≡ y → C) → OnOk r C
both_ok (Ok t) x y z a b f = f a b
both_ok (Err e) x y z a b f = tt

pub effect_for-requires-clause-written : goal.effect_for-requires-clause-written
effect_for-requires-clause-written g c = one_written c.args.keeper.now.words c.args.content.now c.args.change.now c.requires.can

pub effect_for-requires-clause-tables : goal.effect_for-requires-clause-tables
effect_for-requires-clause-tables g c = one_rows c.args.keeper.now.words c.args.content.now c.args.change.now c.requires.can

pub effect_for-requires-clause-fitting : goal.effect_for-requires-clause-fitting
effect_for-requires-clause-fitting g c = one_fitting c.args.keeper.now.words c.args.content.now c.args.change.now c.requires.can

pub grow-tables-requires-clause-place : goal.grow-tables-requires-clause-place
grow-tables-requires-clause-place g c =
    place_in_prefix c.args.keeper.now.words c.effect_for.new.keeper.words class.ChangeList c.args.list c.in_ok-effect.ensures.interns.longer c.requires.place

pub append-requires-clause-place : goal.append-requires-clause-place
append-requires-clause-place g c =
    place_in_prefix c.args.keeper.now.words c.effect_for.new.keeper.words class.ChangeList c.args.list c.in_ok-effect.ensures.interns.longer c.requires.place

pub returns-in-Grows-clause-appends : goal.returns-in-Grows-clause-appends
returns-in-Grows-clause-appends g c =
    on_ok_weaker c.grow-tables.result.1
    (appended_on c.args.list c.args.keeper.now c.effect_for.new.keeper c.grow-tables.new.keeper c.args.guest.now c.effect_for.new.guest c.grow-tables.new.guest c.requires.place
    c.in_ok-effect.ensures.interns)
    c.grow-tables.ensures.appends

pub returns-in-Grows-clause-interns : goal.returns-in-Grows-clause-interns
returns-in-Grows-clause-interns g c =
    on_err_weaker c.grow-tables.result.1
    (interned_on c.args.keeper.now c.effect_for.new.keeper c.grow-tables.new.keeper c.args.guest.now c.effect_for.new.guest c.grow-tables.new.guest c.in_ok-effect.ensures.interns)
    c.grow-tables.ensures.interns

pub returns-in-Grows-clause-made : goal.returns-in-Grows-clause-made
returns-in-Grows-clause-made g c =
    let old = c.args.keeper.now.words in
    let mid = c.effect_for.new.keeper.words in
    let was = c.args.content.now in
    let interns = c.in_ok-effect.ensures.interns in
    both_ok c.grow-tables.result.1 c.grow-tables.result.0 _ _ c.grow-tables.ensures.appends c.grow-tables.ensures.tables
    (λ to grown.
    one_applied old was c.args.change.now c.requires.can mid interns.longer interns.formed (record { tables = c.grow-tables.result.0; global = was.global })
    (record {
      effect = effect.Grows c.in-Grows.growth;
      does = subst (DoesChange old mid was.tables was.global c.args.change.now) c.in-Grows.is c.in_ok-effect.ensures.does;
      tables = grown ∙ (λ i. after (c.replace-tables.ensures.value i) c.in-Grows.growth);
      global = refl;
    })
    c.grow-tables.new.keeper.words to.longer to.formed)

pub returns-in_ok-append-in-Narrows-clause-appends : goal.returns-in_ok-append-in-Narrows-clause-appends
returns-in_ok-append-in-Narrows-clause-appends g c =
    appended_on c.args.list c.args.keeper.now c.effect_for.new.keeper c.append.new.keeper c.args.guest.now c.effect_for.new.guest c.append.new.guest c.requires.place
    c.in_ok-effect.ensures.interns c.in_ok-append-in-Narrows.ensures.appends

pub returns-in_ok-append-in-Narrows-clause-made : goal.returns-in_ok-append-in-Narrows-clause-made
returns-in_ok-append-in-Narrows-clause-made g c =
    let old = c.args.keeper.now.words in
    let mid = c.effect_for.new.keeper.words in
    let was = c.args.content.now in
    let interns = c.in_ok-effect.ensures.interns in
    let to = c.in_ok-append-in-Narrows.ensures.appends in
    one_applied old was c.args.change.now c.requires.can mid interns.longer interns.formed (record { tables = was.tables; global = c.in-Narrows.global })
    (record {
      effect = effect.Narrows c.in-Narrows.global;
      does = subst (DoesChange old mid was.tables was.global c.args.change.now) c.in-Narrows.is c.in_ok-effect.ensures.does;
      tables = refl;
      global = refl;
    })
    c.append.new.keeper.words to.longer to.formed

pub returns-in-Grows-clause-words : goal.returns-in-Grows-clause-words
returns-in-Grows-clause-words g c =
    let some = c.in_ok-effect.ensures.words in
    let all = one_words c.args.keeper.now.words c.args.content.now c.args.change.now c.requires.can c.args.guest.now.made c.effect_for.new.guest.made (omega (arith, some)) in
    let more = c.grow-tables.ensures.words in
    omega (arith, all, more)

pub returns-in_err-effect-clause-words : goal.returns-in_err-effect-clause-words
returns-in_err-effect-clause-words g c =
    let all = one_words c.args.keeper.now.words c.args.content.now c.args.change.now c.requires.can c.args.guest.now.made
    (c.effect_for.new.guest.made + charge (is_full c.from_residual.result)) (search rules) in
    omega (arith, all)
