use Rattle.std.{proofs.Common.{rules, ◌≡◌, ◌∙◌, ◌∷◌, ◌++◌, [], ap, sym, refl}, proofs.lemmas.List.append_assoc}
use Rattle.ct_near.proofs.Steps.{and_goes, and_only, entered_and, entered_leaf}
use Rattle.ct_worlds.specs.declared.shape.Shape.TheVariants as shape
use Rattle.ct_near.specs.Walks.{next_at}
use Rattle.ct_near.specs.declared.walking.Way.TheVariants as way
use Rattle.ct_near.proofs.walking.enter_and.Goals as goal
use Rattle.ct_near.proofs.walking.enter_and.Goals.{in_default-via-in-Joined-And-default-default+else-place-stop, in_default-via-in-Joined+in_default, in_default-via-in_default}

pub returns-in_ok-push-in-Joined-And-default-default-3 : goal.returns-in_ok-push-in-Joined-And-default-default-3
returns-in_ok-push-in-Joined-And-default-default-3 c =
    let words = c.args.words.now in
    let a = c.in-Joined-And-default-default.left in
    let b = c.in-Joined-And-default-default.right in
    let waiting = c.args.waiting.now.items in
    let found = c.args.found.now in
    entered_and words c.args.stop c.args.place a b waiting c.push-in-Joined-And-default-default-2.new.self.items found (record { inner = c.push.new.self; leaves = found.leaves; index = found.index })
    (and_goes words c.args.stop c.args.place a b (sym c.shape_at.ensures ∙ c.in-Joined-And-default-default.is ∙ ap (λ j. shape.Joined j a b) c.in-Joined-And-default-default.field-0-is) c.if-place-stop.true)
    (c.in_ok-push-in-Joined-And-default-default-3.ensures.items ∙ ap (λ l. l ++ b ∷ []) c.in_ok-push-in-Joined-And-default-default-2.ensures.items ∙ append_assoc waiting (a ∷ []) (b ∷ []))
    c.in_ok-push-in-Joined-And-default-default.ensures.items refl refl

pub returns-in_ok-push-in_default : goal.returns-in_ok-push-in_default
returns-in_ok-push-in_default c =
    let words = c.args.words.now in
    let found = c.args.found.now in
    let none : next_at words (way.Ands c.args.stop) c.args.place ≡ [] = elim c.in_default.branch [
      | in_default-via-in-Joined-And-default-default+else-place-stop w ↦ and_only words c.args.stop c.args.place (λ a b is. w.if-place-stop.false)
      | in_default-via-in-Joined+in_default w ↦ search rules
      | in_default-via-in_default w ↦ search rules
    ] in
    entered_leaf words c.args.stop c.args.place c.args.waiting.now.items found (record { inner = found.inner; leaves = c.push-in_default.new.self; index = found.index }) none
    refl c.in_ok-push-in_default.ensures.items refl
