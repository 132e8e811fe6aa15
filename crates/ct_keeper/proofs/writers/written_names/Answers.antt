use Rattle.std.{proofs.Common.{◌≡◌, [], ◌∷◌, ◌++◌, take, take_all, arith, rules, ap, sym, subst, ◌∙◌}, proofs.lemmas.List.take_more}
use Rattle.ct_keeper.{specs.Writers.names_in, proofs.Noting.{is_named, is_changed, named_more, told_by_names}}
use Rattle.ct_keeper.proofs.writers.written_names.Goals.{in-Some+in_ok-clone+in_ok-push, in_default}
use Rattle.ct_keeper.proofs.writers.written_names.Goals as goal

pub loop-change-preserved : goal.loop-change-preserved
loop-change-preserved c = λ words t.
    let changes = c.args.changes.now in
    let names = c.loop-change.names.items in
    let front = take c.loop-change.change-index changes in
    let item = c.change-item.result in
    let more = ap (λ x. front ++ x ∷ []) c.change-item.is ∙ sym (take_more changes c.loop-change.change-index item c.loop-change-test.true) in
    let named = named_more words t names front item (c.loop-change.invariant words t) ∙ ap (is_changed words t) more in
    elim c.match-written_name.branch [
      | in-Some+in_ok-clone+in_ok-push w ↦ let put : c.match-written_name.names.items ≡ names ++ names_in item = search rules in ap (is_named words t) put ∙ named
      | in_default w ↦ let put : c.match-written_name.names.items ≡ names ++ names_in item = search rules in ap (is_named words t) put ∙ named
    ]

pub returns : goal.returns
returns c = λ words r.
    told_by_names words c.args.changes.now c.loop-change.names.items
    (λ t. subst (λ ws. is_named words t c.loop-change.names.items ≡ is_changed words t ws) (take_all c.loop-change.change-index c.args.changes.now (omega arith)) (c.loop-change.invariant words t)) r
