use Rattle.std.{proofs.Common.{◌∙◌, ◌<◌, ap, inl, inr, length, sym, subst, []}, proofs.lemmas.Result.IfOk-weaker}
use Rattle.ct_query.{specs.Pred.condition_of, specs.Views.action_of}
use Rattle.ct_history.{specs.Encodes.{Adds, AreHanded}, proofs.Encoded.{IsOverRows, adds_rows, adds_deletion, adds_update, adds_assertion}}
use Rattle.ct_query.specs.Plain as plain
use Rattle.ct_history.proofs.encoding.encode.Goals as goal

pub returns-in-InsertRows-clause-adds : goal.returns-in-InsertRows-clause-adds
returns-in-InsertRows-clause-adds g c =
    let old = c.args.pass.now.words in
    let new = c.insert_rows.new.pass.words in
    let name = c.as_str-in-InsertRows.result.now in
    let rs = c.as_slice-in-InsertRows.result.now in
    let p = condition_of c.in-InsertRows.pred in
    let same = (λ i. plain.InsertRows (c.as_str-in-InsertRows.ensures i) (c.as_slice-in-InsertRows.ensures i) p) ∙ ap action_of (sym c.in-InsertRows.is) in
    IfOk-weaker c.insert_rows.result (λ place. Adds old new c.args.list place (plain.InsertRows name rs p) []) (λ place. Adds old new c.args.list place (action_of c.args.action.now) c.args.rows.now)
    (λ place h. subst (λ a. Adds old new c.args.list place a c.args.rows.now) same (adds_rows old new c.args.list place name rs p c.args.rows.now h)) c.insert_rows.ensures.adds

pub returns-in-Delete-clause-adds : goal.returns-in-Delete-clause-adds
returns-in-Delete-clause-adds g c =
    let old = c.args.pass.now.words in
    let new = c.delete.new.pass.words in
    let name = c.as_str-in-Delete.result.now in
    let p = condition_of c.in-Delete.pred in
    let same = (λ i. plain.Delete (c.as_str-in-Delete.ensures i) p) ∙ ap action_of (sym c.in-Delete.is) in
    IfOk-weaker c.delete.result (λ place. Adds old new c.args.list place (plain.Delete name p) []) (λ place. Adds old new c.args.list place (action_of c.args.action.now) c.args.rows.now)
    (λ place h. subst (λ a. Adds old new c.args.list place a c.args.rows.now) same (adds_deletion old new c.args.list place name p c.args.rows.now h)) c.delete.ensures.adds

pub returns-in-Update-clause-adds : goal.returns-in-Update-clause-adds
returns-in-Update-clause-adds g c =
    let old = c.args.pass.now.words in
    let new = c.update.new.pass.words in
    let name = c.as_str-in-Update.result.now in
    let sets = c.as_slice-in-Update.result.now in
    let p = condition_of c.in-Update.pred in
    let same = (λ i. plain.Update (c.as_str-in-Update.ensures i) (c.as_slice-in-Update.ensures i) p) ∙ ap action_of (sym c.in-Update.is) in
    IfOk-weaker c.update.result (λ place. Adds old new c.args.list place (plain.Update name sets p) []) (λ place. Adds old new c.args.list place (action_of c.args.action.now) c.args.rows.now)
    (λ place h. subst (λ a. Adds old new c.args.list place a c.args.rows.now) same (adds_update old new c.args.list place name sets p c.args.rows.now h)) c.update.ensures.adds

pub returns-in-AssertQuery-clause-adds : goal.returns-in-AssertQuery-clause-adds
returns-in-AssertQuery-clause-adds g c =
    let old = c.args.pass.now.words in
    let new = c.assert_at.new.pass.words in
    let rows = c.args.rows.now in
    let over : IsOverRows (action_of c.args.action.now) = elim c.in-AssertQuery.is [
      | inl a ↦ subst (λ x. IsOverRows (action_of x)) (sym a.2) tt
      | inr a ↦ subst (λ x. IsOverRows (action_of x)) (sym a.2) tt
    ] in
    let some : 0 < length rows = elim c.in-AssertQuery.is [
      | inl a ↦ subst (λ x. AreHanded (action_of x) rows) a.2 c.requires.handed
      | inr a ↦ subst (λ x. AreHanded (action_of x) rows) a.2 c.requires.handed
    ] in
    IfOk-weaker c.assert_at.result _ (λ place. Adds old new c.args.list place (action_of c.args.action.now) rows)
    (λ place. adds_assertion old new c.args.list place (action_of c.args.action.now) rows c.index-rows-0.result over some) c.assert_at.ensures.stands
