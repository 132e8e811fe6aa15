use Rattle.std.{proofs.Common.{◌≡◌, ◌∷◌, [], ◌++◌, ap, sym, refl, subst, ◌∙◌}, proofs.lemmas.List.take_all}
use Rattle.ct_word.proofs.Prefixes.{prefix_same, prefix_of_prefix}
use Rattle.ct_table.{specs.Growing.{Keyed, find, put, grown}, proofs.Entries.missing, proofs.Putting.{grown_void, grown_real}}
use Rattle.ct_rows.proofs.Entries.{entry_last}
use mathlib.Core.List.{IsPrefix}
use Rattle.ct_table.proofs.stored.Stored.extend.Goals as goal

pub loop-put-init : goal.loop-put-init
loop-put-init c = record { columns = refl; front = prefix_same c.args.self.now.entries; entries = refl }

pub returns-then-is_some-clause-columns : goal.returns-then-is_some-clause-columns
returns-then-is_some-clause-columns c = c.loop-put.invariant.columns

pub returns-then-is_some-clause-front : goal.returns-then-is_some-clause-front
returns-then-is_some-clause-front c = c.loop-put.invariant.front

pub returns-in_err-row-clause-columns : goal.returns-in_err-row-clause-columns
returns-in_err-row-clause-columns c = ap (λ (k : Keyed). k.columns) c.self.view_is ∙ c.loop-put.invariant.columns

pub returns-in_err-row-clause-front : goal.returns-in_err-row-clause-front
returns-in_err-row-clause-front c = subst (IsPrefix c.args.self.now.entries) (ap (λ (k : Keyed). k.entries) (sym c.self.view_is)) c.loop-put.invariant.front

pub returns-in_err-push-clause-columns : goal.returns-in_err-push-clause-columns
returns-in_err-push-clause-columns c = ap (λ (k : Keyed). k.columns) c.self.view_is ∙ c.loop-put.invariant.columns

pub returns-in_err-push-clause-front : goal.returns-in_err-push-clause-front
returns-in_err-push-clause-front c =
    subst (IsPrefix c.args.self.now.entries) (sym (c.in_err-push.ensures.same ∙ ap (λ (k : Keyed). k.entries) c.self.view_is)) c.loop-put.invariant.front

pub loop-put-preserved-then-is_void : goal.loop-put-preserved-then-is_void
loop-put-preserved-then-is_void c =
    let so_far = c.loop-put.invariant in
    record {
      columns = so_far.columns;
      front = so_far.front;
      entries = so_far.entries
          ∙ grown_void c.args.self.now.entries c.args.puts.now c.loop-put.put-index c.put-item.result c.loop-put-test.true c.put-item.is (sym c.is_void.ensures ∙ c.if-is_void.true);
    }

pub loop-put-preserved : goal.loop-put-preserved
loop-put-preserved c =
    let so_far = c.loop-put.invariant in
    let es = c.loop-put.self.entries in
    let p = c.put-item.result in
    let none = ap (λ k. find k es) (sym c.cells.ensures) ∙ sym c.find.ensures ∙ missing c.find.result (sym c.is_some.ensures ∙ c.if-is_some.false) in
    let last : c.push.new.self ≡ es ++ p ∷ [] = c.in_ok-push.ensures.put ∙ (λ i. (c.self.view_is i).entries ++ c.in_ok-row.ensures i ∷ []) in
    record {
      columns = ap (λ (k : Keyed). k.columns) c.self.view_is ∙ so_far.columns;
      front = prefix_of_prefix c.args.self.now.entries es c.push.new.self so_far.front (p ∷ [], sym last);
      entries = last ∙ sym (entry_last p.0 p.1 es none) ∙ ap (λ l. put l p.0 p.1) so_far.entries
          ∙ grown_real c.args.self.now.entries c.args.puts.now c.loop-put.put-index p c.loop-put-test.true c.put-item.is (sym c.is_void.ensures ∙ c.if-is_void.false);
    }

pub returns-clause-columns : goal.returns-clause-columns
returns-clause-columns c = c.loop-put.invariant.columns

pub returns-clause-front : goal.returns-clause-front
returns-clause-front c = c.loop-put.invariant.front

pub returns-clause-entries : goal.returns-clause-entries
returns-clause-entries c all = c.loop-put.invariant.entries ∙ ap (grown c.args.self.now.entries) (take_all c.loop-put.put-index c.args.puts.now c.loop-put-test.false)
