use Rattle.std.{proofs.Common.{subst}, specs.Prelude.Contains}
use Rattle.ct_near.{specs.declared.index.Entry.Entry, specs.Conjuncts.AreIndexed, specs.Entries.IsEntryOf, proofs.Entries.{all_found, and_of_inner, late_and, leaf_end, leaves_enough, run_of_led}, proofs.Steps.led_under}
use Rattle.ct_near.proofs.indexing.conjuncts.Goals as goal

pub index_of-requires-clause-under : goal.index_of-requires-clause-under
index_of-requires-clause-under c = λ p h.
    led_under c.args.words.now _ c.args.root p c.requires.formed c.requires.condition (c.in_ok-walk.ensures.walked.leaves p (subst (λ l. Contains l p) c.as_slice.ensures.value h)).0

pub returns : goal.returns
returns c =
    let words = c.args.words.now in
    let root = c.args.root in
    let entries = c.in_ok-index.index.entries.items in
    let walked = c.in_ok-walk.ensures.walked in
    let traced = c.in_ok-walk.ensures.traced in
    record {
      condition = c.requires.condition;
      enough = leaves_enough words 0 root c.requires.formed c.requires.condition 1 c.walk.new.walks.marks.items c.walk.new.found walked;
      each = λ p h. run_of_led words 0 root p (walked.leaves p h).0;
      ends = λ p h a b is.
          let leaf = walked.leaves p h in
          leaf_end words 0 root p leaf.1 (late_and words root c.requires.formed c.requires.condition p a b (run_of_led words 0 root p leaf.0) is) a b is;
      ands = λ p h. let inner = walked.inner p h in and_of_inner words 0 root p inner.0 inner.1;
      all = λ p run.
          all_found words 0 root c.requires.formed c.requires.condition 1 c.walk.new.walks.marks.items c.walk.new.found walked p
          (λ q a b r is. late_and words root c.requires.formed c.requires.condition q a b r is) run;
      nulls = subst (λ l. AreIndexed words l entries) c.as_slice.ensures.value c.in_ok-index.ensures.all;
      only = subst (λ l. (e : Entry) → Contains entries e → IsEntryOf words l e) c.as_slice.ensures.value c.in_ok-index.ensures.only;
      places_once = traced.leaves_once;
      ands_once = traced.ands_once;
      ands_order = traced.ands_order;
    }
