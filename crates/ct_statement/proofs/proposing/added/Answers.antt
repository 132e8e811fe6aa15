use Rattle.std.{proofs.Common.{◌+◌, ◌≤◌, arith, subst, sym}, specs.Prelude.All}
use Rattle.ct_word.proofs.Prefixes.{place_in_prefix}
use Rattle.ct_query.{specs.Bounds.change_words, specs.Patterns.count, specs.Schema.schema, specs.Views.action_of}
use Rattle.ct_condition.{specs.Writes.charge, proofs.Writes.{writes_both, writes_of}}
use Rattle.ct_history.{specs.Encodes.{Adds, AreHanded, encode_words}, specs.Rows.IsRowOf}
use Rattle.ct_statement.{specs.Sight.{actions_before, history_of}, specs.Unmet.IsUnmet, proofs.Listed.{fits_started, proposal}, proofs.Proposed.{taken_placed, taken_handed}}
use Rattle.ct_statement.{specs.Making.{says_full, widths_in}, proofs.Making.{added_within, taking_within}}
use Rattle.ct_statement.{proofs.Narrow.{encodable, seen_few}, proofs.Sights.{history_stays, sight_grows}}
use Rattle.ct_word.specs.declared.kinds.Class.TheVariants as class
use Rattle.ct_query.specs.Plain as plain
use Rattle.ct_statement.proofs.proposing.added.Goals as goal

pub taken_for-requires-clause-sight : goal.taken_for-requires-clause-sight
taken_for-requires-clause-sight g c = sight_grows c.args.pass.now.words c.begun.new.pass.words c.in-Ok.ensures.writes.longer c.args.sight.now c.words.ensures.formed c.requires.sight

pub taken_for-requires-clause-fits : goal.taken_for-requires-clause-fits
taken_for-requires-clause-fits g c =
    fits_started c.args.pass.now.words c.begun.new.pass.words c.in-Ok.ensures.writes.longer c.args.sight.now c.requires.sight (action_of c.args.action.now) c.requires.fits

pub returns-in-Err-taken_for-clause-err : goal.returns-in-Err-taken_for-clause-err
returns-in-Err-taken_for-clause-err g c =
    let s = c.args.sight.now in
    subst (λ h. IsUnmet h (actions_before s) g.N.Site.log.cap c.taken_for.new.pass.words (plain.Act (action_of c.args.action.now)) c.in-Err-taken_for.why)
    (sym (history_stays c.args.pass.now.words c.begun.new.pass.words c.in-Ok.ensures.writes.longer s c.requires.sight.within)) c.in-Err-taken_for.ensures.err

pub encode-encoded-requires-clause-action : goal.encode-encoded-requires-clause-action
encode-encoded-requires-clause-action g c =
    let old = c.args.pass.now.words in
    let started = c.begun.new.pass.words in
    let s = c.args.sight.now in
    let a = action_of c.args.action.now in
    let longer = c.in-Ok.ensures.writes.longer in
    encodable (schema (history_of started s) (actions_before s)).tables
    (seen_few started c.words.ensures.small s (sight_grows old started longer s c.words.ensures.formed c.requires.sight))
    a (fits_started old started longer s c.requires.sight a c.requires.fits)

pub encode-encoded-requires-clause-list : goal.encode-encoded-requires-clause-list
encode-encoded-requires-clause-list g c =
    place_in_prefix c.begun.new.pass.words c.taken_for.new.pass.words class.ChangeList c.in-Ok.list c.in-Ok-taken_for.ensures.writes.longer c.in-Ok.ensures.place

pub encode-encoded-requires-clause-rows : goal.encode-encoded-requires-clause-rows
encode-encoded-requires-clause-rows g c =
    let s = c.args.sight.now in
    let taken = c.taken_for.new.pass.words in
    subst (All (IsRowOf taken)) (sym c.as_slice.ensures)
    (taken_placed taken s.global (history_of c.begun.new.pass.words s) (actions_before s) (action_of c.args.action.now) c.in-Ok-taken_for.rows c.in-Ok-taken_for.ensures.rows)

pub encode-encoded-requires-clause-handed : goal.encode-encoded-requires-clause-handed
encode-encoded-requires-clause-handed g c =
    let s = c.args.sight.now in
    let taken = c.taken_for.new.pass.words in
    let a = action_of c.args.action.now in
    subst (AreHanded a) (sym c.as_slice.ensures)
    (taken_handed taken s.global (history_of c.begun.new.pass.words s) (actions_before s) a c.in-Ok-taken_for.rows c.in-Ok-taken_for.ensures.rows)

pub returns-in-Ok-encoded-clause-proposes : goal.returns-in-Ok-encoded-clause-proposes
returns-in-Ok-encoded-clause-proposes g c =
    let s = c.args.sight.now in
    let a = action_of c.args.action.now in
    let started = c.begun.new.pass.words in
    let taken = c.taken_for.new.pass.words in
    let new = c.encode-encoded.new.pass.words in
    let rows = c.in-Ok-taken_for.rows in
    let changes = c.in-Ok-encoded.changes in
    proposal c.args.pass.now.words started c.in-Ok.ensures.writes.longer s c.requires.sight a c.requires.fits
    taken new c.in-Ok-taken_for.ensures.writes.longer c.in-Ok-encoded.ensures.longer c.words-2.ensures.formed c.requires.written c.args.list c.in-Ok.list changes rows
    c.in-Ok.ensures.place c.in-Ok.ensures.same c.in-Ok-taken_for.ensures.rows c.in-Ok-taken_for.ensures.few
    (subst (λ rs. Adds taken new c.in-Ok.list changes a rs) c.as_slice.ensures c.in-Ok-encoded.ensures.adds) c.in-Ok-encoded.ensures.place

pub returns-in-Err-clause-left : goal.returns-in-Err-clause-left
returns-in-Err-clause-left g c =
    let s = c.args.sight.now in
    let h = history_of c.args.pass.now.words s in
    let some = taking_within (count h (actions_before s)) (widths_in (schema h (actions_before s)).tables) (action_of c.args.action.now) in
    let one = c.in-Err.ensures.writes.made in
    omega (arith, some, one)

pub returns-in-Err-taken_for-clause-left : goal.returns-in-Err-taken_for-clause-left
returns-in-Err-taken_for-clause-left g c =
    let old = c.args.pass.now.words in
    let started = c.begun.new.pass.words in
    let s = c.args.sight.now in
    let a = action_of c.args.action.now in
    let actions = actions_before s in
    let h = history_of started s in
    let same = history_stays old started c.in-Ok.ensures.writes.longer s c.requires.sight.within in
    let one = c.in-Ok.ensures.writes.made in
    let took = c.in-Err-taken_for.ensures.writes.made in
    let some = taking_within (count h actions) (widths_in (schema h actions).tables) a in
    let total = c.taken_for.new.pass.made + charge (says_full c.in-Err-taken_for.why) in
    subst (λ k. total + 1 ≤ c.args.pass.now.made + change_words (count k actions) (widths_in (schema k actions).tables) a) (sym same) (omega (arith, one, took, some))

pub returns-in-Ok-encoded-clause-left : goal.returns-in-Ok-encoded-clause-left
returns-in-Ok-encoded-clause-left g c =
    let old = c.args.pass.now.words in
    let started = c.begun.new.pass.words in
    let s = c.args.sight.now in
    let a = action_of c.args.action.now in
    let actions = actions_before s in
    let h = history_of started s in
    let same = history_stays old started c.in-Ok.ensures.writes.longer s c.requires.sight.within in
    let one = c.in-Ok.ensures.writes.made in
    let took = c.in-Ok-taken_for.ensures.writes.made in
    let rows = c.in-Ok-taken_for.rows in
    let counted = c.words-2.ensures.counted in
    let small = c.words-2.ensures.small in
    let made = c.args.pass.now.made in
    let total = c.encode-encoded.new.pass.made in
    let put = subst (λ rs. total ≤ c.taken_for.new.pass.made + encode_words a rs) c.as_slice.ensures c.encode-encoded.ensures.made in
    subst (λ k. total + 0 + 1 ≤ made + change_words (count k actions) (widths_in (schema k actions).tables) a) (sym same)
    (let all = added_within c.taken_for.new.pass.words s.global h actions (count h actions) (widths_in (schema h actions).tables) made c.begun.new.pass.made c.taken_for.new.pass.made total (omega (arith, one)) (omega (arith, counted, small))
    a rows c.in-Ok-taken_for.ensures.rows c.in-Ok-taken_for.ensures.few (omega (arith, took)) put in omega (arith, all))

pub returns-clause-left : goal.returns-clause-left
returns-clause-left g c =
    let old = c.args.pass.now.words in
    let started = c.begun.new.pass.words in
    let s = c.args.sight.now in
    let a = action_of c.args.action.now in
    let actions = actions_before s in
    let h = history_of started s in
    let same = history_stays old started c.in-Ok.ensures.writes.longer s c.requires.sight.within in
    let one = c.in-Ok.ensures.writes.made in
    let took = c.in-Ok-taken_for.ensures.writes.made in
    let rows = c.in-Ok-taken_for.rows in
    let counted = c.words-2.ensures.counted in
    let small = c.words-2.ensures.small in
    let made = c.args.pass.now.made in
    let total = c.encode-encoded.new.pass.made + 1 in
    let fewer = c.in-Err-encoded.ensures.err in
    let put = subst (λ rs. total ≤ c.taken_for.new.pass.made + encode_words a rs) c.as_slice.ensures (omega (arith, fewer)) in
    subst (λ k. total + 1 ≤ made + change_words (count k actions) (widths_in (schema k actions).tables) a) (sym same)
    (added_within c.taken_for.new.pass.words s.global h actions (count h actions) (widths_in (schema h actions).tables) made c.begun.new.pass.made c.taken_for.new.pass.made total (omega (arith, one)) (omega (arith, counted, small))
    a rows c.in-Ok-taken_for.ensures.rows c.in-Ok-taken_for.ensures.few (omega (arith, took)) put)

pub returns-in-Err-clause-writes : goal.returns-in-Err-clause-writes
returns-in-Err-clause-writes g c = let left = returns-in-Err-clause-left g c in writes_of c.in-Err.ensures.writes (omega (arith, left))

pub returns-in-Err-taken_for-clause-writes : goal.returns-in-Err-taken_for-clause-writes
returns-in-Err-taken_for-clause-writes g c = let left = returns-in-Err-taken_for-clause-left g c in writes_of (writes_both c.in-Ok.ensures.writes c.in-Err-taken_for.ensures.writes) (omega (arith, left))

pub returns-in-Ok-encoded-clause-writes : goal.returns-in-Ok-encoded-clause-writes
returns-in-Ok-encoded-clause-writes g c =
    let left = returns-in-Ok-encoded-clause-left g c in
    writes_of (writes_both c.in-Ok.ensures.writes (writes_both c.in-Ok-taken_for.ensures.writes c.in-Ok-encoded.ensures.writes)) (omega (arith, left))

pub returns-clause-writes : goal.returns-clause-writes
returns-clause-writes g c =
    let left = returns-clause-left g c in
    writes_of (writes_both c.in-Ok.ensures.writes (writes_both c.in-Ok-taken_for.ensures.writes c.in-Err-encoded.ensures.writes)) (omega (arith, left))
