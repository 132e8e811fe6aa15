use Rattle.std.proofs.Common.{◌≡◌, ◌∙◌, sym}
use Rattle.indexmap.specs.IndexSet.{insert_key}
use Rattle.ct_worlds.proofs.{Noting.{key_added, nulls_more, put_here, put_others}, Shaped.constant_no_null, Values.compared}
use Rattle.ct_word.specs.Reading.{term_at}
use Rattle.ct_word.specs.declared.values.Term.TheVariants as term
use Rattle.ct_worlds.proofs.nulls.add_term.Goals as goal

pub returns-then-is_constant-clause-put : goal.returns-then-is_constant-clause-put
returns-then-is_constant-clause-put c = λ n e. absurd (constant_no_null c.args.words.now c.args.place n c.requires.formed (sym c.is_constant.ensures.word ∙ c.if-is_constant.true) e)

pub returns-in_ok-insert-clause-nulls : goal.returns-in_ok-insert-clause-nulls
returns-in_ok-insert-clause-nulls c =
    let old = c.args.nulls.now in
    let place = c.args.place in
    let updates = c.in_ok-is_new.ensures.updates in
    nulls_more c.args.words.now old (record { places = c.insert.new.self; listed = c.insert-in-Null.new.self }) place c.requires.nulls (put_here old.places c.insert.new.self place updates)
    (put_others old.places c.insert.new.self place updates) c.in-Null.null (record { placed = c.requires.term; null = sym c.in_ok-null.ensures ∙ c.in-Null.is })
    (c.in_ok-insert.ensures.keys ∙ (λ i. insert_key (compared i) old.listed.keys c.in-Null.null))

pub returns-in_ok-insert-clause-only : goal.returns-in_ok-insert-clause-only
returns-in_ok-insert-clause-only c =
    let old = c.args.nulls.now in
    let null = c.in-Null.null in
    key_added old (record { places = c.insert.new.self; listed = c.insert-in-Null.new.self }) null (λ n. term_at c.args.words.now c.args.place ≡ term.Null n)
    (c.in_ok-insert.ensures.keys ∙ (λ i. insert_key (compared i) old.listed.keys null)) (sym c.in_ok-null.ensures ∙ c.in-Null.is)
