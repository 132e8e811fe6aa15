use Rattle.std.proofs.Common.{◌≡◌, ◌∙◌, sym}
use Rattle.ct_near.{specs.Entries.IsEntryAmong, proofs.Listing.{entry_last, extends_one, listed_last, no_null_there}}
use Rattle.ct_near.proofs.index.add_null.Goals as goal

pub returns-then-not-is_null-clause-listed : goal.returns-then-not-is_null-clause-listed
returns-then-not-is_null-clause-listed c = λ n e. absurd (no_null_there c.args.words.now c.requires.formed c.args.place c.requires.term n (sym c.is_null.ensures ∙ c.if-not-is_null.true) e)

pub returns-in-Some-get_mut-clause-added : goal.returns-in-Some-get_mut-clause-added
returns-in-Some-get_mut-clause-added c =
    extends_one (IsEntryAmong c.args.words.now c.args.conjunct (λ q. q ≡ c.args.place)) c.args.index.now.entries.items c.push.new.self.items _ c.in_ok-push.ensures.items
    (entry_last c.args.words.now c.args.place c.args.conjunct c.head_of-next.result c.requires.formed c.requires.term (sym c.is_null.ensures ∙ c.if-not-is_null.false))

pub returns-in-Some-get_mut-clause-listed : goal.returns-in-Some-get_mut-clause-listed
returns-in-Some-get_mut-clause-listed c =
    listed_last c.args.words.now c.args.index.now.entries.items c.push.new.self.items c.args.place c.args.conjunct c.head_of-next.result c.in_ok-push.ensures.items c.requires.term

pub returns-in_default-get_mut-clause-added : goal.returns-in_default-get_mut-clause-added
returns-in_default-get_mut-clause-added c =
    extends_one (IsEntryAmong c.args.words.now c.args.conjunct (λ q. q ≡ c.args.place)) c.args.index.now.entries.items c.push.new.self.items _ c.in_ok-push.ensures.items
    (entry_last c.args.words.now c.args.place c.args.conjunct c.head_of-next.result c.requires.formed c.requires.term (sym c.is_null.ensures ∙ c.if-not-is_null.false))

pub returns-in_default-get_mut-clause-listed : goal.returns-in_default-get_mut-clause-listed
returns-in_default-get_mut-clause-listed c =
    listed_last c.args.words.now c.args.index.now.entries.items c.push.new.self.items c.args.place c.args.conjunct c.head_of-next.result c.in_ok-push.ensures.items c.requires.term
