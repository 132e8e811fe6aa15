use Rattle.std.proofs.Common.{◌≡◌, [], length, ap, sym, subst, ◌∙◌}
use Rattle.ct_arena.{specs.Sharing.MayPut, proofs.Steps.puts}
use Rattle.ct_arena.proofs.sharing.exchange.Goals as goal

pub compare_exchange-requires : goal.compare_exchange-requires
compare_exchange-requires c =
    let me = c.read-found.new.token.me in
    let same : me ≡ (c.args.token.now.me.0, []) = (c.read-found.ensures.read.none c.if-found-ne0.false).0 in
    let next : c.args.place ≡ length me.0.seen = c.requires.next ∙ sym (ap (λ m. length m.0.seen) same) in
    let may : MayPut me.0 c.args.w = subst (λ v. MayPut v c.args.w) (sym (ap (λ m. m.0) same)) c.requires.may in
    (c.read-found.ensures.table ∙ c.requires.table, rw (c.requires.room) (c.requires.within), rw next (puts _ _ _ me (ap (λ m. m.1) same) c.args.w (rw next at c.requires.within) may))
