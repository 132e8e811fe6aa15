use Rattle.std.{proofs.Common.{◌≡◌, ◌+◌, ◌-◌, ℕ, List, None, length, take, ap, sym, subst, ◌∙◌, arith}, specs.Map.keys_of, proofs.lemmas.Bool.false≢true}
use Rattle.ct_word.proofs.Alike.{text_decides}
use Rattle.ct_rows.{specs.Entries.find, specs.Links.{Slotted, IsFirst, IsSought, entries_of}, proofs.Writing.{rows_below, rows_next, rows_found, rows_none}}
use Rattle.ct_rows.proofs.links.Links.place_of.Goals as goal

pub returns-then-eq : goal.returns-then-eq
returns-then-eq c =
    let i = c.self.inside in
    let e : c.loop-at.at - 1 + 1 ≡ c.loop-at.at = omega arith in
    let same = ap (λ (x : List ℕ × ℕ). x.0) (sym c.row.ensures) ∙ sym c.as_slice.ensures ∙ (text_decides c.as_slice.result.now c.args.cells.now).0 (sym c.eq.ensures ∙ c.if-eq.true) in
    subst (λ (s : Slotted). IsFirst s.entries c.args.cells.now (c.loop-at.at - 1)) c.self.view_is
    (rows_found i.count i.nodes i.heads c.self.invariant c.args.cells.now c.loop-at.at (c.loop-at.at - 1) c.at-node.result.now c.loop-at.invariant e c.at-node.ensures same)

pub loop-at-smaller : goal.loop-at-smaller
loop-at-smaller c =
    let i = c.self.inside in
    let e : c.loop-at.at - 1 + 1 ≡ c.loop-at.at = omega arith in
    omega (arith, c.below-at.ensures, rows_below i.count i.nodes i.heads c.self.invariant c.args.cells.now c.loop-at.at (c.loop-at.at - 1) c.at-node.result.now c.loop-at.invariant e c.at-node.ensures)

pub loop-at-preserved : goal.loop-at-preserved
loop-at-preserved c =
    let i = c.self.inside in
    let e : c.loop-at.at - 1 + 1 ≡ c.loop-at.at = omega arith in
    subst (λ b. IsSought (length i.heads) (keys_of (entries_of (take i.count i.nodes))) c.args.cells.now b) (sym c.below-at.ensures)
    (rows_next i.count i.nodes i.heads c.self.invariant c.args.cells.now c.loop-at.at (c.loop-at.at - 1) c.at-node.result.now c.loop-at.invariant e c.at-node.ensures
    (λ same. false≢true (sym c.if-eq.false ∙ c.eq.ensures ∙ (text_decides c.as_slice.result.now c.args.cells.now).1 (c.as_slice.ensures ∙ ap (λ (x : List ℕ × ℕ). x.0) c.row.ensures ∙ same))))

pub returns : goal.returns
returns c =
    let i = c.self.inside in
    let end : c.loop-at.at ≡ 0 = omega arith in
    subst (λ (s : Slotted). find c.args.cells.now s.entries ≡ None) c.self.view_is
    (rows_none i.count i.nodes i.heads c.self.invariant c.args.cells.now (subst (λ b. IsSought (length i.heads) (keys_of (entries_of (take i.count i.nodes))) c.args.cells.now b) end c.loop-at.invariant))
