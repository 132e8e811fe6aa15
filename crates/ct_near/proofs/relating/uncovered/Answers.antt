use Rattle.std.{proofs.Common.{get_or, refl, subst, sym, ◌∙◌}, specs.Prelude.Contains, proofs.lemmas.List.Elements.Contains-get_or}
use Rattle.ct_near.specs.declared.index.Entry.{Entry}
use Rattle.ct_near.proofs.relating.uncovered.Goals as goal

-- what stands past the last entry
abbrev none : Entry
none = record { null = 0; conjunct = 0; next = 0 }

pub returns-then-not-is_covered-clause-one : goal.returns-then-not-is_covered-clause-one
returns-then-not-is_covered-clause-one c =
    let entries = c.as_slice-entry-items.result.now in
    let at = c.loop-entry.entry-index in
    record {
      entry = get_or entries at none;
      among = subst (λ l. Contains l (get_or entries at none)) c.as_slice-entry-items.ensures.value (Contains-get_or entries at none c.loop-entry-test.true);
      conjunct = refl;
      uncovered = sym c.is_covered.ensures ∙ c.if-not-is_covered.true;
    }
