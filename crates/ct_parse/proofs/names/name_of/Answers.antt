use Rattle.std.proofs.Common.{ap, sym, ◌∙◌}
use Rattle.ct_word.specs.Writable.{is_name}
use Rattle.ct_parse.proofs.Lowered.{name_found, one_name, no_name}
use Rattle.ct_parse.proofs.names.name_of.Goals as goal

pub returns-then-is_name-clause-some : goal.returns-then-is_name-clause-some
returns-then-is_name-clause-some c =
    name_found (c.from_string-lowered.ensures ∙ c.in_ok-to_ascii_lowercase.ensures.ok) (ap is_name (sym c.as_str.ensures) ∙ sym c.is_name.ensures ∙ c.if-is_name.true)

pub returns-then-is_name-clause-only : goal.returns-then-is_name-clause-only
returns-then-is_name-clause-only c = one_name (c.from_string-lowered.ensures ∙ c.in_ok-to_ascii_lowercase.ensures.ok)

pub returns-else-is_name-clause-none : goal.returns-else-is_name-clause-none
returns-else-is_name-clause-none c =
    no_name (c.from_string-lowered.ensures ∙ c.in_ok-to_ascii_lowercase.ensures.ok) (ap is_name (sym c.as_str.ensures) ∙ sym c.is_name.ensures ∙ c.if-is_name.false)
