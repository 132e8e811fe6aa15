use Rattle.std.proofs.Common.{◌≡◌, [], false, sym, ap, subst, ◌∙◌, arith}
use Rattle.std.{specs.Prelude.Ok, specs.List.list_any}
use Rattle.ct_word.specs.Condition.{True}
use Rattle.ct_lex.specs.Reading.{read}
use Rattle.ct_parse.{specs.Grammar.said, specs.Parses.SpellsCondition, specs.Nest.is_too_deep}
use Rattle.ct_csv.specs.Fields.{is_name_word, no_condition, spelled_condition}
use Rattle.ct_csv.proofs.{NoNames.means_one, Found.{found_some, nothing}}
use Rattle.ct_csv.proofs.fields.condition_tokens.Goals as goal

pub returns-then-is_empty-clause-some : goal.returns-then-is_empty-clause-some
returns-then-is_empty-clause-some c =
    let none : c.args.field.now ≡ [] = nothing c.args.field.now (grind arith) in
    (True, rw (none, c.new.ensures.items) no_condition)

pub returns-in-Ok-clause-some : goal.returns-in-Ok-clause-some
returns-in-Ok-clause-some c =
    let ts = c.in-Some.found.items in
    let all : read c.args.field.now ≡ Ok ts = found_some (read c.args.field.now) ts (rw c.in-Some.is at c.in_ok-found.ensures.value) in
    let free : list_any is_name_word (said ts) ≡ false = ap (λ xs. list_any is_name_word (said xs)) (sym c.deref.ensures.value) ∙ sym c.in_ok-has_name.ensures ∙ c.if-branch.false in
    let spells : SpellsCondition (said ts) c.in-Ok.field-0 = subst (λ xs. SpellsCondition (said xs) c.in-Ok.field-0) c.deref-2.ensures.value c.in-Ok.ensures.ok in
    let shallow : is_too_deep (said ts) ≡ false = subst (λ xs. is_too_deep (said xs) ≡ false) c.deref-2.ensures.value c.in-Ok.ensures.shallow in
    let means = means_one spells free in
    (means.0, spelled_condition c.in-Ok.field-0 all shallow spells free means.1)
