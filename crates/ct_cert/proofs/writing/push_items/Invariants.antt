use Rattle.std.{proofs.Common.{◌≡◌, true, ◌++◌, take, flat_map}, specs.Prelude.string_bytes, specs.List.list_all}
use Rattle.ct_cert.{specs.Text.item_text, specs.Ranges.is_place}
use Rattle.ct_cert.proofs.writing.push_items.Given as goal

abbrev pub invariant-loop-item : goal.invariant-loop-item
invariant-loop-item l =
    (string_bytes l.out ≡ string_bytes l.initial.out ++ flat_map item_text (take l.item-index l.items))
    × (list_all is_place (take l.item-index l.items) ≡ true)
