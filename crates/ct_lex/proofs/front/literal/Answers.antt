use Rattle.std.{proofs.Common.{◌≡◌, ◌∷◌, ◌++◌, ◌+◌, ◌<◌, length, take, drop, sym, ap, arith, ◌∙◌}, specs.Prelude.string_bytes, proofs.lemmas.List.drop-drop}
use Rattle.ct_lex.{specs.Spelling.doubled, proofs.Fronts.first_byte, proofs.Literals.{AtQuote, kept_more, open_at_end, quote_at, closed, quote_kept}}
use Rattle.ct_lex.proofs.front.literal.Goals.{After-byte_at}
use Rattle.ct_lex.proofs.front.literal.Goals as goal

pub loop-kept-init : goal.loop-kept-init
loop-kept-init c =
    let cut = first_byte c.args.text.now 39 c.utf8.text c.requires (omega arith) (omega arith) in
    (cut.0 ∙ ap (λ t. 39 ∷ doubled t) (sym c.new-kept.ensures.bytes), cut.1)

pub returns-then-quote-text-clause-fault : goal.returns-then-quote-text-clause-fault
returns-then-quote-text-clause-fault c _ =
    let x = c.args.text.now in
    let from = c.loop-kept.from in
    let n = c.run_len.result in
    open_at_end x (string_bytes c.loop-kept.kept ++ take n (drop from x)) (from + n)
    (kept_more x (string_bytes c.loop-kept.kept) from n c.loop-kept.invariant.0 (rw c.range_from.ensures.value at c.run_len.ensures.all)) c.if-quote-text.true

-- the text is kept up to the next quote
at_quote : (c : After-byte_at) → AtQuote c.args.text.now (string_bytes c.push_str.new.self) (c.loop-kept.from + c.run_len.result)
at_quote c =
    let x = c.args.text.now in
    let from = c.loop-kept.from in
    let n = c.run_len.result in
    let within : from + n < length x = omega (arith, c.run_len.ensures.cut.0, c.range_from.ensures.len) in
    let run : c.range.result.now ≡ take n (drop from x) = c.range.ensures.value ∙ ap (λ k. take k (drop from x)) (omega arith) in
    record {
      before = rw (c.in_ok-push_str.ensures.bytes, run) (kept_more x (string_bytes c.loop-kept.kept) from n c.loop-kept.invariant.0 (rw c.range_from.ensures.value at c.run_len.ensures.all));
      quote = quote_at x (from + n) (rw (c.range_from.ensures.value, drop-drop n from x) at c.run_len.ensures.stops) within;
      within = within;
    }

pub returns-then-byte_at-ne39-clause-ok : goal.returns-then-byte_at-ne39-clause-ok
returns-then-byte_at-ne39-clause-ok c =
    rw c.from_string.ensures
    (closed c.args.text.now _ _ c.utf8.text (at_quote (goal.at.returns-then-byte_at-ne39-clause-ok c).After-byte_at) (λ e. c.if-byte_at-ne39.true (c.byte_at.ensures ∙ e)))

pub loop-kept-preserved : goal.loop-kept-preserved
loop-kept-preserved c =
    let both = quote_kept c.args.text.now _ _ c.utf8.text (at_quote (goal.at.loop-kept-preserved c).After-byte_at) (sym c.byte_at.ensures ∙ c.if-byte_at-ne39.false) in
    (rw (c.in_ok-push.ensures.bytes, c.push.ensures.ascii (omega arith)) both.0, both.1)
