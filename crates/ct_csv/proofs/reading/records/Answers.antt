use Rattle.std.proofs.Common.{Bor, List, ℕ, ◌≡◌, ◌∙◌, sym, refl, inl, inr, map, Some, ◌∷◌, []}
use Rattle.std.proofs.lemmas.List.{map-append}
use Rattle.csv.specs.Reading.{Reached, default_config, strip_bom}
use Rattle.csv.specs.Records.{fields_of}
use Rattle.csv.specs.declared.parser.State.TheVariants as st
use Rattle.csv.proofs.ReadFacts.{rows-more}
use Rattle.ct_csv.proofs.{Even.{expects_more, texts_more}, Refused.{refused, if_some_at}}
use Rattle.ct_csv.proofs.reading.records.Goals as goal

pub loop-record-init : goal.loop-record-init
unfolding Reached
loop-record-init c =
    let fr = c.from_reader-reader.ensures in
    let e = c.has_headers.ensures in
    let start = c.into_iter-record-iterator.ensures.into_iter_gives ∙ refl in
    let rdr = c.into_records-record-items.ensures.rdr in
    let left = c.into_records-record-items.ensures.left in
    rw (start, rdr, c.new-records.ensures.items) (
      rw (e) at fr.trim ∙ c.new.ensures.trim,
      inr (inr (rw e at fr.has_headers, fr.headers)),
      left,
      rw e at fr.config ∙ c.new.ensures.config,
      rw e at fr.flexible ∙ c.new.ensures.flexible,
      tt,
      fr.expected,
      strip_bom c.args.bytes.now,
      fr.source,
      (sym fr.state, refl),
    )

pub loop-record-preserved : goal.loop-record-preserved
loop-record-preserved c =
    let inv = c.loop-record.invariant in
    let steps = c.next.ensures.steps inv.2 inv.0 in
    let s = rw (c.in-Some.is, c.in-Ok.is) at (steps.0 inv.1) in
    let flexible = rw (c.in-Some.is, c.in-Ok.is) at steps.3 in
    let a = c.loop-record.record-iterator.rdr in
    let b = c.next.new.self.rdr in
    let rows = map fields_of c.loop-record.records.items in
    let fields = fields_of c.in-Ok.record in
    let m = rows-more (λ (s : Bor (List ℕ)). Some s.now) a b fields default_config st.StartRecord (strip_bom c.args.bytes.now) inv.7 rows inv.3 inv.8 inv.9 s.0 in
    let lengths = s.0.5 refl inv.4 in
    let expects = expects_more a.expected b.expected rows fields inv.6 (λ n e. if_some_at (λ k. b.expected ≡ Some k) a.expected n lengths.0 e) lengths.1 in
    rw (c.in_ok-push-in-Ok.ensures.items, map-append fields_of c.loop-record.records.items (c.in-Ok.record ∷ []))
    (s.0.3 ∙ inv.0, inl s.1, s.3, s.0.2 ∙ inv.3, flexible ∙ inv.4, texts_more rows fields inv.5 s.2, expects, m.0, m.1, m.2)

pub returns-in-Err-clause-error : goal.returns-in-Err-clause-error
returns-in-Err-clause-error c =
    let inv = c.loop-record.invariant in
    let s = rw (c.in-Some.is, c.in-Err.is) at ((c.next.ensures.steps inv.2 inv.0).0 inv.1) in
    let rows = map fields_of c.loop-record.records.items in
    rw (c.cause.ensures, c.kind.ensures)
    (refused (λ (s : Bor (List ℕ)). Some s.now) c.loop-record.record-iterator.rdr c.next.new.self.rdr c.args.bytes.now rows inv.7 inv.3 inv.8 inv.6 inv.9 c.in-Err.error.kind s)
