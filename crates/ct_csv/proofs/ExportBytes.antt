-- The bytes that the default writer writes of records: they are text where the fields are, and are read as these records.
use Rattle.std.proofs.Common.{◌≡◌, ◌≢◌, ℕ, suc, ◌<◌, true, false, ◌==◌, List, [], ◌∷◌, ◌++◌, length, get_or, refl, ap, sym, ◌∙◌, subst, append-nil, append_assoc, inl, inr, arith, ne_eqb, eqb-true, if◌then◌else◌}
use Rattle.std.{specs.Prelude.IsUtf8, specs.Char.IsScalar, specs.List.list_any, proofs.lemmas.Bool.{cases_Bool, and_parts}}
use Rattle.std.proofs.lemmas.Str.{IsUtf8-append, IsUtf8-encode, IsUtf8-nil, encode_ascii, inside_one}
use lib.Utf8.{scalar, scalars, encode, encodes}
use Rattle.csv.specs.Machine.{next_record}
use Rattle.csv.specs.Reading.{default_config, strip_bom, AreRecords, Reached}
use Rattle.csv.specs.Records.{AllText}
use Rattle.csv.specs.Writing.{default_writer, needs_byte, escaped, field_text, fields_text, is_blank, row_body, row_text}
use Rattle.csv.proofs.RoundTrip.{read-write}
use Rattle.csv.specs.declared.parser.State.TheVariants as state
use Rattle.ct_csv.specs.{Csv.AreTexts, Exported.records_text}

-- each record has a field
abbrev pub HaveFirst : List (List (List ℕ)) → Type 0
HaveFirst [] = Unit {0}
HaveFirst ([] ∷ rs) = ⊥
HaveFirst ((f ∷ fs) ∷ rs) = HaveFirst rs

-- what is written is read as the same records
reached : (rs : List (List (List ℕ))) → HaveFirst rs → Reached default_config state.StartRecord (records_text rs) rs state.StartRecord []
unfolding Reached
reached [] h = (refl, refl)
reached ([] ∷ rs) h = absurd h
reached ((f ∷ fs) ∷ rs) h = ((f ∷ fs, state.StartRecord, records_text rs), read-write (f ∷ fs) (records_text rs), refl, reached rs h)

pub are_records : (rs : List (List (List ℕ))) → HaveFirst rs → AreRecords default_config state.StartRecord (records_text rs) rs
unfolding next_record
are_records rs h = (state.StartRecord, [], reached rs h, refl)

-- a quote is written twice
escaped_both : (xs ys : List ℕ) → escaped default_writer (xs ++ ys) ≡ escaped default_writer xs ++ escaped default_writer ys
unfolding escaped
escaped_both [] ys = refl
escaped_both (b ∷ xs) ys = elim (cases_Bool (b == 34)) [
  | inl e ↦ rw e (ap (λ (t : List ℕ). 34 ∷ b ∷ t) (escaped_both xs ys))
  | inr e ↦ rw e (ap (λ (t : List ℕ). b ∷ t) (escaped_both xs ys))
]

unquoted : (xs : List ℕ) → ((k : ℕ) → k < length xs → get_or xs k 0 ≢ 34) → escaped default_writer xs ≡ xs
unfolding escaped
unquoted [] h = refl
unquoted (x ∷ xs) h = let other = ne_eqb x 34 (h 0 (omega arith)) in rw other (ap (λ (t : List ℕ). x ∷ t) (unquoted xs (λ k below. h (suc k) (omega arith))))

not_quote : (c : ℕ) → (c == 34) ≡ false → c ≢ 34
not_quote c e p = absurd (let f : (34 == 34) ≡ false = subst (λ x. (x == 34) ≡ false) p e in cc)

quote_twice : (c : ℕ) → c ≡ 34 → escaped default_writer (encode c) ≡ encode c ++ encode c
unfolding escaped
quote_twice c e = rw (e, encode_ascii 34 (omega arith)) refl

char_escaped : (c : ℕ) → IsScalar c → IsUtf8 (escaped default_writer (encode c))
char_escaped c s = elim (cases_Bool (c == 34)) [
  | inl e ↦ subst IsUtf8 (sym (quote_twice c (eqb-true c 34 e))) (IsUtf8-append (encode c) (encode c) (IsUtf8-encode c s) (IsUtf8-encode c s))
  | inr e ↦
      let plain : (k : ℕ) → k < length (encode c) → get_or (encode c) k 0 ≢ 34 =
      λ k below p. not_quote c e (inside_one c [] (encode c) k (sym (append-nil (encode c))) below (omega (arith, p)) ∙ p) in
      subst IsUtf8 (sym (unquoted (encode c) plain)) (IsUtf8-encode c s)
]

chars_escaped : (cs : List ℕ) → scalars cs ≡ true → IsUtf8 (escaped default_writer (encodes cs))
unfolding escaped
chars_escaped [] h = IsUtf8-nil
chars_escaped (c ∷ cs) h =
    let parts = and_parts (scalar c) (scalars cs) h in
    subst IsUtf8 (sym (escaped_both (encode c) (encodes cs)))
    (IsUtf8-append (escaped default_writer (encode c)) (escaped default_writer (encodes cs)) (char_escaped c parts.0) (chars_escaped cs parts.1))

escaped_text : (f : List ℕ) → IsUtf8 f → IsUtf8 (escaped default_writer f)
escaped_text f u = subst (λ bs. IsUtf8 (escaped default_writer bs)) u.1.1 (chars_escaped u.0 u.1.0)

-- one byte of ASCII
byte_text : (b : ℕ) → b < 128 → IsScalar b → IsUtf8 (b ∷ [])
byte_text b low s = subst IsUtf8 (encode_ascii b low) (IsUtf8-encode b s)

quote_text : IsUtf8 (34 ∷ [])
quote_text = byte_text 34 (omega arith) refl

comma_text : IsUtf8 (44 ∷ [])
comma_text = byte_text 44 (omega arith) refl

end_text : IsUtf8 (10 ∷ [])
end_text = byte_text 10 (omega arith) refl

-- fields and records
field_written : (f : List ℕ) → IsUtf8 f → IsUtf8 (field_text default_writer f)
field_written f u = elim (cases_Bool (list_any (needs_byte default_writer) f)) [
  | inl e ↦
      rw e (IsUtf8-append (34 ∷ []) (escaped default_writer f ++ 34 ∷ []) quote_text (IsUtf8-append (escaped default_writer f) (34 ∷ []) (escaped_text f u) quote_text))
  | inr e ↦ rw e u
]

fields_written : (fs : List (List ℕ)) → AllText fs → IsUtf8 (fields_text default_writer fs)
unfolding fields_text AllText
fields_written [] h = IsUtf8-nil
fields_written (f ∷ fs) h =
    IsUtf8-append (44 ∷ []) (field_text default_writer f ++ fields_text default_writer fs) comma_text
    (IsUtf8-append (field_text default_writer f) (fields_text default_writer fs) (field_written f h.0) (fields_written fs h.1))

body_written : (fs : List (List ℕ)) → AllText fs → IsUtf8 (row_body default_writer fs)
unfolding AllText
body_written [] h = IsUtf8-nil
body_written (f ∷ fs) h = IsUtf8-append (field_text default_writer f) (fields_text default_writer fs) (field_written f h.0) (fields_written fs h.1)

row_written : (fs : List (List ℕ)) → AllText fs → IsUtf8 (row_text default_writer fs)
row_written fs h = elim (cases_Bool (is_blank default_writer fs)) [
  | inl e ↦
      rw e (IsUtf8-append (row_body default_writer fs) (34 ∷ 34 ∷ 10 ∷ []) (body_written fs h)
      (IsUtf8-append (34 ∷ []) (34 ∷ 10 ∷ []) quote_text (IsUtf8-append (34 ∷ []) (10 ∷ []) quote_text end_text)))
  | inr e ↦ rw e (IsUtf8-append (row_body default_writer fs) (10 ∷ []) (body_written fs h) end_text)
]

pub records_written : (rs : List (List (List ℕ))) → AreTexts rs → IsUtf8 (records_text rs)
records_written [] h = IsUtf8-nil
records_written (r ∷ rs) h = IsUtf8-append (row_text default_writer r) (records_text rs) (row_written r h.0) (records_written rs h.1)

-- a text that begins with a byte of ASCII has no byte order mark
kept_whole : (a : ℕ) (rest : List ℕ) → a < 128 → strip_bom (a ∷ rest) ≡ a ∷ rest
unfolding strip_bom
kept_whole a [] h = refl
kept_whole a (b ∷ []) h = refl
kept_whole a (b ∷ c ∷ rest) h = let other : (a == 239) ≡ false = ne_eqb a 239 (λ e. absurd (omega (arith, h, e))) in rw other refl

-- the first byte of a record whose first field begins with one
record Starts (bytes : List ℕ) : Type 0 where
  first : ℕ
  rest : List ℕ
  is : bytes ≡ first ∷ rest
  low : first < 128

field_starts : (b : ℕ) (w tail : List ℕ) → b < 128 → Starts (field_text default_writer (b ∷ w) ++ tail)
field_starts b w tail h = elim (cases_Bool (list_any (needs_byte default_writer) (b ∷ w))) [
  | inl e ↦ record { first = 34; rest = (escaped default_writer (b ∷ w) ++ 34 ∷ []) ++ tail; is = rw e refl; low = omega arith }
  | inr e ↦ record { first = b; rest = w ++ tail; is = rw e refl; low = h }
]

pub no_mark : (b : ℕ) (w : List ℕ) (fs : List (List ℕ)) (rs : List (List (List ℕ))) → b < 128
    → strip_bom (records_text (((b ∷ w) ∷ fs) ∷ rs)) ≡ records_text (((b ∷ w) ∷ fs) ∷ rs)
no_mark b w fs rs h =
    let first : List ℕ = field_text default_writer (b ∷ w) in
    let others : List ℕ = fields_text default_writer fs in
    let ending : List ℕ = (if is_blank default_writer ((b ∷ w) ∷ fs) then 34 ∷ 34 ∷ [] else []) ++ 10 ∷ [] in
    let s = field_starts b w (others ++ (ending ++ records_text rs)) h in
    let whole : records_text (((b ∷ w) ∷ fs) ∷ rs) ≡ first ++ (others ++ (ending ++ records_text rs)) =
    append_assoc (first ++ others) ending (records_text rs) ∙ append_assoc first others (ending ++ records_text rs) in
    ap strip_bom (whole ∙ s.is) ∙ kept_whole s.first s.rest s.low ∙ sym (whole ∙ s.is)
