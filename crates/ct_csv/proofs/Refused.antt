-- What a refusal of the reader says of the bytes.
use Rattle.std.proofs.Common.{◌≡◌, ◌≢◌, ℕ, List, length, sym, ap, subst, ◌∙◌}
use Rattle.std.specs.Prelude.{Option, Some, None, true, IfSome}
use Rattle.csv.specs.Reading.{ExplainsRead, Reached, ReadsNext, default_config, source_of, pending_of, strip_bom}
use Rattle.csv.specs.Records.{AllText}
use Rattle.csv.specs.declared.reader.Reader.{Reader}
use Rattle.csv.specs.declared.error.ErrorKind.{ErrorKind}
use Rattle.csv.specs.declared.error.ErrorKind.TheVariants as kind
use Rattle.csv.specs.declared.parser.State.{State}
use Rattle.csv.specs.declared.parser.State.TheVariants.{StartRecord}
use Rattle.ct_csv.{specs.Csv.{IsCsv, cause_of}, specs.Refusing.Refuses}
use Rattle.ct_csv.proofs.{Reached.{goes_on, took_next}, Even.{Expects, is_text_among, even_among}}

pub if_some_at : {A : Type 0} (P : A → Type 0) (o : Option A) (a : A) → IfSome o P → o ≡ Some a → P a
if_some_at P None a h e = cc e
if_some_at P (Some b) a h e = subst P {x = b} {y = a} (cc e) h

-- the next record, among all the records that the bytes may have
module _ (bytes : List ℕ) (rows : List (List (List ℕ))) (s : State) (y : List ℕ) (so_far : Reached default_config StartRecord (strip_bom bytes) rows s y) where
  not_text : (t : State) (k : Option (List ℕ)) (fields : List (List ℕ)) → ReadsNext default_config s (Some y) k true fields t → (AllText fields → ⊥)
      → (all : List (List (List ℕ))) → IsCsv bytes all → ⊥
  not_text t k fields took other all csv =
      let next = took_next default_config s t y fields k took in
      let whole = goes_on default_config StartRecord s (strip_bom bytes) y rows all next.0 so_far next.1 csv.all in
      other (subst AllText (sym next.2) (is_text_among all rows whole.0 next.0.0 whole.1 csv.texts))

  not_even : (e : Option ℕ) (n len : ℕ) (t : State) (k : Option (List ℕ)) (fields : List (List ℕ)) → Expects e rows → e ≡ Some n → n ≢ len
      → ReadsNext default_config s (Some y) k true fields t → length fields ≡ len → (all : List (List (List ℕ))) → IsCsv bytes all → ⊥
  not_even e n len t k fields expects is other took size all csv =
      let next = took_next default_config s t y fields k took in
      let whole = goes_on default_config StartRecord s (strip_bom bytes) y rows all next.0 so_far next.1 csv.all in
      other (sym (even_among e n all rows whole.0 next.0.0 expects is whole.1 csv.even) ∙ ap length (sym next.2) ∙ size)

pub refused : {R : Type 0} (rem : R → Option (List ℕ)) (a b : Reader R) (bytes : List ℕ) (rows : List (List (List ℕ))) (y : List ℕ)
    → a.config ≡ default_config → source_of rem a ≡ Some y → Expects a.expected rows → Reached default_config StartRecord (strip_bom bytes) rows a.state y
    → (k : ErrorKind) → ExplainsRead rem a b true k → Refuses bytes (cause_of k)
refused rem a b bytes rows y ec ex expects so_far (kind.Io e) h = tt
refused rem a b bytes rows y ec ex expects so_far kind.OutOfMemory h = tt
refused rem a b bytes rows y ec ex expects so_far (kind.Serialize text) h = tt
refused rem a b bytes rows y ec ex expects so_far (kind.Deserialize pos err) h = tt
refused rem a b bytes rows y ec ex expects so_far (kind.Utf8 pos err) h =
    not_text bytes rows a.state y so_far b.state (pending_of (rem b.rdr) b) h.1 (rw (ec, ex) at h.2) h.3
refused rem a b bytes rows y ec ex expects so_far (kind.UnequalLengths pos expected len) h =
    not_even bytes rows a.state y so_far a.expected expected len b.state (pending_of (rem b.rdr) b) h.3 expects h.1 h.2 (rw (ec, ex) at h.4) h.5
