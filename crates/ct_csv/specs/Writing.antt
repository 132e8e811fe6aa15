-- What a writer of records over bytes has written.
use Rattle.std.specs.Prelude.{◌≡◌, ℕ, false, List, ◌++◌, Vec}
use Rattle.csv.specs.declared.writer.Writer.{Writer}
use Rattle.csv.specs.Writing.{default_writer, fields_written, has_written, writer_pending, writer_setup, writer_under}

-- the bytes that were written, in the list and then in the buffer
abbrev pub bytes_of : {A : Type 0} → Writer (Vec ℕ A) → List ℕ
bytes_of w = (writer_under w).items ++ writer_pending w

-- the default writer, at the front of a record
pub record IsReady {A : Type 0} (w : Writer (Vec ℕ A)) : Type 0 where
  pub setup : writer_setup w ≡ default_writer
  pub fields : fields_written w ≡ 0
  pub wrote : has_written w ≡ false

-- these bytes were written
abbrev pub HasWritten : {A : Type 0} → Writer (Vec ℕ A) → Writer (Vec ℕ A) → List ℕ → Type 0
HasWritten old new bytes = bytes_of new ≡ bytes_of old ++ bytes
