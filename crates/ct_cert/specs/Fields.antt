-- What the program's table asks of a field, as the table of kinds asks it.
use Rattle.ct_word.specs.WellFormed.{Field, Zero, Any, Byte, Scalar, Session, Positive, PlaceOf}
use Rattle.ct_cert.specs.declared.well_formed.Field.{Field as Asked}
use Rattle.ct_cert.specs.declared.well_formed.Field.TheVariants as asked

abbrev pub field_of : Asked → Field
field_of asked.Zero = Zero
field_of asked.Any = Any
field_of asked.Byte = Byte
field_of asked.Scalar = Scalar
field_of asked.Session = Session
field_of asked.Positive = Positive
field_of (asked.PlaceOf c) = PlaceOf c
