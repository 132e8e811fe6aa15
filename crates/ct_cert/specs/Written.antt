-- What a call has written at a text's end.
use Rattle.std.specs.Prelude.{◌≡◌, ℕ, List, ◌++◌, OnOk, Result, string_bytes, String}

-- on success a text is the old one and the bytes after it
abbrev pub Appends : {T E A : Type 0} → Result T E → String A → String A → List ℕ → Type 0
Appends result old new bytes = OnOk result (string_bytes new ≡ string_bytes old ++ bytes)
