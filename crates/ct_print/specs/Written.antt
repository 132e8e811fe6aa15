-- What a call has written at a text's or a list's end.
use Rattle.std.specs.Prelude.{◌≡◌, ℕ, List, [], ◌++◌, nat_eq, if◌then◌else◌, OnOk, Result, string_bytes, String, Vec}

-- on success a text is the old one and the bytes after it
abbrev pub Appends : {T E A : Type 0} → Result T E → String A → String A → List ℕ → Type 0
Appends result old new bytes = OnOk result (string_bytes new ≡ string_bytes old ++ bytes)

-- on success a list has the old items and these after them
abbrev pub Adds : {T E X A : Type 0} → Result T E → Vec X A → Vec X A → List X → Type 0
Adds result old new items = OnOk result (new.items ≡ old.items ++ items)

-- what stands before the piece at a position: a separator, except before the first
abbrev pub separator_before : ℕ → List ℕ → List ℕ
separator_before i separator = if nat_eq i 0 then [] else separator
