-- Members by the places of their terms in a list.
use Rattle.std.specs.Prelude.{◌≡◌, ◌<◌, ◌≤◌, ◌+◌, ℕ, Bool, false, List, length, map, slice_index_or}
use Rattle.ct_chain.specs.Seen.{AreDistinct}
use Rattle.ct_equality.specs.declared.classes.Member.{Member}
use Rattle.ct_equality.specs.Members.{is_taken, class_of, number_at}

-- the members have these terms, in this order, and none twice
pub record AreIndexed (words : List ℕ) (ms : List Member) : Type 0 where
  pub places : map (λ m. m.place) ms ≡ words
  pub distinct : AreDistinct words

-- which numbers from `from` on are taken, up to that of the members
pub record IsTable (ms : List Member) (from : ℕ) (table : List Bool) : Type 0 where
  pub count : length table ≡ length ms + 1
  pub taken : (k : ℕ) → from ≤ k → k < length table → slice_index_or table k false ≡ is_taken ms k

-- places in the order in which they were met, each once
pub record AreMet (places words : List ℕ) : Type 0 where
  pub same : places ≡ words
  pub distinct : AreDistinct words

-- each of these terms with its class
abbrev pub classed : List ℕ → List Member → List ℕ → List Member
classed words ms us = map (λ p. record { place = p; class = class_of ms p; number = number_at words p }) us

-- for each of these terms the one by which its class goes
pub record AreClassesAt (us : List ℕ) (ms : List Member) (classes : List ℕ) : Type 0 where
  pub count : length classes ≡ length us
  pub each : (i : ℕ) → i < length us → slice_index_or classes i 0 ≡ class_of ms (slice_index_or us i 0)
