-- The name of a log.
use Rattle.std.specs.Prelude.{ℕ, [], refl}
use Rattle.std.specs.Coded.{Coded, code_by, coded×, coded_ℕ}
use Rattle.atomic_table.specs.Seated.{TableId, table_id_coded}

-- how many words the log has room for, and the table that no other log shares with it
pub record LogName : Type 0 where
  pub cap : ℕ
  pub table : TableId

-- the name of no log
abbrev pub no_log : LogName
no_log = record { cap = 0; table = record { words = 0; slots = 0; views_name = 0; atom = 0; block = 0; offset = 0; slot_names = [] } }

-- a name is stored as the pair of its fields
abbrev pub log_name_coded : Coded LogName
log_name_coded = code_by (ℕ × TableId) (coded× coded_ℕ table_id_coded) (λ n. (n.cap, n.table)) (λ p. record { cap = p.0; table = p.1 }) (λ _. refl)
