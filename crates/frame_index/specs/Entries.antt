-- Entries as bytes: eight of offset and four of size, the greatest first.
use Rattle.std.specs.Prelude.{ℕ, ◌*◌, ◌+◌, ◌/◌, List, length, map}
use Rattle.std.specs.List.{range_with_len}
use Rattle.dsdiff_spec.specs.Bytes.{number_at}
use Rattle.dsdiff_spec.specs.Walk.{Entry}
use Rattle.frame_index.specs.declared.index.Entry as index

abbrev pub entry_at : List ℕ → ℕ → Entry
entry_at bytes k = record { offset = number_at bytes (12 * k) 8; size = number_at bytes (12 * k + 8) 4 }

abbrev pub entries_in : List ℕ → List Entry
entries_in bytes = map (entry_at bytes) (range_with_len 0 (length bytes / 12))

-- entries that are gathered in room for so many
pub record Gathered : Type 0 where
  pub entries : List Entry
  pub room : ℕ

abbrev pub entry_seen : index.Entry → Entry
entry_seen e = record { offset = e.offset; size = e.size }
