-- Entries that are held as bytes.
use Rattle.std.proofs.Common.{◌≡◌, ℕ, ◌*◌, ◌/◌, ◌<◌, List, length, ◌∙◌, lit<, zero-add}
use Rattle.std.proofs.Math.Nat.{mul-div_cancel_left}
use Rattle.std.proofs.lemmas.List.FromFn.{length-map-range_with_len, get_or-map-range_with_len}
use Rattle.dsdiff_spec.specs.Walk.{entry}
use Rattle.frame_index.specs.Entries.{entries_in, entry_at}

-- twelve bytes for each entry
pub count_of_entries : (bytes : List ℕ) (n : ℕ) → length bytes ≡ 12 * n → length bytes / 12 ≡ n
count_of_entries bytes n long = rw long (mul-div_cancel_left n {n = 12} (lit< tt))

pub length-entries_in : (bytes : List ℕ) (n : ℕ) → length bytes ≡ 12 * n → length (entries_in bytes) ≡ n
length-entries_in bytes n long = length-map-range_with_len (entry_at bytes) 0 (length bytes / 12) ∙ count_of_entries bytes n long

pub entry-entries_in : (bytes : List ℕ) (n k : ℕ) → length bytes ≡ 12 * n → k < n → entry (entries_in bytes) k ≡ entry_at bytes k
entry-entries_in bytes n k long below =
    get_or-map-range_with_len (entry_at bytes) 0 (length bytes / 12) k k _ (rw (count_of_entries bytes n long) below) (zero-add k)
