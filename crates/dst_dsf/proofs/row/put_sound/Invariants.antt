-- The bytes in front are put, all others are as they were, and the place of the next one is known by its channel and its octet.
use Rattle.std.proofs.Common.{◌≡◌, ◌⊎◌, ℕ, ◌+◌, ◌*◌, ◌<◌, ◌≤◌, length, get_or}
use Rattle.dst_dsf.specs.Rows.{place_in}
use Rattle.dst_dsf.proofs.row.put_sound.Given as goal

abbrev pub invariant-loop-byte : goal.invariant-loop-byte
invariant-loop-byte l = record {
  next : l.octet * l.channels + l.channel ≡ l.place + l.byte-index;
  below : l.channel < l.channels;
  long : length l.row ≡ length l.initial.row;
  put : (k : ℕ) → k < l.byte-index → get_or l.row (place_in l.channels (l.place + k)) 0 ≡ get_or l.piece k 0;
  others : (p : ℕ) → p < 4096 * l.channels → (p < l.place) ⊎ (l.place + l.byte-index ≤ p) →
      get_or l.row (place_in l.channels p) 0 ≡ get_or l.initial.row (place_in l.channels p) 0;
}
