-- The bytes in front are those of the row, and the place of the next one is known by its channel and its octet.
use Rattle.std.proofs.Common.{◌≡◌, ℕ, ◌+◌, ◌*◌, ◌/◌, ◌%◌, ◌<◌, get_or}
use Rattle.dsf_files.proofs.row.copy_sound.Given as goal

abbrev pub invariant-loop-byte : goal.invariant-loop-byte
invariant-loop-byte l = record {
  next : l.octet * l.channels + l.channel ≡ l.place + l.byte-index;
  below : l.channel < l.channels;
  sound : (k : ℕ) → k < l.byte-index → get_or l.out k 0 ≡ get_or l.row (4096 * ((l.place + k) % l.channels) + (l.place + k) / l.channels) 0;
}
