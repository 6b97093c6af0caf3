-- The bytes of the channels in front are cleared, and no others.
use Rattle.std.proofs.Common.{◌≡◌, ℕ, ◌+◌, ◌*◌, ◌<◌, ◌≤◌, get_or}
use Rattle.dsf_files.specs.Rows.{cleared}
use Rattle.dsf_files.proofs.row.clear_past.Given as goal

abbrev pub invariant-loop-channel : goal.invariant-loop-channel
invariant-loop-channel l = record {
  front : (c : ℕ) → c < l.channel → get_or l.row (4096 * c + l.octet) 0 ≡ cleared l.bits (get_or l.initial.row (4096 * c + l.octet) 0);
  behind : (c : ℕ) → l.channel ≤ c → get_or l.row (4096 * c + l.octet) 0 ≡ get_or l.initial.row (4096 * c + l.octet) 0;
  others : (c j : ℕ) → j < 4096 → (j ≡ l.octet → ⊥) → get_or l.row (4096 * c + j) 0 ≡ get_or l.initial.row (4096 * c + j) 0;
}
