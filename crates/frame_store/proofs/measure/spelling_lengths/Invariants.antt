-- The lanes so far have whole bytes of their header and code together.
use Rattle.std.proofs.Common.{◌≡◌, ℕ, ◌+◌, ◌/◌, ◌<◌, length, get_or}
use Rattle.dst_spec.specs.Header.{Params}
use Rattle.dst_spec.specs.Spell.{header_spelling}
use Rattle.frame_store.proofs.measure.spelling_lengths.Given as goal

abbrev pub invariant-loop-lane : goal.invariant-loop-lane
invariant-loop-lane l = record {
  eight : length l.lengths ≡ 8;
  lengths : (lane : ℕ) (other : Params) → lane < l.lane →
      get_or l.lengths lane 0 ≡ (length (header_spelling (get_or l.group lane other)) + get_or l.codes lane 0 + 7) / 8;
}
