-- The shape of a frame of so many channels at a multiple of 64 times 44.1 kHz.
use Rattle.std.specs.Prelude.{ℕ, ◌*◌}
use Rattle.dst_spec.specs.Sample.{Shape}

abbrev pub shape_of : ℕ → ℕ → Shape
shape_of count multiple = record { channels = count; octets = 4704 * multiple }
