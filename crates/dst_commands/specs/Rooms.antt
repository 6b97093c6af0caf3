-- How many jobs there are, and the buffers that a frame is worked in, described by one number.
use Rattle.std.specs.Prelude.{ℕ, ◌+◌, ◌*◌, ◌/◌, min, max, Bool, not, ◌&&◌, ◌==◌, if◌then◌else◌}
use Rattle.dst_spec.specs.Sample.{Shape, sound_bytes}
use Rattle.dsdiff_spec.specs.Bytes.{◌below◌, ◌above◌}

-- the jobs of so many workers: sixteen for each at 64 times 44.1 kHz and fewer where frames are longer, no more than there are frames, and at least one
abbrev pub jobs_in : Shape → (frames workers : ℕ) → ℕ
jobs_in f frames workers = max (min frames (16 / (f.octets / 4704) * workers)) 1

-- a number for the shape of a form's frames
abbrev pub shape_number : Shape → ℕ
shape_number f = 8 * f.octets + f.channels + 2

-- room for a frame as long as frames of a shape are at most, and for its sound; a frame of this size lies in its buffer
abbrev pub has_room : (Shape → ℕ) → ℕ → ℕ → ℕ → Shape → Bool
has_room longest size frame sound f =
    f.channels below 8 && not (size above frame) && frame == longest f && sound == sound_bytes f

-- the number of the shape, and 0 where the buffers don't have this room
abbrev pub room_number : (Shape → ℕ) → ℕ → ℕ → ℕ → Shape → ℕ
room_number longest size frame sound f = if has_room longest size frame sound f then shape_number f else 0
