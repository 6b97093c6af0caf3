-- The fault of a frame, by its size and the number of frames before it.
use Rattle.std.proofs.Common.{◌≡◌, ℕ, ◌≤◌, Bool, true, false, None, Option, refl}
use Rattle.std.specs.Prelude.{nat_lt}
use Rattle.std.proofs.lemmas.Bool.{ltb-false}
use Rattle.dsdiff_spec.specs.Bytes.{◌above◌}
use Rattle.dsdiff_spec.specs.Chunks.{Head}
use Rattle.dsdiff_spec.specs.Faults.{◌when◌, ◌otherwise◌}
use Rattle.dsdiff_spec.specs.Form.{Form, longest_frame}
use Rattle.dsdiff_spec.specs.Walk.{frame_fault}
use Rattle.dsdiff_spec.specs.declared.faults.FileFault.{FileFault}
use Rattle.dsdiff_spec.specs.declared.faults.FileFault.TheVariants.{FrameTooLong, TooManyFrames}

-- without a fault a frame isn't too long
short_by_test : (b : Bool) (k longest size : ℕ) (later : Option FileFault) → nat_lt longest size ≡ b →
    (FrameTooLong k size when b otherwise later) ≡ None → size ≤ longest
short_by_test true k longest size later e p = absurd cc
short_by_test false k longest size later e p = ltb-false longest size e

pub short_frame : (form : Form) (h : Head) (k : ℕ) → frame_fault form (k, h) ≡ None → h.size ≤ longest_frame form
short_frame form h k p = short_by_test (nat_lt (longest_frame form) h.size) k (longest_frame form) h.size (TooManyFrames when k above 999999) refl p
