-- What the view of a frame says, case by case, and the faults of a frame's arithmetic code.
use Rattle.std.specs.Prelude.{ℕ, ◌+◌, List, Result, Ok, Err, ⊤}
use Rattle.dst_spec.specs.Sample.{Shape}
use Rattle.dst_spec.specs.Header.{Params}
use Rattle.dst_spec.specs.Offends.{Offends}
use Rattle.dst_spec.specs.declared.faults.FrameFault.{FrameFault}
use Rattle.dst_spec.specs.declared.faults.Reason.TheVariants.{FirstCodeBit, CodeRange}
use Rattle.bit_io.specs.declared.reader.BitSlice.{BitSlice}
use Rattle.frame_header.specs.declared.view.FrameView.{FrameView}
use Rattle.frame_header.specs.declared.view.FrameView.TheVariants.{Plain, Coded}

-- the fact about a plain frame's lent sound, where that is the answer
abbrev pub IfPlain : Result FrameView FrameFault → (List ℕ → Type 0) → Type 0
IfPlain (Ok (Plain sound)) P = P sound.now
IfPlain (Ok (Coded params code)) P = ⊤
IfPlain (Err fault) P = ⊤

-- the fact about a coded frame's parameters and its lent code, where that is the answer
abbrev pub IfCoded : Result FrameView FrameFault → (Params → BitSlice → Type 0) → Type 0
IfCoded (Ok (Plain sound)) P = ⊤
IfCoded (Ok (Coded params code)) P = P params code
IfCoded (Err fault) P = ⊤

-- no field of the frame offends
abbrev pub OffendsNowhere : Shape → List ℕ → Type 0
OffendsNowhere f frame = (fault : FrameFault) → Offends f frame fault → ⊥

-- the fault of a code whose first bit, at this place, is 1
abbrev pub first_bit_fault : ℕ → FrameFault
first_bit_fault first = record { reason = FirstCodeBit; bit = first }

-- the fault of a code whose first bit is at this place, and whose next twelve are 1
abbrev pub range_fault : ℕ → FrameFault
range_fault first = record { reason = CodeRange; bit = first + 1 }
