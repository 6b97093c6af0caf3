-- The numbers and the names of the reasons why a frame is refused.
use Rattle.std.specs.Prelude.{ℕ}
use Rattle.dst_spec.specs.declared.faults.Reason.{Reason}
use Rattle.dst_spec.specs.declared.faults.Reason.TheVariants.{Truncated, PlainStuffing, MultiSegment, MapSkips, MethodReserved, TableTooShort}
use Rattle.dst_spec.specs.declared.faults.Reason.TheVariants.{CoefRange, ProbRange, FirstCodeBit, CodeRange}
use Prim.Native.String.{String}

abbrev pub reason_number : Reason → ℕ
reason_number Truncated = 1
reason_number PlainStuffing = 2
reason_number MultiSegment = 3
reason_number MapSkips = 4
reason_number MethodReserved = 5
reason_number TableTooShort = 6
reason_number CoefRange = 7
reason_number ProbRange = 8
reason_number FirstCodeBit = 9
reason_number CodeRange = 10

abbrev pub reason_name : Reason → String
reason_name Truncated = "Truncated"
reason_name PlainStuffing = "PlainStuffing"
reason_name MultiSegment = "MultiSegment"
reason_name MapSkips = "MapSkips"
reason_name MethodReserved = "MethodReserved"
reason_name TableTooShort = "TableTooShort"
reason_name CoefRange = "CoefRange"
reason_name ProbRange = "ProbRange"
reason_name FirstCodeBit = "FirstCodeBit"
reason_name CodeRange = "CodeRange"
