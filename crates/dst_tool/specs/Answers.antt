-- The status and the line of what a command answers.
use Rattle.std.specs.Prelude.{ℕ, ◌*◌, [], ⊤, Result, Ok, Err}
use Rattle.dst_spec.specs.Sample.{sound_bytes}
use Rattle.dsdiff_spec.specs.Form.{shape_of}
use Rattle.dsdiff_spec.specs.Words.{Command, encode, decode, cut, frame, check, make, make_run, encode_dsf, decode_dsf, range}
use Rattle.dsdiff_spec.specs.Lines.{Line, read_fault_line, write_fault_line, memory_line, file_line, frame_fault_line, coded_line, decoded_line, cut_line}
use Rattle.dsdiff_spec.specs.Lines.{frame_line, range_line, check_line, made_line, made_run_line}
use Rattle.dsdiff_chunks.specs.declared.open.OpenFault.{OpenFault}
use Rattle.dsdiff_chunks.specs.declared.open.OpenFault.TheVariants as opening
use Rattle.dst_read.specs.declared.faults.DecodeFault.{DecodeFault}
use Rattle.dst_read.specs.declared.faults.DecodeFault.TheVariants as decoding
use Rattle.dst_read.specs.declared.faults.CheckFault.{CheckFault}
use Rattle.dst_read.specs.declared.faults.CheckFault.TheVariants as checking
use Rattle.dst_show.specs.declared.faults.ShowFault.{ShowFault}
use Rattle.dst_show.specs.declared.faults.ShowFault.TheVariants as showing
use Rattle.dst_show.specs.declared.faults.ListFault.{ListFault}
use Rattle.dst_show.specs.declared.faults.ListFault.TheVariants as listing
use Rattle.dst_write.specs.declared.faults.EncodeFault.{EncodeFault}
use Rattle.dst_write.specs.declared.faults.EncodeFault.TheVariants as encoding
use Rattle.dst_cut.specs.declared.cut.CutFault.{CutFault}
use Rattle.dst_cut.specs.declared.cut.CutFault.TheVariants as cutting
use Rattle.dst_make.specs.declared.make.MakeFault.{MakeFault}
use Rattle.dst_make.specs.declared.make.MakeFault.TheVariants as making
use Rattle.dst_tool.specs.declared.making.RunFault.{RunFault}
use Rattle.dst_tool.specs.declared.making.RunFault.TheVariants as running
use Rattle.dst_tool.specs.declared.answers.Numbers.{Numbers}
use Rattle.dst_tool.specs.declared.answers.Fault.{Fault}
use Rattle.dst_tool.specs.declared.answers.Fault.TheVariants.{Read, Write, Memory, Report, File, Frame}

abbrev pub status_of : Result Numbers Fault → ℕ
status_of (Ok s) = 0
status_of (Err Read) = 2
status_of (Err Write) = 3
status_of (Err (Memory refused)) = 4
status_of (Err (File fault)) = 5
status_of (Err (Frame k fault)) = 6
status_of (Err Report) = 7

-- the one line of a command that is done; those that report more lines than one write them themselves
abbrev pub done_line : Command → Numbers → Line
done_line (encode level) s = coded_line s.frames s.bytes
done_line decode s = decoded_line s.frames s.bytes
done_line (encode_dsf level) s = coded_line s.frames s.bytes
done_line decode_dsf s = decoded_line s.frames s.bytes
done_line (cut first last) s = cut_line s.frames
done_line (frame k by_index) s = frame_line k s.bytes
done_line (range pairs) s = range_line s.bytes
done_line check s = check_line s.frames s.unread
done_line (make start frames channels multiple) s = made_line s.frames
done_line (make_run start frames channels multiple) s =
    made_run_line s.frames (s.frames * sound_bytes (shape_of channels multiple)) s.bytes s.restored
done_line c s = []

abbrev pub TellsOneLine : Command → Type 0
TellsOneLine (encode level) = ⊤
TellsOneLine decode = ⊤
TellsOneLine (encode_dsf level) = ⊤
TellsOneLine decode_dsf = ⊤
TellsOneLine (cut first last) = ⊤
TellsOneLine (frame k by_index) = ⊤
TellsOneLine (range pairs) = ⊤
TellsOneLine check = ⊤
TellsOneLine (make start frames channels multiple) = ⊤
TellsOneLine (make_run start frames channels multiple) = ⊤
TellsOneLine c = ⊥

-- a failed report has no line
abbrev pub fault_line : Fault → Line
fault_line Read = read_fault_line
fault_line Write = write_fault_line
fault_line (Memory refused) = memory_line
fault_line (File fault) = file_line fault
fault_line (Frame k fault) = frame_fault_line k fault
fault_line Report = []

abbrev pub line_of : Command → Result Numbers Fault → Line
line_of c (Ok s) = done_line c s
line_of c (Err fault) = fault_line fault

-- ---- what each command answers, in these words
abbrev pub answered : {A E : Type 0} → (A → Numbers) → (E → Fault) → Result A E → Result Numbers Fault
answered f g (Ok a) = Ok (f a)
answered f g (Err e) = Err (g e)

abbrev pub of_source : OpenFault → Fault
of_source opening.Read = Read
of_source (opening.Memory refused) = Memory refused
of_source (opening.File fault) = File fault

abbrev pub of_encode : EncodeFault → Fault
of_encode (encoding.Source fault) = of_source fault
of_encode encoding.Write = Write

abbrev pub of_cut : CutFault → Fault
of_cut (cutting.Source fault) = of_source fault
of_cut cutting.Write = Write

abbrev pub of_make : MakeFault → Fault
of_make (making.Memory refused) = Memory refused
of_make making.Write = Write

abbrev pub of_run : RunFault → Fault
of_run (running.Memory refused) = Memory refused

abbrev pub of_decode : DecodeFault → Fault
of_decode (decoding.Source fault) = of_source fault
of_decode decoding.Write = Write
of_decode (decoding.Frame k fault) = Frame k fault

abbrev pub of_check : CheckFault → Fault
of_check (checking.Source fault) = of_source fault
of_check (checking.Frame k fault) = Frame k fault

abbrev pub of_show : ShowFault → Fault
of_show (showing.Source fault) = of_source fault
of_show showing.Report = Report
of_show (showing.Frame k fault) = Frame k fault

abbrev pub of_list : ListFault → Fault
of_list (listing.Source fault) = of_source fault
of_list listing.Report = Report
