-- The lines of reports as texts.
use Rattle.std.proofs.Common.{◌≡◌, List, [], ◌∷◌, map, refl}
use Rattle.std.specs.Prelude.{codes, ⊤}
use Rattle.std.specs.Fmt.{digits}
use Prim.Native.String.{String}
use Rattle.dst_spec.proofs.Refusals.{at}
use Rattle.dst_spec.specs.declared.faults.Reason.TheVariants.{Truncated, PlainStuffing, MultiSegment, MapSkips, MethodReserved, TableTooShort, CoefRange}
use Rattle.dst_spec.specs.declared.faults.Reason.TheVariants.{ProbRange, FirstCodeBit, CodeRange}
use Rattle.dsdiff_spec.specs.Rules.{accepted}
use Rattle.dsdiff_spec.specs.Walk.{entries}
use Rattle.dsdiff_spec.specs.Lines.{Line, report, words_line, read_fault_line, write_fault_line, memory_line, file_line, frame_fault_line, coded_line}
use Rattle.dsdiff_spec.specs.Lines.{decoded_line, cut_line, frame_line, range_line, check_line, made_line, made_run_line, show_lines, plain_frame_line}
use Rattle.dsdiff_spec.specs.Lines.{coded_frame_line, index_lines}
use Rattle.dsdiff_spec.specs.declared.faults.FileFault.TheVariants.{NotForm, FormType, Overrun, Version, PropMissing, PropTwice, PropType, PropTooLong, Rate}
use Rattle.dsdiff_spec.specs.declared.faults.FileFault.TheVariants.{Channels, Compression, SoundMissing, SoundTwice, SoundUneven, FrameRate, CountDiffers}
use Rattle.dsdiff_spec.specs.declared.faults.FileFault.TheVariants.{FrameTooLong, TooManyFrames, TooManyChunks, NotPlain, KeptBad, Range, IndexMissing}
use Rattle.dsdiff_spec.specs.declared.faults.FileFault.TheVariants.{IndexBad, FormTooLarge, CodedChunk, NotCoded, TailTooLong, DsfForm, DsfFormat, DsfCount}
use Rattle.dsdiff_spec.specs.declared.faults.FileFault.TheVariants.{DsfKeptBad, RangePast}
use Rattle.dsdiff_spec.proofs.Files.{example, two, two_coded}
use Rattle.dsdiff_spec.proofs.Forms.{forms_open}

unfoldable texts_open : ⊤
unfolding forms_open digits
texts_open = tt

abbrev pub lines : List String → List Line
lines texts = map codes texts

-- ---- refusals and failed devices
pub fixed_lines : words_line ∷ read_fault_line ∷ write_fault_line ∷ memory_line ∷ []
    ≡ lines ("words not understood" ∷ "read fault" ∷ "write fault" ∷ "memory" ∷ [])
fixed_lines = refl

pub each_fault_has_its_number_and_name :
    map file_line (
    NotForm ∷ FormType ∷ Overrun 110 ∷ Version ∷ PropMissing ∷ PropTwice ∷ PropType ∷ PropTooLong ∷ Rate ∷ Channels
    ∷ Compression ∷ SoundMissing ∷ SoundTwice ∷ SoundUneven ∷ FrameRate ∷ CountDiffers 2 1 ∷ FrameTooLong 0 9411
    ∷ TooManyFrames ∷ TooManyChunks ∷ NotPlain ∷ KeptBad ∷ Range 3 2 ∷ IndexMissing ∷ IndexBad 2 ∷ FormTooLarge
    ∷ CodedChunk 114 ∷ NotCoded ∷ TailTooLong 65537 ∷ DsfForm ∷ DsfFormat ∷ DsfCount 12 4107 ∷ DsfKeptBad
    ∷ RangePast 4706 4705 ∷ [])
    ≡ lines (
    "file refused: 1 NotForm" ∷ "file refused: 2 FormType" ∷ "file refused: 3 Overrun 110" ∷ "file refused: 4 Version"
    ∷ "file refused: 5 PropMissing" ∷ "file refused: 6 PropTwice" ∷ "file refused: 7 PropType"
    ∷ "file refused: 8 PropTooLong" ∷ "file refused: 9 Rate" ∷ "file refused: 10 Channels"
    ∷ "file refused: 11 Compression" ∷ "file refused: 12 SoundMissing" ∷ "file refused: 13 SoundTwice"
    ∷ "file refused: 14 SoundUneven" ∷ "file refused: 15 FrameRate" ∷ "file refused: 16 CountDiffers 2 1"
    ∷ "file refused: 17 FrameTooLong 0 9411" ∷ "file refused: 18 TooManyFrames" ∷ "file refused: 19 TooManyChunks"
    ∷ "file refused: 20 NotPlain" ∷ "file refused: 21 KeptBad" ∷ "file refused: 22 Range 3 2"
    ∷ "file refused: 23 IndexMissing" ∷ "file refused: 24 IndexBad 2" ∷ "file refused: 25 FormTooLarge"
    ∷ "file refused: 26 CodedChunk 114" ∷ "file refused: 27 NotCoded" ∷ "file refused: 28 TailTooLong 65537"
    ∷ "file refused: 29 DsfForm" ∷ "file refused: 30 DsfFormat" ∷ "file refused: 31 DsfCount 12 4107"
    ∷ "file refused: 32 DsfKeptBad" ∷ "file refused: 33 RangePast 4706 4705" ∷ [])
unfolding texts_open
each_fault_has_its_number_and_name = refl

pub each_reason_has_its_number_and_name :
    map (λ reason. frame_fault_line 5 (at reason 40)) (
    Truncated ∷ PlainStuffing ∷ MultiSegment ∷ MapSkips ∷ MethodReserved ∷ TableTooShort ∷ CoefRange ∷ ProbRange
    ∷ FirstCodeBit ∷ CodeRange ∷ [])
    ≡ lines (
    "frame 5 refused: 1 Truncated at bit 40" ∷ "frame 5 refused: 2 PlainStuffing at bit 40"
    ∷ "frame 5 refused: 3 MultiSegment at bit 40" ∷ "frame 5 refused: 4 MapSkips at bit 40"
    ∷ "frame 5 refused: 5 MethodReserved at bit 40" ∷ "frame 5 refused: 6 TableTooShort at bit 40"
    ∷ "frame 5 refused: 7 CoefRange at bit 40" ∷ "frame 5 refused: 8 ProbRange at bit 40"
    ∷ "frame 5 refused: 9 FirstCodeBit at bit 40" ∷ "frame 5 refused: 10 CodeRange at bit 40" ∷ [])
unfolding texts_open
each_reason_has_its_number_and_name = refl

-- ---- commands that are done
pub lines_of_one_command :
    coded_line 2 9410 ∷ decoded_line 2 4705 ∷ cut_line 1 ∷ frame_line 1 4704 ∷ range_line 5 ∷ check_line 2 0 ∷ made_line 3
    ∷ made_run_line 3 84672 12345 84672 ∷ plain_frame_line 0 4705 ∷ coded_frame_line 0 6 1 2 45 ∷ []
    ≡ lines (
    "coded 2 frames into 9410 bytes" ∷ "decoded 2 frames into 4705 bytes" ∷ "cut 1 frames" ∷ "frame 1, 4704 bytes"
    ∷ "range 5 bytes" ∷ "sound, 2 frames, 0 unread bytes" ∷ "made 3 frames"
    ∷ "made 3 frames, sound 84672 bytes, coded 12345 bytes, restored 84672 bytes"
    ∷ "frame 0 plain length 4705" ∷ "frame 0 coded length 6 filters 1 tables 2 code 45" ∷ [])
unfolding texts_open
lines_of_one_command = refl

pub places_are_listed : index_lines (entries two_coded (accepted two_coded)) ≡ lines ("0 152 4705" ∷ "1 4870 4705" ∷ [])
unfolding texts_open
places_are_listed = refl

pub plain_file_is_shown : show_lines (accepted two) []
    ≡ lines ("kind plain" ∷ "channels 1" ∷ "sound 4705 bytes" ∷ "frames 2" ∷ "chunks 3" ∷ [])
unfolding texts_open
plain_file_is_shown = refl

pub coded_file_is_shown : show_lines (accepted two_coded) (entries two_coded (accepted two_coded))
    ≡ lines ("kind coded" ∷ "channels 1" ∷ "sound 4705 bytes" ∷ "frames 2" ∷ "chunks 5" ∷ "stored 9410 bytes" ∷ "index yes" ∷ "kept yes" ∷ [])
unfolding texts_open
coded_file_is_shown = refl

pub file_without_index_is_shown : show_lines (accepted example) (entries example (accepted example))
    ≡ lines ("kind coded" ∷ "channels 1" ∷ "sound 4704 bytes" ∷ "frames 1" ∷ "chunks 3" ∷ "stored 6 bytes" ∷ "index no" ∷ "kept no" ∷ [])
unfolding texts_open
file_without_index_is_shown = refl

-- a report holds whole lines
pub lines_end_in_line_feeds : report (codes "a" ∷ codes "b" ∷ []) ≡ codes "a\nb\n"
lines_end_in_line_feeds = refl
