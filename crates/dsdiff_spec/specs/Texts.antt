-- The texts of refused files: the number and the name of each fault, and the numbers behind them.
use Rattle.std.specs.Prelude.{ℕ, List, [], ◌∷◌}
use Rattle.dsdiff_spec.specs.declared.faults.FileFault.{FileFault}
use Rattle.dsdiff_spec.specs.declared.faults.FileFault.TheVariants.{NotForm, FormType, Overrun, Version, PropMissing, PropTwice, PropType, PropTooLong, Rate}
use Rattle.dsdiff_spec.specs.declared.faults.FileFault.TheVariants.{Channels, Compression, SoundMissing, SoundTwice, SoundUneven, FrameRate, CountDiffers}
use Rattle.dsdiff_spec.specs.declared.faults.FileFault.TheVariants.{FrameTooLong, TooManyFrames, TooManyChunks, NotPlain, KeptBad, Range, IndexMissing}
use Rattle.dsdiff_spec.specs.declared.faults.FileFault.TheVariants.{IndexBad, FormTooLarge, CodedChunk, NotCoded, TailTooLong, DsfForm, DsfFormat, DsfCount}
use Rattle.dsdiff_spec.specs.declared.faults.FileFault.TheVariants.{DsfKeptBad, RangePast}
use Prim.Native.String.{String}

-- why a file is refused
pub record Text : Type 0 where
  pub number : ℕ
  pub name : String
  pub numbers : List ℕ

abbrev fault : ℕ → String → List ℕ → Text
fault number name numbers = record { number = number; name = name; numbers = numbers }

abbrev pub text_of : FileFault → Text
text_of NotForm = fault 1 "NotForm" []
text_of FormType = fault 2 "FormType" []
text_of (Overrun place) = fault 3 "Overrun" (place ∷ [])
text_of Version = fault 4 "Version" []
text_of PropMissing = fault 5 "PropMissing" []
text_of PropTwice = fault 6 "PropTwice" []
text_of PropType = fault 7 "PropType" []
text_of PropTooLong = fault 8 "PropTooLong" []
text_of Rate = fault 9 "Rate" []
text_of Channels = fault 10 "Channels" []
text_of Compression = fault 11 "Compression" []
text_of SoundMissing = fault 12 "SoundMissing" []
text_of SoundTwice = fault 13 "SoundTwice" []
text_of SoundUneven = fault 14 "SoundUneven" []
text_of FrameRate = fault 15 "FrameRate" []
text_of (CountDiffers count found) = fault 16 "CountDiffers" (count ∷ found ∷ [])
text_of (FrameTooLong frame length) = fault 17 "FrameTooLong" (frame ∷ length ∷ [])
text_of TooManyFrames = fault 18 "TooManyFrames" []
text_of TooManyChunks = fault 19 "TooManyChunks" []
text_of NotPlain = fault 20 "NotPlain" []
text_of KeptBad = fault 21 "KeptBad" []
text_of (Range asked frames) = fault 22 "Range" (asked ∷ frames ∷ [])
text_of IndexMissing = fault 23 "IndexMissing" []
text_of (IndexBad entry) = fault 24 "IndexBad" (entry ∷ [])
text_of FormTooLarge = fault 25 "FormTooLarge" []
text_of (CodedChunk place) = fault 26 "CodedChunk" (place ∷ [])
text_of NotCoded = fault 27 "NotCoded" []
text_of (TailTooLong length) = fault 28 "TailTooLong" (length ∷ [])
text_of DsfForm = fault 29 "DsfForm" []
text_of DsfFormat = fault 30 "DsfFormat" []
text_of (DsfCount samples size) = fault 31 "DsfCount" (samples ∷ size ∷ [])
text_of DsfKeptBad = fault 32 "DsfKeptBad" []
text_of (RangePast end groups) = fault 33 "RangePast" (end ∷ groups ∷ [])
