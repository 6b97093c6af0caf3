-- Encoding step by step: how the frames end, and how the whole file does.
use Rattle.std.specs.Prelude.{◌≡◌, ℕ, List, map, flat_map, length, Option, Result, Ok, Err}
use Rattle.dst_streams.specs.Causes.{Rose}
use Rattle.dst_streams.specs.Told.{and_then}
use Rattle.dsdiff_spec.specs.Form.{Form}
use Rattle.dsdiff_spec.specs.Coded.{Picks, coded, stored_bytes, stored_frames}
use Rattle.dsdiff_spec.specs.Written.{dstf}
use Rattle.dsdiff_chunks.specs.declared.copy.CopyFault.{CopyFault}
use Rattle.dsdiff_chunks.specs.declared.copy.CopyFault.TheVariants as copying
use Rattle.dsdiff_chunks.specs.declared.open.OpenFault.TheVariants.{Read}
use Rattle.dst_commands.specs.Writing.{Adds, Stops, Lacks}
use Rattle.dst_write.specs.Layout.{unsized}
use Rattle.dst_write.specs.Unfinished.{HoldsNothing, HoldsUnfinished, sound_size_place}
use Rattle.dst_write.specs.declared.faults.Encoded.{Encoded}
use Rattle.dst_write.specs.declared.faults.EncodeFault.{EncodeFault}
use Rattle.dst_write.specs.declared.faults.EncodeFault.TheVariants.{Source, Write}

-- all frames are written in order, and their sizes noted; or a prefix of them is there
abbrev pub FramesEnd : Result (Unit {0}) EncodeFault → (frames : List (List ℕ)) → (sizes : List ℕ) → (old new : Option (List ℕ)) → (room left : Option ℕ) →
    Type 0
FramesEnd (Ok u) frames sizes old new room left = Adds (flat_map dstf frames) old new room left × (sizes ≡ map length frames)
FramesEnd (Err fault) frames sizes old new room left = Stops (fault ≡ Write) (flat_map dstf frames) old new room

-- while a file is written a device may fail
abbrev pub HasItsCause : EncodeFault → (source_before source_now sink_before sink_now : ℕ) → Type 0
HasItsCause (Source Read) source_before source_now sink_before sink_now = Rose source_before source_now
HasItsCause (Source fault) source_before source_now sink_before sink_now = ⊥
HasItsCause Write source_before source_now sink_before sink_now = Rose sink_before sink_now

-- the fault at which a device failed
abbrev pub of_device : CopyFault → EncodeFault
of_device copying.Read = Source Read
of_device copying.Write = Write

-- the coded file is written whole, into a sink that held nothing; or it isn't finished
pub record IsEncoded (e : Encoded) (picks : Picks) (file : List ℕ) (form : Form) (old new : Option (List ℕ)) : Type 0 where
  pub bytes : e.bytes ≡ stored_bytes picks file form
  pub written : HoldsNothing old → new ≡ and_then old (coded picks file form)

pub record IsStopped (sink_is_at_fault : Type 0) (out : List ℕ) (place : ℕ) (old new : Option (List ℕ)) (room : Option ℕ) : Type 0 where
  pub unfinished : HoldsNothing old → HoldsUnfinished place out new
  pub lacks : sink_is_at_fault → Lacks room (length out)

-- all of it is written with 0 for the two sizes, and the sizes of its stored frames are noted; or it isn't finished
abbrev pub UnsizedEnds : Result (Unit {0}) EncodeFault → Picks → List ℕ → Form → (sizes : List ℕ) → (old new : Option (List ℕ)) →
    (room left : Option ℕ) → Type 0
UnsizedEnds (Ok u) picks file form sizes old new room left =
    Adds (unsized (stored_frames picks file form) file form) old new room left × (sizes ≡ map length (stored_frames picks file form))
UnsizedEnds (Err fault) picks file form sizes old new room left =
    IsStopped (fault ≡ Write) (coded picks file form) (sound_size_place file form) old new room

abbrev pub EncodingEnds : Result Encoded EncodeFault → Picks → List ℕ → Form → (old new : Option (List ℕ)) → Option ℕ → Type 0
EncodingEnds (Ok e) picks file form old new room = IsEncoded e picks file form old new
EncodingEnds (Err fault) picks file form old new room =
    IsStopped (fault ≡ Write) (coded picks file form) (sound_size_place file form) old new room
