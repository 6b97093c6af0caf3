-- Cutting: what is opened, and how the whole file ends.
use Rattle.std.specs.Prelude.{◌≡◌, ℕ, List, Option, Result, Ok, Err}
use Rattle.dst_streams.specs.Causes.{Rose}
use Rattle.dst_streams.specs.Told.{and_then}
use Rattle.dsdiff_spec.specs.Rules.{accepted}
use Rattle.dsdiff_spec.specs.Walk.{entries}
use Rattle.dsdiff_spec.specs.Cut as cutting
use Rattle.dsdiff_chunks.specs.Forms.{coded_seen}
use Rattle.dsdiff_chunks.specs.declared.copy.CopyFault.{CopyFault}
use Rattle.dsdiff_chunks.specs.declared.copy.CopyFault.TheVariants as copying
use Rattle.dsdiff_chunks.specs.declared.open.OpenFault.TheVariants.{Read}
use Rattle.dst_commands.specs.Writing.{Stops}
use Rattle.dst_cut.specs.CutLayout.{count}
use Rattle.dst_cut.specs.declared.cut.Cut.{Cut}
use Rattle.dst_cut.specs.declared.cut.CutFault.{CutFault}
use Rattle.dst_cut.specs.declared.cut.CutFault.TheVariants.{Source, Write}
use Rattle.dst_cut.specs.declared.cut_form.CutForm.{CutForm}

-- a coded form of a file, the places of its frames, and which of them are cut out
pub record IsCutForm (first last : ℕ) (file : List ℕ) (c : CutForm) : Type 0 where
  pub form_is : accepted file ≡ coded_seen c.form
  pub entries_are : entries file (coded_seen c.form) ≡ c.index
  pub first_is : c.first ≡ first
  pub last_is : c.last ≡ last

-- while a file is written a device may fail
abbrev pub HasItsCause : CutFault → (source_before source_now sink_before sink_now : ℕ) → Type 0
HasItsCause (Source Read) source_before source_now sink_before sink_now = Rose source_before source_now
HasItsCause (Source fault) source_before source_now sink_before sink_now = ⊥
HasItsCause Write source_before source_now sink_before sink_now = Rose sink_before sink_now

-- the fault at which a device failed
abbrev pub of_device : CopyFault → CutFault
of_device copying.Read = Source Read
of_device copying.Write = Write

-- what is written of these frames, or a prefix of it
abbrev pub cut_bytes : List ℕ → CutForm → List ℕ
cut_bytes file c = cutting.cut file (coded_seen c.form) c.first c.last

abbrev pub CutEnds : Result Cut CutFault → List ℕ → CutForm → (old new : Option (List ℕ)) → Option ℕ → Type 0
CutEnds (Ok done) file c old new room = (done.frames ≡ count c.first c.last) × (new ≡ and_then old (cut_bytes file c))
CutEnds (Err fault) file c old new room = Stops (fault ≡ Write) (cut_bytes file c) old new room
