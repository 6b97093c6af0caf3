-- Chunks that are passed on from one form to another, one by one.
use Rattle.std.specs.Prelude.{◌≡◌, ℕ, ◌-◌, ◌≤◌, min, Bool, true, not, ◌&&◌, ◌||◌, if◌then◌else◌, List, length, map, Option, Some, None}
use Rattle.std.specs.List.{concat}
use Rattle.std.specs.Option.{option_copied}
use Rattle.dst_streams.specs.Causes.{Rose}
use Rattle.dsdiff_spec.specs.Bytes.{◌is◌, ◌below◌, ◌above◌}
use Rattle.dsdiff_spec.specs.Chunks.{Head, next_place}
use Rattle.dsdiff_spec.specs.Form.{Form, whole_chunk}
use Rattle.dsdiff_spec.specs.Origin.{is_one_chunk}
use Rattle.dsdiff_spec.specs.Written.{prop_with, before_sound, behind_sound}
use Rattle.dsdiff_chunks.specs.Forms.{plain_seen, coded_seen}
use Rattle.dsdiff_chunks.specs.declared.copy.CopyFault.{CopyFault}
use Rattle.dsdiff_chunks.specs.declared.copy.CopyFault.TheVariants.{Read, Write}
use Rattle.dst_commands.specs.declared.chunks.FormRef.{FormRef}
use Rattle.dst_commands.specs.declared.chunks.FormRef.TheVariants.{Plain, Coded}
use Rattle.dst_commands.specs.declared.chunks.Passed.{Passed}
use Rattle.dst_commands.specs.declared.chunks.Side.{Side}
use Rattle.dst_commands.specs.declared.chunks.Side.TheVariants.{Before, Behind}

-- the form that is lent
abbrev pub ref_seen : FormRef → Form
ref_seen (Plain f) = plain_seen f.now
ref_seen (Coded f) = coded_seen f.now

abbrev pub stands_on : Side → Form → Head → Bool
stands_on Before form h = h.place below form.sound.place
stands_on Behind form h = h.place above form.sound.place

-- whether a chunk is passed on
abbrev pub goes : Side → Form → Head → Bool
goes side form h = stands_on side form h && not (h.id is "DSTI" || h.id is "KEPT")

-- what is written of it: byte for byte, or with another `CMPR` in `PROP`
abbrev pub passed_chunk : Option (List ℕ) → List ℕ → Form → Head → List ℕ
passed_chunk None file form h = whole_chunk file form h
passed_chunk (Some cmpr) file form h = if h.id is "PROP" then prop_with form.prop cmpr else whole_chunk file form h

-- the `CMPR` that a chunk gets: none unless it is `PROP`
abbrev pub cmpr_for : Option (List ℕ) → Head → Option (List ℕ)
cmpr_for cmpr h = if h.id is "PROP" then cmpr else None

-- the other one is a chunk that has room there
pub record IsCmpr (cmpr : List ℕ) : Type 0 where
  pub one : is_one_chunk "CMPR" cmpr ≡ true
  pub most : length cmpr ≤ 65536

abbrev pub IsCmprIfAny : Option (List ℕ) → Type 0
IsCmprIfAny None = Unit {0}
IsCmprIfAny (Some cmpr) = IsCmpr cmpr

-- the place behind it
abbrev pub whole_end : Form → Head → ℕ
whole_end form h = min (next_place h) form.end

-- the bytes of a form on one side of its sound: behind the form's type, and behind the sound's pad byte
abbrev pub bytes_on : Side → Form → ℕ
bytes_on Before form = form.sound.place - 16
bytes_on Behind form = form.end - next_place form.sound

-- the device that failed
abbrev pub FailedBy : CopyFault → (source_before source_now sink_before sink_now : ℕ) → Type 0
FailedBy Read source_before source_now sink_before sink_now = Rose source_before source_now
FailedBy Write source_before source_now sink_before sink_now = Rose sink_before sink_now

-- what is written of the chunks on one side of the sound
abbrev pub chunks_on : Side → Option (List ℕ) → List ℕ → Form → List ℕ
chunks_on Before cmpr file form = concat (map (passed_chunk cmpr file form) (before_sound form))
chunks_on Behind cmpr file form = concat (map (passed_chunk cmpr file form) (behind_sound form))

-- ---- in the words of the calls
abbrev pub form_of : Passed → Form
form_of p = ref_seen p.form

abbrev pub cmpr_of : Passed → Option (List ℕ)
cmpr_of p = option_copied p.cmpr

abbrev pub bytes_of : List ℕ → Passed → Head → List ℕ
bytes_of file p h = passed_chunk (cmpr_of p) file (form_of p) h

abbrev pub all_of : Side → List ℕ → Passed → List ℕ
all_of side file p = chunks_on side (cmpr_of p) file (form_of p)
