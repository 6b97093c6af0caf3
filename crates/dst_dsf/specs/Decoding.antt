-- Decoding a coded file to a DSF file: what opening leaves, and how it ends.
use Rattle.std.specs.Prelude.{◌≡◌, ℕ, ◌*◌, ◌≤◌, List, [], ◌∷◌, length, Option, None, Result, Ok, Err}
use Rattle.dst_streams.specs.Told.{and_then, IsCutShort}
use Rattle.dsdiff_spec.specs.Dsf.{Dsf, dsf_in, octets}
use Rattle.dsdiff_spec.specs.Form.{Form, size_of_sound}
use Rattle.dsdiff_spec.specs.Rules.{accepted}
use Rattle.dsdiff_spec.specs.Words.{decode_dsf}
use Rattle.dsdiff_spec.specs.Refusal.{refusal}
use Rattle.dsdiff_spec.specs.Lines.{decoded_line}
use Rattle.dsdiff_spec.specs.Outcome.{Answer, done, frame_refused}
use Rattle.dst_commands.specs.Commands.{OutcomeOf}
use Rattle.dst_commands.specs.Writing.{Lacks}
use Rattle.dst_read.specs.declared.faults.DecodeFault.{DecodeFault}
use Rattle.dst_read.specs.declared.faults.DecodeFault.TheVariants.{Write, Frame}
use Rattle.dst_read.specs.declared.faults.Decoded.{Decoded}

-- the file is accepted for it, with this form, and this DSF file comes of it
pub record IsFor (file : List ℕ) (form : Form) (d : Dsf) : Type 0 where
  pub accepts : refusal decode_dsf file ≡ None
  pub form_is : accepted file ≡ form
  pub said_is : dsf_in file form ≡ d
  pub channels : d.channels ≡ form.channels
  pub some : 1 ≤ d.channels
  pub whole : size_of_sound form ≡ octets d * d.channels

-- the same, but for the count of channels
pub record IsOpenedAs (file : List ℕ) (form : Form) (d : Dsf) : Type 0 where
  pub accepts : refusal decode_dsf file ≡ None
  pub form_is : accepted file ≡ form
  pub said_is : dsf_in file form ≡ d

-- a prefix of what the outcome writes is added
abbrev pub IsStoppedShort : List ℕ → (old new : Option (List ℕ)) → Type 0
IsStoppedShort file old new = (o : Answer) × OutcomeOf decode_dsf file o × IsCutShort old o.out new

abbrev pub LacksRoomForOutcome : List ℕ → Option ℕ → Type 0
LacksRoomForOutcome file room = (o : Answer) → OutcomeOf decode_dsf file o → Lacks room (length o.out)

abbrev pub DecodingEnds : Result Decoded DecodeFault → List ℕ → (old new : Option (List ℕ)) → Option ℕ → Type 0
DecodingEnds (Ok s) file old new room = (out : List ℕ) × OutcomeOf decode_dsf file (done out (decoded_line s.frames s.bytes ∷ [])) × (new ≡ and_then old out)
DecodingEnds (Err (Frame k fault)) file old new room = (out : List ℕ) × OutcomeOf decode_dsf file (frame_refused k fault out) × (new ≡ and_then old out)
DecodingEnds (Err Write) file old new room = IsStoppedShort file old new × LacksRoomForOutcome file room
DecodingEnds (Err fault) file old new room = IsStoppedShort file old new
