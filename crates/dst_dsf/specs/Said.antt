-- What a coded form says of a DSF file.
use Rattle.std.specs.Prelude.{◌≡◌, ℕ, ◌*◌, Bool, true, not, ◌||◌, ◌==◌, List}
use Rattle.dsdiff_spec.specs.Bytes.{number_at}
use Rattle.dsdiff_spec.specs.Dsf.{Dsf, dsf_said, dsf_in, octets}
use Rattle.dsdiff_spec.specs.Form.{Form, size_of_sound}
use Rattle.dsdiff_chunks.specs.declared.form.CodedForm.{CodedForm}
use Rattle.dsdiff_chunks.specs.Forms.{coded_seen}
use Rattle.dsf_files.specs.declared.form.DsfForm.{DsfForm}
use Rattle.dsf_files.specs.Forms.{dsf_seen, is_order}
use Rattle.dst_commands.specs.Opened.{IsWalked}
use Rattle.dst_commands.specs.declared.opened.WalkedForm.{WalkedForm}

-- the body of `DSFK`: what it says, and whether it is one that no encoder writes for this form
abbrev pub said_in : Form → List ℕ → Dsf
said_in form body = dsf_said form (number_at body 1 8) (number_at body 9 4) (number_at body 13 1)

abbrev pub is_bad_body : Form → List ℕ → Bool
is_bad_body form body =
    not (number_at body 0 1 == 1) || not ((said_in form body).bits == 1 || (said_in form body).bits == 8)
    || not (octets (said_in form body) * (said_in form body).channels == size_of_sound form)

-- the DSF file has the form's channels and its sound, in one of the two orders of bits
pub record IsSaid (form : CodedForm) (said : DsfForm) : Type 0 where
  pub same : said.channels ≡ form.channels
  pub order : is_order said.bits ≡ true
  pub whole : size_of_sound (coded_seen form) ≡ octets (dsf_seen said) * said.channels.channels

-- a form of a file, the places of its frames, and the DSF file
pub record IsSaidIn (file : List ℕ) (walked : WalkedForm) (said : DsfForm) : Type 0 where
  pub walk : IsWalked file walked
  pub said_is : dsf_in file (coded_seen walked.form) ≡ dsf_seen said
