-- What the forms of this crate are in the definitions of files.
use Rattle.std.specs.Prelude.{ℕ}
use Rattle.dsdiff_spec.specs.Form as files
use Rattle.dsdiff_chunks.specs.declared.form.PlainForm.{PlainForm}
use Rattle.dsdiff_chunks.specs.declared.form.CodedForm.{CodedForm}
use Rattle.dsdiff_chunks.specs.declared.form.Form.{Form}
use Rattle.dsdiff_chunks.specs.declared.form.Form.TheVariants.{Plain, Coded}
use Rattle.dsdiff_chunks.specs.Seen.{form_of_plain, form_of_coded}

abbrev pub plain_seen : PlainForm → files.Form
plain_seen f = form_of_plain f.channels f.end f.heads f.prop f.sound f.frames f.pad f.behind

abbrev pub coded_seen : CodedForm → files.Form
coded_seen f = form_of_coded f.channels f.end f.heads f.prop f.sound f.frames f.origin

abbrev pub form_seen : Form → files.Form
form_seen (Plain f) = plain_seen f
form_seen (Coded f) = coded_seen f

-- the place behind it
abbrev pub end_of : Form → ℕ
end_of (Plain f) = f.end
end_of (Coded f) = f.end
