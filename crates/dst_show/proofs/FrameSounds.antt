-- Outcomes of the command that writes one frame's sound.
use Rattle.std.proofs.Common.{◌≡◌, ℕ, ◌+◌, ◌≤◌, Bool, true, false, List, [], ◌∷◌, ◌++◌, length, take, drop, Option, Some, None, refl, ap, sym, subst}
use Rattle.std.proofs.Common.{◌∙◌, arith}
use Rattle.dst_spec.specs.Bits.{AreBytes}
use Rattle.dst_spec.specs.Sample.{Shape, IsShape}
use Rattle.dst_spec.specs.Means.{MeansWithTail}
use Rattle.dst_spec.specs.Offends.{Offends}
use Rattle.dst_spec.specs.declared.faults.FrameFault.{FrameFault}
use Rattle.dst_spec.proofs.Unique.{tail_law}
use Rattle.dsdiff_spec.specs.Bytes.{bytes_at}
use Rattle.dsdiff_spec.specs.Form.{Form, shape, shape_of}
use Rattle.dsdiff_spec.specs.Parts.{channel_count}
use Rattle.dsdiff_spec.specs.Walk.{frame_at}
use Rattle.dsdiff_spec.specs.Words.{Command, frame}
use Rattle.dsdiff_spec.specs.Refusal.{refusal}
use Rattle.dsdiff_spec.specs.Lines.{Line, frame_line}
use Rattle.dsdiff_spec.specs.Outcome.{Answer, done, frame_refused, IsStopped, IsDone}
use Rattle.dsdiff_spec.proofs.CodedFiles.{longest_sound_of_frame}
use Rattle.dsdiff_spec.proofs.Lawful.{prop_has_a_shape}
use Rattle.dsdiff_spec.proofs.OneAnswer.{HasOutcome}
use Rattle.dst_commands.specs.Commands.{OutcomeOf}
use Rattle.dst_commands.specs.Opened.{named_entry, IsFound}
use Rattle.frame_index.specs.Entries.{entry_seen}
use Rattle.dst_commands.specs.declared.opened.FoundFrame.{FoundFrame}
use Rattle.dsdiff_chunks.specs.Forms.{coded_seen}
use Rattle.dsdiff_chunks.proofs.LawfulForms.{sound_inside}
use Rattle.dst_read.proofs.Framing.{lent_whole}
use Rattle.dst_show.specs.Frame.{IsSoundOf, HasNoSound, FindsNoSound}
use Rattle.dst_read.specs.declared.faults.DecodeFault.{DecodeFault}
use Rattle.dst_read.specs.declared.faults.DecodeFault.TheVariants.{Source, Write, Frame}
use Rattle.dsdiff_chunks.specs.declared.open.OpenFault.TheVariants.{Read, Memory, File}
use Rattle.dst_commands.specs.Writing.{Stops}
use Rattle.dst_show.proofs.ReportedLines.{done_outcome, stopped_outcome, one_answer}

-- a frame that was found lies before the form's end
pub found_inside : (f : FoundFrame) (n : ℕ) → n ≡ f.entry.size → f.entry.offset + n ≤ f.form.end
found_inside f n long =
    let sound = sound_inside (coded_seen f.form) f.form.lawful in
    omega (arith, f.inside.before, sound, long)

-- and is no longer than the longest of six channels
pub found_at_most : (f : FoundFrame) → f.entry.size ≤ 225794
found_at_most f =
    let form = coded_seen f.form in
    let lawful = f.form.lawful in
    let of_prop = subst (λ m. IsShape (shape_of (channel_count form.prop) m)) (sym lawful.multiple) (prop_has_a_shape 0 form.prop lawful.prop.rules) in
    let most = longest_sound_of_frame (shape form) (subst (λ c. IsShape (shape_of c form.multiple)) (sym lawful.channels) of_prop) in
    omega (arith, most, f.inside.short)

-- it is read where it stands, into a buffer that is lent whole
pub frame_is_read : (file : List ℕ) (f : FoundFrame) (n : ℕ) (stored out lent old : List ℕ) → stored ≡ take n (out ++ drop (length out) old) → length lent ≡ n →
    lent ≡ old → length out ≡ length lent → length old ≡ f.entry.size → out ≡ bytes_at file f.entry.offset (length lent) →
    stored ≡ frame_at file (entry_seen f.entry)
frame_is_read file f n stored out lent old is count same long size read =
    lent_whole n stored out old is (sym count ∙ ap length same) (long ∙ ap length same)
    ∙ read
    ∙ ap (bytes_at file f.entry.offset) (ap length same ∙ size)

-- what decoding says of a frame, without its tail
pub is_sound_of : (f : Shape) (w sound : List ℕ) (tail : ℕ) → IsShape f → MeansWithTail f w sound tail → ((fault : FrameFault) → Offends f w fault → ⊥) →
    IsSoundOf f w sound
is_sound_of f w sound tail lawful h none = record { means = (tail_law f w lawful).2 sound tail h; not_refused = none }

-- ---- the frame that the command names
stops_there : (file : List ℕ) (form : Form) (k : ℕ) (b : Bool) (fault : FrameFault) → Offends (shape form) (frame_at file (named_entry b file form k)) fault →
    IsStopped (frame k b) file form (frame_refused k fault [])
stops_there file form k false fault o =
    record {
      before = [];
      stop = (k, frame_at file (named_entry false file form k));
      behind = [];
      is_run = refl;
      fault = fault;
      refuses = o;
      first = tt;
      out =
          [];
      written = refl;
      answer = refl;
    }
stops_there file form k true fault o =
    record {
      before = [];
      stop = (k, frame_at file (named_entry true file form k));
      behind = [];
      is_run = refl;
      fault = fault;
      refuses = o;
      first = tt;
      out =
          [];
      written = refl;
      answer = refl;
    }

is_done : (file : List ℕ) (form : Form) (k : ℕ) (b : Bool) (sound : List ℕ) → IsSoundOf (shape form) (frame_at file (named_entry b file form k)) sound →
    IsDone (frame k b) file form (done sound (frame_line k (length sound) ∷ []))
is_done file form k false sound s = ((s.not_refused, tt), (sound, s.means, refl))
is_done file form k true sound s = ((s.not_refused, tt), (sound, s.means, refl))

pub sound_is_refused : (file : List ℕ) (found : FoundFrame) (k : ℕ) (b : Bool) (fault : FrameFault) → refusal (frame k b) file ≡ None → IsFound b file k found →
    Offends found.form.channels (frame_at file (entry_seen found.entry)) fault → OutcomeOf (frame k b) file (frame_refused k fault [])
sound_is_refused file found k b fault accepts is o =
    let form = coded_seen found.form in
    let named = subst (λ e. Offends found.form.channels (frame_at file e) fault) (sym is.entry_is) o in
    stopped_outcome (frame k b) file form (frame_refused k fault []) (record { accepts = accepts; form_is = is.form_is })
    (stops_there file form k b fault (subst (λ f. Offends f (frame_at file (named_entry b file form k)) fault) (sym found.form.shape) named))

pub sound_is_written : (file : List ℕ) (found : FoundFrame) (k : ℕ) (b : Bool) (sound : List ℕ) → refusal (frame k b) file ≡ None → IsFound b file k found →
    IsSoundOf found.form.channels (frame_at file (entry_seen found.entry)) sound → OutcomeOf (frame k b) file (done sound (frame_line k (length sound) ∷ []))
sound_is_written file found k b sound accepts is s =
    let form = coded_seen found.form in
    let named = subst (λ e. IsSoundOf found.form.channels (frame_at file e) sound) (sym is.entry_is) s in
    let shaped = subst (λ f. IsSoundOf f (frame_at file (named_entry b file form k)) sound) (sym found.form.shape) named in
    done_outcome (frame k b) file form (done sound (frame_line k (length sound) ∷ [])) (record { accepts = accepts; form_is = is.form_is })
    (is_done file form k b sound shaped)

-- where reading finds no sound, the command finds none
pub finds_no_sound : (found : FoundFrame) (k : ℕ) (b : Bool) (fault : DecodeFault) (bytes opened : Option (List ℕ)) (before mid now : ℕ) →
    opened ≡ bytes → before ≤ mid → ((file : List ℕ) → bytes ≡ Some file → refusal (frame k b) file ≡ None) →
    ((file : List ℕ) → bytes ≡ Some file → IsFound b file k found) → HasNoSound found.form.channels k (entry_seen found.entry) fault opened mid now →
    FindsNoSound (frame k b) bytes before now fault
finds_no_sound found k b (Frame j fault) bytes opened before mid now same later accepts is h = λ file told.
    subst (λ k'. OutcomeOf (frame k b) file (frame_refused k' fault [])) (sym h.0)
    (sound_is_refused file found k b fault (accepts file told) (is file told) (h.1 file (same ∙ told)))
finds_no_sound found k b (Source Read) bytes opened before mid now same later accepts is h = omega (arith, later, h)
finds_no_sound found k b (Source (Memory refused)) bytes opened before mid now same later accepts is h = absurd h
finds_no_sound found k b (Source (File fault)) bytes opened before mid now same later accepts is h = absurd h
finds_no_sound found k b Write bytes opened before mid now same later accepts is h = absurd h

-- ---- a sink that is sure to take the sound doesn't fail
pub sink_is_sure : (c : Command) (file out : List ℕ) (lines : List Line) (old new : Option (List ℕ)) (room : Option ℕ) → HasOutcome c → AreBytes file →
    OutcomeOf c file (done out lines) →
    Stops (Unit {0}) out old new room → (o : Answer) → OutcomeOf c file o → (n : ℕ) → room ≡ Some n → length o.out ≤ n → ⊥
sink_is_sure c file out lines old new room reads bytes is s o other n told fits =
    let long = ap (λ (a : Answer). length a.out) (one_answer c file o (done out lines) reads bytes other is) in
    s.lacks (tt {0}) n told (omega (arith, long, fits))
