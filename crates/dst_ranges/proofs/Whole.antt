-- How the whole output of an opened file ends.
use Rattle.std.proofs.Common.{◌≡◌, ℕ, ◌+◌, ◌*◌, ◌^◌, ◌<◌, ◌≤◌, List, [], ◌∷◌, map, Option, Some, Ok, Err, refl, sym, ap, ap₂, subst, ◌∙◌, arith}
use Rattle.std.specs.Prelude.{sum}
use Rattle.std.specs.List.{AllByRecursion}
use Rattle.dst_spec.specs.Bits.{AreBytes}
use Rattle.dst_spec.specs.Means.{Means}
use Rattle.dst_spec.specs.Sample.{Shape, IsShape, sound_bytes}
use Rattle.dsdiff_spec.specs.Form.{sound_bytes_of}
use Rattle.dsdiff_spec.specs.Ranges.{Want, wants, decoded_of}
use Rattle.dsdiff_spec.specs.Rules.{accepted}
use Rattle.dsdiff_spec.specs.Walk.{Entry, entry}
use Rattle.dsdiff_spec.proofs.OneSound.{one_sound}
use Rattle.dst_commands.specs.Writing.{Adds}
use Rattle.frame_cache.specs.Reader.{Reader, HoldsSounds, frame_in, order, stored_bytes}
use Rattle.frame_cache.specs.Slots.{HeldSound, frames_in}
use Rattle.dst_read.specs.declared.faults.DecodeFault.{DecodeFault}
use Rattle.dst_ranges.specs.Asked.{groups_asked, bytes_read}
use Rattle.dst_ranges.specs.Ending.{RangeEnds}
use Rattle.dst_ranges.specs.Opened.{IsReady, IsOpened}
use Rattle.dst_ranges.specs.Parts.{Part, parts_of, frames_wanted, bytes_of}
use Rattle.dst_ranges.specs.Reading.{AreRead, StopsIn, Stopped, Wrote}
use Rattle.dst_ranges.specs.declared.opened.OpenedParts.{OpenedParts}
use Rattle.dst_ranges.specs.declared.range.RangeWritten.{RangeWritten}
use Rattle.dst_ranges.proofs.Asking.{want_of, wants_are}
use Rattle.dst_ranges.proofs.Outcomes.{IsAskedOf, all_written, ends_stopped}
use Rattle.dst_ranges.proofs.Wants.{all_parts}

-- ---- what is opened, in the words of the definitions
asked_of : (pairs : List (ℕ × ℕ)) (file : List ℕ) (o : OpenedParts) → AreBytes file → IsReady pairs o → IsOpened pairs file o → IsAskedOf pairs file
asked_of pairs file o bytes ready is = record {
  accepts = is.accepts;
  bytes = bytes;
  lawful = subst IsShape (sym is.reader_is.shape_is) ready.lawful;
  some = subst (λ (f : Shape). 0 < sound_bytes f) (sym is.reader_is.shape_is) ready.some;
}

-- the parts that are wanted of the reader
abbrev pub its_parts : List (ℕ × ℕ) → OpenedParts → List Part
its_parts pairs o = parts_of (sound_bytes o.reader.shape) o.channels.channels pairs

parts_same : (pairs : List (ℕ × ℕ)) (file : List ℕ) (o : OpenedParts) → IsReady pairs o → IsOpened pairs file o →
    its_parts pairs o ≡ all_parts (accepted file) pairs
parts_same pairs file o ready is =
    let bytes : sound_bytes o.reader.shape ≡ sound_bytes_of (accepted file) = ap sound_bytes (sym is.reader_is.shape_is) in
    let channels : o.channels.channels ≡ (accepted file).channels = ap (λ (f : Shape). f.channels) (ready.shape_is ∙ sym is.reader_is.shape_is) in
    ap₂ {A = ℕ} {B = ℕ} (λ n c. parts_of n c pairs) bytes channels

holds_none : (pairs : List (ℕ × ℕ)) (file : List ℕ) (o : OpenedParts) → IsReady pairs o → HoldsSounds file o.reader
holds_none pairs file o ready =
    subst (λ (ks : List HeldSound). AllByRecursion (λ x. Means o.reader.shape (frame_in file o.reader x.frame) x.sound) ks) (sym ready.held_is) tt

-- ---- all is written
pub ends_done : (pairs : List (ℕ × ℕ)) (file : List ℕ) (o : OpenedParts) (r' : Reader) (s : RangeWritten) (bytes : Option (List ℕ)) (given given' : ℕ)
    (old mid new : Option (List ℕ)) (room left : Option ℕ) →
    AreBytes file → IsReady pairs o → IsOpened pairs file o → bytes ≡ Some file → s.bytes ≡ groups_asked pairs * o.channels.channels →
    Wrote o.reader r' (its_parts pairs o) bytes given given' old mid room left → new ≡ mid → RangeEnds (Ok s) pairs file old new room
ends_done pairs file o r' s bytes given given' old mid new room left are ready is told count w same =
    let form = accepted file in
    let a = asked_of pairs file o are ready is in
    let one = one_sound file form are a.lawful in
    let added = w.added file form one.0 told (holds_none pairs file o ready) is.reader_is one.1 in
    let whole = parts_same pairs file o ready is in
    let channels : o.channels.channels ≡ form.channels = ap (λ (f : Shape). f.channels) (ready.shape_is ∙ sym is.reader_is.shape_is) in
    let ends = all_written pairs file one.0 s.bytes old mid room left a one.1 (count ∙ ap (λ c. groups_asked pairs * c) channels)
    (subst (AreRead file form one.0) whole added.0)
    (subst (λ ps. Adds (bytes_of one.0 ps) old mid room left) whole added.1) in
    (ends.0, ends.1, same ∙ ends.2)

-- ---- it stops
pub ends_short : (fault : DecodeFault) (pairs : List (ℕ × ℕ)) (file : List ℕ) (o : OpenedParts) (bytes : Option (List ℕ)) (old new : Option (List ℕ))
    (room : Option ℕ) →
    AreBytes file → IsReady pairs o → IsOpened pairs file o → bytes ≡ Some file → Stopped o.reader (its_parts pairs o) fault bytes old new room →
    RangeEnds (Err fault) pairs file old new room
ends_short fault pairs file o bytes old new room are ready is told stopped =
    ends_stopped fault pairs file old new room (asked_of pairs file o are ready is) (λ sound whole.
    subst (λ ps. StopsIn fault file (accepted file) sound ps old new room) (parts_same pairs file o ready is)
    (stopped file (accepted file) sound told (holds_none pairs file o ready) is.reader_is whole))

-- ---- what the source gives
frames_of_wants : (ps : List Part) → frames_wanted ps ≡ map (λ (w : Want). w.frame) (map want_of ps)
frames_of_wants [] = refl
frames_of_wants (p ∷ ps) = ap (λ ks. p.frame ∷ ks) (frames_of_wants ps)

pub given_most : (pairs : List (ℕ × ℕ)) (file : List ℕ) (o : OpenedParts) (r' : Reader) (bytes : Option (List ℕ)) (given given' : ℕ)
    (old new : Option (List ℕ)) (room left : Option ℕ) →
    IsReady pairs o → IsOpened pairs file o → given < 2 ^ 64 → Wrote o.reader r' (its_parts pairs o) bytes given given' old new room left →
    given' ≤ given + bytes_read file (accepted file) pairs
given_most pairs file o r' bytes given given' old new room left ready is small w =
    let form = accepted file in
    let r = o.reader in
    let frames : frames_wanted (its_parts pairs o) ≡ map (λ (w : Want). w.frame) (wants form pairs) =
    ap frames_wanted (parts_same pairs file o ready is) ∙ frames_of_wants (all_parts form pairs) ∙ ap (map (λ (w : Want). w.frame)) (wants_are form pairs) in
    let held : order r ≡ [] = ap frames_in ready.held_is in
    let decoded : decoded_of (order r) (frames_wanted (its_parts pairs o)) r.capacity ≡ decoded_of [] (map (λ (w : Want). w.frame) (wants form pairs)) 16 =
    ap (λ l. decoded_of l (frames_wanted (its_parts pairs o)) r.capacity) held
    ∙ ap (λ l. decoded_of [] l r.capacity) frames ∙ ap (decoded_of [] (map (λ (w : Want). w.frame) (wants form pairs))) ready.capacity_is in
    let stored : stored_bytes r (decoded_of (order r) (frames_wanted (its_parts pairs o)) r.capacity) ≡ bytes_read file form pairs =
    ap (stored_bytes r) decoded
    ∙ ap (λ (es : List Entry). sum (map (λ k. (entry es k).size) (decoded_of [] (map (λ (w : Want). w.frame) (wants form pairs)) 16)))
    (sym is.reader_is.entries_are) in
    let more = w.wanted.given_is small in
    omega (arith, more, stored)
