-- Frames that are decoded one after the other, and the one at which it stops.
use Rattle.std.proofs.Common.{◌≡◌, ℕ, zero, suc, ◌+◌, ◌-◌, ◌*◌, ◌<◌, ◌≤◌, List, [], ◌∷◌, ◌++◌, length, take, drop, get_or, Option, refl, ap, sym, subst, ◌∙◌}
use Rattle.std.proofs.Common.{arith}
use Rattle.std.proofs.lemmas.List.{length-map, drop_all, take_all, append-nil}
use Rattle.dst_spec.specs.Sample.{Shape, IsShape}
use Rattle.dst_spec.specs.Means.{Means}
use Rattle.dst_spec.proofs.Unique.{tail_law}
use Rattle.dst_spec.specs.Offends.{Offends}
use Rattle.dst_spec.specs.declared.faults.FrameFault.{FrameFault}
use Rattle.dsdiff_spec.specs.Form.{Form, shape, sound_bytes_of, size_of_sound}
use Rattle.dsdiff_spec.specs.Walk.{Entry, entry, entries, frame_at}
use Rattle.dsdiff_spec.specs.Decoded.{frames_of}
use Rattle.dsdiff_spec.specs.Progress.{AreDecoded}
use Rattle.dsdiff_spec.proofs.Progress.{none_decoded_yet, one_more_decoded, frame_of_entry, sound_of_frame}
use Rattle.dst_read.specs.Jobs.{IsHeard}
use Rattle.dst_read.specs.Decoding.{IsOpened, StopsAt, sound_of}
use Rattle.dst_commands.specs.Writing.{Adds, Stops}
use Rattle.dsdiff_chunks.specs.Lawful.{IsLawful}
use Rattle.frame_index.specs.Fitting.{IsIndexOf}
use Rattle.dsdiff_chunks.proofs.LawfulForms.{sound_inside}
use Rattle.dst_commands.proofs.Writing.{adds_nothing, adds_same, adds_then, stops_same, stops_for, stops_then}

-- ---- one frame: it means a sound and isn't refused
pub record IsUnderstood (f : Shape) (frame sound : List ℕ) : Type 0 where
  pub means : Means f frame sound
  pub not_refused : (fault : FrameFault) → Offends f frame fault → ⊥

pub is_understood : (f : Shape) (frame sound : List ℕ) (tail : ℕ) → IsShape f → IsHeard f frame sound tail → IsUnderstood f frame sound
is_understood f frame sound tail lawful h = record { means = (tail_law f frame lawful).2 sound tail h.means; not_refused = h.not_refused }

-- frame k is the one that the index names
pub count_is : (file : List ℕ) (form : Form) (index : List Entry) → IsOpened file form index → length (frames_of file form) ≡ length index
count_is file form index o = length-map (entries file form) (frame_at file) ∙ ap length o.entries_are

pub named_frame : (file : List ℕ) (form : Form) (index : List Entry) (k : ℕ) → IsOpened file form index → k < length index →
    frame_at file (entry index k) ≡ get_or (frames_of file form) k []
named_frame file form index k o l =
    let count = count_is file form index o in
    ap (λ es. frame_at file (entry es k)) (sym o.entries_are) ∙ frame_of_entry file form k (omega (arith, count))

-- so many frames are decoded and their sounds written
pub record AreWritten (file : List ℕ) (form : Form) (k : ℕ) (sounds : List (List ℕ)) (old now : Option (List ℕ)) (room left : Option ℕ) : Type 0 where
  pub decoded : AreDecoded file form k sounds
  pub adds : Adds (sound_of form sounds) old now room left

-- one more is understood
pub one_more : (file : List ℕ) (form : Form) (index : List Entry) (k : ℕ) (sounds : List (List ℕ)) (sound : List ℕ) → IsOpened file form index →
    k < length index →
    AreDecoded file form k sounds → IsUnderstood (shape form) (frame_at file (entry index k)) sound → AreDecoded file form (k + 1) (sounds ++ sound ∷ [])
one_more file form index k sounds sound o l h u =
    let count = count_is file form index o in
    let here = subst (λ frame. IsUnderstood (shape form) frame sound) (named_frame file form index k o l) u in
    one_more_decoded file form k sounds sound h (omega (arith, count)) here.means here.not_refused

-- and its part of the sound
part_of_sound : (file : List ℕ) (form : Form) (index : List Entry) (k n : ℕ) (sounds : List (List ℕ)) (sound : List ℕ) → IsOpened file form index →
    k < length index → n ≡ size_of_sound form - k * sound_bytes_of form →
    AreDecoded file form k sounds → sound_of form sounds ++ take n sound ≡ sound_of form (sounds ++ sound ∷ [])
part_of_sound file form index k n sounds sound o l is h =
    let count = count_is file form index o in
    ap (λ n. sound_of form sounds ++ take n sound) is ∙ sym (sound_of_frame file form k sounds sound h (omega (arith, count)))

pub next_frame : (file : List ℕ) (form : Form) (index : List Entry) (k n : ℕ) (sounds : List (List ℕ)) (sound : List ℕ) (old mid new : Option (List ℕ))
    (room half left : Option ℕ) →
    IsOpened file form index → k < length index → n ≡ size_of_sound form - k * sound_bytes_of form → AreWritten file form k sounds old mid room half →
    IsUnderstood (shape form) (frame_at file (entry index k)) sound → Adds (take n sound) mid new half left →
    AreWritten file form (k + 1) (sounds ++ sound ∷ []) old new room left
next_frame file form index k n sounds sound old mid new room half left o l size before u part = record {
  decoded = one_more file form index k sounds sound o l before.decoded u;
  adds = adds_same (sound_of form sounds ++ take n sound) (sound_of form (sounds ++ sound ∷ [])) old new room left
      (part_of_sound file form index k n sounds sound o l size before.decoded)
      (adds_then (sound_of form sounds) (take n sound) old mid new room half left before.adds part);
}

pub none_written : (file : List ℕ) (form : Form) (told : Option (List ℕ)) (room : Option ℕ) → AreWritten file form 0 [] told told room room
none_written file form told room = record {
  decoded = none_decoded_yet file form;
  adds =
      adds_same [] (sound_of form []) told told room room (sym (nothing (size_of_sound form))) (adds_nothing told room);
}
  where
    nothing : (n : ℕ) → take {A = ℕ} n [] ≡ []
    nothing zero = refl
    nothing (suc n) = refl

-- where a frame stands
pub entry_inside : (form : Form) (index : List Entry) (k : ℕ) → IsLawful form → IsIndexOf form index → k < length index →
    (entry index k).offset + (entry index k).size ≤ form.end
entry_inside form index k lawful places l =
    let inside = places.inside k l in
    let sound = sound_inside form lawful in
    omega (arith, inside.before, sound)

-- ---- it stops at frame k: the frame is refused, or the sink fails at its sound
pub refused_at : (file : List ℕ) (form : Form) (index : List Entry) (k : ℕ) (fault : FrameFault) (sounds : List (List ℕ)) → IsOpened file form index →
    k < length index → length index ≡ form.frames →
    AreDecoded file form k sounds → Offends (shape form) (frame_at file (entry index k)) fault → StopsAt file form k fault sounds
refused_at file form index k fault sounds o l count h r =
    record { before = h; within = omega (arith, l, count); refuses = subst (λ frame. Offends (shape form) frame fault) (named_frame file form index k o l) r }

pub stops_at_sound : (P : Type 0) (file : List ℕ) (form : Form) (index : List Entry) (k n : ℕ) (sounds : List (List ℕ)) (sound : List ℕ)
    (old mid new : Option (List ℕ)) (room half : Option ℕ) →
    IsOpened file form index → k < length index → n ≡ size_of_sound form - k * sound_bytes_of form → AreWritten file form k sounds old mid room half →
    Stops (Unit {0}) (take n sound) mid new half →
    Stops P (sound_of form (sounds ++ sound ∷ [])) old new room
stops_at_sound P file form index k n sounds sound old mid new room half o l size before stops =
    stops_same P (sound_of form sounds ++ take n sound) (sound_of form (sounds ++ sound ∷ [])) old new room
    (part_of_sound file form index k n sounds sound o l size before.decoded)
    (stops_then P (sound_of form sounds) (take n sound) old mid new room half before.adds
    (stops_for (Unit {0}) P (take n sound) mid new half (λ e. tt {0}) stops))

-- a buffer that was lent whole is the one that came back
pub lent_whole : (n : ℕ) (xs new old : List ℕ) → xs ≡ take n (new ++ drop (length new) old) → n ≡ length old → length new ≡ length old → xs ≡ new
lent_whole n xs new old is count same =
    let rest : drop (length new) old ≡ [] = ap (λ m. drop m old) same ∙ drop_all (length old) old (omega arith) in
    is ∙ ap (λ ys. take n (new ++ ys)) rest ∙ ap (take n) (append-nil new) ∙ take_all n new (omega arith)
