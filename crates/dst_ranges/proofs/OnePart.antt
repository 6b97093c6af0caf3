-- One part: read and written, or what it stops at.
use Rattle.std.proofs.Common.{◌≡◌, ℕ, List, [], ◌∷◌, ◌++◌, length, Option, refl, sym, ap, subst, ◌∙◌, arith, append-nil}
use Rattle.dst_spec.specs.Means.{Means}
use Rattle.dst_spec.specs.Offends.{Offends}
use Rattle.dst_spec.specs.declared.faults.FrameFault.{FrameFault}
use Rattle.dsdiff_spec.specs.Bytes.{bytes_at}
use Rattle.dsdiff_spec.specs.Form.{Form, shape}
use Rattle.dsdiff_spec.specs.Outcome.{nth_frame}
use Rattle.dsdiff_spec.specs.Walk.{Entry, entry, frame_at}
use Rattle.dsdiff_chunks.specs.declared.open.OpenFault.TheVariants.{Read}
use Rattle.dst_commands.specs.Writing.{Adds, Stops}
use Rattle.dst_commands.proofs.Writing.{and_then-nothing, adds_same, stops_same, stops_at_once, stops_for}
use Rattle.frame_cache.specs.Reader.{Reader, IsReaderOf, frame_in}
use Rattle.frame_cache.specs.Reads.{HasWanted, IsRefusedAt, MeanSounds}
use Rattle.dst_read.specs.declared.faults.DecodeFault.TheVariants.{Source, Write, Frame}
use Rattle.dst_ranges.specs.Parts.{part, bytes_of}
use Rattle.dst_ranges.specs.Reading.{AreRead, OfSound, Wrote, Stopped}

-- ---- a frame of the reader is that frame of the form
frame_of_reader : (file : List ℕ) (form : Form) (r : Reader) (k : ℕ) → IsReaderOf file form r → frame_in file r k ≡ nth_frame file form k
frame_of_reader file form r k is = sym (ap (λ (es : List Entry). frame_at file (entry es k)) is.entries_are)

means_in_form : (file : List ℕ) (form : Form) (r : Reader) (k : ℕ) (s : List ℕ) → IsReaderOf file form r → Means r.shape (frame_in file r k) s →
    Means (shape form) (nth_frame file form k) s
means_in_form file form r k s is h =
    subst (λ f. Means f (nth_frame file form k) s) (sym is.shape_is) (subst (λ w. Means r.shape w s) (frame_of_reader file form r k is) h)

refuses_in_form : (file : List ℕ) (form : Form) (r : Reader) (k : ℕ) (fault : FrameFault) → IsReaderOf file form r → Offends r.shape (frame_in file r k) fault →
    Offends (shape form) (nth_frame file form k) fault
refuses_in_form file form r k fault is h =
    subst (λ f. Offends f (nth_frame file form k) fault) (sym is.shape_is) (subst (λ w. Offends r.shape w fault) (frame_of_reader file form r k is) h)

-- ---- the frame means a sound, of which the part was read
one_is_read : (file : List ℕ) (form : Form) (sound : List ℕ) (r : Reader) (k from count : ℕ) (ks piece : List ℕ) → ks ≡ k ∷ [] → length piece ≡ count →
    IsReaderOf file form r →
    MeanSounds file r ks → piece ≡ bytes_at sound from count → AreRead file form sound (part k from count ∷ [])
one_is_read file form sound r k from count ks piece one long is means same =
    let m = subst (MeanSounds file r) one means in
    record {
      means = ((m.0.0, means_in_form file form r k m.0.0 is m.0.1), tt);
      whole = ap length (append-nil (bytes_at sound from count)) ∙ sym (ap length same) ∙ omega (arith, long);
    }

piece_is : (sound piece : List ℕ) (k from count : ℕ) → piece ≡ bytes_at sound from count → piece ≡ bytes_of sound (part k from count ∷ [])
piece_is sound piece k from count same = same ∙ sym (append-nil (bytes_at sound from count))

pub one_wrote : (r r' : Reader) (k from count decoded : ℕ) (ks piece : List ℕ) (bytes : Option (List ℕ)) (given given' : ℕ) (old new : Option (List ℕ))
    (room left : Option ℕ) →
    ks ≡ k ∷ [] → length piece ≡ count → HasWanted r r' ks decoded bytes given given' → OfSound bytes r (λ file form sound. piece ≡ bytes_at sound from count) →
    Adds piece old new room left → Wrote r r' (part k from count ∷ []) bytes given given' old new room left
one_wrote r r' k from count decoded ks piece bytes given given' old new room left one long wanted read adds = record {
  decoded = decoded;
  wanted = subst (λ ks. HasWanted r r' ks decoded bytes given given') one wanted;
  added = λ file form sound told holds_sounds of whole.
      let same = read file form sound told holds_sounds of whole in (
        one_is_read file form sound r k from count ks piece one long of (wanted.means file told holds_sounds) same,
        adds_same piece (bytes_of sound (part k from count ∷ [])) old new room left (piece_is sound piece k from count same) adds,
      );
}

-- ---- the sink fails
pub one_unwritten : (r r' : Reader) (k from count decoded : ℕ) (ks piece : List ℕ) (bytes : Option (List ℕ)) (given given' : ℕ) (old new : Option (List ℕ))
    (room : Option ℕ) →
    ks ≡ k ∷ [] → length piece ≡ count → HasWanted r r' ks decoded bytes given given' → OfSound bytes r (λ file form sound. piece ≡ bytes_at sound from count) →
    Stops (Unit {0}) piece old new room → Stopped r (part k from count ∷ []) Write bytes old new room
one_unwritten r r' k from count decoded ks piece bytes given given' old new room one long wanted read stops file form sound told holds_sounds of whole =
    let same = read file form sound told holds_sounds of whole in
    record {
      before = part k from count ∷ [];
      behind = [];
      split = refl;
      are_read = one_is_read file form sound r k from count ks piece one long of (wanted.means file told holds_sounds) same;
      stops = stops_for (Unit {0}) (Write ≡ Write) (bytes_of sound (part k from count ∷ [])) old new room (λ e. tt {0})
          (stops_same (Unit {0}) piece (bytes_of sound (part k from count ∷ [])) old new room (piece_is sound piece k from count same) stops);
    }

-- ---- the frame is refused, or the source fails
none_is_read : (file : List ℕ) (form : Form) (sound : List ℕ) → AreRead file form sound []
none_is_read file form sound = record { means = tt; whole = refl }

only_one : (before behind : List ℕ) (k j : ℕ) → k ∷ [] ≡ before ++ j ∷ behind → k ≡ j
only_one [] behind k j e = cc
only_one (b ∷ []) behind k j e = absurd cc
only_one (b ∷ c ∷ cs) behind k j e = absurd cc

pub one_refused : (r : Reader) (k from count j : ℕ) (fault : FrameFault) (ks order : List ℕ) (bytes : Option (List ℕ)) (old : Option (List ℕ))
    (room : Option ℕ) →
    ks ≡ k ∷ [] → IsRefusedAt r ks order bytes j fault → Stopped r (part k from count ∷ []) (Frame j fault) bytes old old room
one_refused r k from count j fault ks order bytes old room one h file form sound told holds_sounds of whole = record {
  before = [];
  stop = part k from count;
  behind = [];
  split = refl;
  frame_is = only_one h.before h.behind k j (sym one ∙ h.parts);
  refuses = refuses_in_form file form r j fault of (h.offends file told);
  are_read = none_is_read file form sound;
  written = sym (and_then-nothing old);
}

pub one_unread : (r : Reader) (k from count : ℕ) (bytes : Option (List ℕ)) (old : Option (List ℕ)) (room : Option ℕ) →
    Stopped r (part k from count ∷ []) (Source Read) bytes old old room
one_unread r k from count bytes old room file form sound told holds_sounds of whole = record {
  before = [];
  behind = part k from count ∷ [];
  split = refl;
  are_read = none_is_read file form sound;
  stops = stops_at_once (Source Read ≡ Write) [] old room (λ e. absurd cc);
}
