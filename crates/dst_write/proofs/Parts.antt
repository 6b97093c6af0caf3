-- The coded file of an opened plain one, part by part: it stops in one of the parts, or all but the sizes is there, and then these are written.
use Rattle.std.proofs.Common.{◌≡◌, ℕ, ◌+◌, ◌≤◌, List, ◌++◌, length, map, flat_map, Option, Some, Result, Ok, Err, refl, sym, ap, subst, ◌∙◌, arith}
use Rattle.std.specs.Prelude.{IsOk}
use Rattle.dst_streams.proofs.Counts.{Rose-earlier}
use Rattle.dst_streams.specs.Told.{and_then}
use Rattle.dst_streams.specs.declared.source.Failed.{Failed}
use Rattle.dsdiff_spec.specs.Form.{Form}
use Rattle.dsdiff_spec.specs.Coded.{Picks, coded, stored_frames}
use Rattle.dsdiff_spec.specs.Written.{dstf}
use Rattle.dsdiff_chunks.specs.Forms.{plain_seen}
use Rattle.dsdiff_chunks.specs.declared.copy.CopyFault.{CopyFault}
use Rattle.dsdiff_chunks.specs.declared.form.PlainForm.{PlainForm}
use Rattle.dsdiff_chunks.specs.declared.open.OpenFault.TheVariants.{Read, Memory, File}
use Rattle.dst_commands.specs.Writing.{Adds, Stops}
use Rattle.dst_commands.proofs.Writing.{adds_then, stops_for, stops_first, stops_same, stops_then}
use Rattle.dst_commands.specs.Passing.{FailedBy}
use Rattle.dst_write.specs.Encoding.{HasItsCause, IsStopped, of_device}
use Rattle.dst_write.specs.Layout.{before, end, form_size, front, sound_size, unsized}
use Rattle.dst_write.specs.Unfinished.{HoldsNothing, sound_size_place, SizesEnd}
use Rattle.dst_write.specs.declared.faults.EncodeFault.{EncodeFault}
use Rattle.dst_write.specs.declared.faults.EncodeFault.TheVariants.{Source, Write}
use Rattle.dst_write.proofs.Sized.{sound_place}
use Rattle.dst_write.proofs.Ending.{all_added, sizes_as, stored_count, stopped_short, stopped_at_sizes, ended_whole}

of_write : (fault : CopyFault) → of_device fault ≡ Write → fault ≡ CopyFault.Write
of_write CopyFault.Read e = absurd cc
of_write CopyFault.Write e = refl

-- what is answered where a device fails tells whether it was the sink
pub stops_by_device : (fault : CopyFault) (answer : EncodeFault) (piece : List ℕ) {old new : Option (List ℕ)} {room : Option ℕ} →
    answer ≡ of_device fault → Stops (fault ≡ CopyFault.Write) piece old new room → Stops (answer ≡ Write) piece old new room
stops_by_device fault answer piece {old} {new} {room} is h =
    stops_for (fault ≡ CopyFault.Write) (answer ≡ Write) piece old new room (λ e. of_write fault (sym is ∙ e)) h

pub cause_by_device : (fault : CopyFault) (answer : EncodeFault) (source_before source_now sink_before sink_now : ℕ) → answer ≡ of_device fault →
    FailedBy fault source_before source_now sink_before sink_now → HasItsCause answer source_before source_now sink_before sink_now
cause_by_device CopyFault.Read answer a b c d is h = subst (λ answer. HasItsCause answer a b c d) (sym is) h
cause_by_device CopyFault.Write answer a b c d is h = subst (λ answer. HasItsCause answer a b c d) (sym is) h

pub caused_since : (fault : EncodeFault) (source_before source_mid source_now sink_before sink_mid sink_now : ℕ) → source_before ≤ source_mid →
    sink_before ≤ sink_mid → HasItsCause fault source_mid source_now sink_mid sink_now → HasItsCause fault source_before source_now sink_before sink_now
caused_since (Source Read) a b c d e f later grown cause = Rose-earlier a b c later cause
caused_since (Source (Memory refused)) a b c d e f later grown cause = cause
caused_since (Source (File fault)) a b c d e f later grown cause = cause
caused_since Write a b c d e f later grown cause = Rose-earlier d e f grown cause

-- ---- of a form that ends within the n bytes of its file
module _ (picks : Picks) (file : List ℕ) (seen : PlainForm) (n : ℕ) (within : seen.end ≤ n) (known : n ≡ length file)
  where
    abbrev form : Form
    form = plain_seen seen

    abbrev frames : List (List ℕ)
    frames = stored_frames picks file form

    fits : seen.end ≤ length file
    fits = omega arith

    count : length frames ≡ form.frames
    count = stored_count picks file form seen.lawful.of_kind fits

    abbrev Stopped : Type 0 → (old new : Option (List ℕ)) → Option ℕ → Type 0
    Stopped P old new room = IsStopped P (coded picks file form) (sound_size_place file form) old new room

    pub stopped_in_front : (P : Type 0) {old new : Option (List ℕ)} {room : Option ℕ} → Stops P (front file form) old new room → Stopped P old new room
    stopped_in_front P {old} {new} {room} h =
        stopped_short frames file form count P old new room
        (stops_first P (front file form ++ flat_map dstf frames) (end (map length frames) file form) old new room
        (stops_first P (front file form) (flat_map dstf frames) old new room h))

    pub stopped_in_frames : (P : Type 0) {old mid new : Option (List ℕ)} {room half : Option ℕ} → Adds (front file form) old mid room half →
        Stops P (flat_map dstf frames) mid new half → Stopped P old new room
    stopped_in_frames P {old} {mid} {new} {room} {half} a h =
        stopped_short frames file form count P old new room
        (stops_first P (front file form ++ flat_map dstf frames) (end (map length frames) file form) old new room
        (stops_then P (front file form) (flat_map dstf frames) old mid new room half a h))

    pub stopped_in_end : (P : Type 0) (sizes : List ℕ) {old mid last new : Option (List ℕ)} {room half less : Option ℕ} →
        Adds (front file form) old mid room half → Adds (flat_map dstf frames) mid last half less → sizes ≡ map length frames →
        Stops P (end sizes file form) last new less → Stopped P old new room
    stopped_in_end P sizes {old} {mid} {last} {new} {room} {half} {less} a b is h =
        stopped_short frames file form count P old new room
        (stops_then P (front file form ++ flat_map dstf frames) (end (map length frames) file form) old last new room less
        (adds_then (front file form) (flat_map dstf frames) old mid last room half less a b)
        (stops_same P (end sizes file form) (end (map length frames) file form) last new less (ap (λ (w : List ℕ). end w file form) is) h))

    -- all but the sizes is there; by what of the form the sizes are known then
    pub record IsUnsized (result : Result (Unit {0}) Failed) (old mid new : Option (List ℕ)) (room left : Option ℕ) : Type 0 where
      pub added : Adds (unsized frames file form) old mid room left
      pub ends : SizesEnd result (sound_place file form) (sound_size (map length frames)) (form_size (map length frames) file form) mid new

    pub all_is_added : (sizes : List ℕ) {old a b new : Option (List ℕ)} {room half less left : Option ℕ} → sizes ≡ map length frames →
        Adds (front file form) old a room half → Adds (flat_map dstf frames) a b half less → Adds (end sizes file form) b new less left →
        Adds (unsized frames file form) old new room left
    all_is_added sizes {old} {a} {b} {new} {room} {half} {less} {left} is p q r =
        all_added frames file form count sizes old a b new room half less left is p q r

    pub is_unsized : (result : Result (Unit {0}) Failed) (sizes : List ℕ) (side sound size : ℕ) {old mid new : Option (List ℕ)} {room left : Option ℕ} →
        Adds (unsized frames file form) old mid room left → sizes ≡ map length frames →
        ((file : List ℕ) → seen.end ≤ length file → side ≡ length (before file form)) → sound ≡ sound_size sizes →
        ((file : List ℕ) → seen.end ≤ length file → size ≡ form_size sizes file form) → SizesEnd result (20 + side) sound size mid new →
        IsUnsized result old mid new room left
    is_unsized result sizes side sound size {old} {mid} {new} {room} {left} added is place_is sound_is size_is h = record {
      added = added;
      ends = sizes_as frames file form count result (20 + side) sound size mid new (ap (λ n. 20 + n) (place_is file fits)) (sound_is ∙ ap sound_size is)
          (size_is file fits ∙ ap (λ (w : List ℕ). form_size w file form) is)
          h;
    }

    pub written_whole : {old mid new : Option (List ℕ)} {room left : Option ℕ} →
        IsUnsized (Ok (tt {0})) old mid new room left → HoldsNothing old → new ≡ and_then old (coded picks file form)
    written_whole {old} {mid} {new} {room} {left} h = ended_whole frames file form count old mid new room left h.added h.ends

    pub stopped_in_sizes : (fault : Failed) {old mid new : Option (List ℕ)} {room left : Option ℕ} →
        IsUnsized (Err fault) old mid new room left → ((n : ℕ) → left ≡ Some n → IsOk {T = Unit {0}} {E = Failed} (Err fault)) →
        Stopped (Write ≡ Write) old new room
    stopped_in_sizes fault {old} {mid} {new} {room} {left} h sure =
        stopped_at_sizes frames file form count (Unit {0}) Failed (Err fault) fault (Write ≡ Write) old mid new room left refl h.added h.ends sure
