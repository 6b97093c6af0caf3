-- A cut file part by part, as it is written: it stops in one of its parts, or all of them are there.
use Rattle.std.proofs.Common.{◌≡◌, ℕ, ◌≤◌, List, ◌++◌, length, Option, arith}
use Rattle.dsdiff_spec.specs.Walk.{entries}
use Rattle.dsdiff_chunks.specs.Forms.{coded_seen}
use Rattle.dst_commands.specs.Writing.{Adds, Stops}
use Rattle.dst_commands.proofs.Writing.{adds_same, adds_then, stops_first, stops_same, stops_then}
use Rattle.dst_cut.specs.CutLayout.{front, frames, end}
use Rattle.dst_cut.specs.Cutting.{cut_bytes}
use Rattle.dst_cut.specs.declared.cut_form.CutForm.{CutForm}
use Rattle.dst_cut.proofs.CutOutcome.{parts_are}

-- of a form that ends within the n bytes of its file
module _ (file : List ℕ) (cut : CutForm) (n : ℕ) (is : entries file (coded_seen cut.form) ≡ cut.index) (within : cut.form.end ≤ n) (known : n ≡ length file)
  where
    abbrev front_of : List ℕ
    front_of = front cut.index file (coded_seen cut.form) cut.first cut.last

    abbrev frames_of : List ℕ
    frames_of = frames cut.index file (coded_seen cut.form) cut.first cut.last

    abbrev end_of : List ℕ
    end_of = end cut.index file (coded_seen cut.form) cut.first cut.last

    parts : front_of ++ frames_of ++ end_of ≡ cut_bytes file cut
    parts = parts_are file cut is (omega arith)

    pub stopped_in_front : (P : Type 0) {old new : Option (List ℕ)} {room : Option ℕ} → Stops P front_of old new room →
        Stops P (cut_bytes file cut) old new room
    stopped_in_front P {old} {new} {room} h =
        stops_same P (front_of ++ frames_of ++ end_of) (cut_bytes file cut) old new room parts
        (stops_first P (front_of ++ frames_of) end_of old new room (stops_first P front_of frames_of old new room h))

    pub stopped_in_frames : (P : Type 0) {old mid new : Option (List ℕ)} {room half : Option ℕ} → Adds front_of old mid room half →
        Stops P frames_of mid new half → Stops P (cut_bytes file cut) old new room
    stopped_in_frames P {old} {mid} {new} {room} {half} a h =
        stops_same P (front_of ++ frames_of ++ end_of) (cut_bytes file cut) old new room parts
        (stops_first P (front_of ++ frames_of) end_of old new room (stops_then P front_of frames_of old mid new room half a h))

    pub stopped_in_end : (P : Type 0) {old mid last new : Option (List ℕ)} {room half less : Option ℕ} → Adds front_of old mid room half →
        Adds frames_of mid last half less → Stops P end_of last new less → Stops P (cut_bytes file cut) old new room
    stopped_in_end P {old} {mid} {last} {new} {room} {half} {less} a b h =
        stops_same P (front_of ++ frames_of ++ end_of) (cut_bytes file cut) old new room parts
        (stops_then P (front_of ++ frames_of) end_of old last new room less (adds_then front_of frames_of old mid last room half less a b) h)

    pub all_added : {old mid last new : Option (List ℕ)} {room half less left : Option ℕ} → Adds front_of old mid room half →
        Adds frames_of mid last half less → Adds end_of last new less left → Adds (cut_bytes file cut) old new room left
    all_added {old} {mid} {last} {new} {room} {half} {less} {left} a b d =
        adds_same (front_of ++ frames_of ++ end_of) (cut_bytes file cut) old new room left parts
        (adds_then (front_of ++ frames_of) end_of old last new room less left (adds_then front_of frames_of old mid last room half less a b) d)
