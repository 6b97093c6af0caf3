-- What stands around the frames of a cut file, piece by piece as it is written: it stops in one of the pieces, or all of them are there.
use Rattle.std.proofs.Common.{◌≡◌, ℕ, ◌+◌, ◌≤◌, List, ◌++◌, length, Option, Result, ap, arith}
use Rattle.std.specs.Prelude.{MatchResult, codes}
use Rattle.byteorder.specs.Endian.{big_bytes}
use Rattle.dsdiff_spec.specs.Form.{Form}
use Rattle.dsdiff_spec.specs.Written.{dsti}
use Rattle.dsdiff_chunks.specs.Forms.{coded_seen}
use Rattle.dsdiff_chunks.specs.declared.copy.CopyFault.{CopyFault}
use Rattle.dst_commands.specs.Writing.{Adds, Stops}
use Rattle.dst_commands.proofs.Writing.{adds_same, adds_then, stops_for, stops_first, stops_same, stops_then}
use Rattle.dst_commands.proofs.OneCall.{side_then}
use Rattle.dst_cut.specs.CutLayout.{before, behind, end, entries_left, first_at, form_size, front, origin_left, sound_opening}
use Rattle.dst_cut.specs.declared.cut_form.CutForm.{CutForm}

-- the head of the form, by its size
abbrev head : ℕ → List ℕ
head size = codes "FRM8" ++ big_bytes 8 size ++ codes "DSD "

-- the sink is at fault
abbrev BySink : Type 0
BySink = CopyFault.Write ≡ CopyFault.Write

-- of a form that ends within the n bytes of its file
module _ (file : List ℕ) (cut : CutForm) (n : ℕ) (within : cut.form.end ≤ n) (known : n ≡ length file)
  where
    abbrev form : Form
    form = coded_seen cut.form

    fits : cut.form.end ≤ length file
    fits = omega arith

    -- ---- in front of the frames
    abbrev sound : List ℕ
    sound = sound_opening cut.index form cut.first cut.last

    abbrev front_of : List ℕ
    front_of = front cut.index file form cut.first cut.last

    abbrev IsFormSize : ℕ → Type 0
    IsFormSize size = (file : List ℕ) → cut.form.end ≤ length file → size ≡ form_size cut.index file form cut.first cut.last

    front_is : (size : ℕ) → IsFormSize size → head size ++ before file form ++ sound ≡ front_of
    front_is size is = ap (λ n. head n ++ before file form ++ sound) (is file fits)

    pub stopped_in_head : (size : ℕ) {old new : Option (List ℕ)} {room : Option ℕ} → IsFormSize size → Stops (Unit {0}) (head size) old new room →
        Stops BySink front_of old new room
    stopped_in_head size {old} {new} {room} is h =
        stops_same BySink (head size ++ before file form ++ sound) front_of old new room (front_is size is)
        (stops_first BySink (head size ++ before file form) sound old new room
        (stops_first BySink (head size) (before file form) old new room (stops_for (Unit {0}) BySink (head size) old new room (λ e. tt {0}) h)))

    pub stopped_in_side : (P : Type 0) (size : ℕ) {old mid new : Option (List ℕ)} {room half : Option ℕ} → IsFormSize size →
        Adds (head size) old mid room half → Stops P (before file form) mid new half → Stops P front_of old new room
    stopped_in_side P size {old} {mid} {new} {room} {half} is a h =
        stops_same P (head size ++ before file form ++ sound) front_of old new room (front_is size is)
        (stops_first P (head size ++ before file form) sound old new room (stops_then P (head size) (before file form) old mid new room half a h))

    pub stopped_in_sound : (size : ℕ) {old mid last new : Option (List ℕ)} {room half less : Option ℕ} → IsFormSize size →
        Adds (head size) old mid room half → Adds (before file form) mid last half less → Stops (Unit {0}) sound last new less →
        Stops BySink front_of old new room
    stopped_in_sound size {old} {mid} {last} {new} {room} {half} {less} is a b h =
        stops_same BySink (head size ++ before file form ++ sound) front_of old new room (front_is size is)
        (stops_then BySink (head size ++ before file form) sound old last new room less
        (adds_then (head size) (before file form) old mid last room half less a b) (stops_for (Unit {0}) BySink sound last new less (λ e. tt {0}) h))

    pub front_added : (size : ℕ) {old mid last new : Option (List ℕ)} {room half less left : Option ℕ} → IsFormSize size →
        Adds (head size) old mid room half → Adds (before file form) mid last half less → Adds sound last new less left → Adds front_of old new room left
    front_added size {old} {mid} {last} {new} {room} {half} {less} {left} is a b d =
        adds_same (head size ++ before file form ++ sound) front_of old new room left (front_is size is)
        (adds_then (head size ++ before file form) sound old last new room less left
        (adds_then (head size) (before file form) old mid last room half less a b) d)

    -- ---- behind them
    abbrev index_at : ℕ → List ℕ
    index_at place = dsti (entries_left cut.index cut.first cut.last place)

    abbrev index : List ℕ
    index = index_at (first_at file form)

    abbrev origin_of_cut : List ℕ
    origin_of_cut = origin_left form cut.first cut.last

    abbrev IsSideLength : ℕ → Type 0
    IsSideLength side = (file : List ℕ) → cut.form.end ≤ length file → side ≡ length (before file form)

    index_is : (side : ℕ) → IsSideLength side → index_at (16 + side + 12 + 18) ≡ index
    index_is side is = ap (λ n. index_at (16 + n + 12 + 18)) (is file fits)

    pub stopped_in_index : (side : ℕ) {old new : Option (List ℕ)} {room : Option ℕ} → IsSideLength side →
        Stops (Unit {0}) (index_at (16 + side + 12 + 18)) old new room → Stops BySink (end cut.index file form cut.first cut.last) old new room
    stopped_in_index side {old} {new} {room} is h =
        stops_first BySink (index ++ origin_of_cut) (behind file form) old new room
        (stops_first BySink index origin_of_cut old new room
        (stops_for (Unit {0}) BySink index old new room (λ e. tt {0})
        (stops_same (Unit {0}) (index_at (16 + side + 12 + 18)) index old new room (index_is side is) h)))

    pub stopped_in_origin : (side : ℕ) {old mid new : Option (List ℕ)} {room half : Option ℕ} → IsSideLength side →
        Adds (index_at (16 + side + 12 + 18)) old mid room half → Stops (Unit {0}) origin_of_cut mid new half →
        Stops BySink (end cut.index file form cut.first cut.last) old new room
    stopped_in_origin side {old} {mid} {new} {room} {half} is a h =
        stops_first BySink (index ++ origin_of_cut) (behind file form) old new room
        (stops_then BySink index origin_of_cut old mid new room half
        (adds_same (index_at (16 + side + 12 + 18)) index old mid room half (index_is side is) a)
        (stops_for (Unit {0}) BySink origin_of_cut mid new half (λ e. tt {0}) h))

    -- by the last call
    pub end_by : {T : Type 0} (result : Result T CopyFault) (side : ℕ) {old mid last : Option (List ℕ)} (new : Option (List ℕ))
        {room half less : Option ℕ} (left : Option ℕ) →
        IsSideLength side → Adds (index_at (16 + side + 12 + 18)) old mid room half → Adds origin_of_cut mid last half less →
        MatchResult result (λ _. Adds (behind file form) last new less left) (λ fault. Stops (fault ≡ CopyFault.Write) (behind file form) last new less) →
        MatchResult result (λ _. Adds (end cut.index file form cut.first cut.last) old new room left)
        (λ fault. Stops (fault ≡ CopyFault.Write) (end cut.index file form cut.first cut.last) old new room)
    end_by result side {old} {mid} {last} new {room} {half} {less} left is a b h =
        side_then result (index ++ origin_of_cut) (behind file form) old last new room less left
        (adds_then index origin_of_cut old mid last room half less
        (adds_same (index_at (16 + side + 12 + 18)) index old mid room half (index_is side is) a) b)
        h
