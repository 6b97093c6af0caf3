-- What stands behind the frames, piece by piece as it is written: it stops in one of the pieces, or all of them are there.
use Rattle.std.proofs.Common.{◌≡◌, ℕ, ◌+◌, ◌≤◌, List, ◌++◌, length, Option, Result, ap, arith}
use Rattle.std.specs.Prelude.{MatchResult}
use Rattle.dsdiff_spec.specs.Form.{Form}
use Rattle.dsdiff_spec.specs.Coded.{coded_before, first_place, origin_of_plain}
use Rattle.dsdiff_spec.specs.Written.{dsti}
use Rattle.dsdiff_chunks.specs.Forms.{plain_seen}
use Rattle.dsdiff_chunks.specs.declared.copy.CopyFault.{CopyFault}
use Rattle.dsdiff_chunks.specs.declared.form.PlainForm.{PlainForm}
use Rattle.dst_commands.specs.Writing.{Adds, Stops}
use Rattle.dst_commands.proofs.Writing.{adds_same, adds_then, stops_for, stops_first, stops_same, stops_then}
use Rattle.dst_commands.proofs.OneCall.{side_then}
use Rattle.dst_write.specs.Layout.{before, behind, end, entries_by}

-- the sink is at fault
abbrev BySink : Type 0
BySink = CopyFault.Write ≡ CopyFault.Write

-- of a form that ends within the n bytes of its file, by the sizes of its stored frames
module _ (sizes : List ℕ) (file : List ℕ) (seen : PlainForm) (n : ℕ) (within : seen.end ≤ n) (known : n ≡ length file)
  where
    abbrev form : Form
    form = plain_seen seen

    fits : seen.end ≤ length file
    fits = omega arith

    abbrev index_at : ℕ → List ℕ
    index_at place = dsti (entries_by place sizes)

    abbrev index : List ℕ
    index = index_at (first_place (coded_before file form))

    abbrev origin : List ℕ
    origin = origin_of_plain form

    abbrev IsSideLength : ℕ → Type 0
    IsSideLength side = (file : List ℕ) → seen.end ≤ length file → side ≡ length (before file form)

    index_is : (side : ℕ) → IsSideLength side → index_at (16 + side + 12 + 18) ≡ index
    index_is side is =
        let long = is file fits in
        let place : 16 + side + 12 + 18 ≡ first_place (coded_before file form) = omega arith in
        ap index_at place

    pub stopped_in_index : (side : ℕ) {old new : Option (List ℕ)} {room : Option ℕ} → IsSideLength side →
        Stops (Unit {0}) (index_at (16 + side + 12 + 18)) old new room → Stops BySink (end sizes file form) old new room
    stopped_in_index side {old} {new} {room} is h =
        stops_first BySink (index ++ origin) (behind file form) old new room
        (stops_first BySink index origin old new room
        (stops_for (Unit {0}) BySink index old new room (λ e. tt {0})
        (stops_same (Unit {0}) (index_at (16 + side + 12 + 18)) index old new room (index_is side is) h)))

    pub stopped_in_origin : (side : ℕ) {old mid new : Option (List ℕ)} {room half : Option ℕ} → IsSideLength side →
        Adds (index_at (16 + side + 12 + 18)) old mid room half → Stops (Unit {0}) origin mid new half → Stops BySink (end sizes file form) old new room
    stopped_in_origin side {old} {mid} {new} {room} {half} is a h =
        stops_first BySink (index ++ origin) (behind file form) old new room
        (stops_then BySink index origin old mid new room half
        (adds_same (index_at (16 + side + 12 + 18)) index old mid room half (index_is side is) a)
        (stops_for (Unit {0}) BySink origin mid new half (λ e. tt {0}) h))

    -- by the last call
    pub end_by : {T : Type 0} (result : Result T CopyFault) (side : ℕ) {old mid last : Option (List ℕ)} (new : Option (List ℕ))
        {room half less : Option ℕ} (left : Option ℕ) →
        IsSideLength side → Adds (index_at (16 + side + 12 + 18)) old mid room half → Adds origin mid last half less →
        MatchResult result (λ _. Adds (behind file form) last new less left) (λ fault. Stops (fault ≡ CopyFault.Write) (behind file form) last new less) →
        MatchResult result (λ _. Adds (end sizes file form) old new room left)
        (λ fault. Stops (fault ≡ CopyFault.Write) (end sizes file form) old new room)
    end_by result side {old} {mid} {last} new {room} {half} {less} left is a b h =
        side_then result (index ++ origin) (behind file form) old last new room less left
        (adds_then index origin old mid last room half less
        (adds_same (index_at (16 + side + 12 + 18)) index old mid room half (index_is side is) a) b)
        h
