-- A range that is copied, whole or cut short, as a piece; and that of the frames.
use Rattle.std.proofs.Common.{◌≡◌, ℕ, ◌-◌, ◌≤◌, List, ◌++◌, length, Option, Some, Result, Ok, Err, ap, ap₂, ◌∙◌, arith}
use Rattle.dst_streams.specs.Told.{and_then, IsCutShort}
use Rattle.dsdiff_chunks.specs.declared.copy.CopyFault.{CopyFault}
use Rattle.std.specs.Prelude.{MatchResult}
use Rattle.dst_commands.specs.Writing.{Adds, Stops}
use Rattle.dsdiff_spec.specs.Bytes.{between}
use Rattle.dsdiff_chunks.specs.Forms.{coded_seen}
use Rattle.dst_commands.proofs.Writing.{adds_same, adds_then, stops_same, stops_then}
use Rattle.dst_cut.specs.CutLayout.{begins, ends}
use Rattle.dst_cut.specs.declared.cut_form.CutForm.{CutForm}
use Rattle.dst_cut.proofs.CutPlaces.{cut_out, length-between}

pub copied_whole : (piece : List ℕ) (n : ℕ) (old new : Option (List ℕ)) (room left : Option ℕ) → length piece ≡ n → new ≡ and_then old piece →
    ((m : ℕ) → room ≡ Some m → n ≤ m → left ≡ Some (m - n)) → Adds piece old new room left
copied_whole piece n old new room left long written sure = record {
  written = written;
  lowered = λ m e fits.
      let same : m - n ≡ m - length piece = omega (arith, long) in
      sure m e (omega (arith, long, fits)) ∙ ap Some same;
}

pub copied_short : (fault : CopyFault) (piece : List ℕ) (n : ℕ) (old new : Option (List ℕ)) (room : Option ℕ) → length piece ≡ n → IsCutShort old piece new →
    ((m : ℕ) → room ≡ Some m → n ≤ m → ◌≡◌ {A = Result (Unit {0}) CopyFault} (Err fault) (Err CopyFault.Write) → ⊥) →
    Stops (fault ≡ CopyFault.Write) piece old new room
copied_short fault piece n old new room long cut taken = record {
  cut = cut;
  lacks = λ is m e fits. taken m e (omega (arith, long, fits)) (ap Err is);
}

-- a call behind a piece
pub call_then : {T E : Type 0} (result : Result T E) (a b : List ℕ) (old mid new : Option (List ℕ)) (room half left : Option ℕ) → Adds a old mid room half →
    MatchResult result (λ _. Adds b mid new half left) (λ _. Stops (Unit {0}) b mid new half) →
    MatchResult result (λ _. Adds (a ++ b) old new room left) (λ _. Stops (Unit {0}) (a ++ b) old new room)
call_then (Ok u) a b old mid new room half left p q = adds_then a b old mid new room half left p q
call_then (Err fault) a b old mid new room half left p q = stops_then (Unit {0}) a b old mid new room half p q

-- ---- the frames of a form that ends within the n bytes of its file, by the places where they begin and end
module _ (file : List ℕ) (cut : CutForm) (n : ℕ) (within : cut.form.end ≤ n) (known : n ≡ length file) (from to : ℕ)
    (begins_is : from ≡ begins cut.index cut.first) (ends_is : to ≡ ends cut.index (coded_seen cut.form) cut.last)
  where
    abbrev frames_of : List ℕ
    frames_of = between file (begins cut.index cut.first) (ends cut.index (coded_seen cut.form) cut.last)

    long : length (between file from to) ≡ to - from
    long =
        length-between file from to (omega (arith, begins_is, ends_is, (cut_out cut).order)) (omega (arith, ends_is, (cut_out cut).inside, within, known))

    pub frames_copied : {old new : Option (List ℕ)} {room left : Option ℕ} → new ≡ and_then old (between file from to) →
        ((m : ℕ) → room ≡ Some m → to - from ≤ m → left ≡ Some (m - (to - from))) → Adds frames_of old new room left
    frames_copied {old} {new} {room} {left} written sure =
        adds_same (between file from to) frames_of old new room left (ap₂ (between file) begins_is ends_is)
        (copied_whole (between file from to) (to - from) old new room left long written sure)

    pub frames_short : (fault : CopyFault) {old new : Option (List ℕ)} {room : Option ℕ} → IsCutShort old (between file from to) new →
        ((m : ℕ) → room ≡ Some m → to - from ≤ m → ◌≡◌ {A = Result (Unit {0}) CopyFault} (Err fault) (Err CopyFault.Write) → ⊥) →
        Stops (fault ≡ CopyFault.Write) frames_of old new room
    frames_short fault {old} {new} {room} cut_short taken =
        stops_same (fault ≡ CopyFault.Write) (between file from to) frames_of old new room (ap₂ (between file) begins_is ends_is)
        (copied_short fault (between file from to) (to - from) old new room long cut_short taken)
