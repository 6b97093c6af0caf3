-- Parts that are read and written behind others, and where that stops.
use Rattle.std.proofs.Common.{◌≡◌, ℕ, ◌+◌, false, true, List, [], ◌∷◌, ◌++◌, length, Option, Some, refl, sym, ap, subst, ◌∙◌, arith, length-append}
use Rattle.std.proofs.Common.{append_assoc, append-nil}
use Rattle.dst_spec.specs.Means.{Means}
use Rattle.dst_spec.proofs.Lists.{all_append}
use Rattle.dst_streams.specs.Told.{and_then}
use Rattle.dst_streams.proofs.Told.{and_then-twice}
use Rattle.dsdiff_spec.specs.Form.{Form, shape}
use Rattle.dsdiff_spec.specs.Outcome.{nth_frame}
use Rattle.dst_commands.specs.Writing.{Adds}
use Rattle.dst_commands.proofs.Writing.{adds_nothing, adds_then, adds_same, stops_then, stops_same, stops_unsettled, stops_for}
use Rattle.frame_cache.specs.Reader.{Reader, IsReaderOf, IsSame}
use Rattle.frame_cache.specs.Reads.{HasWanted}
use Rattle.frame_cache.proofs.Wanting.{none_wanted, wanted_then}
use Rattle.dst_read.specs.declared.faults.DecodeFault.{DecodeFault}
use Rattle.dst_read.specs.declared.faults.DecodeFault.TheVariants.{Source, Write, Frame}
use Rattle.dst_ranges.specs.Parts.{Part, frames_wanted, bytes_of}
use Rattle.dst_ranges.specs.Reading.{AreRead, Wrote, IsCut, StopsIn, Stopped}
use Rattle.dst_ranges.proofs.Asking.{frames_append, counts_append, bytes_append}

-- ---- parts that are read
pub are_read_then : (file : List ℕ) (form : Form) (sound : List ℕ) (xs ys : List Part) → AreRead file form sound xs → AreRead file form sound ys →
    AreRead file form sound (xs ++ ys)
are_read_then file form sound xs ys a b = record {
  means = all_append (λ p. (s : List ℕ) × Means (shape form) (nth_frame file form p.frame) s) xs ys a.means b.means;
  whole = omega (arith, a.whole, b.whole, ap length (bytes_append sound xs ys), length-append (bytes_of sound xs) (bytes_of sound ys), counts_append xs ys);
}

reader_stays : (file : List ℕ) (form : Form) (r r' : Reader) → IsSame r r' → IsReaderOf file form r → IsReaderOf file form r'
reader_stays file form r r' same is = subst (IsReaderOf file form) (sym same)
    (record { shape_is = is.shape_is; entries_are = is.entries_are; size_is = is.size_is })

-- ---- nothing, and parts behind others
pub wrote_nothing : (r : Reader) (bytes : Option (List ℕ)) (given : ℕ) (old : Option (List ℕ)) (room : Option ℕ) →
    Wrote r r [] bytes given given old old room room
wrote_nothing r bytes given old room = record {
  decoded = 0;
  wanted = none_wanted r bytes given;
  added = λ file form sound told holds_sounds of whole. (record { means = tt; whole = refl }, adds_nothing old room);
}

pub wrote_then : (r r' r'' : Reader) (xs ys : List Part) (bytes : Option (List ℕ)) (g g' g'' : ℕ) (old mid new : Option (List ℕ)) (room half left : Option ℕ) →
    Wrote r r' xs bytes g g' old mid room half → Wrote r' r'' ys bytes g' g'' mid new half left → Wrote r r'' (xs ++ ys) bytes g g'' old new room left
wrote_then r r' r'' xs ys bytes g g' g'' old mid new room half left a b = record {
  decoded = a.decoded + b.decoded;
  wanted = subst (λ ks. HasWanted r r'' ks (a.decoded + b.decoded) bytes g g'') (sym (frames_append xs ys))
      (wanted_then r r' r'' (frames_wanted xs) (frames_wanted ys) a.decoded b.decoded bytes g g' g'' a.wanted b.wanted);
  added = λ file form sound told holds_sounds of whole.
      let first = a.added file form sound told holds_sounds of whole in
      let second = b.added file form sound told (a.wanted.holds_sounds file told holds_sounds) (reader_stays file form r r' a.wanted.same of) whole in (
        are_read_then file form sound xs ys first.0 second.0,
        adds_same (bytes_of sound xs ++ bytes_of sound ys) (bytes_of sound (xs ++ ys)) old new room left (sym (bytes_append sound xs ys))
            (adds_then (bytes_of sound xs) (bytes_of sound ys) old mid new room half left first.1 second.1),
      );
}

-- ---- it stops behind some parts
cut_behind : (file : List ℕ) (form : Form) (sound : List ℕ) (xs ys : List Part) (fault : DecodeFault) (old mid new : Option (List ℕ)) (room half : Option ℕ) →
    AreRead file form sound xs → Adds (bytes_of sound xs) old mid room half → IsCut file form sound ys fault mid new half →
    IsCut file form sound (xs ++ ys) fault old new room
cut_behind file form sound xs ys fault old mid new room half read adds cut = record {
  before = xs ++ cut.before;
  behind = cut.behind;
  split = ap (λ zs. xs ++ zs) cut.split ∙ sym (append_assoc xs cut.before cut.behind);
  are_read = are_read_then file form sound xs cut.before read cut.are_read;
  stops = stops_same (fault ≡ Write) (bytes_of sound xs ++ bytes_of sound cut.before) (bytes_of sound (xs ++ cut.before)) old new room
      (sym (bytes_append sound xs cut.before))
      (stops_then (fault ≡ Write) (bytes_of sound xs) (bytes_of sound cut.before) old mid new room half adds cut.stops);
}

stops_in_behind : (fault : DecodeFault) (file : List ℕ) (form : Form) (sound : List ℕ) (xs ys : List Part) (old mid new : Option (List ℕ))
    (room half : Option ℕ) →
    AreRead file form sound xs → Adds (bytes_of sound xs) old mid room half → StopsIn fault file form sound ys mid new half →
    StopsIn fault file form sound (xs ++ ys) old new room
stops_in_behind (Frame k f) file form sound xs ys old mid new room half read adds s = record {
  before = xs ++ s.before;
  stop = s.stop;
  behind = s.behind;
  split = ap (λ zs. xs ++ zs) s.split ∙ sym (append_assoc xs s.before (s.stop ∷ s.behind));
  frame_is = s.frame_is;
  refuses = s.refuses;
  are_read = are_read_then file form sound xs s.before read s.are_read;
  written = s.written ∙ ap (λ w. and_then w (bytes_of sound s.before)) adds.written ∙ and_then-twice old (bytes_of sound xs) (bytes_of sound s.before)
      ∙ ap (and_then old) (sym (bytes_append sound xs s.before));
}
stops_in_behind Write file form sound xs ys old mid new room half read adds s = cut_behind file form sound xs ys Write old mid new room half read adds s
stops_in_behind (Source f) file form sound xs ys old mid new room half read adds s = cut_behind file form sound xs ys (Source f) old mid new room half read
    adds s

pub stopped_behind : (fault : DecodeFault) (r r' : Reader) (xs ys : List Part) (bytes : Option (List ℕ)) (g g' : ℕ) (old mid new : Option (List ℕ))
    (room half : Option ℕ) →
    Wrote r r' xs bytes g g' old mid room half → Stopped r' ys fault bytes mid new half → Stopped r (xs ++ ys) fault bytes old new room
stopped_behind fault r r' xs ys bytes g g' old mid new room half a s file form sound told holds_sounds of whole =
    let first = a.added file form sound told holds_sounds of whole in
    stops_in_behind fault file form sound xs ys old mid new room half first.0 first.1
    (s file form sound told (a.wanted.holds_sounds file told holds_sounds) (reader_stays file form r r' a.wanted.same of) whole)

-- ---- and in front of others
cut_before : (file : List ℕ) (form : Form) (sound : List ℕ) (xs ys : List Part) (fault : DecodeFault) (old new : Option (List ℕ)) (room : Option ℕ) →
    IsCut file form sound xs fault old new room → IsCut file form sound (xs ++ ys) fault old new room
cut_before file form sound xs ys fault old new room cut = record {
  before = cut.before;
  behind = cut.behind ++ ys;
  split = ap (λ zs. zs ++ ys) cut.split ∙ append_assoc cut.before cut.behind ys;
  are_read = cut.are_read;
  stops = cut.stops;
}

stops_in_before : (fault : DecodeFault) (file : List ℕ) (form : Form) (sound : List ℕ) (xs ys : List Part) (old new : Option (List ℕ)) (room : Option ℕ) →
    StopsIn fault file form sound xs old new room → StopsIn fault file form sound (xs ++ ys) old new room
stops_in_before (Frame k f) file form sound xs ys old new room s = record {
  before = s.before;
  stop = s.stop;
  behind = s.behind ++ ys;
  split = ap (λ zs. zs ++ ys) s.split ∙ append_assoc s.before (s.stop ∷ s.behind) ys;
  frame_is = s.frame_is;
  refuses = s.refuses;
  are_read = s.are_read;
  written = s.written;
}
stops_in_before Write file form sound xs ys old new room s = cut_before file form sound xs ys Write old new room s
stops_in_before (Source f) file form sound xs ys old new room s = cut_before file form sound xs ys (Source f) old new room s

pub stopped_before : (fault : DecodeFault) (r : Reader) (xs ys : List Part) (bytes : Option (List ℕ)) (old new : Option (List ℕ)) (room : Option ℕ) →
    Stopped r xs fault bytes old new room → Stopped r (xs ++ ys) fault bytes old new room
stopped_before fault r xs ys bytes old new room s file form sound told holds_sounds of whole =
    stops_in_before fault file form sound xs ys old new room (s file form sound told holds_sounds of whole)

-- it stops in some parts, behind some and in front of others
pub stopped_among : (fault : DecodeFault) (r r' : Reader) (xs ys zs : List Part) (bytes : Option (List ℕ)) (g g' : ℕ) (old mid new : Option (List ℕ))
    (room half : Option ℕ) →
    Wrote r r' xs bytes g g' old mid room half → Stopped r' ys fault bytes mid new half → Stopped r (xs ++ (ys ++ zs)) fault bytes old new room
stopped_among fault r r' xs ys zs bytes g g' old mid new room half a s =
    stopped_behind fault r r' xs (ys ++ zs) bytes g g' old mid new room half a (stopped_before fault r' ys zs bytes mid new half s)

-- all is written, and the sink can't settle it
pub stopped_unsettled : (r r' : Reader) (xs : List Part) (bytes : Option (List ℕ)) (g g' : ℕ) (old mid new : Option (List ℕ)) (room left : Option ℕ) →
    Wrote r r' xs bytes g g' old mid room left → new ≡ mid → ((n : ℕ) → left ≡ Some n → false ≡ true) → Stopped r xs Write bytes old new room
stopped_unsettled r r' xs bytes g g' old mid new room left a same sure file form sound told holds_sounds of whole =
    let all = a.added file form sound told holds_sounds of whole in
    record {
      before = xs;
      behind = [];
      split = sym (append-nil xs);
      are_read = all.0;
      stops = stops_for (Unit {0}) (Write ≡ Write) (bytes_of sound xs) old new room (λ e. tt {0})
          (stops_unsettled (bytes_of sound xs) old mid new room left all.1 same sure);
    }
