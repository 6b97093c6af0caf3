-- How decoding to a DSF file ends, from how its parts end.
use Rattle.std.proofs.Common.{◌≡◌, ◌⊎◌, inl, inr, ℕ, ◌*◌, ◌/◌, ◌≤◌, List, [], ◌∷◌, ◌++◌, length, Option, Some, None, Result, Ok, Err, false, true}
use Rattle.std.proofs.Common.{refl, ap, sym, subst, ◌∙◌, arith}
use Rattle.dst_spec.specs.Bits.{AreBytes}
use Rattle.dst_streams.specs.Told.{and_then, IsCutShort, IsSure}
use Rattle.dst_streams.proofs.Told.{and_then-twice}
use Rattle.dsdiff_spec.specs.Dsf.{Dsf, dsf_header, rows}
use Rattle.dsdiff_spec.specs.Form.{Form, size_of_sound}
use Rattle.dsdiff_spec.specs.Words.{decode_dsf}
use Rattle.dsdiff_spec.specs.Lines.{decoded_line}
use Rattle.dsdiff_spec.specs.Outcome.{Answer, done}
use Rattle.dsdiff_spec.specs.Progress.{AreDecoded}
use Rattle.dsdiff_spec.proofs.DsfLengths.{length-dsf_header}
use Rattle.dsdiff_spec.proofs.CodedFiles.{IsDecodable, is_decodable}
use Rattle.dsdiff_spec.proofs.Progress.{BeginsWith, begins_with_front, none_decoded_yet}
use Rattle.dst_commands.specs.Commands.{OutcomeOf}
use Rattle.dst_commands.specs.Writing.{Adds, Stops}
use Rattle.dst_commands.proofs.Writing.{added, adds_then, cut_off, stops_at_once, stops_in, stops_then, stops_unsettled}
use Rattle.dst_read.specs.declared.faults.Decoded.{Decoded}
use Rattle.dst_read.specs.declared.faults.DecodeFault.{DecodeFault}
use Rattle.dst_read.specs.declared.faults.DecodeFault.TheVariants.{Source, Write, Frame}
use Rattle.dst_read.specs.Decoding.{sound_of}
use Rattle.dst_dsf.specs.Rows.{rows_of}
use Rattle.dst_dsf.specs.Decoding.{IsFor, DecodingEnds, IsStoppedShort, LacksRoomForOutcome}
use Rattle.dst_dsf.specs.Frames.{FramesEnd, IsStoppedInRows}
use Rattle.dst_dsf.proofs.OneDsf.{decodable, one_outcome}
use Rattle.dst_dsf.proofs.Outcomes.{refused_outcome, done_outcome, rows_are_front, whole_is_front}

abbrev IsFront : List ℕ → List ℕ → Type 0
IsFront file piece = (a : Answer) → OutcomeOf decode_dsf file a → BeginsWith a.out piece

pub nothing_written : (file : List ℕ) (told : Option (List ℕ)) → AreBytes file → IsStoppedShort file told told
nothing_written file told bytes =
    let one = one_outcome file bytes in
    (one.0, one.1, (stops_at_once ⊥ one.0.out told None (λ p. p)).cut)

stopped_short : (P : Type 0) (file piece : List ℕ) (old new : Option (List ℕ)) (room : Option ℕ) → AreBytes file → IsFront file piece →
    Stops P piece old new room → IsStoppedShort file old new
stopped_short P file piece old new room bytes front s =
    let one = one_outcome file bytes in
    (one.0, one.1, (stops_in P one.0.out piece old new room (front one.0 one.1) s).cut)

stopped_at_sink : (P : Type 0) (file piece : List ℕ) (old new : Option (List ℕ)) (room : Option ℕ) → AreBytes file → P → IsFront file piece →
    Stops P piece old new room → IsStoppedShort file old new × LacksRoomForOutcome file room
stopped_at_sink P file piece old new room bytes p front s =
    (stopped_short P file piece old new room bytes front s, (λ o is. (stops_in P o.out piece old new room (front o is) s).lacks p))

-- ---- the header
pub header_added : {T E : Type 0} (result : Result T E) (d : Dsf) (old new : Option (List ℕ)) (room left : Option ℕ) → IsSure room left 92 result →
    new ≡ and_then old (dsf_header d) → Adds (dsf_header d) old new room left
header_added result d old new room left sure told =
    added result (dsf_header d) old new room left (subst (λ n. IsSure room left n result) (sym (length-dsf_header d)) sure) told

pub head_cut : {T E : Type 0} (fault : E) (d : Dsf) (old new : Option (List ℕ)) (room left : Option ℕ) → IsSure {T = T} {E = E} room left 92 (Err fault) →
    IsCutShort old (dsf_header d) new → Stops (Unit {0}) (dsf_header d) old new room
head_cut {T} {E} fault d old new room left sure cut =
    cut_off {T = T} {E = E} fault (dsf_header d) old new room left
    (subst (λ n. IsSure {T = T} {E = E} room left n (Err fault)) (sym (length-dsf_header d)) sure) cut

module _ (file : List ℕ) (form : Form) (d : Dsf) (o : IsFor file form d) (bytes : AreBytes file)
  where
    decodes : IsDecodable file form
    decodes = subst (IsDecodable file) o.form_is (is_decodable file (decodable file o.accepts))

    head_is_front : IsFront file (dsf_header d)
    head_is_front a p =
        begins_with_front a.out (dsf_header d) (rows_of d (sound_of form []) 0)
        (rows_are_front file form d o 0 [] 0 bytes (none_decoded_yet file form) (omega arith) (omega arith) a p)

    pub ends_at_head : (old new : Option (List ℕ)) (room : Option ℕ) → Stops (Unit {0}) (dsf_header d) old new room → DecodingEnds (Err Write) file old new room
    ends_at_head old new room s = stopped_at_sink (Unit {0}) file (dsf_header d) old new room bytes (tt {0}) head_is_front s

    -- a piece at which a device failed, and that every outcome begins with
    pub record IsStop (P : Type 0) (old new : Option (List ℕ)) (room : Option ℕ) : Type 0 where
      pub piece : List ℕ
      pub front : IsFront file piece
      pub stops : Stops P piece old new room

    at_stop : (P : Type 0) (k : ℕ) (sounds : List (List ℕ)) (old mid new : Option (List ℕ)) (room half : Option ℕ) → Adds (dsf_header d) old mid room half →
        AreDecoded file form k sounds → k ≤ form.frames →
        IsStoppedInRows P d (sound_of form sounds) mid new half ⊎ ((k ≡ form.frames) × Stops P (rows_of d (sound_of form sounds) (rows d)) mid new half) →
        IsStop P old new room
    at_stop P k sounds old mid new room half header h few (inl s) = record {
      piece = dsf_header d ++ rows_of d (sound_of form sounds) s.rows;
      front = rows_are_front file form d o k sounds s.rows bytes h (omega (arith, few, decodes.frames)) s.within;
      stops = stops_then P (dsf_header d) (rows_of d (sound_of form sounds) s.rows) old mid new room half header s.stops;
    }
    at_stop P k sounds old mid new room half header h few (inr (all, s)) = record {
      piece = dsf_header d ++ rows_of d (sound_of form sounds) (rows d);
      front = whole_is_front file form d o sounds bytes (subst (λ n. AreDecoded file form n sounds) all h);
      stops = stops_then P (dsf_header d) (rows_of d (sound_of form sounds) (rows d)) old mid new room half header s;
    }

    pub ends_in_rows : (fault : DecodeFault) (old mid new : Option (List ℕ)) (room half left : Option ℕ) → Adds (dsf_header d) old mid room half →
        FramesEnd (Err fault) file form d mid new half left → DecodingEnds (Err fault) file old new room
    ends_in_rows (Frame k fault) old mid new room half left header (sounds, at, written) = (
      dsf_header d ++ rows_of d (sound_of form sounds) (length (sound_of form sounds) / (4096 * d.channels)),
      refused_outcome file form d o k fault sounds at,
      written ∙ ap (λ told. and_then told (rows_of d (sound_of form sounds) (length (sound_of form sounds) / (4096 * d.channels)))) header.written
          ∙ and_then-twice old (dsf_header d) (rows_of d (sound_of form sounds) (length (sound_of form sounds) / (4096 * d.channels))),
    )
    ends_in_rows Write old mid new room half left header (k, sounds, h, few, s) =
        let stop = at_stop (Write ≡ Write) k sounds old mid new room half header h few s in
        stopped_at_sink (Write ≡ Write) file stop.piece old new room bytes refl stop.front stop.stops
    ends_in_rows (Source fault) old mid new room half left header (k, sounds, h, few, s) =
        let stop = at_stop (Source fault ≡ Write) k sounds old mid new room half header h few s in
        stopped_short (Source fault ≡ Write) file stop.piece old new room bytes stop.front stop.stops

    pub ends_unsettled : (sounds : List (List ℕ)) (old mid last new : Option (List ℕ)) (room half left : Option ℕ) → AreDecoded file form form.frames sounds →
        Adds (dsf_header d) old mid room half → Adds (rows_of d (sound_of form sounds) (rows d)) mid last half left → new ≡ last →
        ((n : ℕ) → left ≡ Some n → false ≡ true) → DecodingEnds (Err Write) file old new room
    ends_unsettled sounds old mid last new room half left h header body same sure =
        stopped_at_sink (Unit {0}) file (dsf_header d ++ rows_of d (sound_of form sounds) (rows d)) old new room bytes (tt {0})
        (whole_is_front file form d o sounds bytes h)
        (stops_unsettled (dsf_header d ++ rows_of d (sound_of form sounds) (rows d)) old last new room left
        (adds_then (dsf_header d) (rows_of d (sound_of form sounds) (rows d)) old mid last room half left header body) same sure)

    pub ends_done : (s : Decoded) (sounds : List (List ℕ)) (old mid last new : Option (List ℕ)) (room half left : Option ℕ) →
        AreDecoded file form form.frames sounds →
        Adds (dsf_header d) old mid room half → Adds (rows_of d (sound_of form sounds) (rows d)) mid last half left → new ≡ last →
        s.frames ≡ form.frames → s.bytes ≡ size_of_sound form → DecodingEnds (Ok s) file old new room
    ends_done s sounds old mid last new room half left h header body same frames size = (
      dsf_header d ++ rows_of d (sound_of form sounds) (rows d),
      subst (λ n. OutcomeOf decode_dsf file (done (dsf_header d ++ rows_of d (sound_of form sounds) (rows d)) (decoded_line n s.bytes ∷ []))) (sym frames)
          (subst (λ n. OutcomeOf decode_dsf file (done (dsf_header d ++ rows_of d (sound_of form sounds) (rows d)) (decoded_line form.frames n ∷ [])))
          (sym size)
          (done_outcome file form d o sounds h)),
      same ∙ (adds_then (dsf_header d) (rows_of d (sound_of form sounds) (rows d)) old mid last room half left header body).written,
    )
