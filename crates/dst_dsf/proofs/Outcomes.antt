-- What every outcome begins with, and how decoding to a DSF file ends, by the sounds of the frames.
use Rattle.std.proofs.Common.{◌≡◌, ◌⊎◌, inl, inr, ℕ, zero, suc, ◌+◌, ◌-◌, ◌*◌, ◌/◌, ◌%◌, ◌^◌, ◌<◌, ◌≤◌, List, [], ◌∷◌, ◌++◌, map, length, take, drop}
use Rattle.std.proofs.Common.{refl, sym, ap, subst, ◌∙◌, arith, append_assoc, append-nil, take-append-drop}
use Rattle.std.specs.List.{concat, AllZip, range_with_len}
use Rattle.std.specs.Prelude.{◌==◌, if◌then◌else◌, reverse}
use Rattle.std.proofs.lemmas.Bool.{cases_lt, cases_order, le-ltb}
use Rattle.std.proofs.lemmas.List.{take_all, get_or-take, length-take}
use Rattle.std.proofs.lemmas.List.Folds.{concat-append}
use Rattle.std.proofs.Math.Nat.{mul-div-mul_right, mul-le-mul_right}
use Rattle.dst_spec.specs.Bits.{AreBytes, number_from}
use Rattle.dst_spec.specs.Means.{Means}
use Rattle.dst_spec.specs.declared.faults.FrameFault.{FrameFault}
use Rattle.dst_spec.proofs.Lists.{all_take, place-below}
use Rattle.dsdiff_spec.specs.Bytes.{◌below◌}
use Rattle.dsdiff_spec.specs.Dsf.{Dsf, dsf_header, dsf_byte, dsf_row, dsf_with, dsf_in, octets, rows, to_dsf}
use Rattle.dsdiff_spec.specs.Form.{Form, shape, sound_bytes_of, size_of_sound}
use Rattle.dsdiff_spec.specs.Decoded.{frames_of}
use Rattle.dsdiff_spec.specs.Samples.{sample_in}
use Rattle.dsdiff_spec.specs.Words.{decode, decode_dsf}
use Rattle.dsdiff_spec.specs.Lines.{decoded_line}
use Rattle.dsdiff_spec.specs.Outcome.{Answer, done, frame_refused, IsStopped, IsDone, OfCommand}
use Rattle.dsdiff_spec.specs.Progress.{NoneOf, AreDecoded}
use Rattle.dsdiff_spec.proofs.CodedFiles.{IsDecodable, is_decodable}
use Rattle.dsdiff_spec.proofs.OneOutcome.{none_numbered, none_of_numbered, frames_are_answered}
use Rattle.dsdiff_spec.proofs.Progress.{BeginsWith, length-decoded, sound_is_whole, take_of_take}
use Rattle.dsdiff_spec.proofs.Verdicts.{IsAnswered, AreAnswered, fewer_sounds, stop_is_not_earlier}
use Rattle.dsf_laws.proofs.Alike.{map_alike, flat_alike}
use Rattle.dst_commands.specs.Commands.{OutcomeOf}
use Rattle.dst_read.specs.Decoding.{StopsAt, sound_of}
use Rattle.dst_dsf.specs.Rows.{samples_of, rows_of}
use Rattle.dst_dsf.specs.Decoding.{IsFor}
use Rattle.dst_dsf.proofs.Gathering.{one_more_row, rows_before}
use Rattle.dst_dsf.proofs.OneDsf.{IsStoppedDsf, to_number, by_number, decodable, one_outcome}

-- ---- the file by its rows
with_rows : (d : Dsf) (sound : List ℕ) (n : ℕ) → dsf_with d (samples_of d sound) n ≡ dsf_header d ++ rows_of d sound n
unfolding dsf_with rows_of
with_rows d sound n = refl

more_rows : (d : Dsf) (sound : List ℕ) (n m : ℕ) → BeginsWith (rows_of d sound (n + m)) (rows_of d sound n)
more_rows d sound n zero =
    let same : n + 0 ≡ n = omega arith in
    record { rest = []; is = ap (rows_of d sound) same ∙ sym (append-nil (rows_of d sound n)) }
more_rows d sound n (suc m) =
    let h = more_rows d sound n m in
    let next : n + suc m ≡ n + m + 1 = omega arith in
    record {
      rest = h.rest ++ dsf_row d (samples_of d sound) (n + m);
      is = ap (rows_of d sound) next ∙ one_more_row d sound (n + m) ∙ ap (λ w. w ++ dsf_row d (samples_of d sound) (n + m)) h.is
          ∙ append_assoc (rows_of d sound n) h.rest (dsf_row d (samples_of d sound) (n + m));
    }

rows_begin : (d : Dsf) (sound : List ℕ) (n m : ℕ) → n ≤ m → BeginsWith (dsf_header d ++ rows_of d sound m) (dsf_header d ++ rows_of d sound n)
rows_begin d sound n m few =
    let sum : n + (m - n) ≡ m = omega arith in
    let h = subst (λ k. BeginsWith (rows_of d sound k) (rows_of d sound n)) sum (more_rows d sound n (m - n)) in
    record { rest = h.rest; is = ap (λ w. dsf_header d ++ w) h.is ∙ sym (append_assoc (dsf_header d) (rows_of d sound n) h.rest) }

-- samples past the last one are 0, so that what stands behind the sound's end changes nothing
sample_cut : (d : Dsf) (all : List ℕ) (c t : ℕ) → c < d.channels → samples_of d (take (octets d * d.channels) all) c t ≡ samples_of d all c t
sample_cut d all c t mine = elim (cases_lt t d.samples) [
  | inl l ↦
      let inside : t / 8 * d.channels + c < octets d * d.channels = place-below (t / 8) c d.channels (octets d) mine (omega arith) in
      ap (λ b. if t below d.samples then b / 2 ^ (7 - t % 8) % 2 else 0) (get_or-take (octets d * d.channels) all (t / 8 * d.channels + c) 0 inside)
  | inr m ↦
      let past = le-ltb t d.samples m in
      ap (λ b. if b then sample_in (take (octets d * d.channels) all) d.channels c t else 0) past
      ∙ sym (ap (λ b. if b then sample_in all d.channels c t else 0) past)
]

rows_cut : (d : Dsf) (all : List ℕ) (n : ℕ) → rows_of d (take (octets d * d.channels) all) n ≡ rows_of d all n
unfolding rows_of
rows_cut d all n =
    let F = samples_of d (take (octets d * d.channels) all) in
    let G = samples_of d all in
    flat_alike (dsf_row d F) (dsf_row d G) 0 n (λ r l.
    flat_alike (λ c. map (λ j. dsf_byte d F c (4096 * r + j)) (range_with_len 0 4096))
    (λ c. map (λ j. dsf_byte d G c (4096 * r + j)) (range_with_len 0 4096)) 0 d.channels
    (λ c k. map_alike (λ j. dsf_byte d F c (4096 * r + j)) (λ j. dsf_byte d G c (4096 * r + j)) 0 4096
    (λ j m. ap (λ w. number_from (if d.bits == 1 then reverse w else w) 0 8)
    (map_alike (λ s. F c (8 * (4096 * r + j) + s)) (λ s. G c (8 * (4096 * r + j) + s)) 0 8
    (λ s i. sample_cut d all c (8 * (4096 * r + j) + s) (omega (arith, k)))))))

row_below : (d : Dsf) (r n size : ℕ) → 1 ≤ d.channels → size ≡ n * d.channels → r * (4096 * d.channels) ≤ size → r ≤ n / 4096
row_below d r n size some sized fits = elim (cases_lt (n / 4096) r) [
  | inl l ↦
      let next : (n / 4096 + 1) * (4096 * d.channels) ≤ r * (4096 * d.channels) = mul-le-mul_right (4096 * d.channels) (omega arith) in
      let above : n + 1 ≤ (n / 4096 + 1) * 4096 = omega arith in
      let times : (n + 1) * d.channels ≤ (n / 4096 + 1) * 4096 * d.channels = mul-le-mul_right d.channels above in
      let spread : (n / 4096 + 1) * 4096 * d.channels ≡ (n / 4096 + 1) * (4096 * d.channels) = omega arith in
      let one : (n + 1) * d.channels ≡ n * d.channels + d.channels = omega arith in
      absurd (omega (arith, next, times, spread, one, sized, fits, some))
  | inr m ↦ m
]

rows_most : (n r : ℕ) → r ≤ (n + 7) / 8 / 4096 → r ≤ (n + 32767) / 32768
rows_most n r l = omega arith

-- ---- an opened file
module _ (file : List ℕ) (form : Form) (d : Dsf) (o : IsFor file form d)
  where
    decodes : IsDecodable file form
    decodes = subst (IsDecodable file) o.form_is (is_decodable file (decodable file o.accepts))

    outcome : (a : Answer) → IsStopped decode_dsf file form a ⊎ IsDone decode_dsf file form a → OutcomeOf decode_dsf file a
    outcome a p =
        subst (λ q. OfCommand decode_dsf file q a) (sym o.accepts)
        (subst (λ f. IsStopped decode_dsf file f a ⊎ IsDone decode_dsf file f a) (sym o.form_is) p)

    is_outcome : (a : Answer) → OutcomeOf decode_dsf file a → IsStopped decode_dsf file form a ⊎ IsDone decode_dsf file form a
    is_outcome a p = subst (λ f. IsStopped decode_dsf file f a ⊎ IsDone decode_dsf file f a) o.form_is (subst (λ q. OfCommand decode_dsf file q a) o.accepts p)

    to_rows : (sounds : List (List ℕ)) (n : ℕ) → to_dsf sounds file form n ≡ dsf_header d ++ rows_of d (concat sounds) n
    to_rows sounds n = ap (λ (x : Dsf). dsf_with x (samples_of x (concat sounds)) n) o.said_is ∙ with_rows d (concat sounds) n

    sound_cut : (sounds : List (List ℕ)) (n : ℕ) → rows_of d (sound_of form sounds) n ≡ rows_of d (concat sounds) n
    sound_cut sounds n = ap (λ k. rows_of d (take k (concat sounds)) n) o.whole ∙ rows_cut d (concat sounds) n

    -- the rows that the sounds of k frames fill
    rows_before_frame : (k : ℕ) (sounds : List (List ℕ)) → AreDecoded file form k sounds → k < form.frames →
        length (sound_of form sounds) / (4096 * d.channels) ≡ k * (shape form).octets / 4096
    rows_before_frame k sounds h l =
        let long = length-decoded file form k sounds h (omega (arith, l, decodes.frames)) in
        let times : k * ((shape form).octets * form.channels) ≡ k * (shape form).octets * form.channels = omega arith in
        ap (λ w. length w / (4096 * d.channels)) (sound_is_whole file form k sounds decodes h l)
        ∙ ap (λ n. n / (4096 * d.channels)) (long ∙ times ∙ ap (λ c. k * (shape form).octets * c) (sym o.channels))
        ∙ mul-div-mul_right (k * (shape form).octets) 4096 o.some

    pub refused_outcome : (k : ℕ) (fault : FrameFault) (sounds : List (List ℕ)) → StopsAt file form k fault sounds →
        OutcomeOf decode_dsf file (frame_refused k fault
        (dsf_header d ++ rows_of d (sound_of form sounds) (length (sound_of form sounds) / (4096 * d.channels))))
    refused_outcome k fault sounds s =
        let out = dsf_header d ++ rows_of d (sound_of form sounds) (length (sound_of form sounds) / (4096 * d.channels)) in
        outcome (frame_refused k fault out) (inl (by_number file form (frame_refused k fault out) (record {
          k = k;
          fault = fault;
          stops = record { within = omega (arith, s.within, decodes.frames); first = s.before.none; refuses = s.refuses };
          out = out;
          written = record {
            sounds = sounds;
            each = s.before.each;
            written = ap (λ w. dsf_header d ++ w) (sound_cut sounds (length (sound_of form sounds) / (4096 * d.channels))
                ∙ ap (rows_of d (concat sounds)) (rows_before_frame k sounds s.before s.within))
                ∙ sym (to_rows sounds (k * (shape form).octets / 4096));
          };
          answer = refl;
        })))

    pub done_outcome : (sounds : List (List ℕ)) → AreDecoded file form form.frames sounds →
        OutcomeOf decode_dsf file (done (dsf_header d ++ rows_of d (sound_of form sounds) (rows d)) (decoded_line form.frames (size_of_sound form) ∷ []))
    done_outcome sounds h =
        let out = dsf_header d ++ rows_of d (sound_of form sounds) (rows d) in
        let all : take form.frames (frames_of file form) ≡ frames_of file form = take_all form.frames (frames_of file form) (omega (arith, decodes.frames)) in
        outcome (done out (decoded_line form.frames (size_of_sound form) ∷ [])) (inr (
          none_numbered decode form 0 (frames_of file form) (subst (NoneOf decode (shape form)) all h.none),
          (
            out,
            record {
              sounds = sounds;
              each = subst (λ fs. AllZip (Means (shape form)) fs sounds) all h.each;
              written = ap (λ w. dsf_header d ++ w) (sound_cut sounds (rows d) ∙ ap (λ (x : Dsf). rows_of d (concat sounds) (rows x)) (sym o.said_is))
                  ∙ sym (to_rows sounds (rows (dsf_in file form)));
            },
            refl,
          ),
        ))

    -- ---- every outcome begins with the rows that some sounds fill
    begins_by : (sounds all more : List (List ℕ)) (r n : ℕ) (out : List ℕ) → all ≡ sounds ++ more →
        r * (4096 * d.channels) ≤ length (sound_of form sounds) → r ≤ n →
        out ≡ to_dsf all file form n → BeginsWith out (dsf_header d ++ rows_of d (sound_of form sounds) r)
    begins_by sounds all more r n out joined within few out_is =
        let size = size_of_sound form in
        let rest = drop size (concat sounds) ++ concat more in
        let whole : concat all ≡ sound_of form sounds ++ rest =
        ap concat joined ∙ concat-append sounds more ∙ ap (λ w. w ++ concat more) (sym (take-append-drop size (concat sounds)))
        ∙ append_assoc (take size (concat sounds)) (drop size (concat sounds)) (concat more) in
        let same : rows_of d (concat all) r ≡ rows_of d (sound_of form sounds) r =
        ap (λ w. rows_of d w r) whole ∙ sym (rows_before d (sound_of form sounds) rest r within) in
        subst (λ w. BeginsWith w (dsf_header d ++ rows_of d (sound_of form sounds) r)) (sym (out_is ∙ to_rows all n))
        (subst (λ w. BeginsWith (dsf_header d ++ rows_of d (concat all) n) (dsf_header d ++ w)) same (rows_begin d (concat all) r n few))

    pub rows_are_front : (k : ℕ) (sounds : List (List ℕ)) (r : ℕ) → AreBytes file → AreDecoded file form k sounds → k ≤ length (frames_of file form) →
        r * (4096 * d.channels) ≤ length (sound_of form sounds) →
        (a : Answer) → OutcomeOf decode_dsf file a → BeginsWith a.out (dsf_header d ++ rows_of d (sound_of form sounds) r)
    rows_are_front k sounds r bytes h few within a p = go (is_outcome a p)
      where
        answered : AreAnswered decode (shape form) (frames_of file form)
        answered = subst (λ f. AreAnswered decode (shape f) (frames_of file f)) o.form_is (frames_are_answered file bytes (decodable file o.accepts))

        cut_below : length (sound_of form sounds) ≤ k * sound_bytes_of form
        cut_below = omega (arith, length-take (size_of_sound form) (concat sounds), length-decoded file form k sounds h few)

        go : IsStopped decode_dsf file form a ⊎ IsDone decode_dsf file form a → BeginsWith a.out (dsf_header d ++ rows_of d (sound_of form sounds) r)
        go (inl stopped) = at_stop (to_number file form a stopped)
          where
            at_stop : IsStoppedDsf file form a → BeginsWith a.out (dsf_header d ++ rows_of d (sound_of form sounds) r)
            at_stop s =
                let later : k ≤ s.k = not_earlier (cases_order s.k k) in
                let first = take s.k (frames_of file form) in
                let same : take k first ≡ take k (frames_of file form) = take_of_take k s.k (frames_of file form) later in
                let more = fewer_sounds decode (shape form) first sounds s.written.sounds k
                (all_take (IsAnswered decode (shape form)) s.k (frames_of file form) answered)
                (subst (NoneOf decode (shape form)) (sym same) h.none) (subst (λ fs. AllZip (Means (shape form)) fs sounds) (sym same) h.each) s.written.each in
                let most : k * sound_bytes_of form ≤ s.k * sound_bytes_of form = mul-le-mul_right (sound_bytes_of form) later in
                begins_by sounds s.written.sounds more.0 r (s.k * (shape form).octets / 4096) a.out more.1 within
                (row_below d r (s.k * (shape form).octets) (s.k * sound_bytes_of form) o.some
                (let times : s.k * ((shape form).octets * form.channels) ≡ s.k * (shape form).octets * form.channels = omega arith in
                times ∙ ap (λ c. s.k * (shape form).octets * c) (sym o.channels)) (omega (arith, within, cut_below, most)))
                (ap (λ (x : Answer). x.out) s.answer ∙ s.written.written)
              where
                not_earlier : (s.k ≡ k) ⊎ ((s.k < k) ⊎ (k < s.k)) → k ≤ s.k
                not_earlier (inl e) = omega arith
                not_earlier (inr (inl l)) = absurd (stop_is_not_earlier decode (shape form) (frames_of file form) s.k k s.fault h.none l
                    s.stops.within s.stops.refuses)
                not_earlier (inr (inr l)) = omega arith
        go (inr (none, (out, whole, e))) =
            let never = none_of_numbered decode form 0 (frames_of file form) none in
            let more = fewer_sounds decode (shape form) (frames_of file form) sounds whole.sounds k answered h.none h.each whole.each in
            begins_by sounds whole.sounds more.0 r (rows (dsf_in file form)) a.out more.1 within
            (subst (λ (x : Dsf). r ≤ rows x) (sym o.said_is)
            (let low = row_below d r (octets d) (size_of_sound form) o.some o.whole (omega (arith, within, length-take (size_of_sound form) (concat sounds))) in
            rows_most d.samples r low))
            (ap (λ (x : Answer). x.out) e ∙ whole.written)

    -- and where all frames are decoded, it is the whole file
    pub whole_is_front : (sounds : List (List ℕ)) → AreBytes file → AreDecoded file form form.frames sounds →
        (a : Answer) → OutcomeOf decode_dsf file a → BeginsWith a.out (dsf_header d ++ rows_of d (sound_of form sounds) (rows d))
    whole_is_front sounds bytes h a p =
        let one = one_outcome file bytes in
        let out = dsf_header d ++ rows_of d (sound_of form sounds) (rows d) in
        let same = one.2 a p ∙ sym (one.2 (done out (decoded_line form.frames (size_of_sound form) ∷ [])) (done_outcome sounds h)) in
        record { rest = []; is = ap (λ (x : Answer). x.out) same ∙ sym (append-nil out) }
