-- How far decoding came: what is written of an accepted file when some of its frames are decoded, and how it ends.
use Rattle.std.proofs.Common.{◌≡◌, ◌⊎◌, inl, inr, ℕ, zero, suc, ◌+◌, ◌-◌, ◌*◌, ◌<◌, ◌≤◌, List, [], ◌∷◌, ◌++◌, length, take, drop, get_or, refl, ap, sym, subst}
use Rattle.std.proofs.Common.{◌∙◌, arith, length-append, append_assoc, append-nil, take_at, take-append-drop, None}
use Rattle.std.specs.List.{AllByRecursion, AllZip, concat}
use Rattle.std.proofs.lemmas.Bool.{cases_order}
use Rattle.std.proofs.lemmas.List.{take_more, take_all, length-map, length-take-le, get_or-map}
use Rattle.std.proofs.lemmas.List.Folds.{concat-append}
use Rattle.dst_spec.specs.Bits.{AreBytes}
use Rattle.dst_spec.specs.Means.{Means}
use Rattle.dst_spec.specs.declared.faults.FrameFault.{FrameFault}
use Rattle.dst_spec.proofs.Lists.{all_take}
use Rattle.dsdiff_spec.specs.Form.{Form, shape, sound_bytes_of, size_of_sound}
use Rattle.dsdiff_spec.specs.Rules.{accepted}
use Rattle.dsdiff_spec.specs.Walk.{entry, entries, frame_at}
use Rattle.dsdiff_spec.specs.Decoded.{frames_of, decoded_before_frame}
use Rattle.dsdiff_spec.specs.Pieces.{decoded_front, decoded_end}
use Rattle.dsdiff_spec.specs.Words.{decode}
use Rattle.dsdiff_spec.specs.Refusal.{refusal}
use Rattle.dsdiff_spec.specs.Lines.{decoded_line}
use Rattle.dsdiff_spec.specs.Outcome.{Answer, done, frame_refused, Refuses, IsStopped, IsDone, OfCommand}
use Rattle.dsdiff_spec.proofs.Pieces.{AreWhole, length-sounds, decoded_of_sounds, written_before_frame}
use Rattle.dsdiff_spec.proofs.CodedFiles.{IsDecodable, is_decodable}
use Rattle.dsdiff_spec.specs.Progress.{NotRefused, NoneOf, AreDecoded}
use Rattle.dsdiff_spec.proofs.Verdicts.{IsAnswered, AreAnswered, fewer_sounds, stop_is_not_earlier}
use Rattle.dsdiff_spec.proofs.OneOutcome.{IsStoppedDecoding, to_number, by_number, none_numbered, frames_are_answered, decoding_has_one_outcome}

-- ---- bytes that begin with others
pub record BeginsWith (whole front : List ℕ) : Type 0 where
  pub rest : List ℕ
  pub is : whole ≡ front ++ rest

pub begins_with_front : (whole a b : List ℕ) → BeginsWith whole (a ++ b) → BeginsWith whole a
begins_with_front whole a b h = record { rest = b ++ h.rest; is = h.is ∙ append_assoc a b h.rest }

pub begins_cut_short : (whole a b : List ℕ) (n : ℕ) → BeginsWith whole (a ++ b) → BeginsWith whole (a ++ take n b)
begins_cut_short whole a b n h =
    begins_with_front whole (a ++ take n b) (drop n b)
    (subst (BeginsWith whole) (ap (λ w. a ++ w) (sym (take-append-drop n b)) ∙ sym (append_assoc a (take n b) (drop n b))) h)

pub length-front : (whole front : List ℕ) → BeginsWith whole front → length front ≤ length whole
length-front whole front h = omega (arith, ap length h.is, length-append front h.rest)

pub take-front : (whole front : List ℕ) → BeginsWith whole front → take (length front) whole ≡ front
take-front whole front h = ap (take (length front)) h.is ∙ take_at front h.rest (length front) refl

-- ---- the first frames of a form
pub none_decoded_yet : (file : List ℕ) (form : Form) → AreDecoded file form 0 []
none_decoded_yet file form = record { each = tt; none = tt }

pub zip_push : {A B : Type 0} (R : A → B → Type 0) (xs : List A) (ys : List B) (x : A) (y : B) → AllZip R xs ys → R x y → AllZip R (xs ++ x ∷ []) (ys ++ y ∷ [])
zip_push R [] [] x y h r = (r, tt)
zip_push R [] (b ∷ bs) x y h r = absurd h
zip_push R (a ∷ more) [] x y h r = absurd h
zip_push R (a ∷ more) (b ∷ bs) x y h r = (h.0, zip_push R more bs x y h.1 r)

pub all_push : {A : Type 0} (P : A → Type 0) (xs : List A) (x : A) → AllByRecursion P xs → P x → AllByRecursion P (xs ++ x ∷ [])
all_push P [] x h p = (p, tt)
all_push P (a ∷ more) x h p = (h.0, all_push P more x h.1 p)

pub one_more_decoded : (file : List ℕ) (form : Form) (k : ℕ) (sounds : List (List ℕ)) (sound : List ℕ) → AreDecoded file form k sounds →
    k < length (frames_of file form) → Means (shape form) (get_or (frames_of file form) k []) sound →
    NotRefused decode (shape form) (get_or (frames_of file form) k []) →
    AreDecoded file form (k + 1) (sounds ++ sound ∷ [])
one_more_decoded file form k sounds sound h l m n =
    let frames = frames_of file form in
    let frame = get_or frames k [] in
    let more = sym (take_more frames k [] l) in
    record {
      each = subst (λ fs. AllZip (Means (shape form)) fs (sounds ++ sound ∷ [])) more
          (zip_push (Means (shape form)) (take k frames) sounds frame sound h.each m);
      none = subst (NoneOf decode (shape form)) more (all_push (NotRefused decode (shape form)) (take k frames) frame h.none n);
    }

-- frame k is the bytes of the file that entry k names
pub frame_of_entry : (file : List ℕ) (form : Form) (k : ℕ) → k < length (frames_of file form) →
    frame_at file (entry (entries file form) k) ≡ get_or (frames_of file form) k []
frame_of_entry file form k l =
    let es = entries file form in
    let same = length-map es (frame_at file) in
    sym (get_or-map (frame_at file) es k (record { offset = 0; size = 0 }) [] (omega arith))

-- their sounds have the bytes of k frames
whole_sounds : (form : Form) (frames sounds : List (List ℕ)) → AllZip (Means (shape form)) frames sounds →
    AreWhole (sound_bytes_of form) sounds × (length sounds ≡ length frames)
whole_sounds form [] [] h = (tt, refl)
whole_sounds form [] (s ∷ ss) h = absurd h
whole_sounds form (x ∷ xs) [] h = absurd h
whole_sounds form (x ∷ xs) (s ∷ ss) h =
    let later = whole_sounds form xs ss h.1 in
    ((h.0.0.long, later.0), ap suc later.1)

pub decoded_are_whole : (file : List ℕ) (form : Form) (k : ℕ) (sounds : List (List ℕ)) → AreDecoded file form k sounds → AreWhole (sound_bytes_of form) sounds
decoded_are_whole file form k sounds h = (whole_sounds form (take k (frames_of file form)) sounds h.each).0

pub decoded_count : (file : List ℕ) (form : Form) (k : ℕ) (sounds : List (List ℕ)) → AreDecoded file form k sounds → k ≤ length (frames_of file form) →
    length sounds ≡ k
decoded_count file form k sounds h l = (whole_sounds form (take k (frames_of file form)) sounds h.each).1 ∙ length-take-le k (frames_of file form) l

pub length-decoded : (file : List ℕ) (form : Form) (k : ℕ) (sounds : List (List ℕ)) → AreDecoded file form k sounds → k ≤ length (frames_of file form) →
    length (concat sounds) ≡ k * sound_bytes_of form
length-decoded file form k sounds h l =
    length-sounds (sound_bytes_of form) sounds (decoded_are_whole file form k sounds h)
    ∙ ap (λ n. n * sound_bytes_of form) (decoded_count file form k sounds h l)

-- ---- the sound, cut to its size
pub take-joined : {A : Type 0} (n : ℕ) (xs ys : List A) → take n (xs ++ ys) ≡ take n xs ++ take (n - length xs) ys
take-joined zero xs ys =
    let none : 0 ≡ 0 - length xs = omega arith in
    ap (λ m. take m ys) none
take-joined (suc n) [] ys =
    let same : suc n ≡ suc n - 0 = omega arith in
    ap (λ m. take m ys) same
take-joined (suc n) (x ∷ xs) ys =
    let less : n - length xs ≡ suc n - suc (length xs) = omega arith in
    ap (λ l. x ∷ l) (take-joined n xs ys ∙ ap (λ m. take n xs ++ take m ys) less)

pub sound_grows : (size : ℕ) (sounds : List (List ℕ)) (sound : List ℕ) →
    take size (concat (sounds ++ sound ∷ [])) ≡ take size (concat sounds) ++ take (size - length (concat sounds)) sound
sound_grows size sounds sound = ap (take size) (concat-append sounds (sound ∷ []) ∙ ap (λ w. concat sounds ++ w) (append-nil sound))
    ∙ take-joined size (concat sounds) sound

pub sound_of_frame : (file : List ℕ) (form : Form) (k : ℕ) (sounds : List (List ℕ)) (sound : List ℕ) → AreDecoded file form k sounds →
    k ≤ length (frames_of file form) →
    take (size_of_sound form) (concat (sounds ++ sound ∷ [])) ≡ take (size_of_sound form) (concat sounds) ++ take
    (size_of_sound form - k * sound_bytes_of form) sound
sound_of_frame file form k sounds sound h l =
    sound_grows (size_of_sound form) sounds sound
    ∙ ap (λ n. take (size_of_sound form) (concat sounds) ++ take (size_of_sound form - n) sound) (length-decoded file form k sounds h l)

-- in front of a frame it is whole
pub sound_is_whole : (file : List ℕ) (form : Form) (k : ℕ) (sounds : List (List ℕ)) → IsDecodable file form → AreDecoded file form k sounds → k < form.frames →
    take (size_of_sound form) (concat sounds) ≡ concat sounds
sound_is_whole file form k sounds d h l =
    let long = length-decoded file form k sounds h (omega (arith, d.frames)) in
    let reached = d.reached k l in
    take_all (size_of_sound form) (concat sounds) (omega arith)

-- ---- how decoding an accepted file ends
abbrev pub sound_size : List ℕ → ℕ
sound_size file = size_of_sound (accepted file)

abbrev pub head_of : List ℕ → List ℕ
head_of file = decoded_front (sound_size file) file (accepted file)

abbrev pub end_of : List ℕ → List ℕ
end_of file = decoded_end (sound_size file) file (accepted file)

-- the sound before a frame is whole
sound_before_frame : (file : List ℕ) (k : ℕ) (sounds : List (List ℕ)) → IsDecodable file (accepted file) → AreDecoded file (accepted file) k sounds →
    k < (accepted file).frames →
    decoded_before_frame sounds file (accepted file) ≡ head_of file ++ concat sounds
sound_before_frame file k sounds d h l =
    let form = accepted file in
    let few : k ≤ length (frames_of file form) = omega (arith, d.frames) in
    let count = decoded_count file form k sounds h few in
    let reached = d.reached k l in
    written_before_frame sounds file form (decoded_are_whole file form k sounds h) (omega arith)
    (subst (λ n. n * sound_bytes_of form ≤ size_of_sound form) (sym count) reached) d.fits

pub stops_at_frame : (file : List ℕ) (k : ℕ) (sounds : List (List ℕ)) (fault : FrameFault) → refusal decode file ≡ None →
    AreDecoded file (accepted file) k sounds → k < (accepted file).frames →
    Refuses decode (shape (accepted file)) (get_or (frames_of file (accepted file)) k []) fault →
    OfCommand decode file (refusal decode file) (frame_refused k fault (head_of file ++ concat sounds))
stops_at_frame file k sounds fault none h l r =
    let form = accepted file in
    let d = is_decodable file none in
    let out = head_of file ++ concat sounds in
    let o = frame_refused k fault out in
    let stopped : IsStoppedDecoding file form o = record {
      k = k;
      fault = fault;
      stops = record { within = omega (arith, d.frames); first = h.none; refuses = r };
      out = out;
      written = record { sounds = sounds; each = h.each; written = sym (sound_before_frame file k sounds d h l) };
      answer = refl;
    } in
    subst (λ q. OfCommand decode file q o) (sym none) (inl (by_number file form o stopped))

pub ends_with_sound : (file : List ℕ) (sounds : List (List ℕ)) → refusal decode file ≡ None → AreDecoded file (accepted file) (accepted file).frames sounds →
    OfCommand decode file (refusal decode file)
    (done (head_of file ++ take (sound_size file) (concat sounds) ++ end_of file) (decoded_line (accepted file).frames (sound_size file) ∷ []))
ends_with_sound file sounds none h =
    let form = accepted file in
    let frames = frames_of file form in
    let d = is_decodable file none in
    let out = head_of file ++ take (sound_size file) (concat sounds) ++ end_of file in
    let o = done out (decoded_line form.frames (sound_size file) ∷ []) in
    let all : take form.frames frames ≡ frames = take_all form.frames frames (omega (arith, d.frames)) in
    let long = length-decoded file form form.frames sounds h (omega (arith, d.frames)) in
    let room : size_of_sound form ≤ length (concat sounds) = omega (arith, d.fits) in
    subst (λ q. OfCommand decode file q o) (sym none) (inr (
      none_numbered decode form 0 frames (subst (NoneOf decode (shape form)) all h.none),
      (
        out,
        record {
          sounds = sounds;
          each = subst (λ fs. AllZip (Means (shape form)) fs sounds) all h.each;
          written =
              sym (decoded_of_sounds sounds file form room);
        },
        refl,
      ),
    ))

-- ---- every outcome of an accepted file begins with what is written when its first k frames are decoded
pub take_of_take : {A : Type 0} (k n : ℕ) (xs : List A) → k ≤ n → take k (take n xs) ≡ take k xs
take_of_take zero n xs h = refl
take_of_take (suc k) zero xs h = absurd (omega arith)
take_of_take (suc k) (suc n) [] h = refl
take_of_take (suc k) (suc n) (x ∷ xs) h = ap (λ l. x ∷ l) (take_of_take k n xs (omega arith))

begins_with_some : (head end : List ℕ) (size : ℕ) (sounds all more : List (List ℕ)) → all ≡ sounds ++ more →
    BeginsWith (head ++ take size (concat all) ++ end) (head ++ take size (concat sounds))
begins_with_some head end size sounds all more e =
    let front = take size (concat sounds) in
    let rest = take (size - length (concat sounds)) (concat more) in
    let split : take size (concat all) ≡ front ++ rest = ap (λ l. take size (concat l)) e ∙ ap (take size) (concat-append sounds more)
    ∙ take-joined size (concat sounds) (concat more) in
    record {
      rest = rest ++ end;
      is = ap (λ w. head ++ w ++ end) split ∙ ap (λ w. w ++ end) (sym (append_assoc head front rest))
          ∙ append_assoc (head ++ front) rest end;
    }

stopped_begins : (file : List ℕ) (k : ℕ) (sounds : List (List ℕ)) (o : Answer) → IsDecodable file (accepted file) →
    AreAnswered decode (shape (accepted file)) (frames_of file (accepted file)) →
    AreDecoded file (accepted file) k sounds → IsStoppedDecoding file (accepted file) o →
    BeginsWith o.out (head_of file ++ take (sound_size file) (concat sounds))
stopped_begins file k sounds o d answered h s =
    let c = decode in
    let form = accepted file in
    let f = shape form in
    let frames = frames_of file form in
    let size = sound_size file in
    let first = take s.k frames in
    let within : s.k < form.frames = omega (arith, s.stops.within, d.frames) in
    let later : k ≤ s.k = not_earlier (cases_order s.k k) in
    let same = take_of_take k s.k frames later in
    let more = fewer_sounds c f first sounds s.written.sounds k (all_take (IsAnswered c f) s.k frames answered)
    (subst (NoneOf c f) (sym same) h.none) (subst (λ fs. AllZip (Means f) fs sounds) (sym same) h.each) s.written.each in
    let there : AreDecoded file form s.k s.written.sounds = record { each = s.written.each; none = s.stops.first } in
    let long = length-decoded file form s.k s.written.sounds there (omega (arith, s.stops.within)) in
    let reached = d.reached s.k within in
    let whole : take size (concat s.written.sounds) ≡ concat s.written.sounds = take_all size (concat s.written.sounds) (omega arith) in
    let out : o.out ≡ head_of file ++ take size (concat s.written.sounds) ++ [] =
    ap (λ (a : Answer). a.out) s.answer ∙ s.written.written ∙ sound_before_frame file s.k s.written.sounds d there within
    ∙ ap (λ w. head_of file ++ w) (sym whole) ∙ sym (append-nil (head_of file ++ take size (concat s.written.sounds))) in
    subst (λ w. BeginsWith w (head_of file ++ take size (concat sounds))) (sym out)
    (begins_with_some (head_of file) [] size sounds s.written.sounds more.0 more.1)
  where
    not_earlier : (s.k ≡ k) ⊎ ((s.k < k) ⊎ (k < s.k)) → k ≤ s.k
    not_earlier (inl e) = omega arith
    not_earlier (inr (inl l)) = absurd (stop_is_not_earlier decode (shape (accepted file))
        (frames_of file (accepted file)) s.k k s.fault h.none l s.stops.within s.stops.refuses)
    not_earlier (inr (inr l)) = omega arith

done_begins : (file : List ℕ) (k : ℕ) (sounds : List (List ℕ)) (o : Answer) → IsDecodable file (accepted file) →
    AreAnswered decode (shape (accepted file)) (frames_of file (accepted file)) →
    AreDecoded file (accepted file) k sounds → IsDone decode file (accepted file) o → BeginsWith o.out (head_of file ++ take (sound_size file) (concat sounds))
done_begins file k sounds o d answered h (none, (out, plain, e)) =
    let c = decode in
    let form = accepted file in
    let frames = frames_of file form in
    let more = fewer_sounds c (shape form) frames sounds plain.sounds k answered h.none h.each plain.each in
    let all = whole_sounds form frames plain.sounds plain.each in
    let count : length plain.sounds ≡ form.frames = all.1 ∙ d.frames in
    let long : length (concat plain.sounds) ≡ form.frames * sound_bytes_of form = length-sounds (sound_bytes_of form) plain.sounds all.0
    ∙ ap (λ n. n * sound_bytes_of form) count in
    let room : size_of_sound form ≤ length (concat plain.sounds) = omega (arith, d.fits) in
    let is : o.out ≡ head_of file ++ take (sound_size file) (concat plain.sounds) ++ end_of file = ap (λ (a : Answer). a.out) e ∙ plain.written
    ∙ decoded_of_sounds plain.sounds file form room in
    subst (λ w. BeginsWith w (head_of file ++ take (sound_size file) (concat sounds))) (sym is)
    (begins_with_some (head_of file) (end_of file) (sound_size file) sounds plain.sounds more.0 more.1)

pub outcome_begins : (file : List ℕ) (k : ℕ) (sounds : List (List ℕ)) → AreBytes file → refusal decode file ≡ None → AreDecoded file (accepted file) k sounds →
    (o : Answer) → OfCommand decode file (refusal decode file) o → BeginsWith o.out (head_of file ++ take (sound_size file) (concat sounds))
outcome_begins file k sounds bytes none h o p = go (subst (λ q. OfCommand decode file q o) none p)
  where
    go : IsStopped decode file (accepted file) o ⊎ IsDone decode file (accepted file) o →
        BeginsWith o.out (head_of file ++ take (sound_size file) (concat sounds))
    go (inl s) = stopped_begins file k sounds o (is_decodable file none) (frames_are_answered file bytes none) h (to_number file (accepted file) o s)
    go (inr d) = done_begins file k sounds o (is_decodable file none) (frames_are_answered file bytes none) h d

pub outcome_begins_with_head : (file : List ℕ) → AreBytes file → refusal decode file ≡ None →
    (o : Answer) → OfCommand decode file (refusal decode file) o → BeginsWith o.out (head_of file)
outcome_begins_with_head file bytes none o p =
    begins_with_front o.out (head_of file) (take (sound_size file) (concat []))
    (outcome_begins file 0 [] bytes none (none_decoded_yet file (accepted file)) o p)

-- where all frames are decoded there is no other outcome than that their sound is written
pub every_outcome_has_sound : (file : List ℕ) (sounds : List (List ℕ)) → AreBytes file → refusal decode file ≡ None →
    AreDecoded file (accepted file) (accepted file).frames sounds →
    (o : Answer) → OfCommand decode file (refusal decode file) o →
    o ≡ done (head_of file ++ take (sound_size file) (concat sounds) ++ end_of file) (decoded_line (accepted file).frames (sound_size file) ∷ [])
every_outcome_has_sound file sounds bytes none h o p =
    let one = decoding_has_one_outcome file bytes in
    one.2 o p ∙ sym (one.2 (done (head_of file ++ take (sound_size file) (concat sounds) ++ end_of file)
    (decoded_line (accepted file).frames (sound_size file) ∷ [])) (ends_with_sound file sounds none h))
