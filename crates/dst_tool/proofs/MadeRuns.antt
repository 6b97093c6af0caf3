-- What is made of a shape of frames, as the laws of files see it.
use Rattle.std.proofs.Common.{◌≡◌, inl, inr, ℕ, ◌+◌, ◌-◌, ◌*◌, ◌≤◌, List, [], ◌∷◌, length, Option, Some, None, sym, ap, ap₂, subst, ◌∙◌, arith}
use Rattle.dst_streams.specs.Told.{and_then}
use Rattle.dst_spec.specs.Bits.{AreBytes}
use Rattle.dst_spec.specs.Sample.{Shape, IsShape, sound_bytes}
use Rattle.level_spec.specs.Picks.{level_picks}
use Rattle.dsdiff_spec.specs.Form.{shape_of, size_of_sound}
use Rattle.dsdiff_spec.specs.Laws.{ComesBack, IsTheOutcome}
use Rattle.dsdiff_spec.specs.Lines.{decoded_line, made_run_line}
use Rattle.dsdiff_spec.specs.Made.{made_sound, plain_form}
use Rattle.dsdiff_spec.specs.Outcome.{coded_at, done, run_line, stored_at}
use Rattle.dsdiff_spec.specs.Refusal.{refusal}
use Rattle.dsdiff_spec.specs.Rules.{accepted}
use Rattle.dsdiff_spec.specs.Words.{encode, decode}
use Rattle.dsdiff_laws.proofs.Acceptance.{encoded_is, same_frames}
use Rattle.dsdiff_laws.proofs.Restoring.{same_size}
use Rattle.dsdiff_laws.proofs.Filed.{length-file}
use Rattle.dsdiff_laws.proofs.Headline.{headline, level_picks_law}
use Rattle.dsdiff_laws.proofs.MadeFile.{IsMade, made_chunks, is_file, made_long, made_is_accepted, made_frames, made_size, made_room}
use Rattle.dst_make.specs.Making.{multiple_of, made_file}
use Rattle.dst_make.proofs.MadeSounds.{length-made_sound, octets_of}

-- what a sink that held nothing holds
pub held : (old new : Option (List ℕ)) (piece xs : List ℕ) → old ≡ Some [] → new ≡ and_then old piece → new ≡ Some xs → xs ≡ piece
held old new piece xs nothing added is_xs =
    let same : Some xs ≡ Some piece = sym is_xs ∙ added ∙ ap (λ o. and_then o piece) nothing in
    cc

module _ (start frames : ℕ) (f : Shape) (few : frames ≤ 1000) (shape : IsShape f)
  where
    abbrev m : ℕ
    m = multiple_of f

    abbrev s : List ℕ
    s = made_sound start frames (shape_of f.channels m)

    abbrev file : List ℕ
    file = made_file start frames f

    by_shape : IsMade f.channels m
    by_shape = record {
      least = shape.least;
      most = shape.most;
      rate = elim shape.rate [ inl e ↦ inl (omega (arith, e)) | inr (inl e) ↦ inr (inl (omega (arith, e))) | inr (inr e) ↦ inr (inr (omega (arith, e))) ];
    }

    same_shape : shape_of f.channels m ≡ f
    same_shape = ap (λ o. record { channels = f.channels; octets = o }) (octets_of f shape)

    long : length s ≡ frames * sound_bytes (shape_of f.channels m)
    long = length-made_sound start frames (shape_of f.channels m)

    sound_long : length s ≡ frames * sound_bytes f
    sound_long = long ∙ ap (λ g. frames * sound_bytes g) same_shape

    pub file_long : length (made_file start frames f) ≡ 122 + 4 * f.channels + frames * sound_bytes f
    unfolding plain_form
    file_long =
        let all = length-file file (made_chunks f.channels m s) [] (is_file f.channels m frames s by_shape few long) in
        let chunks = made_long f.channels m frames s by_shape few long in
        let rate : f.octets ≡ 2 * (2352 * m) = omega (arith, octets_of f shape) in
        let twice : frames * (2 * (2352 * m) * f.channels) ≡ 2 * (frames * (2352 * m * f.channels)) = omega arith in
        let even : length s ≡ 2 * (frames * (2352 * m * f.channels)) = sound_long ∙ ap (λ o. frames * (o * f.channels)) rate ∙ twice in
        omega (arith, all, chunks, even, sound_long)

    pub file_accepted : (level : ℕ) → refusal (encode level) (made_file start frames f) ≡ None
    unfolding plain_form
    file_accepted level = made_is_accepted f.channels m frames s by_shape few long level

    pub file_frames : (accepted (made_file start frames f)).frames ≡ frames
    unfolding plain_form
    file_frames = made_frames f.channels m frames s by_shape few long

    pub file_sound : size_of_sound (accepted (made_file start frames f)) ≡ frames * sound_bytes f
    unfolding plain_form
    file_sound = made_size f.channels m frames s by_shape few long ∙ sound_long

    pub coded_fits : AreBytes (made_file start frames f) →
        length (coded_at 2 (made_file start frames f) (accepted (made_file start frames f))) ≤ length (made_file start frames f) + 26 * frames + 200
    unfolding plain_form
    coded_fits bytes = made_room f.channels m frames s by_shape few long (level_picks 2) bytes (level_picks_law 2)

    pub file_comes_back : AreBytes (made_file start frames f) →
        ComesBack 2 (made_file start frames f) (accepted (made_file start frames f))
        (coded_at 2 (made_file start frames f) (accepted (made_file start frames f)))
    file_comes_back bytes = headline file 2 (bytes, file_accepted 1)

    pub coded_frames : AreBytes (made_file start frames f) →
        (accepted (coded_at 2 (made_file start frames f) (accepted (made_file start frames f)))).frames ≡ frames
    coded_frames bytes =
        same_frames file (level_picks 2) (encoded_is file (level_picks 2) (bytes, file_accepted 1) (level_picks_law 2)) ∙ file_frames

    pub coded_sound : AreBytes (made_file start frames f) →
        size_of_sound (accepted (coded_at 2 (made_file start frames f) (accepted (made_file start frames f)))) ≡ frames * sound_bytes f
    coded_sound bytes =
        same_size file (level_picks 2) (encoded_is file (level_picks 2) (bytes, file_accepted 1) (level_picks_law 2)) ∙ file_sound

-- ---- what is held of a run
-- the file that was made
pub record HoldsMade (start frames : ℕ) (f : Shape) (plain : List ℕ) : Type 0 where
  pub few : frames ≤ 1000
  pub shape : IsShape f
  pub is_made : plain ≡ made_file start frames f
  pub bytes : AreBytes plain

pub holds_made : (start frames : ℕ) (f : Shape) (plain : List ℕ) (old new : Option (List ℕ)) → frames ≤ 100 → IsShape f → old ≡ Some [] →
    new ≡ and_then old (made_file start frames f) → new ≡ Some plain → AreBytes plain → HoldsMade start frames f plain
holds_made start frames f plain old new most shape nothing added is_plain bytes = record {
  few = omega arith;
  shape = shape;
  is_made = held old new (made_file start frames f) plain nothing added is_plain;
  bytes = bytes;
}

made_bytes : (start frames : ℕ) (f : Shape) (plain : List ℕ) → HoldsMade start frames f plain → AreBytes (made_file start frames f)
made_bytes start frames f plain m = subst AreBytes m.is_made m.bytes

pub plain_accepted : {start frames : ℕ} {f : Shape} {plain : List ℕ} → HoldsMade start frames f plain → refusal (encode 2) plain ≡ None
plain_accepted {start} {frames} {f} {plain} m = subst (λ w. refusal (encode 2) w ≡ None) (sym m.is_made) (file_accepted start frames f m.few m.shape 2)

pub plain_fits : {start frames : ℕ} {f : Shape} {plain : List ℕ} → HoldsMade start frames f plain → (room : ℕ) →
    length (made_file start frames f) + 26 * frames + 200 ≤ room → length (coded_at 2 plain (accepted plain)) ≤ room
plain_fits {start} {frames} {f} {plain} m room most =
    subst (λ w. length (coded_at 2 w (accepted w)) ≤ room) (sym m.is_made)
    (omega (arith, coded_fits start frames f m.few m.shape (made_bytes start frames f plain m)))

pub plain_frames : {start frames : ℕ} {f : Shape} {plain : List ℕ} → HoldsMade start frames f plain → (accepted plain).frames ≡ frames
plain_frames {start} {frames} {f} {plain} m = ap (λ w. (accepted w).frames) m.is_made ∙ file_frames start frames f m.few m.shape

pub plain_stored : {start frames : ℕ} {f : Shape} {plain : List ℕ} → HoldsMade start frames f plain →
    stored_at 2 plain (accepted plain) ≡ stored_at 2 (made_file start frames f) (accepted (made_file start frames f))
plain_stored {start} {frames} {f} {plain} m = ap (λ w. stored_at 2 w (accepted w)) m.is_made

-- the file that was coded of it
pub record HoldsCoded (start frames : ℕ) (f : Shape) (coded : List ℕ) : Type 0 where
  pub few : frames ≤ 1000
  pub shape : IsShape f
  pub is_coded : coded ≡ coded_at 2 (made_file start frames f) (accepted (made_file start frames f))
  pub bytes : AreBytes (made_file start frames f)

pub holds_coded : {start frames : ℕ} {f : Shape} {plain : List ℕ} → HoldsMade start frames f plain → (coded : List ℕ) (old new : Option (List ℕ)) →
    old ≡ Some [] → new ≡ and_then old (coded_at 2 plain (accepted plain)) → new ≡ Some coded → HoldsCoded start frames f coded
holds_coded {start} {frames} {f} {plain} m coded old new nothing added is_coded = record {
  few = m.few;
  shape = m.shape;
  is_coded = held old new (coded_at 2 plain (accepted plain)) coded nothing added is_coded ∙ ap (λ w. coded_at 2 w (accepted w)) m.is_made;
  bytes = made_bytes start frames f plain m;
}

pub decoded_back : {start frames : ℕ} {f : Shape} {coded : List ℕ} → HoldsCoded start frames f coded →
    let file = made_file start frames f in
    IsTheOutcome decode coded (done file (decoded_line (accepted file).frames (size_of_sound (accepted file)) ∷ []))
decoded_back {start} {frames} {f} {coded} h =
    let file = made_file start frames f in
    let line = decoded_line (accepted file).frames (size_of_sound (accepted file)) in
    subst (λ w. IsTheOutcome decode w (done file (line ∷ []))) (sym h.is_coded) (file_comes_back start frames f h.few h.shape h.bytes).decoded

pub decoded_frames : {start frames : ℕ} {f : Shape} {coded : List ℕ} → HoldsCoded start frames f coded → (accepted coded).frames ≡ frames
decoded_frames {start} {frames} {f} {coded} h = ap (λ w. (accepted w).frames) h.is_coded ∙ coded_frames start frames f h.few h.shape h.bytes

pub decoded_sound : {start frames : ℕ} {f : Shape} {coded : List ℕ} → HoldsCoded start frames f coded →
    size_of_sound (accepted coded) ≡ frames * sound_bytes f
decoded_sound {start} {frames} {f} {coded} h = ap (λ w. size_of_sound (accepted w)) h.is_coded ∙ coded_sound start frames f h.few h.shape h.bytes

-- the line of the outcome has the numbers that were answered
pub line_of_run : {start frames : ℕ} {f : Shape} {coded : List ℕ} → HoldsCoded start frames f coded → (stored restored : ℕ) →
    stored ≡ stored_at 2 (made_file start frames f) (accepted (made_file start frames f)) → restored ≡ frames * sound_bytes f →
    run_line frames (made_file start frames f) ≡ made_run_line frames (frames * sound_bytes f) stored restored
line_of_run {start} {frames} {f} {coded} h stored restored stays back =
    let file = made_file start frames f in
    let sound = file_sound start frames f h.few h.shape in
    ap₂ (λ (a b : ℕ). made_run_line frames a (stored_at 2 file (accepted file)) b) sound (coded_sound start frames f h.few h.shape h.bytes)
    ∙ ap₂ (λ (a b : ℕ). made_run_line frames (frames * sound_bytes f) a b) (sym stays) (sym back)
