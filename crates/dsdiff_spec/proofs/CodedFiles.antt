-- What a file has that is accepted for decoding: frames of a lawful shape, as many as the frame count says, and as many as its
-- sound needs.
use Rattle.std.proofs.lemmas.Bool.{ltb-false}
use Rattle.std.proofs.Common.{◌≡◌, inl, inr, ℕ, ◌+◌, ◌-◌, ◌*◌, ◌%◌, ◌<◌, ◌≤◌, ◌==◌, Bool, true, false, List, [], ◌∷◌, length, drop, map, refl}
use Rattle.std.proofs.Common.{ap, sym, ◌∙◌, arith, Option, Some, None, Result, Ok, Err, eqb-true}
use Rattle.std.specs.Prelude.{not}
use Rattle.std.specs.List.{AllByRecursion}
use Rattle.std.proofs.lemmas.List.{length-map}
use Rattle.std.proofs.Math.Nat.{mul-le-mul, mul-le-mul_right, div-add-mod}
use Rattle.dst_spec.specs.Bits.{AreBytes}
use Rattle.dst_spec.specs.Sample.{Shape, IsShape, sound_bytes}
use Rattle.dst_spec.proofs.Lists.{AreBytes-take, AreBytes-drop}
use Rattle.dsdiff_spec.specs.Faults.{◌when◌, ◌otherwise◌, first_some}
use Rattle.dsdiff_spec.specs.Bytes.{◌above◌}
use Rattle.dsdiff_spec.specs.Chunks.{Head}
use Rattle.dsdiff_spec.specs.Form.{Kind, plain, coded, is_plain, Origin, Form, shape, shape_of, sound_bytes_of, frames_for, plain_size, size_of_sound}
use Rattle.dsdiff_spec.specs.Parts.{all, prop, kind, frame_count, channel_count, multiple, sound_bytes_in}
use Rattle.dsdiff_spec.specs.Origin.{origin_of, is_bad_origin}
use Rattle.dsdiff_spec.specs.Chunks.{body_of}
use Rattle.dsdiff_spec.specs.Rules.{opening_fault, version_fault, prop_fault, sound_fault, kind_fault, form_fault, coded_fault, accepted, form_of_kind}
use Rattle.dsdiff_spec.specs.Rules.{has_bad_origin, origin_in}
use Rattle.dsdiff_spec.specs.Walk.{Entry, entry_of, frame_heads, entries, frame_at, in_dst, frame_fault, walk_fault}
use Rattle.dsdiff_spec.specs.Decoded.{frames_of}
use Rattle.dsdiff_spec.specs.Words.{Command, decode}
use Rattle.dsdiff_spec.specs.Refusal.{not_walked, not_coded, command_fault, refusal}
use Rattle.dsdiff_spec.specs.declared.faults.FileFault.{FileFault}
use Rattle.dsdiff_spec.specs.declared.faults.FileFault.TheVariants.{CountDiffers, TooManyFrames, KeptBad}
use Rattle.dsdiff_spec.proofs.Lawful.{first_gives_none, later_gives_none, when_not, form_has_a_shape, right_is_false}

pub record IsDecodable (file : List ℕ) (form : Form) : Type 0 where
  pub coded : form.kind ≡ coded
  pub shape : IsShape (shape form)
  pub most : form.frames ≤ 1000000
  pub frames : length (frames_of file form) ≡ form.frames
  pub fits : size_of_sound form ≤ form.frames * sound_bytes_of form
  pub reached : (k : ℕ) → k < form.frames → k * sound_bytes_of form ≤ size_of_sound form

-- ---- no rule refuses the file
abbrev pub form_by : Option FileFault → List ℕ → Result Form FileFault
form_by o file = elim o [ Some fault ↦ Err fault | None ↦ Ok (accepted file) ]

abbrev pub refused_by : Result Form FileFault → Command → List ℕ → Option FileFault
refused_by r c file = elim r [ Err fault ↦ Some fault | Ok f ↦ command_fault c file f ]

pub no_rule_fails : (file : List ℕ) → refusal decode file ≡ None → (form_fault file ≡ None) × (not_walked file (accepted file) ≡ None)
unfolding refusal
no_rule_fails file h = go (form_fault file) refl h
  where
    go : (o : Option FileFault) → form_fault file ≡ o →
        refused_by (form_by o file) decode file ≡ None →
        (form_fault file ≡ None) × (not_walked file (accepted file) ≡ None)
    go (Some fault) e k = absurd cc
    go None e k = (e, k)

pub kind_gives_none : (file : List ℕ) → form_fault file ≡ None → kind_fault (kind file) file ≡ None
unfolding form_fault
kind_gives_none file p =
    later_gives_none (sound_fault file) (kind_fault (kind file) file)
    (later_gives_none (prop_fault file) (sound_fault file otherwise kind_fault (kind file) file)
    (later_gives_none (version_fault file) (prop_fault file otherwise sound_fault file otherwise kind_fault (kind file) file)
    (later_gives_none (opening_fault file) (version_fault file otherwise prop_fault file otherwise sound_fault file otherwise kind_fault (kind file) file) p)))

pub is_coded_kind : (k : Kind) → is_plain k ≡ false → k ≡ coded
is_coded_kind plain e = absurd cc
is_coded_kind coded e = refl

not_false : (b : Bool) → not b ≡ false → b ≡ true
not_false true q = refl
not_false false q = absurd cc

-- ---- the frames are as many as the frame count says
pub count_is_right : (file : List ℕ) (form : Form) → walk_fault file form ≡ None → length (frame_heads file form) ≡ form.frames
unfolding walk_fault
count_is_right file form h =
    let count = CountDiffers form.frames (length (frame_heads file form)) when not (length (frame_heads file form) == form.frames) in
    let none = later_gives_none (in_dst file form).fault count
    (later_gives_none (first_some (frame_fault form) _) ((in_dst file form).fault otherwise count) h) in
    eqb-true (length (frame_heads file form)) form.frames (not_false _ (when_not _ _ none))

length-frames : (file : List ℕ) (form : Form) → length (frames_of file form) ≡ length (frame_heads file form)
length-frames file form = length-map (entries file form) (frame_at file) ∙ length-map (frame_heads file form) entry_of

-- ---- the sound needs them all
pub needed : (n size frames : ℕ) → 0 < n → frames_for n size ≡ frames → (size ≤ frames * n) × ((k : ℕ) → k < frames → k * n ≤ size)
needed n size frames h e =
    let whole : n * frames + (size + n - 1) % n ≡ size + n - 1 = ap (λ m. n * m + (size + n - 1) % n) (sym e) ∙ div-add-mod (size + n - 1) n in
    (omega arith, λ k l. let more = mul-le-mul_right n l in omega arith)

size_is_needed : (origin : Option Origin) (n frames : ℕ) → 0 < n → ((k : Origin) → origin ≡ Some k → frames_for n k.sound ≡ frames) →
    (plain_size origin (frames * n) ≤ frames * n) × ((k : ℕ) → k < frames → k * n ≤ plain_size origin (frames * n))
size_is_needed None n frames h e = (omega arith, λ k l. let more = mul-le-mul_right n l in omega arith)
size_is_needed (Some origin) n frames h e = needed n origin.sound frames h (e origin refl)

abbrev pub bad_among : List ℕ → List Head → Bool
bad_among file heads = elim heads [
  | [] ↦ false
  | h ∷ [] ↦ is_bad_origin (channel_count (prop file)) (sound_bytes_in (prop file)) (frame_count file) (body_of file h)
  | h ∷ i ∷ hs ↦ true
]

pub no_bad_origin : (file : List ℕ) → coded_fault file ≡ None → has_bad_origin file ≡ false
no_bad_origin file h =
    let last = KeptBad when has_bad_origin file in
    let middle = (TooManyFrames when frame_count file above 1000000) otherwise last in
    when_not KeptBad (has_bad_origin file) (later_gives_none (TooManyFrames when frame_count file above 1000000) last (later_gives_none _ middle h))

at_most_a_million : (k : Kind) (file : List ℕ) → k ≡ coded → kind_fault k file ≡ None → (form_of_kind k file).frames ≤ 1000000
at_most_a_million plain file e h = absurd cc
at_most_a_million coded file e h =
    let last = KeptBad when has_bad_origin file in
    let middle = (TooManyFrames when frame_count file above 1000000) otherwise last in
    let not_above = when_not TooManyFrames (frame_count file above 1000000)
    (first_gives_none (TooManyFrames when frame_count file above 1000000) last (later_gives_none _ middle h)) in
    ltb-false 1000000 (frame_count file) not_above

origin_is_lawful : (file : List ℕ) (heads : List Head) (origin : Origin) → origin_in file heads ≡ Some origin →
    bad_among file heads ≡ false →
    frames_for (sound_bytes_in (prop file)) origin.sound ≡ frame_count file
origin_is_lawful file [] origin e h = absurd cc
origin_is_lawful file (a ∷ []) origin e h =
    let same : origin_of (body_of file a) ≡ origin = cc in
    ap (λ k. frames_for (sound_bytes_in (prop file)) k.sound) (sym same)
    ∙ eqb-true (frames_for (sound_bytes_in (prop file)) (origin_of (body_of file a)).sound) (frame_count file) (not_false _ (right_is_false _ _ h))
origin_is_lawful file (a ∷ b ∷ hs) origin e h = absurd cc

sound_is_needed : (file : List ℕ) → 0 < sound_bytes_in (prop file) → (k : Kind) → k ≡ coded → kind_fault k file ≡ None →
    (size_of_sound (form_of_kind k file) ≤ (form_of_kind k file).frames * sound_bytes_in (prop file))
    × ((i : ℕ) → i < (form_of_kind k file).frames → i * sound_bytes_in (prop file) ≤ size_of_sound (form_of_kind k file))
sound_is_needed file h plain e none = absurd cc
sound_is_needed file h coded e none =
    let n = sound_bytes_in (prop file) in
    size_is_needed (origin_in file (all "KEPT" file)) n (frame_count file) h
    (λ kept is. origin_is_lawful file (all "KEPT" file) kept is (no_bad_origin file none))

-- a frame has some sound
pub some_bytes : (f : Shape) → IsShape f → 0 < sound_bytes f
some_bytes f s = elim s.rate [
  | inl e ↦ let least = s.least in rw e (omega arith)
  | inr (inl e) ↦ let least = s.least in rw e (omega arith)
  | inr (inr e) ↦ let least = s.least in rw e (omega arith)
]

pub is_decodable : (file : List ℕ) → refusal decode file ≡ None → IsDecodable file (accepted file)
is_decodable file h =
    let none = no_rule_fails file h in
    let walked = later_gives_none (not_coded (accepted file)) (walk_fault file (accepted file)) none.1 in
    let is_coded = is_coded_kind (kind file) (when_not _ _ (first_gives_none (not_coded (accepted file)) (walk_fault file (accepted file)) none.1)) in
    let shape = form_has_a_shape file none.0 in
    let size = sound_is_needed file (some_bytes (shape_of (channel_count (prop file)) (multiple (prop file))) shape) (kind file) is_coded
    (kind_gives_none file none.0) in
    record {
      coded = is_coded;
      shape = shape;
      most = at_most_a_million (kind file) file is_coded (kind_gives_none file none.0);
      frames =
          length-frames file (accepted file) ∙ count_is_right file (accepted file) walked;
      fits = size.0;
      reached = size.1;
    }

-- so no sound is longer than a million frames of six channels at the greatest rate
pub longest_sound_of_frame : (f : Shape) → IsShape f → sound_bytes f ≤ 112896
longest_sound_of_frame f s = elim s.rate [
  | inl e ↦ let most = s.most in rw e (omega arith)
  | inr (inl e) ↦ let most = s.most in rw e (omega arith)
  | inr (inr e) ↦ let most = s.most in rw e (omega arith)
]

pub longest_sound : (file : List ℕ) (form : Form) → IsDecodable file form → size_of_sound form ≤ 112896000000
longest_sound file form d =
    let frame = longest_sound_of_frame (shape form) d.shape in
    let product = mul-le-mul {n₁ = form.frames} {m₁ = sound_bytes_of form} {n₂ = 1000000} {m₂ = 112896} d.most frame in
    omega (arith, d.fits)

-- ---- the frames are bytes, as parts of the file
pub frames_are_bytes : (file : List ℕ) (form : Form) → AreBytes file → AllByRecursion AreBytes (frames_of file form)
frames_are_bytes file form h = each (entries file form)
  where
    each : (es : List Entry) → AllByRecursion AreBytes (map (frame_at file) es)
    each [] = tt
    each (e ∷ es) = (AreBytes-take e.size (drop e.offset file) (AreBytes-drop e.offset file h), each es)
