-- `DST ` at the place of a chunk, and its next chunk, by what the chunk is.
use Rattle.std.proofs.Common.{◌≡◌, ℕ, zero, suc, ◌+◌, ◌-◌, ◌<◌, ◌≤◌, List, [], length, Bool, true, false, Option, Some, None, refl, sym, ap, ◌∙◌}
use Rattle.std.proofs.Common.{arith, inl, inr}
use Rattle.std.specs.Prelude.{if◌then◌else◌, ◌==◌, ◌||◌, not, nat_lt, option_map, min, unwrap_or}
use Rattle.std.proofs.lemmas.Bool.{le-ltb, cases_order}
use Rattle.dst_spec.specs.Sample.{Shape}
use Rattle.dsdiff_spec.specs.Bytes.{bytes_at, number_at, ◌is◌, ◌above◌}
use Rattle.dsdiff_spec.specs.Faults.{◌when◌, ◌otherwise◌}
use Rattle.dsdiff_spec.specs.Chunks.{Head, head_at, body_place, body_end, next_place, body_of}
use Rattle.dsdiff_spec.specs.Rules.{is_frte}
use Rattle.dsdiff_spec.specs.Streams.{Stream, Came, Front, nothing_but, stopped, with_front, with_frame, unless, ending_at_head, frame_head_fault, up_to}
use Rattle.dsdiff_spec.specs.Streams.{found_with, counted, frames_from, whole_end, shape_in, frte_fault_at, in_sound}
use Rattle.dsdiff_spec.specs.declared.faults.FileFault.{FileFault}
use Rattle.dsdiff_spec.specs.declared.faults.FileFault.TheVariants.{Overrun, TooManyChunks, FrameRate, TooManyFrames}
use Rattle.dsdiff_spec.proofs.StreamSteps.{head_passes, reaches, head_is_whole, sound_ends, sound_has_no_more, sound_ends_at_head, sound_has_chunk}
use Rattle.dsdiff_spec.proofs.ManyOfStreams.{frameless}
use Rattle.dsdiff_chunks.specs.Opening.{frte_fault}
use Rattle.dsdiff_chunks.proofs.CodedParts.{frte_in_part, count_in_part}
use Rattle.push_decoder.specs.declared.stage.SoundSoFar.{SoundSoFar}
use Rattle.push_decoder.specs.Stages.{sound_from, sound_chunk_from}
use Rattle.push_decoder.proofs.FormSteps.{past}

pub counted_at : (w : List ℕ) (sound : SoundSoFar) (place : ℕ) → sound.end ≤ place →
    sound_from sound place w ≡ nothing_but (counted sound.frame_count sound.found)
counted_at w sound place le = sound_ends w sound.channels sound.frame_count sound.end (4000000 - sound.chunks) sound.found place le

pub too_many_at : (w : List ℕ) (sound : SoundSoFar) (place : ℕ) → place < sound.end → sound.chunks ≡ 4000000 →
    sound_from sound place w ≡ nothing_but (stopped TooManyChunks)
too_many_at w sound place lt e =
    let none : 4000000 - sound.chunks ≡ zero = omega (arith, e) in
    ap (λ n. frames_from w sound.channels sound.frame_count sound.end n sound.found place) none
    ∙ sound_has_no_more w sound.channels sound.frame_count sound.end sound.found place lt

-- one chunk is asked for
opened : (w : List ℕ) (sound : SoundSoFar) (place : ℕ) → sound.chunks < 4000000 →
    sound_from sound place w ≡ frames_from w sound.channels sound.frame_count sound.end (suc (3999999 - sound.chunks)) sound.found place
opened w sound place few =
    let more : 4000000 - sound.chunks ≡ suc (3999999 - sound.chunks) = omega (arith, few) in
    ap (λ n. frames_from w sound.channels sound.frame_count sound.end n sound.found place) more

pub overruns_at : (w : List ℕ) (sound : SoundSoFar) (place : ℕ) → place < sound.end → sound.end < place + 12 → sound.chunks < 4000000 →
    sound_from sound place w ≡ nothing_but (stopped (Overrun place))
overruns_at w sound place lt short few =
    opened w sound place few
    ∙ sound_ends_at_head w sound.channels sound.frame_count sound.end (3999999 - sound.chunks) sound.found place (stopped (Overrun place)) lt
    (head_passes w sound.end place _ short)

-- ---- behind a chunk's head
rules_on : SoundSoFar → Head → Option FileFault
rules_on sound h = frame_head_fault sound.channels sound.frame_count sound.end sound.found h

head_asked : (w : List ℕ) (sound : SoundSoFar) (place : ℕ) (h : Head) (fault : Option FileFault) → head_at w place ≡ h → place + 12 ≤ sound.end →
    place + 12 ≤ length w → frame_head_fault sound.channels sound.frame_count sound.end sound.found h ≡ fault →
    ending_at_head w sound.end place (frame_head_fault sound.channels sound.frame_count sound.end sound.found (head_at w place)) ≡ option_map stopped fault
unfolding rules_on
head_asked w sound place h fault e le there is_fault =
    head_is_whole w sound.end place (rules_on sound (head_at w place)) le there
    ∙ ap (option_map stopped) (ap (rules_on sound) e ∙ is_fault)

pub refused_at : (w : List ℕ) (sound : SoundSoFar) (place : ℕ) (h : Head) (fault : FileFault) → sound.chunks < 4000000 → head_at w place ≡ h →
    place + 12 ≤ sound.end → place + 12 ≤ length w → frame_head_fault sound.channels sound.frame_count sound.end sound.found h ≡ Some fault →
    sound_from sound place w ≡ nothing_but (stopped fault)
refused_at w sound place h fault few e le there is_fault =
    opened w sound place few
    ∙ sound_ends_at_head w sound.channels sound.frame_count sound.end (3999999 - sound.chunks) sound.found place (stopped fault) (omega (arith, le))
    (head_asked w sound place h (Some fault) e le there is_fault)

pub chunk_is_at : (w : List ℕ) (sound : SoundSoFar) (place : ℕ) (h : Head) → sound.chunks < 4000000 → head_at w place ≡ h →
    place + 12 ≤ sound.end → place + 12 ≤ length w → frame_head_fault sound.channels sound.frame_count sound.end sound.found h ≡ None →
    sound_from sound place w ≡ sound_chunk_from sound h w
chunk_is_at w sound place h few e le there no_fault =
    opened w sound place few
    ∙ sound_has_chunk w sound.channels sound.frame_count sound.end (3999999 - sound.chunks) sound.found place (omega (arith, le))
    (head_asked w sound place h None e le there no_fault)
    ∙ ap (λ i. sound_chunk_from sound i w) e

-- ---- behind its body
next_is : (w : List ℕ) (f : Shape) (count end most found place : ℕ) →
    frames_from w f count end most found place ≡ frames_from w f count end most found (min place end)
next_is w f count end most found place = elim (cases_order place end) [
  | inl same ↦ (let e : place ≡ min place end = omega (arith, same) in ap (frames_from w f count end most found) e)
  | inr (inl lt) ↦ (let e : place ≡ min place end = omega (arith, lt) in ap (frames_from w f count end most found) e)
  | inr (inr lt) ↦ (
      let e : end ≤ min place end = omega (arith, lt) in
      sound_ends w f count end most found place (omega (arith, lt)) ∙ sym (sound_ends w f count end most found (min place end) e)
      )
]

abbrev pub one_more : SoundSoFar → ℕ → SoundSoFar
one_more sound found = record sound { chunks = sound.chunks + 1; found = found }

abbrev pub behind : SoundSoFar → ℕ → Head → List ℕ → Stream
behind sound found h w = up_to w h.place (whole_end sound.end h) (sound_from (one_more sound found) (whole_end sound.end h) w)

from_behind : (w : List ℕ) (sound : SoundSoFar) (found : ℕ) (h : Head) → sound.chunks < 4000000 → found_with h sound.found ≡ found →
    up_to w h.place (whole_end sound.end h)
    (frames_from w sound.channels sound.frame_count sound.end (3999999 - sound.chunks) (found_with h sound.found) (next_place h))
    ≡ behind sound found h w
from_behind w sound found h few e =
    let most : 3999999 - sound.chunks ≡ 4000000 - (sound.chunks + 1) = omega (arith, few) in
    ap (λ n. up_to w h.place (whole_end sound.end h)
    (frames_from w sound.channels sound.frame_count sound.end (3999999 - sound.chunks) n (next_place h))) e
    ∙ ap (λ n. up_to w h.place (whole_end sound.end h) (frames_from w sound.channels sound.frame_count sound.end n found (next_place h))) most
    ∙ ap (up_to w h.place (whole_end sound.end h))
    (next_is w sound.channels sound.frame_count sound.end (4000000 - (sound.chunks + 1)) found (next_place h))

framed : (b : Bool) → b ≡ true → (frame : List ℕ) (later : Stream) → (if b then with_frame frame later else later) ≡ with_frame frame later
framed b e frame later = ap (λ c. if c then with_frame frame later else later) e

pub passes_on : (w : List ℕ) (sound : SoundSoFar) (h : Head) → sound.chunks < 4000000 → (h.id is "DSTF") ≡ false → body_end h ≤ sound.end →
    sound_chunk_from sound h w ≡ behind sound sound.found h w
passes_on w sound h few d le =
    ap (up_to w h.place (body_end h)) (frameless (h.id is "DSTF") d _ _)
    ∙ past w h.place (body_end h) (whole_end sound.end h) _ (omega (arith, le))
    ∙ from_behind w sound sound.found h few (ap (λ b. if b then (sound.found + 1) else sound.found) d)

pub frame_is_taken : (w : List ℕ) (sound : SoundSoFar) (h : Head) → sound.chunks < 4000000 → (h.id is "DSTF") ≡ true → body_end h ≤ length w →
    sound_chunk_from sound h w ≡ with_frame (body_of w h) (behind sound (sound.found + 1) h w)
frame_is_taken w sound h few d there =
    reaches w h.place (body_end h) _ there
    ∙ framed (h.id is "DSTF") d _ _
    ∙ ap (with_frame (body_of w h)) (from_behind w sound (sound.found + 1) h few (ap (λ b. if b then (sound.found + 1) else sound.found) d))

-- ---- `FRTE`
by_size : (short a b : Bool) (count : ℕ) → short ≡ false →
    (FrameRate when short || a || b otherwise TooManyFrames when count above 1000000) ≡ (FrameRate when a || b otherwise TooManyFrames when count above 1000000)
by_size short a b count e = rw e refl

same_rules : (w frte : List ℕ) (h : Head) → 18 ≤ h.size → frte ≡ bytes_at w (body_place h) 18 → frte_fault_at w (body_place h) ≡ frte_fault frte
same_rules w frte h le at =
    sym (by_size (nat_lt h.size 18) (not (is_frte w (body_place h))) (not (number_at w (body_place h + 16) 2 == 75))
    (number_at w (body_place h + 12) 4) (le-ltb h.size 18 le))
    ∙ frte_in_part w frte h le at

front_with : Option (List ℕ) → Option (List ℕ) → ℕ → Front
front_with version prop count = record { version = unwrap_or version []; prop = unwrap_or prop []; frames = count }

opened_with : List ℕ → ℕ → ℕ → Option (List ℕ) → Option (List ℕ) → ℕ → Stream
opened_with w end place version prop count =
    with_front (front_with version prop count) (frames_from w (shape_in (unwrap_or prop [])) count end 4000000 0 place)

pub frte_is_refused : (w frte : List ℕ) (came : Came) (h : Head) (fault : FileFault) → 18 ≤ h.size → bytes_at w (body_place h) 18 ≡ frte →
    body_place h + 18 ≤ length w → frte_fault frte ≡ Some fault → in_sound w came h ≡ nothing_but (stopped fault)
unfolding opened_with front_with
frte_is_refused w frte came h fault le at there is_fault =
    reaches w (body_place h) (body_place h + 18) _ there
    ∙ ap (λ x. unless x (opened_with w (body_end h) (body_place h + 18) came.version came.prop (number_at w (body_place h + 12) 4)))
    (same_rules w frte h le (sym at) ∙ is_fault)

pub frte_is_taken : (w frte : List ℕ) (came : Came) (version prop : List ℕ) (h : Head) (count : ℕ) (f : Shape) → 18 ≤ h.size →
    bytes_at w (body_place h) 18 ≡ frte →
    body_place h + 18 ≤ length w → frte_fault frte ≡ None → count ≡ number_at frte 12 4 → came.version ≡ Some version → came.prop ≡ Some prop →
    f ≡ shape_in prop →
    in_sound w came h
    ≡ with_front (record { version = version; prop = prop; frames = count }) (frames_from w f count (body_end h) 4000000 0 (body_place h + 18))
unfolding opened_with front_with
frte_is_taken w frte came version prop h count f le at there no_fault is_count v p is_shape =
    reaches w (body_place h) (body_place h + 18) _ there
    ∙ ap (λ x. unless x (opened_with w (body_end h) (body_place h + 18) came.version came.prop (number_at w (body_place h + 12) 4)))
    (same_rules w frte h le (sym at) ∙ no_fault)
    ∙ ap (opened_with w (body_end h) (body_place h + 18) came.version came.prop) (sym (is_count ∙ count_in_part w frte (body_place h) (sym at)))
    ∙ ap (λ x. opened_with w (body_end h) (body_place h + 18) x came.prop count) v
    ∙ ap (λ x. opened_with w (body_end h) (body_place h + 18) (Some version) x count) p
    ∙ ap (λ x. with_front (front_with (Some version) (Some prop) count) (frames_from w x count (body_end h) 4000000 0 (body_place h + 18))) (sym is_shape)
