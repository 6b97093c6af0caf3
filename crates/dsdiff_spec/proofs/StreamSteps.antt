-- One part more of a stream, by cases.
use Rattle.std.proofs.Common.{◌≡◌, ℕ, zero, suc, ◌+◌, ◌<◌, ◌≤◌, List, length, Bool, true, false, Option, Some, None, refl, ap, ◌∙◌}
use Rattle.std.specs.Prelude.{nat_lt, if◌then◌else◌, option_map}
use Rattle.std.proofs.lemmas.Bool.{le-ltb, lt-ltb}
use Rattle.dst_spec.specs.Sample.{Shape}
use Rattle.dsdiff_spec.specs.Bytes.{◌is◌}
use Rattle.dsdiff_spec.specs.Chunks.{Head, head_at, next_place}
use Rattle.dsdiff_spec.specs.Streams.{Ending, stopped, cut_off, Stream, nothing_but, up_to, ending_at_head, found_with, counted, frame_head_fault}
use Rattle.dsdiff_spec.specs.Streams.{in_sound_chunk, frames_from, Came, missing, chunk_head_fault, came_with, in_sound, in_form_chunk, in_form}
use Rattle.dsdiff_spec.specs.declared.faults.FileFault.{FileFault}
use Rattle.dsdiff_spec.specs.declared.faults.FileFault.TheVariants.{Overrun, TooManyChunks}

-- ---- whether a part is there
pub reaches : (w : List ℕ) (c place : ℕ) (later : Stream) → place ≤ length w → up_to w c place later ≡ later
reaches w c place later le =
    ap (λ b. if b then nothing_but (cut_off (Overrun c)) else later) (le-ltb (length w) place le)

pub falls_short : (w : List ℕ) (c place : ℕ) (later : Stream) → length w < place → up_to w c place later ≡ nothing_but (cut_off (Overrun c))
falls_short w c place later lt =
    ap (λ b. if b then nothing_but (cut_off (Overrun c)) else later) (lt-ltb (length w) place lt)

-- ---- the head of a chunk
unfoldable pub by_tests : Bool → Bool → ℕ → Option FileFault → Option Ending
by_tests a b place fault =
    if a then Some (stopped (Overrun place)) else (if b then Some (cut_off (Overrun place)) else option_map stopped fault)

tested : (w : List ℕ) (end place : ℕ) (fault : Option FileFault) →
    ending_at_head w end place fault ≡ by_tests (nat_lt end (place + 12)) (nat_lt (length w) (place + 12)) place fault
unfolding by_tests
tested w end place fault = refl

pub head_passes : (w : List ℕ) (end place : ℕ) (fault : Option FileFault) → end < place + 12 →
    ending_at_head w end place fault ≡ Some (stopped (Overrun place))
unfolding by_tests
head_passes w end place fault lt =
    tested w end place fault ∙ ap (λ a. by_tests a (nat_lt (length w) (place + 12)) place fault) (lt-ltb end (place + 12) lt)

pub head_is_cut : (w : List ℕ) (end place : ℕ) (fault : Option FileFault) → place + 12 ≤ end → length w < place + 12 →
    ending_at_head w end place fault ≡ Some (cut_off (Overrun place))
unfolding by_tests
head_is_cut w end place fault le lt =
    tested w end place fault
    ∙ ap (λ a. by_tests a (nat_lt (length w) (place + 12)) place fault) (le-ltb end (place + 12) le)
    ∙ ap (λ b. by_tests false b place fault) (lt-ltb (length w) (place + 12) lt)

pub head_is_whole : (w : List ℕ) (end place : ℕ) (fault : Option FileFault) → place + 12 ≤ end → place + 12 ≤ length w →
    ending_at_head w end place fault ≡ option_map stopped fault
unfolding by_tests
head_is_whole w end place fault le there =
    tested w end place fault
    ∙ ap (λ a. by_tests a (nat_lt (length w) (place + 12)) place fault) (le-ltb end (place + 12) le)
    ∙ ap (λ b. by_tests false b place fault) (le-ltb (length w) (place + 12) there)

-- ---- in `DST `
at_sound_chunk : Option Ending → List ℕ → ℕ → Head → Stream → Stream
at_sound_chunk ending w end h later = elim ending [ Some e ↦ nothing_but e | None ↦ in_sound_chunk w end h later ]

at_sound_place : Bool → List ℕ → Shape → ℕ → ℕ → ℕ → ℕ → ℕ → Stream
at_sound_place b w f count end most found place =
    let h = head_at w place in
    elim b [
      | false ↦ nothing_but (counted count found)
      | true ↦
          at_sound_chunk (ending_at_head w end place (frame_head_fault f count end found h)) w end h
          (frames_from w f count end most (found_with h found) (next_place h))
    ]

sound_opened : (w : List ℕ) (f : Shape) (count end most found place : ℕ) →
    frames_from w f count end (suc most) found place ≡ at_sound_place (nat_lt place end) w f count end most found place
unfolding frames_from at_sound_place at_sound_chunk
sound_opened w f count end most found place = refl

no_chunk_asked : (w : List ℕ) (f : Shape) (count end found place : ℕ) →
    frames_from w f count end zero found place ≡ nothing_but (if nat_lt place end then stopped TooManyChunks else counted count found)
unfolding frames_from
no_chunk_asked w f count end found place = refl

pub sound_ends : (w : List ℕ) (f : Shape) (count end most found place : ℕ) → end ≤ place →
    frames_from w f count end most found place ≡ nothing_but (counted count found)
unfolding at_sound_place
sound_ends w f count end zero found place le =
    no_chunk_asked w f count end found place
    ∙ ap (λ b. nothing_but (if b then stopped TooManyChunks else counted count found)) (le-ltb place end le)
sound_ends w f count end (suc most) found place le =
    sound_opened w f count end most found place ∙ ap (λ b. at_sound_place b w f count end most found place) (le-ltb place end le)

pub sound_has_no_more : (w : List ℕ) (f : Shape) (count end found place : ℕ) → place < end →
    frames_from w f count end zero found place ≡ nothing_but (stopped TooManyChunks)
sound_has_no_more w f count end found place lt =
    no_chunk_asked w f count end found place
    ∙ ap (λ b. nothing_but (if b then stopped TooManyChunks else counted count found)) (lt-ltb place end lt)

sound_goes_on : (w : List ℕ) (f : Shape) (count end most found place : ℕ) → place < end →
    frames_from w f count end (suc most) found place
    ≡ at_sound_chunk (ending_at_head w end place (frame_head_fault f count end found (head_at w place))) w end (head_at w place)
    (frames_from w f count end most (found_with (head_at w place) found) (next_place (head_at w place)))
unfolding at_sound_place
sound_goes_on w f count end most found place lt =
    sound_opened w f count end most found place ∙ ap (λ b. at_sound_place b w f count end most found place) (lt-ltb place end lt)

pub sound_ends_at_head : (w : List ℕ) (f : Shape) (count end most found place : ℕ) (ending : Ending) → place < end →
    ending_at_head w end place (frame_head_fault f count end found (head_at w place)) ≡ Some ending →
    frames_from w f count end (suc most) found place ≡ nothing_but ending
unfolding at_sound_chunk
sound_ends_at_head w f count end most found place ending lt e =
    sound_goes_on w f count end most found place lt
    ∙ ap (λ o. at_sound_chunk o w end (head_at w place)
    (frames_from w f count end most (found_with (head_at w place) found) (next_place (head_at w place)))) e

pub sound_has_chunk : (w : List ℕ) (f : Shape) (count end most found place : ℕ) → place < end →
    ending_at_head w end place (frame_head_fault f count end found (head_at w place)) ≡ None →
    frames_from w f count end (suc most) found place
    ≡ in_sound_chunk w end (head_at w place) (frames_from w f count end most (found_with (head_at w place) found) (next_place (head_at w place)))
unfolding at_sound_chunk
sound_has_chunk w f count end most found place lt e =
    sound_goes_on w f count end most found place lt
    ∙ ap (λ o. at_sound_chunk o w end (head_at w place)
    (frames_from w f count end most (found_with (head_at w place) found) (next_place (head_at w place)))) e

-- ---- in the form
by_id : Bool → Stream → Stream → Stream
by_id b sound later = elim b [ true ↦ sound | false ↦ later ]

at_form_chunk : Option Ending → List ℕ → ℕ → Came → Head → Stream → Stream
at_form_chunk ending w end came h later = elim ending [
  | Some e ↦ nothing_but e
  | None ↦ by_id (h.id is "DST ") (in_sound w came h) (in_form_chunk w end came h later)
]

at_form_place : Bool → List ℕ → ℕ → ℕ → Came → ℕ → Stream
at_form_place b w end most came place =
    let h = head_at w place in
    elim b [
      | false ↦ nothing_but (stopped (missing came))
      | true ↦
          at_form_chunk (ending_at_head w end place (chunk_head_fault end came h)) w end came h
          (in_form w end most (came_with w came h) (next_place h))
    ]

form_opened : (w : List ℕ) (end most : ℕ) (came : Came) (place : ℕ) →
    in_form w end (suc most) came place ≡ at_form_place (nat_lt place end) w end most came place
unfolding in_form at_form_place at_form_chunk by_id
form_opened w end most came place = refl

no_chunk_of_form : (w : List ℕ) (end : ℕ) (came : Came) (place : ℕ) →
    in_form w end zero came place ≡ nothing_but (stopped (if nat_lt place end then TooManyChunks else missing came))
unfolding in_form
no_chunk_of_form w end came place = refl

pub form_ends : (w : List ℕ) (end most : ℕ) (came : Came) (place : ℕ) → end ≤ place →
    in_form w end most came place ≡ nothing_but (stopped (missing came))
unfolding at_form_place
form_ends w end zero came place le =
    no_chunk_of_form w end came place
    ∙ ap (λ b. nothing_but (stopped (if b then TooManyChunks else missing came))) (le-ltb place end le)
form_ends w end (suc most) came place le =
    form_opened w end most came place ∙ ap (λ b. at_form_place b w end most came place) (le-ltb place end le)

pub form_has_no_more : (w : List ℕ) (end : ℕ) (came : Came) (place : ℕ) → place < end →
    in_form w end zero came place ≡ nothing_but (stopped TooManyChunks)
form_has_no_more w end came place lt =
    no_chunk_of_form w end came place
    ∙ ap (λ b. nothing_but (stopped (if b then TooManyChunks else missing came))) (lt-ltb place end lt)

form_goes_on : (w : List ℕ) (end most : ℕ) (came : Came) (place : ℕ) → place < end →
    in_form w end (suc most) came place
    ≡ at_form_chunk (ending_at_head w end place (chunk_head_fault end came (head_at w place))) w end came (head_at w place)
    (in_form w end most (came_with w came (head_at w place)) (next_place (head_at w place)))
unfolding at_form_place
form_goes_on w end most came place lt =
    form_opened w end most came place ∙ ap (λ b. at_form_place b w end most came place) (lt-ltb place end lt)

pub form_ends_at_head : (w : List ℕ) (end most : ℕ) (came : Came) (place : ℕ) (ending : Ending) → place < end →
    ending_at_head w end place (chunk_head_fault end came (head_at w place)) ≡ Some ending →
    in_form w end (suc most) came place ≡ nothing_but ending
unfolding at_form_chunk
form_ends_at_head w end most came place ending lt e =
    form_goes_on w end most came place lt
    ∙ ap (λ o. at_form_chunk o w end came (head_at w place)
    (in_form w end most (came_with w came (head_at w place)) (next_place (head_at w place)))) e

form_has_some : (w : List ℕ) (end most : ℕ) (came : Came) (place : ℕ) → place < end →
    ending_at_head w end place (chunk_head_fault end came (head_at w place)) ≡ None →
    in_form w end (suc most) came place
    ≡ by_id ((head_at w place).id is "DST ") (in_sound w came (head_at w place))
    (in_form_chunk w end came (head_at w place) (in_form w end most (came_with w came (head_at w place)) (next_place (head_at w place))))
unfolding at_form_chunk
form_has_some w end most came place lt e =
    form_goes_on w end most came place lt
    ∙ ap (λ o. at_form_chunk o w end came (head_at w place)
    (in_form w end most (came_with w came (head_at w place)) (next_place (head_at w place)))) e

pub form_has_sound : (w : List ℕ) (end most : ℕ) (came : Came) (place : ℕ) → place < end →
    ending_at_head w end place (chunk_head_fault end came (head_at w place)) ≡ None → ((head_at w place).id is "DST ") ≡ true →
    in_form w end (suc most) came place ≡ in_sound w came (head_at w place)
unfolding by_id
form_has_sound w end most came place lt e d =
    form_has_some w end most came place lt e
    ∙ ap (λ b. by_id b (in_sound w came (head_at w place))
    (in_form_chunk w end came (head_at w place) (in_form w end most (came_with w came (head_at w place)) (next_place (head_at w place))))) d

pub form_has_chunk : (w : List ℕ) (end most : ℕ) (came : Came) (place : ℕ) → place < end →
    ending_at_head w end place (chunk_head_fault end came (head_at w place)) ≡ None → ((head_at w place).id is "DST ") ≡ false →
    in_form w end (suc most) came place
    ≡ in_form_chunk w end came (head_at w place) (in_form w end most (came_with w came (head_at w place)) (next_place (head_at w place)))
unfolding by_id
form_has_chunk w end most came place lt e d =
    form_has_some w end most came place lt e
    ∙ ap (λ b. by_id b (in_sound w came (head_at w place))
    (in_form_chunk w end came (head_at w place) (in_form w end most (came_with w came (head_at w place)) (next_place (head_at w place))))) d
