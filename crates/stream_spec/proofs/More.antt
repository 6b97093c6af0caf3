-- A stream that more bytes follow, part by part.
use Rattle.std.proofs.Common.{◌≡◌, ℕ, zero, suc, ◌+◌, ◌*◌, ◌^◌, ◌<◌, ◌≤◌, ◌==◌, Bool, true, false, List, [], ◌∷◌, ◌++◌, length, get_or, take, drop}
use Rattle.std.proofs.Common.{Option, Some, None, refl, sym, ap, ap₂, subst, ◌∙◌, arith, inl, inr, ltb-false, eqb-true, ◌⊎◌, length-append}
use Rattle.std.proofs.Common.{length-drop, append-nil}
use Rattle.std.specs.Prelude.{nat_lt, if◌then◌else◌, not, ◌||◌, ◌&&◌, option_map, unwrap_or}
use Rattle.std.proofs.lemmas.Bool.{cases_lt, le-ltb, lt-ltb, and_parts}
use Rattle.std.proofs.lemmas.List.{take-append-le, drop-append-le, get_or_append_left}
use Rattle.byteorder.specs.Endian.{big_from}
use Rattle.dst_spec.specs.Sample.{Shape}
use Rattle.dsdiff_spec.specs.Bytes.{bytes_at, number_at, ◌is◌, ◌above◌, ◌below◌}
use Rattle.dsdiff_spec.specs.Faults.{◌when◌, ◌otherwise◌}
use Rattle.dsdiff_spec.specs.Chunks.{Head, head_at, body_place, body_end, next_place, body_of}
use Rattle.dsdiff_spec.specs.Parts.{form_size, form_end}
use Rattle.dsdiff_spec.specs.Rules.{local_fault}
use Rattle.dsdiff_spec.specs.Streams.{Stream, Ending, Front, ended, stopped, cut_off, nothing_but, with_front, with_frame, up_to, unless, whole_end, shape_in}
use Rattle.dsdiff_spec.specs.Streams.{ending_at_head, frame_head_fault, with_frame_in, in_sound_chunk, found_with, counted, frames_from, Came}
use Rattle.dsdiff_spec.specs.Streams.{nothing_came, missing}
use Rattle.dsdiff_spec.specs.Streams.{version_head_fault, later_head_fault, chunk_head_fault, chunk_body_fault, version_body_fault, prop_body_fault}
use Rattle.dsdiff_spec.specs.Streams.{came_with, frte_fault_at, in_sound, in_form_chunk, in_form, form_head_fault, stream}
use Rattle.dsdiff_spec.specs.declared.faults.FileFault.{FileFault}
use Rattle.dsdiff_spec.specs.declared.faults.FileFault.TheVariants.{NotForm, FormTooLarge, FormType, Overrun, Version, TooManyChunks, FrameRate, TooManyFrames}
use Rattle.dsdiff_spec.proofs.StreamSteps.{reaches, head_passes, head_is_cut, head_is_whole, sound_ends, sound_has_no_more, sound_ends_at_head}
use Rattle.dsdiff_spec.proofs.StreamSteps.{sound_has_chunk, form_ends, form_has_no_more, form_ends_at_head, form_has_sound, form_has_chunk}
use Rattle.dsdiff_spec.proofs.Lawful.{later_gives_none, when_not}
use Rattle.stream_spec.specs.More.{GoesOn, MoreBytesLaw}

-- ---- bytes that are there
bytes_stay : (w more : List ℕ) (place n : ℕ) → place + n ≤ length w → bytes_at (w ++ more) place n ≡ bytes_at w place n
bytes_stay w more place n le =
    ap (take n) (drop-append-le place w more (omega (arith, le)))
    ∙ take-append-le n (drop place w) more (omega (arith, le, length-drop place w))

byte_stays : (w more : List ℕ) (i : ℕ) → i < length w → get_or (w ++ more) i 0 ≡ get_or w i 0
byte_stays w more i lt = get_or_append_left w more 0 i lt

number_stays : (w more : List ℕ) (n i : ℕ) → i + n ≤ length w → big_from i n (w ++ more) ≡ big_from i n w
number_stays w more zero i le = refl
number_stays w more (suc n) i le =
    ap₂ (λ a b. a * 256 ^ n + b) (byte_stays w more i (omega (arith, le))) (number_stays w more n (suc i) (omega (arith, le)))

head_stays : (w more : List ℕ) (place : ℕ) → place + 12 ≤ length w → head_at (w ++ more) place ≡ head_at w place
head_stays w more place le =
    ap₂ (λ (i : List ℕ) (n : ℕ). record { id = i; place = place; size = n }) (bytes_stay w more place 4 (omega (arith, le)))
    (number_stays w more 8 (place + 4) (omega (arith, le)))

-- ---- streams
abbrev Goes : Stream → Stream → Type 0
Goes s t = GoesOn s.ending s t

cut_goes : (fault : FileFault) (t : Stream) → Goes (nothing_but (cut_off fault)) t
cut_goes fault t = (λ front e. absurd cc, (t.frames, refl))

same_goes : (s : Stream) → Goes s s
same_goes s = go s.ending
  where
    go : (e : Ending) → GoesOn e s s
    go ended = refl
    go (stopped fault) = refl
    go (cut_off fault) = (λ front e. e, ([], sym (append-nil s.frames)))

framed_goes : (frame : List ℕ) (s t : Stream) → Goes s t → Goes (with_frame frame s) (with_frame frame t)
framed_goes frame s t h = go s.ending h
  where
    go : (e : Ending) → GoesOn e s t → GoesOn e (with_frame frame s) (with_frame frame t)
    go ended e = ap (with_frame frame) e
    go (stopped fault) e = ap (with_frame frame) e
    go (cut_off fault) (f, more) = (f, (more.0, ap (λ fs. frame ∷ fs) more.1))

fronted_goes : (front : Front) (s t : Stream) → Goes s t → Goes (with_front front s) (with_front front t)
fronted_goes front s t h = go s.ending h
  where
    go : (e : Ending) → GoesOn e s t → GoesOn e (with_front front s) (with_front front t)
    go ended e = ap (with_front front) e
    go (stopped fault) e = ap (with_front front) e
    go (cut_off fault) (f, more) = (λ g e. e, more)

up_to_goes : (w more : List ℕ) (c place : ℕ) (s t : Stream) → (place ≤ length w → Goes s t) → Goes (up_to w c place s) (up_to (w ++ more) c place t)
up_to_goes w more c place s t h = go (nat_lt (length w) place) refl
  where
    longer : length (w ++ more) ≡ length w + length more
    longer = length-append w more

    go : (b : Bool) → nat_lt (length w) place ≡ b → Goes (if b then nothing_but (cut_off (Overrun c)) else s) (up_to (w ++ more) c place t)
    go true e = cut_goes (Overrun c) (up_to (w ++ more) c place t)
    go false e =
        let le = ltb-false (length w) place e in
        subst (Goes s) (sym (reaches (w ++ more) c place t (omega (arith, le, longer)))) (h le)

unless_goes : (f g : Option FileFault) (s t : Stream) → g ≡ f → Goes s t → Goes (unless f s) (unless g t)
unless_goes f g s t e h = subst (λ x. Goes (unless f s) (unless x t)) (sym e) (go f)
  where
    go : (f : Option FileFault) → Goes (unless f s) (unless f t)
    go None = h
    go (Some fault) = refl

-- ---- the head of a chunk, which more bytes leave as it is
abbrev HeadGoes : Option Ending → Option Ending → Type 0
HeadGoes (Some (cut_off fault)) b = Unit {0}
HeadGoes a b = b ≡ a

mapped : (fault : Option FileFault) → HeadGoes (option_map stopped fault) (option_map stopped fault)
mapped None = refl
mapped (Some fault) = refl

head_goes : (w more : List ℕ) (end place : ℕ) (f g : Option FileFault) → (place + 12 ≤ length w → g ≡ f) →
    HeadGoes (ending_at_head w end place f) (ending_at_head (w ++ more) end place g)
head_goes w more end place f g same = elim (cases_lt end (place + 12)) [
  | inl lt ↦ subst (λ a. HeadGoes a (ending_at_head (w ++ more) end place g)) (sym (head_passes w end place f lt)) (head_passes (w ++ more) end place g lt)
  | inr le ↦ elim (cases_lt (length w) (place + 12)) [
    | inl lt ↦ subst (λ a. HeadGoes a (ending_at_head (w ++ more) end place g)) (sym (head_is_cut w end place f le lt)) (tt {0})
    | inr there ↦
        let longer = length-append w more in
        subst (λ a. HeadGoes a (ending_at_head (w ++ more) end place g)) (sym (head_is_whole w end place f le there))
        (subst (HeadGoes (option_map stopped f)) (sym (head_is_whole (w ++ more) end place g le (omega (arith, there, longer))))
        (subst (λ x. HeadGoes (option_map stopped f) (option_map stopped x)) (sym (same there)) (mapped f)))
  ]
]

-- where nothing ends a stream at a head, the head is there
head_is_there : (w : List ℕ) (end place : ℕ) (f : Option FileFault) → ending_at_head w end place f ≡ None → place + 12 ≤ length w
head_is_there w end place f e = elim (cases_lt (length w) (place + 12)) [
  | inr le ↦ le
  | inl lt ↦ elim (cases_lt end (place + 12)) [
    | inl over ↦ absurd (let never = sym (head_passes w end place f over) ∙ e in cc)
    | inr le ↦ absurd (let never = sym (head_is_cut w end place f le lt) ∙ e in cc)
  ]
]

-- ---- in `DST `
body_stays : (w more : List ℕ) (h : Head) → body_end h ≤ length w → body_of (w ++ more) h ≡ body_of w h
body_stays w more h le = bytes_stay w more (body_place h) h.size (omega (arith, le))

sound_chunk_goes : (w more : List ℕ) (end : ℕ) (h : Head) (s t : Stream) → Goes s t → Goes (in_sound_chunk w end h s) (in_sound_chunk (w ++ more) end h t)
sound_chunk_goes w more end h s t goes =
    up_to_goes w more h.place (body_end h) (with_frame_in w h (up_to w h.place (whole_end end h) s))
    (with_frame_in (w ++ more) h (up_to (w ++ more) h.place (whole_end end h) t)) (λ there. by_name (h.id is "DSTF") there)
  where
    later : Goes (up_to w h.place (whole_end end h) s) (up_to (w ++ more) h.place (whole_end end h) t)
    later = up_to_goes w more h.place (whole_end end h) s t (λ there. goes)

    by_name : (b : Bool) → body_end h ≤ length w →
        Goes (if b then with_frame (body_of w h) (up_to w h.place (whole_end end h) s) else up_to w h.place (whole_end end h) s)
        (if b then with_frame (body_of (w ++ more) h) (up_to (w ++ more) h.place (whole_end end h) t) else up_to (w ++ more) h.place (whole_end end h) t)
    by_name false there = later
    by_name true there =
        subst (λ x. Goes (with_frame (body_of w h) (up_to w h.place (whole_end end h) s)) (with_frame x (up_to (w ++ more) h.place (whole_end end h) t)))
        (sym (body_stays w more h there)) (framed_goes (body_of w h) _ _ later)

-- two streams that are these
both_go : (s t x y : Stream) → s ≡ x → t ≡ y → Goes x y → Goes s t
both_go s t x y e f h = subst (λ a. Goes a t) (sym e) (subst (Goes x) (sym f) h)

frames_go : (w more : List ℕ) (f : Shape) (count end most found place : ℕ) →
    Goes (frames_from w f count end most found place) (frames_from (w ++ more) f count end most found place)
frames_go w more f count end zero found place = elim (cases_lt place end) [
  | inr ge ↦ both_go _ _ _ _ (sound_ends w f count end zero found place ge) (sound_ends (w ++ more) f count end zero found place ge)
      (same_goes (nothing_but (counted count found)))
  | inl lt ↦ both_go _ _ _ _ (sound_has_no_more w f count end found place lt) (sound_has_no_more (w ++ more) f count end found place lt)
      (same_goes (nothing_but (stopped TooManyChunks)))
]
frames_go w more f count end (suc most) found place = elim (cases_lt place end) [
  | inr ge ↦ both_go _ _ _ _ (sound_ends w f count end (suc most) found place ge) (sound_ends (w ++ more) f count end (suc most) found place ge)
      (same_goes (nothing_but (counted count found)))
  | inl lt ↦ go lt (ending_at_head w end place (rules (head_at w place))) refl (ending_at_head (w ++ more) end place (rules (head_at (w ++ more) place))) refl
      (head_goes w more end place (rules (head_at w place)) (rules (head_at (w ++ more) place)) (λ there. ap rules (head_stays w more place there)))
      (λ n p. frames_go w more f count end most n p)
]
  where
    rules : Head → Option FileFault
    rules h = frame_head_fault f count end found h

    there : place + 12 ≤ length w → head_at (w ++ more) place ≡ head_at w place
    there le = head_stays w more place le

    go : place < end → (a : Option Ending) → ending_at_head w end place (frame_head_fault f count end found (head_at w place)) ≡ a → (b : Option Ending) →
        ending_at_head (w ++ more) end place (frame_head_fault f count end found (head_at (w ++ more) place)) ≡ b → HeadGoes a b →
        ((n p : ℕ) → Goes (frames_from w f count end most n p) (frames_from (w ++ more) f count end most n p)) →
        Goes (frames_from w f count end (suc most) found place) (frames_from (w ++ more) f count end (suc most) found place)
    go lt (Some (cut_off fault)) e b d h next =
        subst (λ a. Goes a (frames_from (w ++ more) f count end (suc most) found place))
        (sym (sound_ends_at_head w f count end most found place (cut_off fault) lt e))
        (cut_goes fault (frames_from (w ++ more) f count end (suc most) found place))
    go lt (Some (stopped fault)) e b d h next =
        both_go _ _ _ _ (sound_ends_at_head w f count end most found place (stopped fault) lt e)
        (sound_ends_at_head (w ++ more) f count end most found place (stopped fault) lt (d ∙ h)) (same_goes (nothing_but (stopped fault)))
    go lt (Some ended) e b d h next =
        both_go _ _ _ _ (sound_ends_at_head w f count end most found place ended lt e)
        (sound_ends_at_head (w ++ more) f count end most found place ended lt (d ∙ h)) (same_goes (nothing_but ended))
    go lt None e b d h next =
        both_go _ _ _ _ (sound_has_chunk w f count end most found place lt e) (sound_has_chunk (w ++ more) f count end most found place lt (d ∙ h))
        (subst (λ i. Goes (in_sound_chunk w end (head_at w place)
        (frames_from w f count end most (found_with (head_at w place) found) (next_place (head_at w place))))
        (in_sound_chunk (w ++ more) end i (frames_from (w ++ more) f count end most (found_with i found) (next_place i))))
        (sym (there (head_is_there w end place _ e)))
        (sound_chunk_goes w more end (head_at w place) _ _ (next (found_with (head_at w place) found) (next_place (head_at w place)))))

-- ---- `FRTE`, and the frames behind it
frte_stays : (w more : List ℕ) (place : ℕ) → place + 18 ≤ length w → frte_fault_at (w ++ more) place ≡ frte_fault_at w place
frte_stays w more place le =
    let id = bytes_stay w more place 4 (omega (arith, le)) in
    let size = number_stays w more 8 (place + 4) (omega (arith, le)) in
    let rate = number_stays w more 2 (place + 16) (omega (arith, le)) in
    let count = number_stays w more 4 (place + 12) (omega (arith, le)) in
    ap (λ i. FrameRate when not (i is "FRTE" && number_at (w ++ more) (place + 4) 8 == 6) || not (number_at (w ++ more) (place + 16) 2 == 75)
    otherwise TooManyFrames when number_at (w ++ more) (place + 12) 4 above 1000000) id
    ∙ ap (λ n. FrameRate when not (bytes_at w place 4 is "FRTE" && n == 6) || not (number_at (w ++ more) (place + 16) 2 == 75)
    otherwise TooManyFrames when number_at (w ++ more) (place + 12) 4 above 1000000) size
    ∙ ap (λ n. FrameRate when not (bytes_at w place 4 is "FRTE" && number_at w (place + 4) 8 == 6) || not (n == 75)
    otherwise TooManyFrames when number_at (w ++ more) (place + 12) 4 above 1000000) rate
    ∙ ap (λ n. FrameRate when not (bytes_at w place 4 is "FRTE" && number_at w (place + 4) 8 == 6) || not (number_at w (place + 16) 2 == 75)
    otherwise TooManyFrames when n above 1000000) count

behind_frte : (w : List ℕ) (came : Came) (h : Head) (count : ℕ) → Stream
behind_frte w came h count =
    with_front (record { version = unwrap_or came.version []; prop = unwrap_or came.prop []; frames = count })
    (frames_from w (shape_in (unwrap_or came.prop [])) count (body_end h) 4000000 0 (body_place h + 18))

in_sound_goes : (w more : List ℕ) (came : Came) (h : Head) → Goes (in_sound w came h) (in_sound (w ++ more) came h)
unfolding behind_frte
in_sound_goes w more came h =
    up_to_goes w more (body_place h) (body_place h + 18) (unless (frte_fault_at w (body_place h)) (behind_frte w came h (number_at w (body_place h + 12) 4)))
    (unless (frte_fault_at (w ++ more) (body_place h)) (behind_frte (w ++ more) came h (number_at (w ++ more) (body_place h + 12) 4)))
    (λ there. unless_goes _ _ _ _ (frte_stays w more (body_place h) there)
    (subst (λ n. Goes (behind_frte w came h (number_at w (body_place h + 12) 4)) (behind_frte (w ++ more) came h n))
    (sym (number_stays w more 4 (body_place h + 12) (omega (arith, there))))
    (fronted_goes _ _ _ (frames_go w more _ _ _ 4000000 0 _))))

-- ---- in the form
version_body_stays : (w more : List ℕ) (h : Head) → 0 < h.size → body_end h ≤ length w → version_body_fault (w ++ more) h ≡ version_body_fault w h
version_body_stays w more h some le =
    ap (λ n. Version when not (n == 1)) (byte_stays w more (body_place h) (omega (arith, some, le)))

prop_body_stays : (w more : List ℕ) (h : Head) → body_end h ≤ length w → prop_body_fault (w ++ more) h ≡ prop_body_fault w h
prop_body_stays w more h le = ap (λ b. if h.id is "PROP" then local_fault (body_place h) b else None) (body_stays w more h le)

came_stays : (w more : List ℕ) (came : Came) (h : Head) → body_end h ≤ length w → came_with (w ++ more) came h ≡ came_with w came h
came_stays w more came h le = ap (λ b. came_of b came) (body_stays w more h le)
  where
    came_of : List ℕ → Came → Came
    came_of b came = elim came.version [
      | None ↦ record { version = Some b; prop = None }
      | Some version ↦ record { version = Some version; prop = if h.id is "PROP" then Some b else came.prop }
    ]

body_fault_stays : (w more : List ℕ) (came : Came) (h : Head) → (came.version ≡ None → 0 < h.size) → body_end h ≤ length w →
    chunk_body_fault (w ++ more) came h ≡ chunk_body_fault w came h
body_fault_stays w more came h some le = go came.version some
  where
    go : (v : Option (List ℕ)) → (v ≡ None → 0 < h.size) →
        ◌≡◌ {A = Option FileFault} (elim v [ None ↦ version_body_fault (w ++ more) h | Some version ↦ prop_body_fault (w ++ more) h ])
        (elim v [ None ↦ version_body_fault w h | Some version ↦ prop_body_fault w h ])
    go None some = version_body_stays w more h (some refl) le
    go (Some v) some = prop_body_stays w more h le

form_chunk_goes : (w more : List ℕ) (end : ℕ) (came : Came) (h : Head) (s t : Stream) → (came.version ≡ None → 0 < h.size) →
    (body_end h ≤ length w → Goes s t) → Goes (in_form_chunk w end came h s) (in_form_chunk (w ++ more) end came h t)
form_chunk_goes w more end came h s t some goes =
    up_to_goes w more h.place (body_end h) (unless (chunk_body_fault w came h) (up_to w h.place (whole_end end h) s))
    (unless (chunk_body_fault (w ++ more) came h) (up_to (w ++ more) h.place (whole_end end h) t))
    (λ there. unless_goes _ _ _ _ (body_fault_stays w more came h some there) (up_to_goes w more h.place (whole_end end h) s t (λ all. goes there)))

first_size : (h : Head) (end : ℕ) (came : Came) → chunk_head_fault end came h ≡ None → came.version ≡ None → 0 < h.size
first_size h end came none e = go came.version e (later_gives_none (Overrun h.place when body_end h above end) _ none)
  where
    go : (v : Option (List ℕ)) → v ≡ None → ◌≡◌ {A = Option FileFault}
        (elim v [ None ↦ version_head_fault h | Some version ↦ later_head_fault came.prop h ]) None → 0 < h.size
    go (Some v) e n = absurd cc
    go None e n = is_four (and_parts (h.id is "FVER") (h.size == 4) (not_false _ (when_not Version _ n))).1
      where
        not_false : (b : Bool) → not b ≡ false → b ≡ true
        not_false true q = refl
        not_false false q = absurd cc

        is_four : (h.size == 4) ≡ true → 0 < h.size
        is_four e = omega (arith, eqb-true h.size 4 e)

no_fault : (w : List ℕ) (end place : ℕ) (f : Option FileFault) → ending_at_head w end place f ≡ None → f ≡ None
no_fault w end place f e = go f (sym (head_is_whole w end place f (fits (cases_lt end (place + 12))) (head_is_there w end place f e)) ∙ e)
  where
    fits : (end < place + 12) ⊎ (place + 12 ≤ end) → place + 12 ≤ end
    fits (inr le) = le
    fits (inl over) = absurd (let never = sym (head_passes w end place f over) ∙ e in cc)

    go : (f : Option FileFault) → option_map stopped f ≡ None → f ≡ None
    go None n = refl
    go (Some x) n = absurd cc

form_goes : (w more : List ℕ) (end most : ℕ) (came : Came) (place : ℕ) → Goes (in_form w end most came place) (in_form (w ++ more) end most came place)
form_goes w more end zero came place = elim (cases_lt place end) [
  | inr ge ↦ both_go _ _ _ _ (form_ends w end zero came place ge) (form_ends (w ++ more) end zero came place ge)
      (same_goes (nothing_but (stopped (missing came))))
  | inl lt ↦ both_go _ _ _ _ (form_has_no_more w end came place lt) (form_has_no_more (w ++ more) end came place lt)
      (same_goes (nothing_but (stopped TooManyChunks)))
]
form_goes w more end (suc most) came place = elim (cases_lt place end) [
  | inr ge ↦ both_go _ _ _ _ (form_ends w end (suc most) came place ge) (form_ends (w ++ more) end (suc most) came place ge)
      (same_goes (nothing_but (stopped (missing came))))
  | inl lt ↦ go lt (ending_at_head w end place (rules (head_at w place))) refl (ending_at_head (w ++ more) end place (rules (head_at (w ++ more) place))) refl
      (head_goes w more end place (rules (head_at w place)) (rules (head_at (w ++ more) place)) (λ there. ap rules (head_stays w more place there)))
      ((head_at w place).id is "DST ") refl (λ c p. form_goes w more end most c p)
]
  where
    rules : Head → Option FileFault
    rules h = chunk_head_fault end came h

    same : ending_at_head w end place (chunk_head_fault end came (head_at w place)) ≡ None → head_at (w ++ more) place ≡ head_at w place
    same e = head_stays w more place (head_is_there w end place _ e)

    go : place < end → (a : Option Ending) → ending_at_head w end place (chunk_head_fault end came (head_at w place)) ≡ a → (b : Option Ending) →
        ending_at_head (w ++ more) end place (chunk_head_fault end came (head_at (w ++ more) place)) ≡ b → HeadGoes a b →
        (c : Bool) → ((head_at w place).id is "DST ") ≡ c →
        ((c : Came) (p : ℕ) → Goes (in_form w end most c p) (in_form (w ++ more) end most c p)) →
        Goes (in_form w end (suc most) came place) (in_form (w ++ more) end (suc most) came place)
    go lt (Some (cut_off fault)) e b d h c i next =
        subst (λ a. Goes a (in_form (w ++ more) end (suc most) came place)) (sym (form_ends_at_head w end most came place (cut_off fault) lt e))
        (cut_goes fault (in_form (w ++ more) end (suc most) came place))
    go lt (Some (stopped fault)) e b d h c i next =
        both_go _ _ _ _ (form_ends_at_head w end most came place (stopped fault) lt e)
        (form_ends_at_head (w ++ more) end most came place (stopped fault) lt (d ∙ h))
        (same_goes (nothing_but (stopped fault)))
    go lt (Some ended) e b d h c i next =
        both_go _ _ _ _ (form_ends_at_head w end most came place ended lt e) (form_ends_at_head (w ++ more) end most came place ended lt (d ∙ h))
        (same_goes (nothing_but ended))
    go lt None e b d h true i next =
        both_go _ _ _ _ (form_has_sound w end most came place lt e i)
        (form_has_sound (w ++ more) end most came place lt (d ∙ h) (ap (λ j. j.id is "DST ") (same e) ∙ i))
        (subst (λ j. Goes (in_sound w came (head_at w place)) (in_sound (w ++ more) came j)) (sym (same e)) (in_sound_goes w more came (head_at w place)))
    go lt None e b d h false i next =
        both_go _ _ _ _ (form_has_chunk w end most came place lt e i)
        (form_has_chunk (w ++ more) end most came place lt (d ∙ h) (ap (λ j. j.id is "DST ") (same e) ∙ i))
        (subst (λ j. Goes (in_form_chunk w end came (head_at w place) (in_form w end most (came_with w came (head_at w place)) (next_place (head_at w place))))
        (in_form_chunk (w ++ more) end came j (in_form (w ++ more) end most (came_with (w ++ more) came j) (next_place j)))) (sym (same e))
        (form_chunk_goes w more end came (head_at w place) _ _ (first_size (head_at w place) end came (no_fault w end place _ e))
        (λ there. subst (λ c. Goes (in_form w end most (came_with w came (head_at w place)) (next_place (head_at w place)))
        (in_form (w ++ more) end most c (next_place (head_at w place)))) (sym (came_stays w more came (head_at w place) there))
        (next (came_with w came (head_at w place)) (next_place (head_at w place))))))

-- ---- the whole stream
head_fault_stays : (w more : List ℕ) → 16 ≤ length w → form_head_fault (w ++ more) ≡ form_head_fault w
head_fault_stays w more le =
    let id = bytes_stay w more 0 4 (omega (arith, le)) in
    let size = number_stays w more 8 4 (omega (arith, le)) in
    let type = bytes_stay w more 12 4 (omega (arith, le)) in
    ap (λ i. NotForm when not (i is "FRM8") || form_size (w ++ more) below 4 otherwise FormTooLarge when form_size (w ++ more) above 2 ^ 50
    otherwise FormType when not (bytes_at (w ++ more) 12 4 is "DSD ")) id
    ∙ ap (λ n. NotForm when not (bytes_at w 0 4 is "FRM8") || n below 4 otherwise FormTooLarge when n above 2 ^ 50
    otherwise FormType when not (bytes_at (w ++ more) 12 4 is "DSD ")) size
    ∙ ap (λ t. NotForm when not (bytes_at w 0 4 is "FRM8") || form_size w below 4 otherwise FormTooLarge when form_size w above 2 ^ 50
    otherwise FormType when not (t is "DSD ")) type

whole : Bool → List ℕ → Stream
whole b w = elim b [ true ↦ nothing_but (cut_off NotForm) | false ↦ unless (form_head_fault w) (in_form w (form_end w) 1024 nothing_came 16) ]

is_whole : (w : List ℕ) → stream w ≡ whole (nat_lt (length w) 16) w
unfolding stream whole
is_whole w = refl

pub more_bytes : MoreBytesLaw
unfolding whole
more_bytes w more = elim (cases_lt (length w) 16) [
  | inl lt ↦ subst (λ s. Goes s (stream (w ++ more))) (sym (is_whole w ∙ ap (λ b. whole b w) (lt-ltb (length w) 16 lt))) (cut_goes NotForm (stream (w ++ more)))
  | inr le ↦
      let longer = length-append w more in
      both_go _ _ _ _ (is_whole w ∙ ap (λ b. whole b w) (le-ltb (length w) 16 le))
      (is_whole (w ++ more) ∙ ap (λ b. whole b (w ++ more)) (le-ltb (length (w ++ more)) 16 (omega (arith, le, longer))))
      (unless_goes _ _ _ _ (head_fault_stays w more le)
      (subst (λ n. Goes (in_form w (form_end w) 1024 nothing_came 16) (in_form (w ++ more) (12 + n) 1024 nothing_came 16))
      (sym (number_stays w more 8 4 (omega (arith, le)))) (form_goes w more (form_end w) 1024 nothing_came 16)))
]
