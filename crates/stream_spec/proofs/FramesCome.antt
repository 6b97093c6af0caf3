-- A stream in `DST `, whose chunks are all whole, with as many frames among them as the frame count says and none too long: it has these frames, and ends
-- behind the last of them.
use Rattle.std.proofs.Common.{◌≡◌, ℕ, suc, ◌+◌, ◌*◌, ◌<◌, ◌≤◌, ◌==◌, Bool, true, false, List, ◌∷◌, length, map, Some, None, refl, ap, ◌∙◌, arith}
use Rattle.std.specs.Prelude.{if◌then◌else◌, option_map}
use Rattle.std.specs.List.{AllByRecursion}
use Rattle.std.proofs.lemmas.Bool.{eq-eqb, eqb-true}
use Rattle.dst_spec.specs.Sample.{Shape, sound_bytes}
use Rattle.dsdiff_spec.specs.Bytes.{◌is◌, ◌above◌}
use Rattle.dsdiff_spec.specs.Faults.{◌when◌, ◌otherwise◌}
use Rattle.dsdiff_spec.specs.Chunks.{Head, Found, head_at, body_end, next_place, body_of, named, fits, chunks_from}
use Rattle.dsdiff_spec.specs.Streams.{Stream, ended, stopped, nothing_but, with_frame, up_to, whole_end, frame_head_fault, in_sound_chunk, found_with}
use Rattle.dsdiff_spec.specs.Streams.{frames_from}
use Rattle.dsdiff_spec.specs.declared.faults.FileFault.{FileFault}
use Rattle.dsdiff_spec.specs.declared.faults.FileFault.TheVariants.{Overrun, FrameTooLong, TooManyFrames, CountDiffers}
use Rattle.dsdiff_spec.proofs.Steps.{nothing, with_head, fits_body}
use Rattle.dsdiff_spec.proofs.Finding.{found_by}
use Rattle.dsdiff_spec.proofs.ManyOfStreams.{within}
use Rattle.dsdiff_spec.proofs.StreamSteps.{reaches, head_is_whole, sound_ends, sound_has_chunk}

-- the frames among some chunks, and then the end
abbrev pub frames_among : List ℕ → List Head → List (List ℕ)
frames_among w hs = map (body_of w) (named "DSTF" hs)

abbrev pub then_ended : List (List ℕ) → Stream
then_ended frames = record { front = None; frames = frames; ending = ended }

abbrev pub AreShort : Shape → List Head → Type 0
AreShort f hs = AllByRecursion (λ (h : Head). h.size ≤ 2 * (sound_bytes f + 1)) hs

differs : (fault : FileFault) (a b : ℕ) → a < b → (if a == b then Some fault else None) ≡ None
differs fault a b lt = go (a == b) refl
  where
    go : (c : Bool) → (a == b) ≡ c → (if c then Some fault else None) ≡ None
    go true e = absurd (let same = eqb-true a b e in omega (arith, lt, same))
    go false e = refl

-- the rules on a frame's head
frame_rules : (f : Shape) (count found : ℕ) (h : Head) → h.size ≤ 2 * (sound_bytes f + 1) → found < count → count ≤ 1000000 →
    (FrameTooLong found h.size when h.size above 2 * (sound_bytes f + 1)
    otherwise TooManyFrames when found above 999999
    otherwise CountDiffers count (count + 1) when found == count) ≡ None
frame_rules f count found h short lt most =
    within (FrameTooLong found h.size) (2 * (sound_bytes f + 1)) h.size _ short
    ∙ within TooManyFrames 999999 found _ (omega (arith, lt, most))
    ∙ differs (CountDiffers count (count + 1)) found count lt

-- what a chunk is by its id
by_name : (b : Bool) → Head → List Head → List Head
by_name b h hs = if b then h ∷ hs else hs

framed : (b : Bool) → List ℕ → Stream → Stream
framed b frame later = if b then with_frame frame later else later

counts : (b : Bool) → ℕ → ℕ
counts b found = if b then found + 1 else found

-- what is asked of the chunks found, and what a stream of them is
abbrev pub Comes : List ℕ → Shape → ℕ → ℕ → ℕ → ℕ → Found → Type 0
Comes w f count end most place found =
    (n : ℕ) → found.fault ≡ None → AreShort f (named "DSTF" found.heads) → n + length (named "DSTF" found.heads) ≡ count →
    frames_from w f count end most n place ≡ then_ended (frames_among w found.heads)

name_of : (h : Head) → Bool
name_of h = h.id is "DSTF"

chunk_among : (w : List ℕ) (h : Head) (hs : List Head) → named "DSTF" (h ∷ hs) ≡ by_name (h.id is "DSTF") h (named "DSTF" hs)
unfolding by_name
chunk_among w h hs = refl

-- one chunk more
one_more : (w : List ℕ) (f : Shape) (count end most place n : ℕ) (h : Head) (hs : List Head) (b : Bool) → head_at w place ≡ h → h.place ≡ place →
    (h.id is "DSTF") ≡ b →
    end ≤ length w → count ≤ 1000000 → place < end → place + 12 ≤ end → body_end h ≤ end → AreShort f (by_name b h hs) → n + length (by_name b h hs) ≡ count →
    frames_from w f count end (suc most) n place ≡ framed b (body_of w h) (frames_from w f count end most (counts b n) (next_place h))
unfolding by_name framed counts
one_more w f count end most place n h hs b e at d there most_count lt head_fits fits short exact =
    let i = head_at w place in
    let size : body_end i ≡ body_end h = ap body_end e in
    let d' : (i.id is "DSTF") ≡ b = ap (λ j. j.id is "DSTF") e ∙ d in
    let rules : (if i.id is "DSTF" then (FrameTooLong n i.size when i.size above 2 * (sound_bytes f + 1)
    otherwise TooManyFrames when n above 999999 otherwise CountDiffers count (count + 1) when n == count) else None) ≡ None =
    ap (λ c. if c then (FrameTooLong n i.size when i.size above 2 * (sound_bytes f + 1)
    otherwise TooManyFrames when n above 999999 otherwise CountDiffers count (count + 1) when n == count) else None) d'
    ∙ by_rules b i (ap (λ j. j.size) e) short exact in
    let fault : frame_head_fault f count end n i ≡ None = within (Overrun i.place) end (body_end i) _ (omega (arith, fits, size)) ∙ rules in
    sound_has_chunk w f count end most n place lt
    (head_is_whole w end place (frame_head_fault f count end n i) head_fits (omega (arith, head_fits, there)) ∙ ap (option_map stopped) fault)
    ∙ ap (λ j. in_sound_chunk w end j (frames_from w f count end most (found_with j n) (next_place j))) e
    ∙ reaches w h.place (body_end h) _ (omega (arith, fits, there))
    ∙ ap (λ c. if c then with_frame (body_of w h) (up_to w h.place (whole_end end h) (frames_from w f count end most (found_with h n) (next_place h)))
    else up_to w h.place (whole_end end h) (frames_from w f count end most (found_with h n) (next_place h))) d
    ∙ ap (framed b (body_of w h)) (reaches w h.place (whole_end end h) _ (omega (arith, there))
    ∙ ap (λ c. frames_from w f count end most (if c then (n + 1) else n) (next_place h)) d)
  where
    by_rules : (b : Bool) (i : Head) → i.size ≡ h.size → AreShort f (by_name b h hs) → n + length (by_name b h hs) ≡ count →
        (if b then (FrameTooLong n i.size when i.size above 2 * (sound_bytes f + 1)
        otherwise TooManyFrames when n above 999999 otherwise CountDiffers count (count + 1) when n == count) else None) ≡ None
    by_rules false i s short exact = refl
    by_rules true i s short exact =
        let here = short.0 in
        frame_rules f count n i (omega (arith, here, s)) (omega (arith, exact)) most_count

behind_one : (w : List ℕ) (f : Shape) (count end most place n : ℕ) (h : Head) (hs : List Head) (b : Bool) →
    ((m : ℕ) → AreShort f (named "DSTF" hs) → m + length (named "DSTF" hs) ≡ count →
    frames_from w f count end most m place ≡ then_ended (frames_among w hs)) →
    AreShort f (by_name b h (named "DSTF" hs)) → n + length (by_name b h (named "DSTF" hs)) ≡ count →
    framed b (body_of w h) (frames_from w f count end most (counts b n) place) ≡ then_ended (map (body_of w) (by_name b h (named "DSTF" hs)))
unfolding by_name framed counts
behind_one w f count end most place n h hs false later short exact = later n short exact
behind_one w f count end most place n h hs true later short exact =
    ap (with_frame (body_of w h)) (later (n + 1) short.1 (omega (arith, exact)))

pub frames_come : (w : List ℕ) (f : Shape) (count end most place : ℕ) → end ≤ length w → count ≤ 1000000 →
    Comes w f count end most place (chunks_from (λ id. true) w end most place)
unfolding by_name
frames_come w f count end most place there most_count =
    found_by (λ id. true) w end (Comes w f count end) at_end (λ i l n none short exact. absurd cc) (λ m i l e n none short exact. absurd cc) at_chunk most place
  where
    at_end : (m i : ℕ) → end ≤ i → Comes w f count end m i (nothing None)
    at_end m i le n none short exact =
        sound_ends w f count end m n i le
        ∙ ap (λ b. nothing_but (if b then ended else stopped (CountDiffers count n))) (eq-eqb n count (omega (arith, exact)))

    at_chunk : (m i : ℕ) (later : Found) → i < end → fits (λ id. true) end (head_at w i) ≡ true → Comes w f count end m (next_place (head_at w i)) later →
        Comes w f count end (suc m) i (with_head (head_at w i) later)
    at_chunk m i later l e comes n none short exact =
        let h = head_at w i in
        let body = fits_body (λ id. true) end h e in
        one_more w f count end m i n h (named "DSTF" later.heads) (h.id is "DSTF") refl refl refl there most_count l (omega (arith, body)) body short exact
        ∙ behind_one w f count end m (next_place h) n h later.heads (h.id is "DSTF") (λ k s c. comes k none s c) short exact
