-- How many chunks of a stream may come in a form and in its `DST `: so many are passed over, and one more is too many.
use Rattle.std.proofs.Common.{◌≡◌, ℕ, zero, suc, ◌+◌, ◌-◌, ◌<◌, ◌≤◌, List, [], ◌∷◌, ◌++◌, length, flat_map, Bool, false, Option, Some, None}
use Rattle.std.proofs.Common.{refl, sym, ap, ◌∙◌, arith}
use Rattle.std.proofs.Common.{length-append}
use Rattle.std.specs.Prelude.{true, if◌then◌else◌, nat_lt, not, ◌==◌, get_or, min, option_map, codes}
use Rattle.std.specs.List.{AllByRecursion}
use Rattle.std.proofs.lemmas.Bool.{le-ltb}
use Rattle.dst_spec.specs.Sample.{Shape}
use Rattle.dsdiff_spec.specs.Bytes.{◌is◌}
use Rattle.dsdiff_spec.specs.Faults.{◌when◌, ◌otherwise◌}
use Rattle.dsdiff_spec.specs.Chunks.{Chunk, bytes_of_chunk, IsChunk, Head, head_at, body_place, body_end, next_place, body_of}
use Rattle.dsdiff_spec.specs.Parts.{form_end}
use Rattle.dsdiff_spec.specs.declared.faults.FileFault.{FileFault}
use Rattle.dsdiff_spec.specs.declared.faults.FileFault.TheVariants.{NotForm, Overrun, Version, PropMissing, TooManyChunks}
use Rattle.dsdiff_spec.specs.Streams.{Stream, nothing_but, stopped, cut_off, up_to, unless, whole_end, frame_head_fault, with_frame, counted}
use Rattle.dsdiff_spec.specs.Streams.{frames_from, Came, nothing_came, version_head_fault, form_head_fault, stream}
use Rattle.dsdiff_spec.specs.Streams.{later_head_fault, chunk_head_fault, came_with, in_form, in_sound, frte_fault_at, front_of, with_front}
use Rattle.dsdiff_spec.proofs.Tiling.{head_of, head_of_chunk, length_of_chunk, regroup_first, regroup_chunks}
use Rattle.dsdiff_spec.proofs.StreamSteps.{reaches, head_is_whole, sound_ends, sound_has_no_more, sound_has_chunk, form_ends, form_has_no_more, form_has_chunk}

-- a rule that a place below the end keeps
pub within : (fault : FileFault) (end place : ℕ) (later : Option FileFault) → place ≤ end →
    ((if nat_lt end place then Some fault else None) otherwise later) ≡ later
within fault end place later le = ap {A = Bool} (λ b. (if b then Some fault else None) otherwise later) (le-ltb end place le)

-- ---- one chunk that is no frame
no_frame : (b : Bool) → b ≡ false → (frames other : Option FileFault) → (if b then frames else other) ≡ other
no_frame b e frames other = ap (λ c. if c then frames else other) e

pub frameless : (b : Bool) → b ≡ false → (frame : List ℕ) (later : Stream) → (if b then with_frame frame later else later) ≡ later
frameless b e frame later = ap (λ c. if c then with_frame frame later else later) e

uncounted : (b : Bool) → b ≡ false → (found : ℕ) → (if b then (found + 1) else found) ≡ found
uncounted b e found = ap (λ c. if c then (found + 1) else found) e

sound_passes : (w : List ℕ) (f : Shape) (count end most found place : ℕ) (h : Head) → head_at w place ≡ h → h.place ≡ place →
    (h.id is "DSTF") ≡ false → next_place h ≤ end → next_place h ≤ length w →
    frames_from w f count end (suc most) found place ≡ frames_from w f count end most found (next_place h)
sound_passes w f count end most found place h e p d le there =
    let other : ((head_at w place).id is "DSTF") ≡ false = ap (λ i. i.id is "DSTF") e ∙ d in
    let next : next_place (head_at w place) ≡ next_place h = ap next_place e in
    let size : body_end (head_at w place) ≡ body_end h = ap body_end e in
    let fault = within (Overrun (head_at w place).place) end (body_end (head_at w place)) _ (omega (arith, le, size))
    ∙ no_frame ((head_at w place).id is "DSTF") other _ None in
    sound_has_chunk w f count end most found place (omega (arith, p, le))
    (head_is_whole w end place (frame_head_fault f count end found (head_at w place)) (omega (arith, p, le)) (omega (arith, p, there))
    ∙ ap (option_map stopped) fault)
    ∙ reaches w _ (body_end (head_at w place)) _ (omega (arith, there, size))
    ∙ frameless ((head_at w place).id is "DSTF") other _ _
    ∙ reaches w _ (whole_end end (head_at w place)) _ (omega (arith, there, next))
    ∙ ap (λ n. frames_from w f count end most n (next_place (head_at w place))) (uncounted ((head_at w place).id is "DSTF") other found)
    ∙ ap (frames_from w f count end most found) next

-- ---- chunks that are no frames
abbrev pub IsNoFrame : Chunk → Type 0
IsNoFrame c = (c.id is "DSTF") ≡ false

pub sound_leads_on : (w : List ℕ) (f : Shape) (count end found : ℕ) (cs : List Chunk) (front rest : List ℕ) (most more : ℕ) →
    AllByRecursion IsChunk cs → AllByRecursion IsNoFrame cs → most ≡ length cs + more → w ≡ front ++ flat_map bytes_of_chunk cs ++ rest →
    length front + length (flat_map bytes_of_chunk cs) ≤ end →
    frames_from w f count end most found (length front) ≡ frames_from w f count end more found (length front + length (flat_map bytes_of_chunk cs))
sound_leads_on w f count end found [] front rest most more all none room p le =
    let same : length front ≡ length front + 0 = omega arith in
    let rest_of : most ≡ more = omega (arith, room) in
    ap (λ n. frames_from w f count end n found (length front)) rest_of ∙ ap (frames_from w f count end more found) same
sound_leads_on w f count end found (c ∷ cs) front rest zero more all none room p le = absurd (omega (arith, room))
sound_leads_on w f count end found (c ∷ cs) front rest (suc most) more all none room p le =
    let h = head_of c.id (length front) (length c.body) in
    let long = length_of_chunk c all.0 in
    let both = length-append (bytes_of_chunk c) (flat_map bytes_of_chunk cs) in
    let moved = length-append front (bytes_of_chunk c) in
    let whole : length w ≡ length front + (length (bytes_of_chunk c) + length (flat_map bytes_of_chunk cs)) + length rest =
    ap length p ∙ length-append (front ++ flat_map bytes_of_chunk (c ∷ cs)) rest
    ∙ ap (λ n. n + length rest) (length-append front (flat_map bytes_of_chunk (c ∷ cs)) ∙ ap (λ n. length front + n) both) in
    let here : head_at w (length front) ≡ h =
    ap (λ v. head_at v (length front)) (p ∙ regroup_first front (bytes_of_chunk c) (flat_map bytes_of_chunk cs) rest)
    ∙ head_of_chunk front c (flat_map bytes_of_chunk cs ++ rest) all.0 in
    let next : next_place h ≡ length (front ++ bytes_of_chunk c) = omega (arith, long, moved) in
    let behind : length (front ++ bytes_of_chunk c) + length (flat_map bytes_of_chunk cs)
    ≡ length front + length (bytes_of_chunk c ++ flat_map bytes_of_chunk cs) = omega (arith, both, moved) in
    sound_passes w f count end most found (length front) h here refl none.0 (omega (arith, le, both, long)) (omega (arith, whole, long))
    ∙ ap (frames_from w f count end most found) next
    ∙ sound_leads_on w f count end found cs (front ++ bytes_of_chunk c) rest most more all.1 none.1 (omega (arith, room))
    (p ∙ regroup_chunks front (bytes_of_chunk c) (flat_map bytes_of_chunk cs) rest) (omega (arith, le, both, moved))
    ∙ ap (frames_from w f count end more found) behind

-- chunks stand in a stream from a place on
pub record StandInSound (w : List ℕ) (place : ℕ) (cs : List Chunk) : Type 0 where
  pub front : List ℕ
  pub rest : List ℕ
  pub each : AllByRecursion IsChunk cs
  pub none : AllByRecursion IsNoFrame cs
  pub bytes : w ≡ front ++ flat_map bytes_of_chunk cs ++ rest
  pub at_place : length front ≡ place

pub chunks_4000000_may_come : (w : List ℕ) (f : Shape) (count end place : ℕ) (cs : List Chunk) → StandInSound w place cs → length cs ≤ 4000000 →
    end ≡ place + length (flat_map bytes_of_chunk cs) → frames_from w f count end 4000000 0 place ≡ nothing_but (counted count 0)
chunks_4000000_may_come w f count end place cs s le e =
    ap (frames_from w f count end 4000000 0) (sym s.at_place)
    ∙ sound_leads_on w f count end 0 cs s.front s.rest 4000000 (4000000 - length cs) s.each s.none (omega (arith, le)) s.bytes (omega (arith, e, s.at_place))
    ∙ sound_ends w f count end (4000000 - length cs) 0 _ (omega (arith, e, s.at_place))

pub chunk_4000001_may_not_come : (w : List ℕ) (f : Shape) (count end place : ℕ) (cs : List Chunk) → StandInSound w place cs → length cs ≡ 4000000 →
    place + length (flat_map bytes_of_chunk cs) < end → frames_from w f count end 4000000 0 place ≡ nothing_but (stopped TooManyChunks)
chunk_4000001_may_not_come w f count end place cs s e l =
    ap (frames_from w f count end 4000000 0) (sym s.at_place)
    ∙ sound_leads_on w f count end 0 cs s.front s.rest 4000000 0 s.each s.none (omega (arith, e)) s.bytes (omega (arith, l, s.at_place))
    ∙ sound_has_no_more w f count end 0 _ (omega (arith, l, s.at_place))

-- the same in `DST `, behind its `FRTE` of 18 bytes
abbrev behind_frte : List ℕ → Came → Head → Stream → Stream
behind_frte w came h frames =
    up_to w (body_place h) (body_place h + 18) (unless (frte_fault_at w (body_place h)) (with_front (front_of w came h) frames))

pub chunks_4000000_may_come_in_dst : (w : List ℕ) (came : Came) (h : Head) (cs : List Chunk) → StandInSound w (body_place h + 18) cs → length cs ≤ 4000000 →
    body_end h ≡ body_place h + 18 + length (flat_map bytes_of_chunk cs) →
    in_sound w came h ≡ behind_frte w came h (nothing_but (counted (front_of w came h).frames 0))
chunks_4000000_may_come_in_dst w came h cs s le e =
    ap (behind_frte w came h) (chunks_4000000_may_come w _ (front_of w came h).frames (body_end h) (body_place h + 18) cs s le e)

pub chunk_4000001_may_not_come_in_dst : (w : List ℕ) (came : Came) (h : Head) (cs : List Chunk) → StandInSound w (body_place h + 18) cs → length cs ≡ 4000000 →
    body_place h + 18 + length (flat_map bytes_of_chunk cs) < body_end h →
    in_sound w came h ≡ behind_frte w came h (nothing_but (stopped TooManyChunks))
chunk_4000001_may_not_come_in_dst w came h cs s e l =
    ap (behind_frte w came h) (chunk_4000001_may_not_come w _ (front_of w came h).frames (body_end h) (body_place h + 18) cs s e l)

-- ---- chunks of a form that are no `PROP` and no sound, behind the first
pub record IsPassed (c : Chunk) : Type 0 where
  pub no_prop : (c.id is "PROP") ≡ false
  pub no_plain : (c.id is "DSD ") ≡ false
  pub no_coded : (c.id is "DST ") ≡ false

abbrev pub behind_version : List ℕ → Option (List ℕ) → Came
behind_version version prop = record { version = Some version; prop = prop }

unfoldable pub by_ids : Bool → Bool → Bool → Option FileFault → Option FileFault → Option FileFault → Option FileFault
by_ids a b c x y z = if a then x else (if b then y else (if c then z else None))

no_rule : (a b c : Bool) → a ≡ false → b ≡ false → c ≡ false → (x y z : Option FileFault) → by_ids a b c x y z ≡ None
unfolding by_ids
no_rule a b c p q r x y z =
    ap (λ i. by_ids i b c x y z) p ∙ ap (λ i. by_ids false i c x y z) q ∙ ap (λ i. by_ids false false i x y z) r

head_rules : (prop : Option (List ℕ)) (h : Head) → (h.id is "PROP") ≡ false → (h.id is "DSD ") ≡ false → (h.id is "DST ") ≡ false →
    later_head_fault prop h ≡ None
unfolding by_ids
head_rules prop h p q r = no_rule (h.id is "PROP") (h.id is "DSD ") (h.id is "DST ") p q r _ _ _

pub unruled : (b : Bool) → b ≡ false → (fault : Option FileFault) (later : Stream) → unless (if b then fault else None) later ≡ later
unruled b e fault later = ap (λ c. unless (if c then fault else None) later) e

no_prop_more : (b : Bool) → b ≡ false → (body : List ℕ) (version : List ℕ) (prop : Option (List ℕ)) →
    behind_version version (if b then Some body else prop) ≡ behind_version version prop
no_prop_more b e body version prop = ap {A = Bool} (λ c. behind_version version (if c then Some body else prop)) e

pub form_passes : (w : List ℕ) (end most : ℕ) (version : List ℕ) (prop : Option (List ℕ)) (place : ℕ) (h : Head) → head_at w place ≡ h →
    h.place ≡ place → (h.id is "PROP") ≡ false → (h.id is "DSD ") ≡ false → (h.id is "DST ") ≡ false → next_place h ≤ end → next_place h ≤ length w →
    in_form w end (suc most) (behind_version version prop) place ≡ in_form w end most (behind_version version prop) (next_place h)
form_passes w end most version prop place h e at p q r le there =
    let i = head_at w place in
    let p' : (i.id is "PROP") ≡ false = ap (λ j. j.id is "PROP") e ∙ p in
    let q' : (i.id is "DSD ") ≡ false = ap (λ j. j.id is "DSD ") e ∙ q in
    let r' : (i.id is "DST ") ≡ false = ap (λ j. j.id is "DST ") e ∙ r in
    let next : next_place i ≡ next_place h = ap next_place e in
    let size : body_end i ≡ body_end h = ap body_end e in
    let fault : chunk_head_fault end (behind_version version prop) i ≡ None =
    within (Overrun i.place) end (body_end i) _ (omega (arith, le, size)) ∙ head_rules prop i p' q' r' in
    form_has_chunk w end most (behind_version version prop) place (omega (arith, at, le))
    (head_is_whole w end place (chunk_head_fault end (behind_version version prop) i) (omega (arith, at, le)) (omega (arith, at, there))
    ∙ ap (option_map stopped) fault) r'
    ∙ reaches w _ (body_end i) _ (omega (arith, there, size))
    ∙ unruled (i.id is "PROP") p' _ _
    ∙ reaches w _ (whole_end end i) _ (omega (arith, there, next))
    ∙ ap (λ c. in_form w end most c (next_place i)) (no_prop_more (i.id is "PROP") p' _ version prop)
    ∙ ap (in_form w end most (behind_version version prop)) next

pub form_leads_on : (w : List ℕ) (end : ℕ) (version : List ℕ) (prop : Option (List ℕ)) (cs : List Chunk) (front rest : List ℕ) (most more : ℕ) →
    AllByRecursion IsChunk cs → AllByRecursion IsPassed cs → most ≡ length cs + more → w ≡ front ++ flat_map bytes_of_chunk cs ++ rest →
    length front + length (flat_map bytes_of_chunk cs) ≤ end →
    in_form w end most (behind_version version prop) (length front)
    ≡ in_form w end more (behind_version version prop) (length front + length (flat_map bytes_of_chunk cs))
form_leads_on w end version prop [] front rest most more all passed room p le =
    let same : length front ≡ length front + 0 = omega arith in
    let rest_of : most ≡ more = omega (arith, room) in
    ap (λ n. in_form w end n (behind_version version prop) (length front)) rest_of ∙ ap (in_form w end more (behind_version version prop)) same
form_leads_on w end version prop (c ∷ cs) front rest zero more all passed room p le = absurd (omega (arith, room))
form_leads_on w end version prop (c ∷ cs) front rest (suc most) more all passed room p le =
    let h = head_of c.id (length front) (length c.body) in
    let long = length_of_chunk c all.0 in
    let both = length-append (bytes_of_chunk c) (flat_map bytes_of_chunk cs) in
    let moved = length-append front (bytes_of_chunk c) in
    let whole : length w ≡ length front + (length (bytes_of_chunk c) + length (flat_map bytes_of_chunk cs)) + length rest =
    ap length p ∙ length-append (front ++ flat_map bytes_of_chunk (c ∷ cs)) rest
    ∙ ap (λ n. n + length rest) (length-append front (flat_map bytes_of_chunk (c ∷ cs)) ∙ ap (λ n. length front + n) both) in
    let here : head_at w (length front) ≡ h =
    ap (λ v. head_at v (length front)) (p ∙ regroup_first front (bytes_of_chunk c) (flat_map bytes_of_chunk cs) rest)
    ∙ head_of_chunk front c (flat_map bytes_of_chunk cs ++ rest) all.0 in
    let next : next_place h ≡ length (front ++ bytes_of_chunk c) = omega (arith, long, moved) in
    let behind : length (front ++ bytes_of_chunk c) + length (flat_map bytes_of_chunk cs)
    ≡ length front + length (bytes_of_chunk c ++ flat_map bytes_of_chunk cs) = omega (arith, both, moved) in
    form_passes w end most version prop (length front) h here refl passed.0.no_prop passed.0.no_plain passed.0.no_coded
    (omega (arith, le, both, long)) (omega (arith, whole, long))
    ∙ ap (in_form w end most (behind_version version prop)) next
    ∙ form_leads_on w end version prop cs (front ++ bytes_of_chunk c) rest most more all.1 passed.1 (omega (arith, room))
    (p ∙ regroup_chunks front (bytes_of_chunk c) (flat_map bytes_of_chunk cs) rest) (omega (arith, le, both, moved))
    ∙ ap (in_form w end more (behind_version version prop)) behind

-- a stream with a head of a form that keeps its rules, and a first chunk that is `FVER` of version 1
pub record Begins (w : List ℕ) : Type 0 where
  pub head : form_head_fault w ≡ None
  pub version : head_at w 16 ≡ record { id = codes "FVER"; place = 16; size = 4 }
  pub first_byte : get_or w 28 0 ≡ 1
  pub within : 32 ≤ form_end w
  pub there : 32 ≤ length w

abbrev pub version_of : List ℕ → List ℕ
version_of w = body_of w (head_at w 16)

pub first_chunk_passes : (w : List ℕ) → Begins w →
    stream w ≡ in_form w (form_end w) 1023 (behind_version (version_of w) None) 32
unfolding stream
first_chunk_passes w b =
    let i = head_at w 16 in
    let h : Head = record { id = codes "FVER"; place = 16; size = 4 } in
    let end = form_end w in
    let next : next_place i ≡ 32 = ap next_place b.version in
    let size : body_end i ≡ 32 = ap body_end b.version in
    let at_end : whole_end end i ≡ min 32 end = ap (λ j. whole_end end j) b.version in
    let fault : chunk_head_fault end nothing_came i ≡ None =
    within (Overrun i.place) end (body_end i) _ (omega (arith, b.within, size)) ∙ ap version_head_fault b.version in
    ap {A = Bool} (λ c. elim c [ true ↦ nothing_but (cut_off NotForm) | false ↦ unless (form_head_fault w) (in_form w end 1024 nothing_came 16) ])
    (le-ltb (length w) 16 (omega (arith, b.there)))
    ∙ ap (λ c. unless c (in_form w end 1024 nothing_came 16)) b.head
    ∙ form_has_chunk w end 1023 nothing_came 16 (omega (arith, b.within))
    (head_is_whole w end 16 (chunk_head_fault end nothing_came i) (omega (arith, b.within)) (omega (arith, b.there)) ∙ ap (option_map stopped) fault)
    (ap (λ j. j.id is "DST ") b.version)
    ∙ reaches w _ (body_end i) _ (omega (arith, b.there, size))
    ∙ ap (λ c. unless (Version when not (get_or w (body_place c) 0 == 1))
    (up_to w c.place (whole_end end c) (in_form w end 1023 (came_with w nothing_came c) (next_place c)))) b.version
    ∙ ap (λ n. unless (Version when not (n == 1)) (up_to w 16 (min 32 end) (in_form w end 1023 (came_with w nothing_came h) 32))) b.first_byte
    ∙ reaches w 16 (min 32 end) _ (omega (arith, b.there))
    ∙ ap (λ c. in_form w end 1023 (behind_version (body_of w c) None) 32) (sym b.version)

-- chunks stand in a stream behind its `FVER`
pub record StandInForm (w : List ℕ) (cs : List Chunk) : Type 0 where
  pub front : List ℕ
  pub rest : List ℕ
  pub each : AllByRecursion IsChunk cs
  pub passed : AllByRecursion IsPassed cs
  pub bytes : w ≡ front ++ flat_map bytes_of_chunk cs ++ rest
  pub at_place : length front ≡ 32

pub chunks_1024_may_come : (w : List ℕ) (cs : List Chunk) → Begins w → StandInForm w cs → length cs ≤ 1023 →
    form_end w ≡ 32 + length (flat_map bytes_of_chunk cs) → stream w ≡ nothing_but (stopped PropMissing)
chunks_1024_may_come w cs b s le e =
    let came = behind_version (version_of w) None in
    first_chunk_passes w b
    ∙ ap (in_form w (form_end w) 1023 came) (sym s.at_place)
    ∙ form_leads_on w (form_end w) (version_of w) None cs s.front s.rest 1023 (1023 - length cs) s.each s.passed
    (omega (arith, le)) s.bytes (omega (arith, e, s.at_place))
    ∙ form_ends w (form_end w) (1023 - length cs) came _ (omega (arith, e, s.at_place))

pub chunk_1025_may_not_come : (w : List ℕ) (cs : List Chunk) → Begins w → StandInForm w cs → length cs ≡ 1023 →
    32 + length (flat_map bytes_of_chunk cs) < form_end w → stream w ≡ nothing_but (stopped TooManyChunks)
chunk_1025_may_not_come w cs b s e l =
    let came = behind_version (version_of w) None in
    first_chunk_passes w b
    ∙ ap (in_form w (form_end w) 1023 came) (sym s.at_place)
    ∙ form_leads_on w (form_end w) (version_of w) None cs s.front s.rest 1023 0 s.each s.passed (omega (arith, e)) s.bytes (omega (arith, l, s.at_place))
    ∙ form_has_no_more w (form_end w) came _ (omega (arith, l, s.at_place))
