-- What a moment's samples are, the moments of a run of samples, and the sound of all of them.
use Rattle.std.proofs.Common.{◌≡◌, Bool, true, false, if◌then◌else◌, ◌+ℤ◌, ℕ, zero, suc, ◌+◌, ◌*◌, ◌%◌, ◌<◌, ◌≤◌, ℤ, pos, ◌-ℤ◌, ◌*ℤ◌, nat_abs, List, []}
use Rattle.std.proofs.Common.{◌∷◌, ◌++◌, map, length, get_or, take, length-take-le, flat_map, replicate, refl, ap, sym, ◌∙◌, arith, append_assoc, append-nil}
use Rattle.std.specs.Int.{is_negative}
use Rattle.std.specs.List.{range_with_len}
use Rattle.std.proofs.lemmas.Grind.{flat_map-append}
use Rattle.std.proofs.lemmas.List.{take_more}
use Rattle.std.proofs.lemmas.List.FromFn.{map-range_with_len_more}
use Rattle.rand_pcg.specs.Lcg.{Lcg}
use Rattle.rand_pcg.specs.Pcg.{pcg32}
use Rattle.dst_spec.specs.Bits.{number_from}
use Rattle.dst_spec.specs.Sample.{Shape, samples}
use Rattle.dsdiff_spec.specs.Samples.{eight, sound_of}
use Rattle.dsdiff_spec.specs.Made.{Wave, Made, at_time, times_from, dither, height, sample_of, level_of, next_wave, seeded, made_sound}
use Rattle.sound_maker.specs.Making.{Moment, Maker, now, later, sample_from, frame_of, after_frame, maker_after}

-- before the first sample
abbrev pub still : Wave
still = record { u = pos 0; w = pos 0 }

-- ---- one time
-- the samples of some channels and of one channel more
abbrev pub with_channel : ℕ → ℕ → Wave → Made → Made
with_channel t c wave past =
    let random = pcg32 past.generator in
    let sample = sample_of wave (dither random.0) in
    record {
      samples = past.samples ++ sample ∷ [];
      waves = past.waves ++ next_wave wave (height t c) (level_of sample) ∷ [];
      generator = random.1;
    }

pub one_channel_more : (t c : ℕ) (waves : List Wave) (wave : Wave) (g : Lcg) →
    at_time t c (waves ++ wave ∷ []) g ≡ with_channel t (c + length waves) wave (at_time t c waves g)
unfolding at_time
one_channel_more t c [] wave g =
    let place : c ≡ c + 0 = omega arith in
    ap (λ k. with_channel t k wave (record { samples = []; waves = []; generator = g })) place
one_channel_more t c (first ∷ waves) wave g =
    let random = pcg32 g in
    let sample = sample_of first (dither random.0) in
    let place : c + 1 + length waves ≡ c + suc (length waves) = omega arith in
    ap (λ (m : Made). record {
      samples = sample ∷ m.samples;
      waves = next_wave first (height t c) (level_of sample) ∷ m.waves;
      generator = m.generator;
    }) (one_channel_more t (c + 1) waves wave random.1 ∙ ap (λ k. with_channel t k wave (at_time t (c + 1) waves random.1)) place)

pub length-samples : (t c : ℕ) (waves : List Wave) (g : Lcg) → length (at_time t c waves g).samples ≡ length waves
unfolding at_time
length-samples t c [] g = refl
length-samples t c (wave ∷ waves) g = ap suc (length-samples t (c + 1) waves (pcg32 g).1)

pub length-waves : (t c : ℕ) (waves : List Wave) (g : Lcg) → length (at_time t c waves g).waves ≡ length waves
unfolding at_time
length-waves t c [] g = refl
length-waves t c (wave ∷ waves) g = ap suc (length-waves t (c + 1) waves (pcg32 g).1)

-- what a channel's step adds
pub channel_added : (t c random sample : ℕ) (ws : List Wave) (g0 g new : Lcg) (wave next : Wave) (h : ℤ) → c < length ws → wave ≡ get_or ws c still →
    g ≡ (at_time t 0 (take c ws) g0).generator → (random, new) ≡ pcg32 g → sample ≡ sample_of wave (dither random) → h ≡ height t c →
    next ≡ next_wave wave h (level_of sample) →
    at_time t 0 (take (c + 1) ws) g0 ≡ record {
      samples = (at_time t 0 (take c ws) g0).samples ++ sample ∷ [];
      waves = (at_time t 0 (take c ws) g0).waves ++ next ∷ [];
      generator = new;
    }
channel_added t c random sample ws g0 g new wave next h inside is_wave is_g is_random is_sample is_h is_next =
    let past = at_time t 0 (take c ws) g0 in
    let first = get_or ws c still in
    let place : 0 + length (take c ws) ≡ c = omega (arith, length-take-le c ws (omega arith)) in
    let drawn : pcg32 past.generator ≡ (random, new) = sym (is_random ∙ ap pcg32 is_g) in
    let shown : sample_of first (dither random) ≡ sample = ap (λ w. sample_of w (dither random)) (sym is_wave) ∙ sym is_sample in
    let moved : next_wave first (height t c) (level_of sample) ≡ next =
    ap (λ w. next_wave w (height t c) (level_of sample)) (sym is_wave) ∙ ap (λ k. next_wave wave k (level_of sample)) (sym is_h) ∙ sym is_next in
    ap (λ xs. at_time t 0 xs g0) (take_more ws c still inside)
    ∙ one_channel_more t 0 (take c ws) first g0
    ∙ ap (λ k. with_channel t k first past) place
    ∙ ap (λ (p : ℕ × Lcg). record {
      samples = past.samples ++ sample_of first (dither p.0) ∷ [];
      waves = past.waves ++ next_wave first (height t c) (level_of (sample_of first (dither p.0))) ∷ [];
      generator = p.1;
    }) drawn
    ∙ ap (λ s. record {
      samples = past.samples ++ s ∷ [];
      waves = past.waves ++ next_wave first (height t c) (level_of s) ∷ [];
      generator = new;
    }) shown
    ∙ ap (λ w. record { samples = past.samples ++ sample ∷ []; waves = past.waves ++ w ∷ []; generator = new }) moved

-- a sample is 0 or 1
zero_or_one : (b : Bool) → (if b then 0 else 1) < 2
zero_or_one true = omega arith
zero_or_one false = omega arith

pub sample-below : (t c : ℕ) (waves : List Wave) (g : Lcg) (k : ℕ) → get_or (at_time t c waves g).samples k 0 < 2
unfolding at_time
sample-below t c [] g k = omega arith
sample-below t c (wave ∷ waves) g zero = zero_or_one (is_negative (wave.w +ℤ dither (pcg32 g).0))
sample-below t c (wave ∷ waves) g (suc k) = sample-below t (c + 1) waves (pcg32 g).1 k

-- times a period apart have the same heights
height-of_period : (t c : ℕ) → height t c ≡ height (t % 6400) c
height-of_period t c =
    let same : (t + 800 * c) % 6400 ≡ (t % 6400 + 800 * c) % 6400 = omega arith in
    ap (λ p. pos 10 *ℤ (pos 1600 -ℤ pos (nat_abs (pos p -ℤ pos 3200)))) same

at_time-of_period : (t c : ℕ) (waves : List Wave) (g : Lcg) → at_time t c waves g ≡ at_time (t % 6400) c waves g
unfolding at_time
at_time-of_period t c [] g = refl
at_time-of_period t c (wave ∷ waves) g =
    let random = pcg32 g in
    let sample = sample_of wave (dither random.0) in
    ap (λ (m : Made). record {
      samples = sample ∷ m.samples;
      waves = next_wave wave (height t c) (level_of sample) ∷ m.waves;
      generator = m.generator;
    }) (at_time-of_period t (c + 1) waves random.1)
    ∙ ap (λ h. record {
      samples = sample ∷ (at_time (t % 6400) (c + 1) waves random.1).samples;
      waves = next_wave wave h (level_of sample) ∷ (at_time (t % 6400) (c + 1) waves random.1).waves;
      generator = (at_time (t % 6400) (c + 1) waves random.1).generator;
    }) (height-of_period t c)

-- ---- a run of times
times-of_period : (n t : ℕ) (waves : List Wave) (g : Lcg) → times_from n t waves g ≡ times_from n (t % 6400) waves g
unfolding times_from
times-of_period zero t waves g = refl
times-of_period (suc n) t waves g =
    let later_time : (t + 1) % 6400 ≡ (t % 6400 + 1) % 6400 = omega arith in
    let here = at_time (t % 6400) 0 waves g in
    ap (λ (m : Made). m.samples ∷ times_from n (t + 1) m.waves m.generator) (at_time-of_period t 0 waves g)
    ∙ ap (λ rows. here.samples ∷ rows) (
    times-of_period n (t + 1) here.waves here.generator
    ∙ ap (λ s. times_from n s here.waves here.generator) later_time
    ∙ sym (times-of_period n (t % 6400 + 1) here.waves here.generator)
    )

pub samples-at : (n k : ℕ) (m : Moment) → k < n → get_or (times_from n m.time m.waves m.generator) k [] ≡ (now (later k m)).samples
unfolding times_from later
samples-at zero k m h = absurd (omega arith)
samples-at (suc n) zero m h = refl
samples-at (suc n) (suc k) m h =
    let here = now m in
    ap (λ rows. get_or rows k []) (times-of_period n (m.time + 1) here.waves here.generator)
    ∙ samples-at n k (record { time = (m.time + 1) % 6400; waves = here.waves; generator = here.generator }) (omega arith)

pub later_still : (a b : ℕ) (m : Moment) → later (a + b) m ≡ later b (later a m)
unfolding later
later_still zero b m =
    let all : zero + b ≡ b = omega arith in
    ap (λ n. later n m) all
later_still (suc a) b m =
    let all : suc a + b ≡ suc (a + b) = omega arith in
    ap (λ n. later n m) all
    ∙ later_still a b (record { time = (m.time + 1) % 6400; waves = (now m).waves; generator = (now m).generator })

-- the moment behind one more sample of each channel
abbrev pub next_moment : Moment → Moment
next_moment m = record { time = (m.time + 1) % 6400; waves = (now m).waves; generator = (now m).generator }

pub later_by_one : (n : ℕ) (m : Moment) → later (n + 1) m ≡ next_moment (later n m)
unfolding later
later_by_one n m = later_still n 1 m

-- ---- the sound of samples
-- the bytes of eight samples of each channel
abbrev pub row : (ℕ → ℕ → ℕ) → ℕ → ℕ → List ℕ
row F channels i = map (λ c. number_from (eight F c i) 0 8) (range_with_len 0 channels)

map-range_alike : {X : Type 0} (f g : ℕ → X) (a n : ℕ) → ((k : ℕ) → k < n → f (a + k) ≡ g (a + k)) → map f (range_with_len a n) ≡ map g (range_with_len a n)
map-range_alike f g a zero same = refl
map-range_alike f g a (suc n) same =
    let first : f a ≡ g a = ap f (omega arith) ∙ same 0 (omega arith) ∙ ap g (omega arith) in
    let more : (k : ℕ) → k < n → f (a + 1 + k) ≡ g (a + 1 + k) = λ k h.
    let place : a + 1 + k ≡ a + (k + 1) = omega arith in
    ap f place ∙ same (k + 1) (omega arith) ∙ ap g (sym place) in
    ap (λ x. x ∷ map f (range_with_len (a + 1) n)) first
    ∙ ap (λ xs. g a ∷ xs) (map-range_alike f g (a + 1) n more)

pub eight_alike : (F G : ℕ → ℕ → ℕ) (c i j : ℕ) → ((s : ℕ) → s < 8 → F c (8 * i + s) ≡ G c (8 * j + s)) → eight F c i ≡ eight G c j
eight_alike F G c i j same =
    map-range_alike (λ s. F c (8 * i + s)) (λ s. G c (8 * j + s)) 0 8
    (λ s h. let from : 0 + s ≡ s = omega arith in
    ap (λ k. F c (8 * i + k)) from ∙ same s h ∙ ap (λ k. G c (8 * j + k)) (sym from))

pub row_alike : (F G : ℕ → ℕ → ℕ) (channels i j : ℕ) → ((c s : ℕ) → s < 8 → F c (8 * i + s) ≡ G c (8 * j + s)) → row F channels i ≡ row G channels j
row_alike F G channels i j same =
    map-range_alike (λ c. number_from (eight F c i) 0 8) (λ c. number_from (eight G c j) 0 8) 0 channels
    (λ c h. ap (λ xs. number_from xs 0 8) (eight_alike F G (0 + c) i j (same (0 + c))))

pub sound-more : (F : ℕ → ℕ → ℕ) (channels n : ℕ) → sound_of F channels (n + 1) ≡ sound_of F channels n ++ row F channels n
unfolding sound_of
sound-more F channels n =
    let more : range_with_len 0 (n + 1) ≡ range_with_len 0 n ++ n ∷ [] = range-more n in
    ap (flat_map (row F channels)) more
    ∙ flat_map-append (row F channels) (range_with_len 0 n) (n ∷ [])
    ∙ ap (λ xs. flat_map (row F channels) (range_with_len 0 n) ++ xs) (append-nil (row F channels n))
  where
    map-same : (xs : List ℕ) → map (λ x. x) xs ≡ xs
    map-same [] = refl
    map-same (x ∷ xs) = ap (λ ys. x ∷ ys) (map-same xs)

    range-more : (n : ℕ) → range_with_len 0 (n + 1) ≡ range_with_len 0 n ++ n ∷ []
    range-more n =
        sym (map-same (range_with_len 0 (n + 1))) ∙ map-range_with_len_more (λ x. x) 0 n n (omega arith)
        ∙ ap (λ xs. xs ++ n ∷ []) (map-same (range_with_len 0 n))

pub sound-alike : (F G : ℕ → ℕ → ℕ) (channels n : ℕ) → ((c t : ℕ) → t < 8 * n → F c t ≡ G c t) → sound_of F channels n ≡ sound_of G channels n
unfolding sound_of
sound-alike F G channels zero same = refl
sound-alike F G channels (suc n) same =
    let all : suc n ≡ n + 1 = omega arith in
    ap (sound_of F channels) all
    ∙ sound-more F channels n
    ∙ ap (λ xs. xs ++ row F channels n) (sound-alike F G channels n (λ c t h. same c t (omega arith)))
    ∙ ap (λ xs. sound_of G channels n ++ xs) (row_alike F G channels n n (λ c s h. same c (8 * n + s) (omega arith)))
    ∙ sym (sound-more G channels n)
    ∙ ap (sound_of G channels) (sym all)

pub sound-further : (F : ℕ → ℕ → ℕ) (channels a b : ℕ) → sound_of F channels (a + b) ≡ sound_of F channels a ++ sound_of (λ c t. F c (8 * a + t)) channels b
unfolding sound_of
sound-further F channels a zero =
    let all : a + zero ≡ a = omega arith in
    ap (sound_of F channels) all ∙ sym (append-nil (sound_of F channels a))
sound-further F channels a (suc b) =
    let G : ℕ → ℕ → ℕ = λ c t. F c (8 * a + t) in
    let all : a + suc b ≡ a + b + 1 = omega arith in
    let more : suc b ≡ b + 1 = omega arith in
    let shifted : (s : ℕ) → 8 * (a + b) + s ≡ 8 * a + (8 * b + s) = λ s. omega arith in
    ap (sound_of F channels) all
    ∙ sound-more F channels (a + b)
    ∙ ap (λ xs. xs ++ row F channels (a + b)) (sound-further F channels a b)
    ∙ ap (λ xs. (sound_of F channels a ++ sound_of G channels b) ++ xs) (row_alike F G channels (a + b) b (λ c s h. ap (F c) (shifted s)))
    ∙ append_assoc (sound_of F channels a) (sound_of G channels b) (row G channels b)
    ∙ ap (λ xs. sound_of F channels a ++ xs) (sym (sound-more G channels b) ∙ ap (sound_of G channels) (sym more))

-- ---- the sound from a moment on
pub sound-of_samples : (m : Moment) (channels n octets : ℕ) → 8 * octets ≤ n →
    sound_of (λ c t. get_or (get_or (times_from n m.time m.waves m.generator) t []) c 0) channels octets ≡ sound_of (sample_from m) channels octets
sound-of_samples m channels n octets enough =
    sound-alike (λ c t. get_or (get_or (times_from n m.time m.waves m.generator) t []) c 0) (sample_from m) channels octets
    (λ c t h. ap (λ xs. get_or xs c 0) (samples-at n t m (omega arith)))

abbrev pub beginning : ℕ → Shape → Moment
beginning start f = record { time = 0; waves = replicate f.channels still; generator = seeded start }

-- samples counted from a later moment
pub sample_later : (m here : Moment) (n c s : ℕ) → here ≡ later (8 * n) m → sample_from here c (8 * 0 + s) ≡ sample_from m c (8 * n + s)
sample_later m here n c s reached =
    let from : 8 * 0 + s ≡ s = omega arith in
    ap (λ k. sample_from here c k) from
    ∙ ap (λ k. get_or (now (later s k)).samples c 0) reached
    ∙ ap (λ k. get_or (now k).samples c 0) (sym (later_still (8 * n) s m))

pub row_of_bytes : (F : ℕ → ℕ → ℕ) (channels i : ℕ) (bytes : List ℕ) → channels ≤ length bytes →
    ((c : ℕ) → c < channels → get_or bytes c 0 ≡ number_from (eight F c i) 0 8) → take channels bytes ≡ row F channels i
row_of_bytes F zero i bytes long each = refl
row_of_bytes F (suc n) i bytes long each =
    let next : suc n ≡ n + 1 = omega arith in
    let byte : ℕ → ℕ = λ c. number_from (eight F c i) 0 8 in
    ap (λ k. take k bytes) next
    ∙ take_more bytes n 0 (omega arith)
    ∙ ap (λ b. take n bytes ++ b ∷ []) (each n (omega arith))
    ∙ ap (λ xs. xs ++ byte n ∷ []) (row_of_bytes F n i bytes (omega arith) (λ c h. each c (omega arith)))
    ∙ sym (map-range_with_len_more byte 0 n n (omega arith))
    ∙ ap (λ k. row F k i) (sym next)

pub take-alike : {A : Type 0} (x : A) (k n : ℕ) → k ≤ n → take k (replicate n x) ≡ replicate k x
take-alike x zero n h = refl
take-alike x (suc k) zero h = absurd (omega arith)
take-alike x (suc k) (suc n) h = ap (λ xs. x ∷ xs) (take-alike x k n (omega arith))

pub maker_at_the_beginning : (start : ℕ) (f : Shape) → record { shape = f; moment = beginning start f } ≡ maker_after start 0 f
unfolding later
maker_at_the_beginning start f =
    let none : 0 ≡ 0 * samples f = omega arith in
    ap (λ (k : ℕ). record { shape = f; moment = later k (beginning start f) }) none

pub made-of_samples : (start n : ℕ) (f : Shape) → made_sound start n f ≡ sound_of (sample_from (beginning start f)) f.channels (n * f.octets)
unfolding made_sound
made-of_samples start n f =
    let enough : 8 * (n * f.octets) ≤ n * (8 * f.octets) = grind arith in
    sound-of_samples (beginning start f) f.channels (n * samples f) (n * f.octets) enough

pub frame-of_samples : (m : Maker) → frame_of m ≡ sound_of (sample_from m.moment) m.shape.channels m.shape.octets
unfolding frame_of
frame-of_samples m = sound-of_samples m.moment m.shape.channels (samples m.shape) m.shape.octets (omega arith)

pub nothing_made : (start : ℕ) (f : Shape) → made_sound start 0 f ≡ []
unfolding sound_of
nothing_made start f =
    let none : 0 * f.octets ≡ 0 = omega arith in
    made-of_samples start 0 f ∙ ap (sound_of (sample_from (beginning start f)) f.channels) none

pub one_frame_more : (start n : ℕ) (f : Shape) → made_sound start (n + 1) f ≡ made_sound start n f ++ frame_of (maker_after start n f)
one_frame_more start n f =
    let m = beginning start f in
    let before = n * f.octets in
    let places : (n + 1) * f.octets ≡ before + f.octets = grind arith in
    let times : 8 * before ≡ n * samples f = grind arith in
    let same : (c t : ℕ) → t < 8 * f.octets → sample_from m c (8 * before + t) ≡ sample_from (later (n * samples f) m) c t = λ c t h.
    ap (λ k. get_or (now k).samples c 0) (later_still (8 * before) t m ∙ ap (λ k. later t (later k m)) times) in
    made-of_samples start (n + 1) f
    ∙ ap (sound_of (sample_from m) f.channels) places
    ∙ sound-further (sample_from m) f.channels before f.octets
    ∙ ap (λ xs. sound_of (sample_from m) f.channels before ++ xs) (
    sound-alike (λ c t. sample_from m c (8 * before + t)) (sample_from (later (n * samples f) m)) f.channels f.octets same
    ∙ sym (frame-of_samples (maker_after start n f))
    )
    ∙ ap (λ xs. xs ++ frame_of (maker_after start n f)) (sym (made-of_samples start n f))

pub maker_behind_a_frame : (start n : ℕ) (f : Shape) → after_frame (maker_after start n f) ≡ maker_after start (n + 1) f
maker_behind_a_frame start n f =
    let all : n * samples f + samples f ≡ (n + 1) * samples f = grind arith in
    ap (λ m. record { shape = f; moment = m }) (sym (later_still (n * samples f) (samples f) (beginning start f)) ∙ ap (λ k. later k (beginning start f)) all)
