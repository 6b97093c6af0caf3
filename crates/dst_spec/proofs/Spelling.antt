-- A spelling means the sound that it was made for, and a stored frame does.
use Rattle.std.proofs.Common.{◌≡◌, inl, inr, ℕ, ◌+◌, ◌^◌, ◌<◌, ◌≤◌, nat_lt, Bool, true, false, cond, List, [], ◌∷◌, ◌++◌, length, map, fold, take}
use Rattle.std.proofs.Common.{get_or, refl, sym, subst, ◌∙◌, arith, length-append, append_assoc, length-take-le, ltb-true, mod-eq_of_lt, pow-add}
use Rattle.std.proofs.Common.{get_or-take}
use Rattle.std.proofs.lemmas.List.{ext_get_or, get_or_append_left, get_or_at, take_all}
use Rattle.std.specs.List.{AllByRecursion}
use Rattle.dst_spec.specs.Bits.{low_bits, bits, number_from, octets, AreBits}
use Rattle.dst_spec.specs.Sample.{Shape, IsShape, IsSound, sound_bytes}
use Rattle.dst_spec.specs.Header.{Params, IsParams, HasHeader}
use Rattle.dst_spec.specs.Symbols.{symbols}
use Rattle.dst_spec.specs.Interval.{Interval, interval, code_number, IsCodeOf}
use Rattle.dst_spec.specs.Means.{Means}
use Rattle.dst_spec.specs.Spell.{header_spelling, code_spelling, spell, shorter}
use Rattle.dst_spec.specs.Laws.{SpellingLaw, StoringLaw}
use Rattle.dst_spec.proofs.Numbers.{AreBits-low_bits, AreBits-append, number_from-low_bits, number_from-append_right, number_from-octets, bits-octets}
use Rattle.dst_spec.proofs.Numbers.{length-bits, length-octets}
use Rattle.dst_spec.proofs.Intervals.{AreLawful, IsNormal, IsNormal-interval}
use Rattle.dst_spec.proofs.Probabilities.{AreLawful-symbols}
use Rattle.dst_spec.proofs.SpelledHeader.{HasHeader-spelling}
use Rattle.dst_spec.proofs.SpelledBits.{AreBits-header}

-- ---- the code that is written lies in the interval
low-below : (j : Interval) → IsNormal j → j.low < 2 ^ (12 + j.doublings)
low-below j n =
    let e = n.end in
    let l = n.least in
    rw (pow-add 2 12 j.doublings) (omega arith)

front_of_octets : (h c : List ℕ) → AreBits (h ++ c) → take (length h) (bits (octets (h ++ c))) ≡ h
front_of_octets h c b =
    let n = length h in
    let long : n ≤ length (bits (octets (h ++ c))) = omega (arith, length-bits (octets (h ++ c)), length-octets (h ++ c), length-append h c) in
    let taken = length-take-le n (bits (octets (h ++ c))) long in
    ext_get_or 0 (take n (bits (octets (h ++ c)))) h taken
    (λ i lt.
    let inside : i < n = omega arith in
    get_or-take n (bits (octets (h ++ c))) i 0 inside ∙ bits-octets (h ++ c) i b ∙ get_or_append_left h c 0 i inside)

code_of_spelling : (h : List ℕ) (pairs : List (Bool × ℕ)) → AreBits (h ++ code_spelling pairs) → AreLawful pairs →
    IsCodeOf (bits (octets (h ++ code_spelling pairs))) (length h) pairs
unfolding code_spelling
code_of_spelling h pairs b lawful =
    let j = interval pairs in
    let n = IsNormal-interval pairs lawful in
    let m = 12 + j.doublings in
    let ys = low_bits m j.low in
    let xs = h ++ 0 ∷ ys in
    let front : List ℕ = h ++ 0 ∷ [] in
    let long : length front + 0 ≡ length h + 1 = omega (arith, length-append h (0 ∷ [])) in
    let same : front ++ ys ≡ xs = append_assoc h (0 ∷ []) ys in
    let behind = number_from-append_right front ys 0 m in
    let e : number_from xs (length h + 1) m ≡ number_from ys 0 m = rw (long, same) at behind in
    let value : code_number (bits (octets xs)) (length h) j.doublings ≡ j.low =
    number_from-octets xs (length h + 1) m b ∙ e ∙ number_from-low_bits m j.low ∙ mod-eq_of_lt (low-below j n) in
    let least = n.least in
    record { above = omega (arith, value); below = omega (arith, value) }

pub AreBits-code : (pairs : List (Bool × ℕ)) → AreBits (code_spelling pairs)
unfolding code_spelling
AreBits-code pairs = (omega arith, AreBits-low_bits (12 + (interval pairs).doublings) (interval pairs).low)

first_is : (h : List ℕ) (pairs : List (Bool × ℕ)) → get_or (h ++ code_spelling pairs) (length h) 0 ≡ 0
unfolding code_spelling
first_is h pairs = get_or_at h 0 (low_bits (12 + (interval pairs).doublings) (interval pairs).low) 0 (length h) refl

pub spelling_law : SpellingLaw
unfolding spell
spelling_law f P sound shape params s =
    let pairs = symbols f P sound false in
    let h = header_spelling P in
    let xs = h ++ code_spelling pairs in
    let frame = octets xs in
    let bits_are = AreBits-append h (code_spelling pairs) (AreBits-header P) (AreBits-code pairs) in
    let header = HasHeader-spelling f.channels P shape.least params in (
      s,
      inr (record {
        params = P;
        place = length h;
        inside = omega (arith, length-bits frame, length-octets xs, length-append h (code_spelling pairs));
        header = subst (HasHeader f.channels P) (sym (front_of_octets h (code_spelling pairs) bits_are)) header;
        first_bit = bits-octets xs (length h) bits_are ∙ first_is h pairs;
        reserved = false;
        code = code_of_spelling h pairs bits_are (AreLawful-symbols f P sound false params);
      }),
    )

-- the plain form means the sound too
pub plain_form_means : (f : Shape) (sound : List ℕ) → IsSound f sound → Means f (0 ∷ sound) sound
unfolding bits low_bits
plain_form_means f sound s = (
  s,
  inl (record {
    coded = refl;
    stuffing = refl;
    long = omega (arith, s.long);
    is_sound = sym (take_all (sound_bytes f) sound (omega (arith, s.long)));
  }),
)

-- ---- of frames that mean a sound the stored one does, and it is no longer than the first
shorter_is : (P : List ℕ → Type 0) (a b : List ℕ) → P a → P b → P (shorter a b)
shorter_is P a b h k = go (nat_lt (length b) (length a))
  where
    go : (t : Bool) → P (cond t b a)
    go true = k
    go false = h

pub shorter-length : (a b : List ℕ) → length (shorter a b) ≤ length a
shorter-length a b = go (nat_lt (length b) (length a)) refl
  where
    go : (t : Bool) → nat_lt (length b) (length a) ≡ t → length (cond t b a) ≤ length a
    go true e =
        let lt : length b < length a = ltb-true (length b) (length a) e in
        omega arith
    go false e = omega arith

fold_is : (P : List ℕ → Type 0) (a : List ℕ) (list : List (List ℕ)) → P a → AllByRecursion P list → P (fold shorter a list)
fold_is P a [] h k = h
fold_is P a (b ∷ list) h k = fold_is P (shorter a b) list (shorter_is P a b h k.0) k.1

pub fold-length : (a : List ℕ) (list : List (List ℕ)) → length (fold shorter a list) ≤ length a
fold-length a [] = omega arith
fold-length a (b ∷ list) = omega (arith, fold-length (shorter a b) list, shorter-length a b)

spellings_mean : (f : Shape) (sound : List ℕ) (list : List Params) → IsShape f → IsSound f sound → AllByRecursion (IsParams f.channels) list →
    AllByRecursion (λ frame. Means f frame sound) (map (λ P. spell f P sound) list)
spellings_mean f sound [] shape s h = tt
spellings_mean f sound (P ∷ list) shape s h = (spelling_law f P sound shape h.0 s, spellings_mean f sound list shape s h.1)

pub storing_law : StoringLaw
storing_law f list sound shape params s =
    let spelled = map (λ P. spell f P sound) list in
    let long = fold-length (0 ∷ sound) spelled in (
      fold_is (λ frame. Means f frame sound) (0 ∷ sound) spelled (plain_form_means f sound s) (spellings_mean f sound list shape s params),
      omega (arith, s.long),
    )
