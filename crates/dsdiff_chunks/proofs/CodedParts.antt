-- The rules of a coded form, by what was read of it.
use Rattle.std.proofs.Common.{◌≡◌, ℕ, ◌+◌, ◌<◌, ◌≤◌, List, length, take, drop, Bool, true, false, Some, refl, sym, ap, ◌∙◌, arith}
use Rattle.std.specs.Prelude.{◌==◌, ◌&&◌, ◌||◌, not, nat_lt}
use Rattle.std.proofs.lemmas.Bool.{and_right, le-ltb, lt-ltb, ne_eqb, not-false, not-true, or_right}
use Rattle.std.proofs.lemmas.List.{length-take, length-drop}
use Rattle.byteorder.specs.Endian.{big_number}
use Rattle.dsdiff_spec.specs.Bytes.{bytes_at, number_at, ◌is◌, ◌above◌}
use Rattle.dsdiff_spec.specs.Chunks.{Head, body_place, body_of}
use Rattle.dsdiff_spec.specs.Faults.{◌when◌, ◌otherwise◌}
use Rattle.dsdiff_spec.specs.Origin.{is_bad_origin, origin_version, bad_version_1, bad_version_2, outside}
use Rattle.dsdiff_spec.specs.declared.faults.FileFault.TheVariants.{FrameRate, TooManyFrames}
use Rattle.dsdiff_chunks.specs.Opening.{coded_sound_fault, frte_fault}
use Rattle.dsdiff_chunks.proofs.Fields.{number_within}
use Rattle.chunk_view.proofs.InParts.{bytes_in_part, number_in_part}

pub count_in_part : (xs w : List ℕ) (place : ℕ) → w ≡ bytes_at xs place 18 → number_at w 12 4 ≡ number_at xs (place + 12) 4
count_in_part xs w place at = ap (λ v. number_at v 12 4) at ∙ number_in_part xs place 18 12 4 (omega arith)

by_parts : (short : Bool) (id : List ℕ) (size rate count : ℕ) → short ≡ false →
    (FrameRate when short || not (id is "FRTE" && size == 6) || not (rate == 75) otherwise TooManyFrames when count above 1000000)
    ≡ (FrameRate when not (id is "FRTE" && size == 6) || not (rate == 75) otherwise TooManyFrames when count above 1000000)
by_parts short id size rate count e = rw e refl

by_numbers : (i j : List ℕ) (s t r q n m : ℕ) → i ≡ j → s ≡ t → r ≡ q → n ≡ m →
    (FrameRate when not (i is "FRTE" && s == 6) || not (r == 75) otherwise TooManyFrames when n above 1000000)
    ≡ (FrameRate when not (j is "FRTE" && t == 6) || not (q == 75) otherwise TooManyFrames when m above 1000000)
by_numbers i j s t r q n m a b c d = rw (a, b, c, d) refl

pub frte_in_part : (xs w : List ℕ) (sound : Head) → 18 ≤ sound.size → w ≡ bytes_at xs (body_place sound) 18 → coded_sound_fault xs sound ≡ frte_fault w
frte_in_part xs w sound le at =
    let p = body_place sound in
    let there : p + 0 ≡ p = omega arith in
    let id : bytes_at w 0 4 ≡ bytes_at xs p 4 =
    ap (λ v. bytes_at v 0 4) at ∙ bytes_in_part xs p 18 0 4 (omega arith) ∙ ap (λ i. bytes_at xs i 4) there in
    let size : number_at w 4 8 ≡ number_at xs (p + 4) 8 = ap (λ v. number_at v 4 8) at ∙ number_in_part xs p 18 4 8 (omega arith) in
    let rate : number_at w 16 2 ≡ number_at xs (p + 16) 2 = ap (λ v. number_at v 16 2) at ∙ number_in_part xs p 18 16 2 (omega arith) in
    by_parts (nat_lt sound.size 18) (bytes_at xs p 4) (number_at xs (p + 4) 8) (number_at xs (p + 16) 2) (number_at xs (p + 12) 4) (le-ltb sound.size 18 le)
    ∙ sym (by_numbers (bytes_at w 0 4) (bytes_at xs p 4) (number_at w 4 8) (number_at xs (p + 4) 8) (number_at w 16 2) (number_at xs (p + 16) 2)
    (number_at w 12 4) (number_at xs (p + 12) 4) id size rate (count_in_part xs w p at))

-- ---- the rules on the first eighteen bytes, one after the other, by the fields that are read of them
size_in : (w : List ℕ) → big_number 8 (take 14 (drop 4 w)) ≡ number_at w 4 8
size_in w = number_within w 4 14 8 (omega arith)

rate_in : (w : List ℕ) → big_number 2 (take 2 (drop 16 w)) ≡ number_at w 16 2
rate_in w = number_within w 16 2 2 (omega arith)

pub count_in : (w : List ℕ) → big_number 4 (take 6 (drop 12 w)) ≡ number_at w 12 4
count_in w = number_within w 12 6 4 (omega arith)

pub other_id : (w : List ℕ) → not (bytes_at w 0 4 is "FRTE") ≡ true → frte_fault w ≡ Some FrameRate
other_id w other = rw (not-true _ other) refl

pub other_size : (w : List ℕ) → (big_number 8 (take 14 (drop 4 w)) ≡ 6 → ⊥) → frte_fault w ≡ Some FrameRate
other_size w other =
    rw (and_right (bytes_at w 0 4 is "FRTE") (number_at w 4 8 == 6) (ne_eqb (number_at w 4 8) 6 (λ e. other (size_in w ∙ e)))) refl

pub other_rate : (w : List ℕ) → (big_number 2 (take 2 (drop 16 w)) ≡ 75 → ⊥) → frte_fault w ≡ Some FrameRate
other_rate w other =
    rw (or_right (not (bytes_at w 0 4 is "FRTE" && number_at w 4 8 == 6)) (not (number_at w 16 2 == 75))
    (ap not (ne_eqb (number_at w 16 2) 75 (λ e. other (rate_in w ∙ e))))) refl

pub count_left : (w : List ℕ) → not (bytes_at w 0 4 is "FRTE") ≡ false → big_number 8 (take 14 (drop 4 w)) ≡ 6 → big_number 2 (take 2 (drop 16 w)) ≡ 75 →
    frte_fault w ≡ (TooManyFrames when number_at w 12 4 above 1000000)
count_left w id size rate = rw (not-false _ id, sym (size_in w) ∙ size, sym (rate_in w) ∙ rate) refl

-- a body of more bytes than either version has
of_either : (a b x y : Bool) → x ≡ true → y ≡ true → (not (a || b) || (a && x) || (b && y)) ≡ true
of_either true b true y p q = refl
of_either true b false y p q = absurd cc
of_either false true x true p q = refl
of_either false true x false p q = absurd cc
of_either false false x y p q = refl

or_more : (t a b c d e : Bool) → t ≡ true → (t || a || b || c || d || e) ≡ true
or_more t a b c d e q = rw q refl

pub too_long_is_bad : (channels bytes count : ℕ) (body : List ℕ) → 131086 < length body → is_bad_origin channels bytes count body ≡ true
too_long_is_bad channels bytes count body lt =
    let long_1 : nat_lt 65545 (length body) ≡ true = lt-ltb 65545 (length body) (omega arith) in
    let long_2 : nat_lt 131086 (length body) ≡ true = lt-ltb 131086 (length body) lt in
    let outside_1 : bad_version_1 body ≡ true = or_right (nat_lt (length body) 25) (nat_lt 65545 (length body)) long_1 in
    let outside_2 : outside 30 131086 (length body) ≡ true = or_right (nat_lt (length body) 30) (nat_lt 131086 (length body)) long_2 in
    let bad_2 : bad_version_2 body ≡ true = rw outside_2 refl in
    let bad : (not (origin_version body == 1 || origin_version body == 2) || (origin_version body == 1 && bad_version_1 body) ||
    (origin_version body == 2 && bad_version_2 body)) ≡ true =
    of_either (origin_version body == 1) (origin_version body == 2) (bad_version_1 body) (bad_version_2 body) outside_1 bad_2 in
    rw bad refl

pub body_is_long : (xs : List ℕ) (h : Head) (n : ℕ) → n ≡ length xs → h.place + 12 + h.size ≤ n → length (body_of xs h) ≡ h.size
body_is_long xs h n long le = omega (arith, length-take h.size (drop (body_place h) xs), length-drop (body_place h) xs)
