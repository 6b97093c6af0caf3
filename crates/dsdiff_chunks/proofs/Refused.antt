-- Which parts of a body of `KEPT` are refused.
use Rattle.std.proofs.Common.{◌≡◌, ◌⊎◌, ℕ, ◌+◌, ◌-◌, ◌*◌, ◌/◌, ◌%◌, ◌<◌, ◌≤◌, min, Bool, true, false, List, [], length, take, drop, get_or, refl, sym, ap, ◌∙◌}
use Rattle.std.proofs.Common.{arith, MatchBool, inl, inr}
use Rattle.std.specs.Prelude.{not, ◌||◌, ◌&&◌, ◌==◌, if◌then◌else◌, nat_eq}
use Rattle.std.proofs.lemmas.Bool.{and_from, and_left, and_right, cases_lt, eq-eqb, eqb-true, le-ltb, lt-ltb, ltb-false, ne_eqb, not-false}
use Rattle.std.proofs.lemmas.Bool.{not-true, or_from, or_left}
use Rattle.std.proofs.lemmas.Bool.{or_parts, or_right}
use Rattle.std.proofs.lemmas.List.{length-drop, take_all}
use Rattle.std.proofs.lemmas.Nat.{div-add-mod', div-mul-add}
use Rattle.dsdiff_spec.specs.Bytes.{between, bytes_at, number_at, ◌is◌, ◌below◌, ◌above◌}
use Rattle.dsdiff_spec.specs.Form.{Origin, frames_for}
use Rattle.dsdiff_spec.specs.Origin.{origin_version, kept_length, origin_of, bad_version_2, is_bad_origin, is_one_chunk, outside}
use Rattle.dsdiff_chunks.specs.Parts.{is_bad_cmpr, is_bad_sound, is_bad_version}

pub answered : (r t bad : Bool) → r ≡ t → bad ≡ not t → MatchBool r (bad ≡ false) (bad ≡ true)
answered true true bad e p = p
answered false false bad e p = p
answered true false bad e p = absurd cc
answered false true bad e p = absurd cc

-- ---- `CMPR`
pub small_cmpr : (w : List ℕ) → number_at w 4 8 < 4 → is_bad_cmpr w ≡ true
small_cmpr w lt = or_left _ _ (or_right (not (is_one_chunk "CMPR" w)) (number_at w 4 8 below 4) (lt-ltb (number_at w 4 8) 4 lt))

pub uneven_cmpr : (w : List ℕ) → (length w ≡ 12 + number_at w 4 8 + number_at w 4 8 % 2 → ⊥) → is_bad_cmpr w ≡ true
uneven_cmpr w ne =
    or_left _ _ (or_left (not (is_one_chunk "CMPR" w)) (number_at w 4 8 below 4)
    (ap not (and_right (not (length w below 12) && bytes_at w 0 4 is "CMPR") (length w == 12 + number_at w 4 8 + number_at w 4 8 % 2) (ne_eqb _ _ ne))))

pub short_cmpr : (w : List ℕ) → length w < 16 → is_bad_cmpr w ≡ true
short_cmpr w lt = elim (cases_lt (number_at w 4 8) 4) [
  | inl small ↦ small_cmpr w small
  | inr large ↦ uneven_cmpr w (λ e. absurd (omega (arith, lt, large, e)))
]

pub other_chunk : (w : List ℕ) → not (bytes_at w 0 4 is "CMPR") ≡ true → is_bad_cmpr w ≡ true
other_chunk w other =
    or_left _ _ (or_left (not (is_one_chunk "CMPR" w)) (number_at w 4 8 below 4)
    (ap not (and_left (not (length w below 12) && bytes_at w 0 4 is "CMPR") (length w == 12 + number_at w 4 8 + number_at w 4 8 % 2)
    (and_right (not (length w below 12)) (bytes_at w 0 4 is "CMPR") (not-true _ other)))))

pub whole_cmpr : (w : List ℕ) → 16 ≤ length w → not (bytes_at w 0 4 is "CMPR") ≡ false → 4 ≤ number_at w 4 8 →
    length w ≡ 12 + number_at w 4 8 + number_at w 4 8 % 2 → is_bad_cmpr w ≡ not (bytes_at w 12 4 is "DSD ")
whole_cmpr w long id large e =
    let one : is_one_chunk "CMPR" w ≡ true =
    and_from (not (length w below 12) && bytes_at w 0 4 is "CMPR") (length w == 12 + number_at w 4 8 + number_at w 4 8 % 2)
    (and_from (not (length w below 12)) (bytes_at w 0 4 is "CMPR") (ap not (le-ltb (length w) 12 (omega arith))) (not-false (bytes_at w 0 4 is "CMPR") id))
    (eq-eqb _ _ e) in
    ap (λ b. not b || number_at w 4 8 below 4 || not (bytes_at w 12 4 is "DSD ")) one
    ∙ ap (λ b. b || not (bytes_at w 12 4 is "DSD ")) (le-ltb (number_at w 4 8) 4 large)

-- ---- fields of version 2
abbrev at_version : ℕ → List ℕ → Origin
at_version v body =
    if v == 1 then record {
      sound = number_at body 1 8;
      pad = 0;
      cmpr = drop 9 body;
      kept = [];
    }
    else record {
      sound = number_at body 1 8;
      pad = get_or body 9 0;
      cmpr = between body 14 (length body - kept_length body);
      kept = drop (length body - kept_length body) body;
    }

abbrev pub kept_by : List ℕ → ℕ → List ℕ → List ℕ → Origin
kept_by body sound cmpr behind = record { sound = sound; pad = get_or body 9 0; cmpr = cmpr; kept = behind }

abbrev second : List ℕ → Origin
second body = record {
  sound = number_at body 1 8;
  pad = get_or body 9 0;
  cmpr = between body 14 (length body - kept_length body);
  kept = drop (length body - kept_length body) body;
}

second_is : (body : List ℕ) → origin_version body ≡ 2 → origin_of body ≡ second body
second_is body e = ap (λ v. at_version v body) e

abbrev bad_second : ℕ → ℕ → ℕ → ℕ → Bool
bad_second len kept sound pad =
    outside 30 131086 len || kept above 65536 || len above 65550 + kept || (sound % 2 == 0 && not (pad == 0))

no_needless_pad : (sound pad : ℕ) → ((sound % 2 ≡ 0) × (pad ≡ 0)) ⊎ (sound % 2 ≡ 0 → ⊥) → (sound % 2 == 0 && not (pad == 0)) ≡ false
no_needless_pad sound pad (inl both) = and_right (sound % 2 == 0) (not (pad == 0)) (ap not (eq-eqb pad 0 both.1))
no_needless_pad sound pad (inr odd) = and_left (sound % 2 == 0) (not (pad == 0)) (ne_eqb (sound % 2) 0 odd)

bad_second_is : (body : List ℕ) → origin_version body ≡ 2 →
    bad_version_2 body ≡ bad_second (length body) (kept_length body) (number_at body 1 8) (get_or body 9 0)
bad_second_is body e =
    ap (λ k. outside 30 131086 (length body) || kept_length body above 65536 || length body above 65550 + kept_length body ||
    (k.sound % 2 == 0 && not (k.pad == 0))) (second_is body e)

pub bad_length : (body : List ℕ) → origin_version body ≡ 2 → (length body < 30) ⊎ ((30 ≤ length body) × (131086 < length body)) → bad_version_2 body ≡ true
bad_length body e bad = bad_second_is body e ∙ or_left _ _ (or_left _ _ (or_left _ _ (at (length body) bad)))
  where
    at : (len : ℕ) → (len < 30) ⊎ ((30 ≤ len) × (131086 < len)) → outside 30 131086 len ≡ true
    at len (inl short) = or_left (len below 30) (len above 131086) (lt-ltb len 30 short)
    at len (inr long) = or_right (len below 30) (len above 131086) (lt-ltb 131086 len long.1)

pub many_behind : (body : List ℕ) → origin_version body ≡ 2 → 65536 < kept_length body → bad_version_2 body ≡ true
many_behind body e lt =
    bad_second_is body e
    ∙ or_left _ _ (or_left _ _ (or_right (outside 30 131086 (length body)) (kept_length body above 65536) (lt-ltb 65536 (kept_length body) lt)))

pub long_cmpr : (body : List ℕ) → origin_version body ≡ 2 → 65550 + kept_length body < length body → bad_version_2 body ≡ true
long_cmpr body e lt =
    bad_second_is body e
    ∙ or_left _ _ (or_right (outside 30 131086 (length body) || kept_length body above 65536) (length body above 65550 + kept_length body)
    (lt-ltb (65550 + kept_length body) (length body) lt))

pub needless_pad : (body : List ℕ) → origin_version body ≡ 2 → number_at body 1 8 % 2 ≡ 0 → (get_or body 9 0 ≡ 0 → ⊥) → bad_version_2 body ≡ true
needless_pad body e even ne =
    bad_second_is body e
    ∙ or_right (outside 30 131086 (length body) || kept_length body above 65536 || length body above 65550 + kept_length body)
    (number_at body 1 8 % 2 == 0 && not (get_or body 9 0 == 0))
    (and_from (number_at body 1 8 % 2 == 0) (not (get_or body 9 0 == 0)) (eq-eqb (number_at body 1 8 % 2) 0 even) (ap not (ne_eqb (get_or body 9 0) 0 ne)))

pub lawful_second : (body : List ℕ) → origin_version body ≡ 2 → 30 ≤ length body → length body ≤ 131086 → kept_length body ≤ 65536 →
    length body ≤ 65550 + kept_length body → ((number_at body 1 8 % 2 ≡ 0) × (get_or body 9 0 ≡ 0)) ⊎ (number_at body 1 8 % 2 ≡ 0 → ⊥) →
    bad_version_2 body ≡ false
lawful_second body e least most behind cmpr padded =
    bad_second_is body e
    ∙ or_from _ _ (or_from _ _ (or_from _ _ (or_from _ _ (le-ltb (length body) 30 least) (le-ltb 131086 (length body) most))
    (le-ltb 65536 (kept_length body) behind)) (le-ltb (65550 + kept_length body) (length body) cmpr))
    (no_needless_pad (number_at body 1 8) (get_or body 9 0) padded)

-- `CMPR` of a body that is too short for one is empty
pub cmpr_part : (body : List ℕ) (end : ℕ) → take (end - min end 14) (drop (min end 14) body) ≡ between body 14 end
cmpr_part body end = elim (cases_lt end 14) [
  | inl short ↦
      let a : end - min end 14 ≡ 0 = omega arith in
      let b : end - 14 ≡ 0 = omega arith in
      ap (λ k. take k (drop (min end 14) body)) a ∙ sym (ap (λ k. take k (drop 14 body)) b)
  | inr long ↦ let a : min end 14 ≡ 14 = omega arith in ap (λ k. take (end - k) (drop k body)) a
]

pub pad_of_even : (sound pad : ℕ) → ((sound % 2 ≡ 0) × (pad ≡ 0)) ⊎ (sound % 2 ≡ 0 → ⊥) → sound % 2 ≡ 0 → pad ≡ 0
pad_of_even sound pad (inl both) even = both.1
pad_of_even sound pad (inr odd) even = absurd (odd even)

same_second : (body : List ℕ) (sound s : ℕ) (cmpr w behind t : List ℕ) → sound ≡ s → cmpr ≡ w → behind ≡ t →
    kept_by body sound cmpr behind ≡ kept_by body s w t
same_second body sound s cmpr w behind t p q r = rw (p, q, r) refl

pub parts_are : (body : List ℕ) (sound kept end low : ℕ) → origin_version body ≡ 2 → sound ≡ number_at body 1 8 → kept ≡ kept_length body →
    end ≡ length body - kept → low ≡ min end 14 →
    kept_by body sound (take (end - low) (drop low body)) (take (length body - end) (drop end body)) ≡ origin_of body
parts_are body sound kept end low v s k e m =
    let at : end ≡ length body - kept_length body = e ∙ ap (λ n. length body - n) k in
    same_second body sound (number_at body 1 8) (take (end - low) (drop low body)) (between body 14 (length body - kept_length body))
    (take (length body - end) (drop end body)) (drop (length body - kept_length body) body)
    s
    (ap (λ n. take (end - n) (drop n body)) m ∙ cmpr_part body end ∙ ap (between body 14) at)
    (take_all (length body - end) (drop end body) (omega (arith, length-drop end body)) ∙ ap (λ n. drop n body) at)
    ∙ sym (second_is body v)

-- ---- the sound
ceil_is : (x y : ℕ) → 0 < y → x / y + min 1 (x % y) ≡ (x + y - 1) / y
ceil_is x y pos = elim (cases_lt 0 (x % y)) [
  | inl more ↦
      let one : min 1 (x % y) ≡ 1 = omega arith in
      let whole : x + y - 1 ≡ (x / y + 1) * y + (x % y - 1) = omega (arith, div-add-mod' x y) in
      let less : x % y - 1 < y = omega arith in
      ap (λ n. x / y + n) one ∙ sym (ap (λ n. n / y) whole ∙ div-mul-add (x / y + 1) y (x % y - 1) less)
  | inr none ↦
      let zero : x / y + min 1 (x % y) ≡ x / y = omega arith in
      let whole : x + y - 1 ≡ x / y * y + (y - 1) = omega (arith, div-add-mod' x y) in
      let less : y - 1 < y = omega arith in
      zero ∙ sym (ap (λ n. n / y) whole ∙ div-mul-add (x / y) y (y - 1) less)
]

pub sound_said : (channels bytes count sound f r t : ℕ) → sound % channels ≡ 0 → f ≡ bytes → 0 < f → r ≡ sound / f + min 1 (sound % f) → t ≡ count →
    MatchBool (nat_eq r t) (is_bad_sound channels bytes count sound ≡ false) (is_bad_sound channels bytes count sound ≡ true)
sound_said channels bytes count sound f r t even same pos ceil from =
    let frames : r ≡ frames_for bytes sound = ceil ∙ ceil_is sound f pos ∙ ap (λ n. (sound + n - 1) / n) same in
    answered (nat_eq r t) (frames_for bytes sound == count) (is_bad_sound channels bytes count sound)
    (ap (λ n. nat_eq n t) frames ∙ ap (nat_eq (frames_for bytes sound)) from)
    (ap (λ b. not b || not (frames_for bytes sound == count)) (eq-eqb (sound % channels) 0 even))

-- ---- all parts
regroup : (v a b c d e : Bool) → (v || a || b || c || d || e) ≡ (v || (a || b || c) || (d || e))
regroup true a b c d e = refl
regroup false true b c d e = refl
regroup false false true c d e = refl
regroup false false false true d e = refl
regroup false false false false d e = refl

pub origin_said : (channels bytes count : ℕ) (body : List ℕ) (origin : Origin) → origin ≡ origin_of body →
    is_bad_origin channels bytes count body ≡ (is_bad_version body || is_bad_cmpr origin.cmpr || is_bad_sound channels bytes count origin.sound)
origin_said channels bytes count body origin e =
    regroup (is_bad_version body) (not (is_one_chunk "CMPR" (origin_of body).cmpr)) (number_at (origin_of body).cmpr 4 8 below 4)
    (not (bytes_at (origin_of body).cmpr 12 4 is "DSD "))
    (not ((origin_of body).sound % channels == 0)) (not (frames_for bytes (origin_of body).sound == count))
    ∙ ap (λ k. is_bad_version body || is_bad_cmpr k.cmpr || is_bad_sound channels bytes count k.sound) (sym e)

pub first_refused : (channels bytes count : ℕ) (body : List ℕ) → is_bad_version body ≡ true → is_bad_origin channels bytes count body ≡ true
first_refused channels bytes count body e =
    origin_said channels bytes count body (origin_of body) refl
    ∙ ap (λ b. b || is_bad_cmpr (origin_of body).cmpr || is_bad_sound channels bytes count (origin_of body).sound) e

pub one_refused : (v a b : Bool) → (a ≡ true) ⊎ (b ≡ true) → (v || a || b) ≡ true
one_refused v a b (inl e) = or_left (v || a) b (or_right v a e)
one_refused v a b (inr e) = or_right (v || a) b e

pub none_refused : (v a b : Bool) → v ≡ false → a ≡ false → b ≡ false → (v || a || b) ≡ false
none_refused v a b p q r = or_from (v || a) b (or_from v a p q) r

pub record IsPlainCmpr (w : List ℕ) : Type 0 where
  pub one : is_one_chunk "CMPR" w ≡ true
  pub long : 4 ≤ number_at w 4 8
  pub type : bytes_at w 12 4 is "DSD " ≡ true

pub is_plain_cmpr : (w : List ℕ) → is_bad_cmpr w ≡ false → IsPlainCmpr w
is_plain_cmpr w e =
    let last = or_parts _ _ e in
    let front = or_parts _ _ last.0 in
    record {
      one = not-false (is_one_chunk "CMPR" w) front.0;
      long = ltb-false (number_at w 4 8) 4 front.1;
      type = not-false (bytes_at w 12 4 is "DSD ") last.1;
    }

pub sound_whole : (channels bytes count sound : ℕ) → is_bad_sound channels bytes count sound ≡ false → sound % channels ≡ 0
sound_whole channels bytes count sound e = eqb-true (sound % channels) 0 (not-false (sound % channels == 0) (or_parts _ _ e).0)

pub sound_frames : (channels bytes count sound : ℕ) → is_bad_sound channels bytes count sound ≡ false → frames_for bytes sound ≡ count
sound_frames channels bytes count sound e = eqb-true (frames_for bytes sound) count (not-false (frames_for bytes sound == count) (or_parts _ _ e).1)
