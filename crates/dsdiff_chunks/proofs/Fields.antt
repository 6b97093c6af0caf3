-- The rules on a body of `PROP`, rule by rule, as its views show them.
use Rattle.std.proofs.Common.{◌≡◌, ℕ, ◌+◌, ◌-◌, ◌*◌, ◌≤◌, false, List, [], ◌∷◌, length, take, drop, Option, Some, None, sym, ap, ◌∙◌, arith}
use Rattle.std.proofs.Common.{add-zero, inl, inr}
use Rattle.std.specs.Prelude.{not, ◌||◌, ◌==◌}
use Rattle.std.proofs.lemmas.Bool.{cases_eq, cases_lt, eqb-true, lt-ltb, ltb-false, ne_eqb, not-false, or_parts}
use Rattle.std.proofs.lemmas.List.{length-drop, take_all, take-take}
use Rattle.byteorder.specs.Endian.{big_from, big_number}
use Rattle.byteorder.specs.Numbers.{big_from-take}
use Rattle.dsdiff_spec.specs.declared.faults.FileFault.{FileFault}
use Rattle.dsdiff_spec.specs.declared.faults.FileFault.TheVariants.{Rate, Channels, Compression}
use Rattle.dsdiff_spec.specs.Bytes.{bytes_at, number_at, ◌is◌, ◌below◌}
use Rattle.dsdiff_spec.specs.Chunks.{Head, the_first, body_place, body_of}
use Rattle.dsdiff_spec.specs.Faults.{◌when◌, ◌otherwise◌}
use Rattle.dsdiff_spec.specs.Origin.{outside}
use Rattle.dsdiff_spec.specs.Parts.{local, rate, channel_count, compression}
use Rattle.dsdiff_spec.specs.Rules.{is_rate, rate_fault, channels_fault, compression_fault}
use Rattle.chunk_view.proofs.Reading.{big_from-drop}
use Rattle.dsdiff_chunks.specs.Local.{is_bad_rate, is_bad_count, is_bad_compression}

-- rules in order
pub first_refuses : (a b : Option FileFault) (f : FileFault) → a ≡ Some f → (a otherwise b) ≡ Some f
first_refuses (Some x) b f e = e
first_refuses None b f e = absurd cc

pub later : (a b r : Option FileFault) → a ≡ None → b ≡ r → (a otherwise b) ≡ r
later (Some x) b r e p = absurd cc
later None b r e p = p

pub both_here : (a b c : Option FileFault) (f : FileFault) → (a otherwise b) ≡ Some f → (a otherwise b otherwise c) ≡ Some f
both_here (Some x) b c f e = e
both_here None b c f e = first_refuses b c f e

-- ---- what is read of a chunk's body, and where it stands in the body of `PROP`
-- the number behind so many bytes, as a slice of them shows it
pub number_behind : (w : List ℕ) (k n : ℕ) → big_number n (take (length w - k) (drop k w)) ≡ number_at w k n
number_behind w k n =
    ap (big_number n) (take_all (length w - k) (drop k w) (omega (arith, length-drop k w)))
    ∙ big_from-drop k 0 n w
    ∙ ap (λ i. big_from i n w) (add-zero k)

-- the number in a part that begins behind so many bytes
pub number_within : (w : List ℕ) (k m n : ℕ) → n ≤ m → big_number n (take m (drop k w)) ≡ number_at w k n
number_within w k m n le = big_from-take 0 n m (drop k w) (omega arith) ∙ big_from-drop k 0 n w ∙ ap (λ i. big_from i n w) (add-zero k)

pub number_there : (body v : List ℕ) (h : Head) (n : ℕ) → body_of body h ≡ v → n ≤ h.size → number_at body (body_place h) n ≡ big_number n v
number_there body v h n e le =
    sym (ap (λ w. big_from 0 n w) (sym e) ∙ big_from-take 0 n h.size (drop (body_place h) body) (omega arith) ∙ big_from-drop (body_place h) 0 n body
    ∙ ap (λ i. big_from i n body) (add-zero (body_place h)))

pub bytes_there : (body v : List ℕ) (h : Head) (n : ℕ) → body_of body h ≡ v → n ≤ h.size → bytes_at body (body_place h) n ≡ take n v
bytes_there body v h n e le = sym (ap (take n) (sym e) ∙ take-take n h.size (drop (body_place h) body) le)

-- ---- the rules as functions of the chunks of one name
abbrev rate_rule : List Head → List ℕ → Option FileFault
rate_rule hs body =
    Rate when not (length hs == 1) || not ((the_first hs).size == 4) || not (is_rate (number_at body (body_place (the_first hs)) 4))

abbrev count_rule : List Head → List ℕ → Option FileFault
count_rule hs body =
    Channels when
    not (length hs == 1) || (the_first hs).size below 2
    || outside 1 6 (number_at body (body_place (the_first hs)) 2) || (the_first hs).size below 2 + 4 * number_at body (body_place (the_first hs)) 2

abbrev compression_rule : List Head → List ℕ → Option FileFault
compression_rule hs body =
    Compression when
    not (length hs == 1) || (the_first hs).size below 4
    || not (bytes_at body (body_place (the_first hs)) 4 is "DSD " || bytes_at body (body_place (the_first hs)) 4 is "DST ")

same_rate : (n a b : ℕ) → (n ≡ 4 → a ≡ b) → (not (n == 4) || not (is_rate a)) ≡ (not (n == 4) || not (is_rate b))
same_rate n a b e = elim (cases_eq n 4) [
  | inl four ↦ ap (λ x. not (n == 4) || not (is_rate x)) (e four)
  | inr other ↦ ap (λ x. not x || not (is_rate a)) (ne_eqb n 4 other) ∙ sym (ap (λ x. not x || not (is_rate b)) (ne_eqb n 4 other))
]

same_count : (n a b : ℕ) → (2 ≤ n → a ≡ b) →
    (n below 2 || outside 1 6 a || n below 2 + 4 * a) ≡ (n below 2 || outside 1 6 b || n below 2 + 4 * b)
same_count n a b e = elim (cases_lt n 2) [
  | inr long ↦ ap (λ x. n below 2 || outside 1 6 x || n below 2 + 4 * x) (e long)
  | inl short ↦ ap (λ x. x || outside 1 6 a || n below 2 + 4 * a) (lt-ltb n 2 short)
      ∙ sym (ap (λ x. x || outside 1 6 b || n below 2 + 4 * b) (lt-ltb n 2 short))
]

same_compression : (n : ℕ) (a b : List ℕ) → (4 ≤ n → a ≡ b) →
    (n below 4 || not (a is "DSD " || a is "DST ")) ≡ (n below 4 || not (b is "DSD " || b is "DST "))
same_compression n a b e = elim (cases_lt n 4) [
  | inr long ↦ ap (λ x. n below 4 || not (x is "DSD " || x is "DST ")) (e long)
  | inl short ↦ ap (λ x. x || not (a is "DSD " || a is "DST ")) (lt-ltb n 4 short) ∙ sym (ap (λ x. x || not (b is "DSD " || b is "DST ")) (lt-ltb n 4 short))
]

-- with one chunk of the name
pub rate_of_one : (body v : List ℕ) (h : Head) → local "FS  " body ≡ h ∷ [] → body_of body h ≡ v → length v ≡ h.size →
    rate_fault body ≡ (Rate when is_bad_rate v)
rate_of_one body v h one e long =
    ap (λ hs. rate_rule hs body) one
    ∙ ap (λ b. Rate when b) (same_rate h.size (number_at body (body_place h) 4) (big_number 4 v) (λ four. number_there body v h 4 e (omega (arith, four))))
    ∙ ap (λ n. Rate when not (n == 4) || not (is_rate (big_number 4 v))) (sym long)

pub count_of_one : (body v : List ℕ) (h : Head) → local "CHNL" body ≡ h ∷ [] → body_of body h ≡ v → length v ≡ h.size →
    channels_fault body ≡ (Channels when is_bad_count v)
count_of_one body v h one e long =
    ap (λ hs. count_rule hs body) one
    ∙ ap (λ b. Channels when b) (same_count h.size (number_at body (body_place h) 2) (big_number 2 v) (λ two. number_there body v h 2 e two))
    ∙ ap (λ n. Channels when n below 2 || outside 1 6 (big_number 2 v) || n below 2 + 4 * big_number 2 v) (sym long)

pub compression_of_one : (body v : List ℕ) (h : Head) → local "CMPR" body ≡ h ∷ [] → body_of body h ≡ v → length v ≡ h.size →
    compression_fault body ≡ (Compression when is_bad_compression v)
compression_of_one body v h one e long =
    ap (λ hs. compression_rule hs body) one
    ∙ ap (λ b. Compression when b) (same_compression h.size (bytes_at body (body_place h) 4) (take 4 v) (λ four. bytes_there body v h 4 e four))
    ∙ ap (λ n. Compression when n below 4 || not (take 4 v is "DSD " || take 4 v is "DST ")) (sym long)

-- what they say
pub rate_reads : (body v : List ℕ) (h : Head) → local "FS  " body ≡ h ∷ [] → body_of body h ≡ v → length v ≡ h.size →
    is_bad_rate v ≡ false → rate body ≡ big_number 4 v
rate_reads body v h one e long good =
    let four : length v ≡ 4 = eqb-true (length v) 4 (not-false (length v == 4) (or_parts _ _ good).0) in
    ap (λ hs. number_at body (body_place (the_first hs)) 4) one ∙ number_there body v h 4 e (omega arith)

pub count_reads : (body v : List ℕ) (h : Head) → local "CHNL" body ≡ h ∷ [] → body_of body h ≡ v → length v ≡ h.size →
    is_bad_count v ≡ false → channel_count body ≡ big_number 2 v
count_reads body v h one e long good =
    let two : 2 ≤ length v = ltb-false (length v) 2 (or_parts _ _ (or_parts _ _ good).0).0 in
    ap (λ hs. number_at body (body_place (the_first hs)) 2) one ∙ number_there body v h 2 e (omega arith)

pub compression_reads : (body v : List ℕ) (h : Head) → local "CMPR" body ≡ h ∷ [] → body_of body h ≡ v → length v ≡ h.size →
    is_bad_compression v ≡ false → compression body ≡ take 4 v
compression_reads body v h one e long good =
    let four : 4 ≤ length v = ltb-false (length v) 4 (or_parts _ _ good).0 in
    ap (λ hs. bytes_at body (body_place (the_first hs)) 4) one ∙ bytes_there body v h 4 e (omega arith)

-- with none or several
pub rate_of_others : (body : List ℕ) → (length (local "FS  " body) ≡ 1 → ⊥) → rate_fault body ≡ Some Rate
rate_of_others body other =
    let hs = local "FS  " body in
    ap (λ b. Rate when not b || not ((the_first hs).size == 4) || not (is_rate (number_at body (body_place (the_first hs)) 4))) (ne_eqb (length hs) 1 other)

pub count_of_others : (body : List ℕ) → (length (local "CHNL" body) ≡ 1 → ⊥) → channels_fault body ≡ Some Channels
count_of_others body other =
    let hs = local "CHNL" body in
    ap (λ b. Channels when not b || (the_first hs).size below 2
    || outside 1 6 (number_at body (body_place (the_first hs)) 2) || (the_first hs).size below 2 + 4 * number_at body (body_place (the_first hs)) 2)
    (ne_eqb (length hs) 1 other)

pub compression_of_others : (body : List ℕ) → (length (local "CMPR" body) ≡ 1 → ⊥) → compression_fault body ≡ Some Compression
compression_of_others body other =
    let hs = local "CMPR" body in
    ap (λ b. Compression when not b || (the_first hs).size below 4
    || not (bytes_at body (body_place (the_first hs)) 4 is "DSD " || bytes_at body (body_place (the_first hs)) 4 is "DST ")) (ne_eqb (length hs) 1 other)
