-- A whole header, from its parts.
use Rattle.std.proofs.Common.{◌≡◌, ℕ, zero, suc, ◌*◌, ◌≤◌, Bool, List, [], ◌∷◌, ◌++◌, length, map, take, drop, get_or, refl, ap, ap₂, sym, subst, ◌∙◌}
use Rattle.std.proofs.Common.{arith, ℤ, pos, nat_abs, Ok, length-append, take_at}
use Rattle.dst_spec.specs.Bits.{bits}
use Rattle.dst_spec.specs.Table.{filter_kind, prob_kind}
use Rattle.dst_spec.specs.Map.{element_count}
use Rattle.dst_spec.specs.Header.{Params, IsParams, bit_of, HasHeader}
use Rattle.dst_spec.specs.Fields.{Fields, gives, ◌>>=◌, number, read}
use Rattle.dst_spec.specs.Offends.{times, both_segments, both_maps, table_fields, header_fields}
use Rattle.dst_spec.specs.declared.faults.FrameFault.{FrameFault}
use Rattle.dst_spec.proofs.Numbers.{length-bits}
use Rattle.dst_spec.proofs.Found.{Takes-header, made, prob_part}
use Rattle.dst_num.specs.Map.{params_of}
use Rattle.bit_io.specs.Reading.{Reading, left, HasRead, HasPassed, IsAtFault}
use Rattle.frame_header.proofs.Stepping.{onto, failed_within, are_bits_left}
use Rattle.dst_spec.proofs.Headers.{bits_again, probs_again}

-- ---- what follows each part
abbrev probs_for : List ℕ → Fields (List (List ℤ))
probs_for m = times (element_count m) (table_fields prob_kind)

abbrev filters_for : List ℕ → Fields (List (List ℤ))
filters_for m = times (element_count m) (table_fields filter_kind)

abbrev last_part : List ℕ × List ℕ → List ℕ → List (List ℤ) → List (List ℤ) → Fields Params
last_part maps half_prob filters probs = gives (made maps half_prob filters probs)

abbrev filter_part : List ℕ × List ℕ → List ℕ → Fields Params
filter_part maps half_prob = filters_for maps.0 >>= prob_part maps half_prob

abbrev half_part : ℕ → List ℕ × List ℕ → Fields Params
half_part channels maps = times channels (number 1) >>= filter_part maps

abbrev map_part : ℕ → List ℕ → Fields Params
map_part channels segments = both_maps channels >>= half_part channels

-- ---- one part after the other
pub segments_fail : (channels : ℕ) (old : Reading) (fault : FrameFault) → IsAtFault (both_segments channels) old fault →
    IsAtFault (header_fields channels) old fault
unfolding header_fields
segments_fail channels old fault h = failed_within (both_segments channels) (map_part channels) old fault h

to_maps : (channels : ℕ) (a b : Reading) → HasPassed (both_segments channels) a b →
    read (header_fields channels) (left a) a.place ≡ read (both_maps channels >>= half_part channels) (left b) b.place
unfolding header_fields
to_maps channels a b h = onto (both_segments channels) (map_part channels) a b h.0 h.1

pub maps_fail : (channels : ℕ) (a b : Reading) (fault : FrameFault) → HasPassed (both_segments channels) a b → IsAtFault (both_maps channels) b fault →
    IsAtFault (header_fields channels) a fault
maps_fail channels a b fault h k = to_maps channels a b h ∙ failed_within (both_maps channels) (half_part channels) b fault k

to_half : (channels : ℕ) (a b c : Reading) (maps : List ℕ × List ℕ) → HasPassed (both_segments channels) a b → HasRead (both_maps channels) b maps c →
    read (header_fields channels) (left a) a.place ≡ read (half_part channels maps) (left c) c.place
to_half channels a b c maps h k = to_maps channels a b h ∙ onto (both_maps channels) (half_part channels) b c maps k

pub half_fails : (channels : ℕ) (a b c : Reading) (maps : List ℕ × List ℕ) (fault : FrameFault) → HasPassed (both_segments channels) a b →
    HasRead (both_maps channels) b maps c →
    IsAtFault (times channels (number 1)) c fault → IsAtFault (header_fields channels) a fault
half_fails channels a b c maps fault h k i = to_half channels a b c maps h k ∙ failed_within (times channels (number 1)) (filter_part maps) c fault i

to_filters : (channels : ℕ) (a b c d : Reading) (maps : List ℕ × List ℕ) (half_prob : List ℕ) → HasPassed (both_segments channels) a b →
    HasRead (both_maps channels) b maps c → HasRead (times channels (number 1)) c half_prob d →
    read (header_fields channels) (left a) a.place ≡ read (filter_part maps half_prob) (left d) d.place
to_filters channels a b c d maps half_prob h k i = to_half channels a b c maps h k ∙ onto (times channels (number 1)) (filter_part maps) c d half_prob i

pub filters_fail : (channels : ℕ) (a b c d : Reading) (maps : List ℕ × List ℕ) (half_prob : List ℕ) (fault : FrameFault) →
    HasPassed (both_segments channels) a b → HasRead (both_maps channels) b maps c →
    HasRead (times channels (number 1)) c half_prob d → IsAtFault (filters_for maps.0) d fault → IsAtFault (header_fields channels) a fault
filters_fail channels a b c d maps half_prob fault h k i j = to_filters channels a b c d maps half_prob h k i
    ∙ failed_within (filters_for maps.0) (prob_part maps half_prob) d fault j

to_probs : (channels : ℕ) (a b c d e : Reading) (maps : List ℕ × List ℕ) (half_prob : List ℕ) (filters : List (List ℤ)) →
    HasPassed (both_segments channels) a b → HasRead (both_maps channels) b maps c →
    HasRead (times channels (number 1)) c half_prob d → HasRead (filters_for maps.0) d filters e →
    read (header_fields channels) (left a) a.place ≡ read (prob_part maps half_prob filters) (left e) e.place
to_probs channels a b c d e maps half_prob filters h k i j = to_filters channels a b c d maps half_prob h k i
    ∙ onto (filters_for maps.0) (prob_part maps half_prob) d e filters j

pub probs_fail : (channels : ℕ) (a b c d e : Reading) (maps : List ℕ × List ℕ) (half_prob : List ℕ) (filters : List (List ℤ)) (fault : FrameFault) →
    HasPassed (both_segments channels) a b → HasRead (both_maps channels) b maps c →
    HasRead (times channels (number 1)) c half_prob d → HasRead (filters_for maps.0) d filters e → IsAtFault (probs_for maps.1) e fault →
    IsAtFault (header_fields channels) a fault
probs_fail channels a b c d e maps half_prob filters fault h k i j l =
    to_probs channels a b c d e maps half_prob filters h k i j ∙ failed_within (probs_for maps.1) (last_part maps half_prob filters) e fault l

-- ---- values as they run
filters_again : (filters : List (List ℤ)) → map (λ t. t) filters ≡ filters
filters_again [] = refl
filters_again (t ∷ filters) = ap (λ ts. t ∷ ts) (filters_again filters)

pub header_gave : (channels : ℕ) (a b c d e f : Reading) (filter_map prob_map : List ℕ) (half_prob : List Bool) (filters : List (List ℤ))
    (probs : List (List ℕ)) →
    HasPassed (both_segments channels) a b → HasRead (both_maps channels) b (filter_map, prob_map) c →
    HasRead (times channels (number 1)) c (map bit_of half_prob) d →
    HasRead (filters_for filter_map) d (map (λ t. t) filters) e → HasRead (probs_for prob_map) e (map (λ t. map pos t) probs) f →
    HasRead (header_fields channels) a (params_of filter_map prob_map half_prob filters probs) f
unfolding read
header_gave channels a b c d e f filter_map prob_map half_prob filters probs h k i j l =
    let maps : List ℕ × List ℕ = (filter_map, prob_map) in
    let hs = map bit_of half_prob in
    let fs = map (λ (t : List ℤ). t) filters in
    let ps = map (λ (t : List ℕ). map pos t) probs in
    let same : made maps hs fs ps ≡ params_of filter_map prob_map half_prob filters probs =
    ap (λ x. record { filter_map = filter_map; prob_map = prob_map; half_prob = x; filters = fs; probs = map (λ entries. map nat_abs entries) ps })
    (bits_again half_prob)
    ∙ ap₂ (λ x y. record { filter_map = filter_map; prob_map = prob_map; half_prob = half_prob; filters = x; probs = y }) (filters_again filters)
    (probs_again probs) in
    to_probs channels a b c d e maps hs fs h k i j ∙ onto (probs_for prob_map) (last_part maps hs fs) e f ps l ∙ ap (λ P. Ok (P, left f, f.place)) same

-- ---- what was read has a header's bits
from_one : (xs : List ℕ) → get_or xs 0 0 ≡ 1 → xs ≡ 1 ∷ drop 1 xs
from_one [] h = absurd (omega (arith, h))
from_one (x ∷ xs) h = ap (λ y. y ∷ xs) h

pub record IsFound (channels : ℕ) (old new : Reading) (P : Params) : Type 0 where
  pub header : HasHeader channels P (take new.place (bits old.bytes))
  pub inside : new.place ≤ 8 * length old.bytes

pub header_found : (channels : ℕ) (old new : Reading) (P : Params) → 1 ≤ channels → old.place ≡ 1 → get_or (bits old.bytes) 0 0 ≡ 1 →
    HasRead (header_fields channels) old P new → IsFound channels old new P
header_found zero old new P some place one h = absurd (omega arith)
header_found (suc n) old new P some place one h =
    let t = Takes-header n (left old) old.place (P, left new, new.place) (are_bits_left old) h in
    let w = t.bits in
    let xs = bits old.bytes in
    let behind : drop 1 xs ≡ left old = ap (λ i. drop i xs) (sym place) in
    let whole : xs ≡ (1 ∷ w) ++ left new = from_one xs one ∙ ap (λ ys. 1 ∷ ys) (behind ∙ t.whole) in
    let long : length (1 ∷ w) ≡ new.place = omega (arith, t.place_is, place) in
    let front : take new.place xs ≡ 1 ∷ w = ap (take new.place) whole ∙ take_at (1 ∷ w) (left new) new.place long in
    record {
      header = subst (HasHeader (suc n) P) (sym front) t.related;
      inside = omega (arith, long, ap length whole, length-append (1 ∷ w) (left new), length-bits old.bytes);
    }

pub params_found : (channels : ℕ) (old new : Reading) (P : Params) → 1 ≤ channels → HasRead (header_fields channels) old P new → IsParams channels P
params_found zero old new P some h = absurd (omega arith)
params_found (suc n) old new P some h = let t = Takes-header n (left old) old.place (P, left new, new.place) (are_bits_left old) h in let k : HasHeader
    (suc n) P (1 ∷ t.bits) = t.related in k.params
