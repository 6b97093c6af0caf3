-- What is read as a map is one.
use Rattle.std.proofs.Common.{◌≡◌, ℕ, zero, suc, ◌+◌, ◌-◌, ◌≤◌, ◌==◌, max, nat_lt, Bool, true, false, cond, if◌then◌else◌, List, [], ◌∷◌, length}
use Rattle.std.proofs.Common.{drop, replicate, refl, ap, sym, subst, ◌∙◌, arith, Ok}
use Rattle.std.proofs.lemmas.List.{length-replicate}
use Rattle.dst_spec.specs.Bits.{number_from}
use Rattle.dst_spec.specs.Map.{Numbers, IsMap, map_bits}
use Rattle.dst_spec.specs.Fields.{Fields, gives, ◌>>=◌, number, read}
use Rattle.dst_spec.specs.Offends.{number_rule, map_number_fields, map_fields}
use Rattle.dst_spec.specs.declared.faults.Reason.TheVariants.{Truncated}
use Rattle.dst_spec.proofs.Reading.{read-bind}
use Rattle.dst_spec.proofs.Taking.{was_met, onward_ok}
use Rattle.dst_num.specs.Map.{IsChannelMap}
use Rattle.bit_io.specs.Reading.{Reading, left, HasRead}
use Rattle.frame_header.specs.Steps.{element_fields}
use Rattle.dst_spec.proofs.MapNumbers.{within-count}

given_same : {A : Type 0} (x : A) (xs : List ℕ) (place : ℕ) (r : A × List ℕ × ℕ) → read (gives x) xs place ≡ Ok r → r.0 ≡ x
unfolding read
given_same x xs place r e = let same : (x, xs, place) ≡ r = cc in ap (λ q. q.0) (sym same)

numbers_read : (n count : ℕ) (xs : List ℕ) (place : ℕ) (r : List ℕ × List ℕ × ℕ) → read (map_number_fields n count) xs place ≡ Ok r →
    (length r.0 ≡ n) × Numbers count r.0
unfolding map_number_fields Numbers read
numbers_read zero count xs place r e =
    let none = given_same [] xs place r e in
    subst (λ es. (length es ≡ 0) × Numbers count es) (sym none) (refl, tt)
numbers_read (suc n) count xs place r e =
    let b = map_bits count in
    let v = number_from xs 0 b in
    let more : ℕ → Fields (List ℕ) = λ x. map_number_fields n (max count (x + 1)) in
    let ys = drop b xs in
    let k = was_met (nat_lt (length xs) b) (number_rule count v) (record { reason = Truncated; bit = place }) place
    (read (more v >>= (λ es. gives (v ∷ es))) ys (place + b)) r e in
    let p = onward_ok (λ es. gives (v ∷ es)) (read (more v) ys (place + b)) r (sym (read-bind (more v) (λ es. gives (v ∷ es)) ys (place + b)) ∙ k.2) in
    let rest = numbers_read n (max count (v + 1)) ys (place + b) p.0 p.1 in
    let whole = given_same (v ∷ p.0.0) p.0.1 p.0.2 r p.2 in
    subst (λ es. (length es ≡ suc n) × Numbers count es) (sym whole) (ap suc rest.0, (within-count count v k.1, rest.1))

zeros_follow : (n : ℕ) → Numbers 1 (replicate n 0)
unfolding Numbers
zeros_follow zero = tt
zeros_follow (suc n) = (omega arith, zeros_follow n)

zeros_are_map : (n : ℕ) → IsMap (suc n) (replicate (suc n) 0)
unfolding Numbers
zeros_are_map n = (length-replicate {A = ℕ} (suc n) 0, (omega arith, zeros_follow n))

elements_are_map : (n : ℕ) (es : List ℕ) → length es ≡ n → Numbers 1 es → IsMap (suc n) (0 ∷ es)
unfolding Numbers
elements_are_map n es long h = (ap suc long, (omega arith, h))

map_read : (n : ℕ) (xs : List ℕ) (place : ℕ) (r : List ℕ × List ℕ × ℕ) → read (map_fields (suc n)) xs place ≡ Ok r → IsMap (suc n) r.0
unfolding map_fields
map_read n xs place r e =
    let next : ℕ → Fields (List ℕ) = λ same. if same == 1 then gives (replicate (suc n) 0) else element_fields (suc n) in
    let p = onward_ok next (read (number 1) xs place) r (sym (read-bind (number 1) next xs place) ∙ e) in
    go (p.0.0 == 1) p.0.1 p.0.2 p.2
  where
    go : (b : Bool) (ys : List ℕ) (from : ℕ) → read (cond b (gives (replicate (suc n) 0)) (element_fields (suc n))) ys from ≡ Ok r → IsMap (suc n) r.0
    go true ys from h = subst (IsMap (suc n)) (sym (given_same (replicate (suc n) 0) ys from r h)) (zeros_are_map n)
    go false ys from h =
        let q = onward_ok (λ es. gives (0 ∷ es)) (read (map_number_fields (suc n - 1) 1) ys from) r
        (sym (read-bind (map_number_fields (suc n - 1) 1) (λ es. gives (0 ∷ es)) ys from) ∙ h) in
        let numbers = numbers_read (suc n - 1) 1 ys from q.0 q.1 in
        subst (IsMap (suc n)) (sym (given_same (0 ∷ q.0.0) q.0.1 q.0.2 r q.2)) (elements_are_map n q.0.0 (omega (arith, numbers.0)) numbers.1)

pub is_map : (channels : ℕ) (old new : Reading) (m : List ℕ) → 1 ≤ channels → channels ≤ 6 → HasRead (map_fields channels) old m new → IsChannelMap m
is_map zero old new m some most h = absurd (omega arith)
is_map (suc n) old new m some most h =
    let is : IsMap (suc n) m = map_read n (left old) old.place (m, left new, new.place) h in
    let long : length m ≡ suc n = is.0 in
    (omega (arith, long), omega (arith, long, most), subst (λ k. IsMap k m) (sym long) is)
