-- So many doublings of an interval at once.
use Rattle.std.proofs.Common.{◌≡◌, ℕ, zero, suc, ◌+◌, ◌*◌, ◌^◌, ◌<◌, ◌≤◌, ap, sym, ◌∙◌, arith, pow-suc, lt-ltb}
use Rattle.std.proofs.lemmas.Nat.{pow_pos}
use Rattle.dst_spec.specs.Interval.{Interval, double, doubled}
use Rattle.dst_spec.proofs.Intervals.{doubled-enough}

abbrev made : ℕ → ℕ → ℕ → Interval
made low range doublings = record { low = low; range = range; doublings = doublings }

pub same_interval : (i : Interval) (low range doublings : ℕ) → i.low ≡ low → i.range ≡ range → i.doublings ≡ doublings →
    i ≡ record { low = low; range = range; doublings = doublings }
same_interval i low range doublings a b c =
    ap (λ x. made x i.range i.doublings) a ∙ ap (λ x. made low x i.doublings) b ∙ ap (λ x. made low range x) c

-- so many doublings at once
pub doubled_by : (d n : ℕ) (i : Interval) → d ≤ n → 2048 ≤ i.range * 2 ^ d → i.range * 2 ^ d ≤ 4095 →
    doubled n i ≡ record { low = i.low * 2 ^ d; range = i.range * 2 ^ d; doublings = i.doublings + d }
unfolding doubled
doubled_by zero n i h least most =
    let enough : 2048 ≤ i.range = omega arith in
    doubled-enough n i enough ∙ same_interval i (i.low * 2 ^ 0) (i.range * 2 ^ 0) (i.doublings + 0) (omega arith) (omega arith) (omega arith)
doubled_by (suc d) zero i h least most = absurd (omega arith)
doubled_by (suc d) (suc n) i h least most =
    let p = pow-suc 2 d in
    let some = pow_pos d in
    let e : i.range * 2 ^ suc d ≡ 2 * i.range * 2 ^ d = rw p (omega arith) in
    let small : i.range < 2048 = below i.range (2 ^ d) some (omega arith) in
    let more = doubled_by d n (double i) (omega arith) (omega arith) (omega arith) in
    rw (lt-ltb i.range 2048 small) (more ∙ same_interval (record { low = 2 * i.low * 2 ^ d; range = 2 * i.range * 2 ^ d; doublings = i.doublings + 1 + d })
    (i.low * 2 ^ suc d) (i.range * 2 ^ suc d) (i.doublings + suc d) (rw p (omega arith)) (sym e) (omega arith))
  where
    below : (r k : ℕ) → 0 < k → 2 * r * k ≤ 4095 → r < 2048
    below r k h e = grind arith
