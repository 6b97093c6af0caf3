-- Four numbers of sixteen bits times a power of 2, each with what the next carries into it.
use Rattle.std.proofs.Common.{◌≡◌, ℕ, ◌+◌, ◌-◌, ◌*◌, ◌/◌, ◌%◌, ◌^◌, ◌<◌, ◌≤◌, ap, sym, ◌∙◌, arith}
use Rattle.std.proofs.lemmas.Nat.{mul-le, pow-add}
use Rattle.arith_decoder.specs.Registers.{IsFactor}

-- the value of four numbers
abbrev pub four : ℕ → ℕ → ℕ → ℕ → ℕ
four offset high middle low = offset * 2 ^ 52 + high * 2 ^ 36 + middle * 2 ^ 20 + low * 2 ^ 4

-- a power of 2 leaves room for a carry
room : (x by g : ℕ) → by * g ≡ 65536 → x * by % 65536 + by ≤ 65536
room x by g e =
    let some : 0 < g = grind arith in
    let rest : x % g + 1 ≤ g = omega arith in
    let whole : x * by ≡ x / g * 65536 + x % g * by = split x by g e in
    let small : (x % g + 1) * by ≤ g * by = mul-le (x % g + 1) by g by rest (omega arith) in
    let most : g * by ≡ 65536 = omega (arith, e) in
    omega arith
  where
    split : (x by g : ℕ) → by * g ≡ 65536 → x * by ≡ x / g * 65536 + x % g * by
    split x by g e =
        let is : x ≡ g * (x / g) + x % g = omega arith in
        let spread : x * by ≡ (g * (x / g) + x % g) * by = ap (λ n. n * by) is in
        let turned : g * (x / g) * by ≡ by * g * (x / g) = omega arith in
        let high : by * g * (x / g) ≡ 65536 * (x / g) = ap (λ n. n * (x / g)) e in
        omega arith

carried : (y by : ℕ) → y < 65536 → 0 < by → y * by / 65536 < by
carried y by h some =
    let most : (y + 1) * by ≤ 65536 * by = mul-le (y + 1) by 65536 by (omega arith) (omega arith) in
    omega arith

pub times_four : (offset high middle low by g : ℕ) → by * g ≡ 65536 → 0 < by → high < 65536 → middle < 65536 → low < 65536 →
    four offset high middle low * by < 4096 * 2 ^ 52 →
    four ((offset * by + high * by / 65536) % 65536) ((high * by + middle * by / 65536) % 65536) ((middle * by + low * by / 65536) % 65536) (low * by % 65536)
    ≡ four offset high middle low * by
times_four offset high middle low by g e some h m l below =
    let h_room = room high by g e in
    let m_room = room middle by g e in
    let m_few = carried middle by m some in
    let l_few = carried low by l some in
    let spread : four offset high middle low * by ≡ offset * by * 2 ^ 52 + high * by * 2 ^ 36 + middle * by * 2 ^ 20 + low * by * 2 ^ 4 = omega arith in
    all (offset * by) (high * by) (middle * by) (low * by) by h_room m_room m_few l_few (omega (arith, spread, below)) ∙ sym spread
  where
    all : (k h m l by : ℕ) → h % 65536 + by ≤ 65536 → m % 65536 + by ≤ 65536 → m / 65536 < by → l / 65536 < by →
        k * 2 ^ 52 + h * 2 ^ 36 + m * 2 ^ 20 + l * 2 ^ 4 < 4096 * 2 ^ 52 →
        four ((k + h / 65536) % 65536) ((h + m / 65536) % 65536) ((m + l / 65536) % 65536) (l % 65536) ≡ k * 2 ^ 52 + h * 2 ^ 36 + m * 2 ^ 20 + l * 2 ^ 4
    all k h m l by a b c d below =
        let first : (k + h / 65536) % 65536 ≡ k + h / 65536 = omega arith in
        let second : (h + m / 65536) % 65536 ≡ h % 65536 + m / 65536 = omega arith in
        let third : (m + l / 65536) % 65536 ≡ m % 65536 + l / 65536 = omega arith in
        rw (first, second, third) (omega arith)

-- a factor has so much room, also when it is doubled
pub factor_room : (p factor : ℕ) → IsFactor p factor → (half : ℕ) × (factor * (2 * half) ≡ 65536) × (0 < factor)
factor_room p factor f =
    let few = f.shifted.few in
    let split : f.shift + (15 - f.shift) ≡ 15 = omega arith in
    let whole : 2 ^ f.shift * 2 ^ (15 - f.shift) ≡ 32768 = sym (pow-add 2 f.shift (15 - f.shift)) ∙ ap (λ n. 2 ^ n) split in
    let least = f.shifted.least in
    (2 ^ (15 - f.shift), rw f.power (omega (arith, whole)), positive p factor (rw f.power least))
  where
    positive : (p factor : ℕ) → 128 ≤ p * factor → 0 < factor
    positive p factor h = grind arith
