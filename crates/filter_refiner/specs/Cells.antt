-- Sums of weighted samples by the half bytes before them.
use Rattle.std.specs.Prelude.{◌≡◌, ℕ, ◌+◌, ◌-◌, ◌*◌, ◌/◌, ◌%◌, ◌^◌, ◌<◌, ◌==◌, nat_lt, if◌then◌else◌, ℤ, pos, List, [], get_or}
use Rattle.dst_spec.specs.Sample.{Shape}
use Rattle.dst_spec.specs.Guess.{signed}
use Rattle.level_spec.specs.Correlation.{sum_over}

-- 16 bytes of the samples before the frame, 1 and 0 in turn, and the bytes of a channel
pub record HasHistory (f : Shape) (sound : List ℕ) (c : ℕ) (bytes : List ℕ) : Type 0 where
  pub before : (i : ℕ) → i < 16 → get_or bytes i 0 ≡ 170
  pub each : (i : ℕ) → i < f.octets → get_or bytes (i + 16) 0 ≡ get_or sound (i * f.channels + c) 0

-- of the half bytes from byte m on backward, the k-th
abbrev pub half : List ℕ → ℕ → ℕ → ℕ
half bytes m k = get_or bytes (m + 16 - k / 2) 0 / 2 ^ (4 - 4 * (k % 2)) % 16

-- sample t by its weight, positive where it is 1; the first ones are left out
abbrev pub weighted : List ℕ → List ℕ → List ℕ → ℕ → ℕ → ℤ
weighted bytes codes weights first t =
    if nat_lt t first then pos 0 else signed (get_or bytes (t / 8 + 16) 0 / 2 ^ (7 - t % 8) % 2) (pos (get_or weights (get_or codes t 0) 0))

-- what a cell takes of a number: all of it where its half byte has its value
abbrev pub taken : List ℕ → ℕ → ℕ → ℤ → ℤ
taken bytes m cell e = if half bytes m (cell / 16) == cell % 16 then e else pos 0

-- the number in a lane of a cell
abbrev pub in_cell : List (List ℤ) → ℕ → ℕ → ℤ
in_cell cells cell lane = get_or (get_or cells cell []) lane (pos 0)

-- how the samples of a lane agree with one bit of half byte k
abbrev pub agreeing : List (List ℤ) → ℕ → ℕ → ℕ → ℤ
agreeing cells k bit lane = sum_over (λ v. signed (v / 2 ^ bit % 2) (in_cell cells (16 * k + v) lane)) 0 16

-- the place in its byte, and how many bytes back, of the sample so many places before one of a lane
abbrev pub place_before : ℕ → ℕ → ℕ
place_before lane lag = (lane + 136 - lag) % 8

abbrev pub bytes_before : ℕ → ℕ → ℕ
bytes_before lane lag = (lag + place_before lane lag - lane) / 8
