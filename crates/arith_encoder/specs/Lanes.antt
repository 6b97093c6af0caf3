-- Codes measured side by side: what a symbol takes of a range, as a number of sixteen bits.
use Rattle.std.specs.Prelude.{◌≡◌, ℕ, ◌+◌, ◌*◌, ◌%◌, ◌^◌, ◌<◌, ◌≤◌, Bool, true, false, List, [], length, get_or}
use Rattle.dst_spec.specs.Interval.{Interval, narrowed, interval_from}
use Rattle.dst_spec.specs.Laws.{AreAlike}
use Rattle.arith_core.specs.Range.{IsRange, IsShift}

-- Symbol 1 is its probability with the highest bit set. Symbol 0 is the probability, shifted to have eight bits, and the shift above
-- these bits.
abbrev pub IsStep : Bool → ℕ → ℕ → Type 0
IsStep true p step = (1 ≤ p) × (p ≤ 128) × (step ≡ 32768 + p)
IsStep false p step = (1 ≤ p) × (p ≤ 128) × ((shift : ℕ) × IsShift p shift × (step ≡ 256 * shift + p * 2 ^ shift))

-- these are the steps of a list of symbols with their probabilities, in a lane of eight
pub record AreSteps (lane : ℕ) (steps : List (List ℕ)) (pairs : List (Bool × ℕ)) : Type 0 where
  pub long : length pairs ≡ length steps
  pub each : (k : ℕ) → k < length steps → IsStep (get_or pairs k (false, 0)).0 (get_or pairs k (false, 0)).1 (get_or (get_or steps k []) lane 0)

-- from one range on, a symbol leaves this one after so many doublings
pub record Narrows (before : ℕ) (symbol : Bool) (p after doublings : ℕ) : Type 0 where
  pub in_range : IsRange after
  pub few : doublings ≤ 8
  pub alike : (i : Interval) → i.range ≡ before → AreAlike (narrowed i (symbol, p)) (record { low = 0; range = after; doublings = i.doublings + doublings })

-- the same with a count of doublings in sixteen bits
pub record TakesStep (before count : ℕ) (symbol : Bool) (p after count_after : ℕ) : Type 0 where
  pub doublings : ℕ
  pub narrows : Narrows before symbol p after doublings
  pub counted : count_after ≡ (count + doublings) % 65536

-- from one range on, the symbols of a list leave this one after so many doublings
pub record Leaves (before : ℕ) (pairs : List (Bool × ℕ)) (after doublings : ℕ) : Type 0 where
  pub in_range : IsRange after
  pub few : doublings ≤ 8 * length pairs
  pub alike : (i : Interval) → i.range ≡ before → AreAlike (interval_from i pairs) (record { low = 0; range = after; doublings = i.doublings + doublings })
