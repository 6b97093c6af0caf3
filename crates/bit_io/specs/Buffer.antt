-- What a writer's buffer holds: whole bytes, and fewer than eight bits behind them, within a capacity in bytes.
use Rattle.std.specs.Prelude.{ℕ, ◌+◌, ◌*◌, ◌^◌, ◌<◌, ◌≤◌}

pub record IsBuffer (bytes allocated capacity pending count : ℕ) : Type 0 where
  pub few : count < 8
  pub low : pending < 2 ^ count
  pub within : 8 * bytes + count ≤ 8 * capacity
  pub reserved : capacity ≤ allocated
  pub short : capacity ≤ 2 ^ 50
