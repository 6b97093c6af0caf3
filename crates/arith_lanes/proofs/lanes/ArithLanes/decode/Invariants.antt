-- The lanes so far have made their step, and those behind are as they were.
use Rattle.std.proofs.Common.{◌≡◌, ℕ, ◌<◌, ◌≤◌, length, get_or}
use Rattle.arith_lanes.specs.Lanes.{StepsBy, registers_at}
use Rattle.arith_lanes.proofs.Eight.{AreEight}
use Rattle.arith_lanes.proofs.lanes.ArithLanes.decode.Given as goal

abbrev pub invariant-loop-n : goal.invariant-loop-n
invariant-loop-n l = record {
  eight : AreEight l.self;
  many : length l.symbols ≡ 8;
  stepped : (m : ℕ) → m < l.n → StepsBy (registers_at l.initial.self m) (get_or l.chances m 0) (registers_at l.self m) (get_or l.symbols m 0);
  left : (m : ℕ) → l.n ≤ m → registers_at l.self m ≡ registers_at l.initial.self m;
  first : l.self.first ≡ l.initial.self.first;
  place : l.self.place ≡ l.initial.self.place;
}
