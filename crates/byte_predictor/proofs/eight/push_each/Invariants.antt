-- The frames so far have one sample more, and those behind are as they were.
use Rattle.std.proofs.Common.{◌≡◌, ℕ, ◌+◌, ◌*◌, ◌%◌, ◌<◌, ◌≤◌, length, get_or}
use Rattle.byte_predictor.proofs.eight.push_each.Given as goal

abbrev pub invariant-loop-n : goal.invariant-loop-n
invariant-loop-n l = record {
  many : length l.newest ≡ 8;
  done : (m : ℕ) → m < l.n → get_or l.newest m 0 ≡ get_or l.initial.newest m 0 % 32768 * 2 + get_or l.given m 0 % 2;
  left : (m : ℕ) → l.n ≤ m → get_or l.newest m 0 ≡ get_or l.initial.newest m 0;
}
