-- There are as many table numbers as channels so far, each the first table for all eight frames.
use Rattle.std.proofs.Common.{◌≡◌, ◌<◌, ℕ, length, get_or}
use Rattle.dst_frames.specs.declared.eight.TableNumbers.{TableNumbers}
use Rattle.dst_frames.proofs.eight.EightTables.new.Given as goal

abbrev pub invariant-loop : goal.invariant-loop
invariant-loop l = record {
  many : length l.numbers.items ≡ l.counter;
  first : (n c : ℕ) (other : TableNumbers) → n < 8 → c < length l.numbers.items → get_or (get_or l.numbers.items c other).of n 0 ≡ 0;
}
