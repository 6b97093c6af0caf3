-- The pairs of the words so far.
use Rattle.std.proofs.Common.{◌≡◌, map, length}
use Rattle.std.specs.String.{string_bytes}
use Rattle.dst_words.proofs.PairWords.{AreReadSoFar}
use Rattle.dst_words.proofs.slots.read_pairs.Given as goal

abbrev pub invariant-loop-k : goal.invariant-loop-k
invariant-loop-k l = (length l.pairs ≡ l.k) × AreReadSoFar (map string_bytes l.words) l.k l.pairs
