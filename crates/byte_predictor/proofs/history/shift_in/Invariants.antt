-- The samples in front are moved by one place, and the last of them is carried; the bytes behind are as they were.
use Rattle.std.proofs.Common.{◌≡◌, ℕ, ◌<◌, ◌≤◌, [], ◌∷◌, ◌++◌, length, get_or, take}
use Rattle.dst_spec.specs.Header.{bit_of}
use Rattle.byte_predictor.specs.Samples.{samples_of}
use Rattle.byte_predictor.proofs.history.shift_in.Given as goal

abbrev pub invariant-loop-j : goal.invariant-loop-j
invariant-loop-j l =
    (bit_of l.sample ∷ samples_of (take l.j l.initial.bytes) ≡ samples_of (take l.j l.bytes) ++ l.carry ∷ [])
    × (l.carry < 2)
    × ((k : ℕ) → l.j ≤ k → get_or l.bytes k 0 ≡ get_or l.initial.bytes k 0)
    × (length l.bytes ≡ 16)
    × (length l.initial.bytes ≡ 16)
