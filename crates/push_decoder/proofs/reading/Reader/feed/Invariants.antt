-- The reader stands behind the bytes taken of the piece, and those that are left grow fewer.
use Rattle.std.proofs.Common.{◌-◌, ◌≤◌, ◌++◌, ℕ, List, length, take}
use Rattle.push_decoder.specs.Events.{Answered}
use Rattle.push_decoder.specs.Reading.{HasRead}
use Rattle.push_decoder.specs.Told.{NothingBefore}
use Rattle.push_decoder.proofs.reading.Reader.feed.Given as goal

-- the bytes of the piece up to here were taken, and nothing was due of fewer
abbrev pub invariant-loop-answer : goal.invariant-loop-answer
invariant-loop-answer l = record {
  within : l.count ≤ length l.piece;
  read : (taken : List ℕ) (answered : Answered) → HasRead l.fn.self taken answered → HasRead l.self (taken ++ take l.count l.piece) answered;
  before : (taken : List ℕ) (answered : Answered) → HasRead l.fn.self taken answered → NothingBefore taken l.piece answered l.count;
}

abbrev pub decreases-loop-answer : goal.decreases-loop-answer
decreases-loop-answer l = length l.piece - l.count
