-- Each code so far has its byte as an early sample and as another one.
use Rattle.std.proofs.Common.{◌≡◌, ℕ, ◌<◌, true, false, length, get_or}
use Rattle.frame_store.specs.Pairs.{symbol_byte}
use Rattle.frame_store.proofs.lay_out.tables.Given as goal

abbrev pub invariant-loop-code : goal.invariant-loop-code
invariant-loop-code l = record {
  first_long : length l.first ≡ 128;
  later_long : length l.later ≡ 128;
  first : (code : ℕ) → code < l.code → get_or l.first code 0 ≡ symbol_byte l.probs true code;
  later : (code : ℕ) → code < l.code → get_or l.later code 0 ≡ symbol_byte l.probs false code;
}
