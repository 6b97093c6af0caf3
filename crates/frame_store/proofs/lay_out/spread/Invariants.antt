-- The samples so far have their bytes, and those of the other channels are as they were.
use Rattle.std.proofs.Common.{◌≡◌, ◌≢◌, ℕ, ◌+◌, ◌*◌, ◌<◌, nat_lt, length, get_or}
use Rattle.frame_store.specs.Pairs.{symbol_byte}
use Rattle.frame_store.proofs.lay_out.spread.Given as goal

abbrev pub invariant-loop-t : goal.invariant-loop-t
invariant-loop-t l = record {
  long : length l.symbols ≡ length l.initial.symbols;
  here : (t : ℕ) → t < l.t → get_or l.symbols (t * l.channels + l.c) 0 ≡ symbol_byte l.probs (nat_lt t l.early) (get_or l.codes t 0);
  others : (t d : ℕ) → d < l.channels → d ≢ l.c → get_or l.symbols (t * l.channels + d) 0 ≡ get_or l.initial.symbols (t * l.channels + d) 0;
}
