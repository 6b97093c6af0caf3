-- The source tells what it told and is no shorter than the form, and the buffer has room for the longest frame.
use Rattle.std.proofs.Common.{◌≡◌, ◌≤◌, ℕ, length, Some}
use Rattle.uses.proofs.files.frames_of_file.Given as goal

abbrev pub invariant-loop-k : goal.invariant-loop-k
invariant-loop-k g l = record {
  bytes : g.S.Source.bytes l.source ≡ g.S.Source.bytes l.fn.source;
  later : g.S.Source.faults l.fn.source ≤ g.S.Source.faults l.source;
  size : (n : ℕ) × (g.S.Source.known l.source ≡ Some n) × (l.form.end ≤ n);
  room : length l.buffer.items ≡ l.longest;
}
