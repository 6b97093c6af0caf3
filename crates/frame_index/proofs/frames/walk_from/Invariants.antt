-- The walk has come to the place, with the entries of the frames found, and less is left of `DST ` each time.
use Rattle.std.proofs.Common.{◌≡◌, ◌+◌, ◌-◌, ◌*◌, ◌≤◌}
use Rattle.dsdiff_spec.specs.Chunks.{body_place, body_end}
use Rattle.dsdiff_chunks.specs.Forms.{coded_seen}
use Rattle.frame_index.proofs.Passing.{HasWalked}
use Rattle.frame_index.proofs.frames.walk_from.Given as goal

abbrev pub invariant-loop-place : goal.invariant-loop-place
invariant-loop-place g l = record {
  bytes : g.S.Source.bytes l.source ≡ g.S.Source.bytes l.initial.source;
  known : g.S.Source.known l.source ≡ g.S.Source.known l.initial.source;
  loan : g.S.Source.loan l.source ≡ g.S.Source.loan l.initial.source;
  faults : g.S.Source.faults l.initial.source ≤ g.S.Source.faults l.source;
  given : g.S.Source.given l.source ≤ g.S.Source.given l.initial.source + 12 * l.passed;
  few : l.passed ≤ 4000000;
  behind : body_place (coded_seen l.form).sound + 18 ≤ l.place;
  before : l.place ≤ body_end (coded_seen l.form).sound + 1;
  walked : HasWalked (coded_seen l.form) (g.S.Source.bytes l.initial.source) l.passed l.place l.frames l.entries.entries;
  room : l.entries.room ≡ l.form.frames;
}

abbrev pub decreases-loop-place : goal.decreases-loop-place
decreases-loop-place g l = l.end - l.place
