-- The pairs so far don't ask past the end.
use Rattle.std.proofs.Common.{◌≡◌, drop}
use Rattle.dsdiff_spec.specs.Faults.{first_some}
use Rattle.dsdiff_spec.specs.Refusal.{past_fault}
use Rattle.dsdiff_chunks.specs.Forms.{coded_seen}
use Rattle.dst_ranges.proofs.opened.past_fault.Given as goal

abbrev pub invariant-loop-first : goal.invariant-loop-first
invariant-loop-first l = first_some (past_fault (coded_seen l.form)) l.pairs ≡ first_some (past_fault (coded_seen l.form)) (drop l.first-index l.pairs)
