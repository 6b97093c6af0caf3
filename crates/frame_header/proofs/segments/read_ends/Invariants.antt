-- So many end bits are passed, and the others are to come.
use Rattle.std.proofs.Common.{◌≡◌, ℕ, List}
use Rattle.dst_spec.specs.Fields.{gives, field}
use Rattle.dst_spec.specs.Offends.{end_rule}
use Rattle.frame_header.proofs.Coming.{TimesToCome}
use Rattle.frame_header.proofs.segments.read_ends.Given as goal

abbrev pub invariant-loop-passed : goal.invariant-loop-passed
invariant-loop-passed l = record {
  bytes : l.reader.bytes ≡ l.initial.reader.bytes;
  coming : (ends : List ℕ) × TimesToCome (field 1 end_rule gives) l.count l.initial.reader l.passed ends l.reader;
}
