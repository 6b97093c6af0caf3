-- A header that isn't longer than the room is written, as its three parts fit one behind the other.
use Rattle.std.proofs.Common.{◌+◌, ◌≤◌, length, refl, ap, ◌∙◌, arith}
use Rattle.dst_spec.specs.Spell.{header_spelling}
use Rattle.frame_header.specs.Written.{Wrote}
use Rattle.frame_header.proofs.SpelledHeaders.{filters_spelling, probs_spelling, AreParts, parts_long, wrote_header}
use Rattle.frame_header.proofs.write.write_header.Goals as goal
use Rattle.frame_header.proofs.write.write_header.Goals.{After-as_slice-probs, Else-length-room}

-- what is written is the parts of the header's spelling
parts : (c : After-as_slice-probs) → AreParts c.args.params.now c.of-front.result c.as_slice-filters.result.now c.as_slice-probs.result.now
parts c = record {
  front_is = c.of-front.ensures.bits;
  filters_are = c.as_slice-filters.ensures.value ∙ ap (λ Q. Q.filters) c.params.view_is;
  probs_are = c.as_slice-probs.ensures.value ∙ ap (λ Q. Q.probs) c.params.view_is;
}

-- where the header isn't longer than the room, its parts fit one behind the other
parts_fit : (c : Else-length-room) →
    length c.of-front.result + length (filters_spelling c.as_slice-filters.result.now) + length (probs_spelling c.as_slice-probs.result.now)
    ≤ c.args.writer.now.room
parts_fit c =
    let long = parts_long c.args.params.now c.of-front.result c.as_slice-filters.result.now c.as_slice-probs.result.now (parts c.before.before.before) in
    omega (arith, long, c.header_length-length.ensures.length, c.if-length-room.false, c.room.ensures.room)

pub returns-then-length-room-clause-written : goal.returns-then-length-room-clause-written
returns-then-length-room-clause-written c =
    let no : length (header_spelling c.args.params.now) ≤ c.args.writer.now.room → ⊥ =
    λ fits. omega (arith, c.header_length-length.ensures.length, c.if-length-room.true, c.room.ensures.room, fits) in
    (λ t. absurd cc, λ fits. absurd (no fits))

pub write-requires : goal.write-requires
write-requires c = omega (arith, parts_fit (goal.at.write-requires c).Else-length-room)

pub write_tables-requires : goal.write_tables-requires
write_tables-requires c = omega (arith, parts_fit (goal.at.write_tables-requires c).Else-length-room, c.write.ensures.room)

pub write_tables-requires-2 : goal.write_tables-requires-2
write_tables-requires-2 c =
    omega (arith, parts_fit (goal.at.write_tables-requires-2 c).Else-length-room, c.write.ensures.room, c.write_tables.ensures.room)

whole : (c : goal.After-write_tables-2) → Wrote c.args.writer.now (header_spelling c.args.params.now) c.write_tables-2.new.writer
whole c =
    wrote_header c.args.params.now c.of-front.result c.as_slice-filters.result.now c.as_slice-probs.result.now c.args.writer.now c.write.new.writer
    c.write_tables.new.writer c.write_tables-2.new.writer (parts (goal.at.returns-clause-bits c).After-as_slice-probs)
    c.write.ensures c.write_tables.ensures c.write_tables-2.ensures

pub returns-clause-written : goal.returns-clause-written
returns-clause-written c = (λ t. omega (arith, (whole c).room), λ fits. refl)

pub returns-clause-bits : goal.returns-clause-bits
returns-clause-bits c t = (whole c).bits

pub returns-clause-room : goal.returns-clause-room
returns-clause-room c t = (whole c).room
