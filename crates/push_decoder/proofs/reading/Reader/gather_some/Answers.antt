-- Up to the end of its part a stage lacks bytes, so that nothing is due of fewer.
use Rattle.std.proofs.Common.{◌≡◌, ◌+◌, ◌<◌, ◌≤◌, true, arith}
use Rattle.push_decoder.specs.Stages.{lacks, part_end}
use Rattle.push_decoder.specs.Reading.{HasRead}
use Rattle.push_decoder.proofs.Gathering.{reading}
use Rattle.push_decoder.proofs.Short.{nothing_before}
use Rattle.push_decoder.proofs.reading.Reader.gather_some.Goals as goal
use Rattle.push_decoder.proofs.reading.Reader.gather_some.Goals.{then-lacking-bytes, else-lacking-bytes}

pub returns-clause-before : goal.returns-clause-before
returns-clause-before c taken answered has =
    let i = c.self.inside in
    let old : HasRead (reading i.stage i.taken i.part i.frame i.version i.prop) taken answered = rw (← c.self.view_is) at has in
    let lacking : lacks i.stage ≡ true = rw (← c.self.view_is) at c.requires.lacks in
    let short : i.taken < part_end i.stage = c.self.invariant.stands.short lacking in
    let le : i.taken + c.if-lacking-bytes.count ≤ part_end i.stage = elim c.if-lacking-bytes.branch [
      | then-lacking-bytes w ↦ omega (arith, short, c.end_of_part.ensures)
      | else-lacking-bytes w ↦ omega (arith, short, c.end_of_part.ensures)
    ] in
    nothing_before (reading i.stage i.taken i.part i.frame i.version i.prop) taken c.args.bytes.now answered c.if-lacking-bytes.count old
    c.self.invariant.stands.lawful lacking le
