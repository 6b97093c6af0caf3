-- A part that is whole moves the reader to the next stage, and what was read stays what was read.
use Rattle.std.proofs.Common.{◌≡◌, ◌+◌, ◌≤◌, true, length, ◌++◌, ap, ◌∙◌, refl, arith}
use Rattle.push_decoder.specs.Stages.{lacks, part_start, part_end, version_then, prop_then}
use Rattle.push_decoder.specs.Reading.{HasRead}
use Rattle.push_decoder.proofs.Gathering.{reading, more_gathered, moved}
use Rattle.push_decoder.proofs.reading.Reader.gather.Goals as goal

pub returns : goal.returns
returns c = record {
  read = λ taken answered has.
      let i = c.self.inside in
      let old : HasRead (reading i.stage i.taken i.part i.frame i.version i.prop) taken answered = rw (← c.self.view_is) at has in
      let lacking : lacks i.stage ≡ true = rw (← c.self.view_is) at c.requires.lacks in
      let within : i.taken + length c.args.bytes.now ≤ part_end i.stage = rw (← c.self.view_is) at c.requires.within in
      let begins : part_start i.stage ≤ i.taken = c.self.invariant.stands.begun lacking in
      let whole : i.taken + length c.args.bytes.now ≡ part_end i.stage = omega (arith, within, c.end_of_part.ensures, c.if-self-end_of_part.false) in
      let grown = more_gathered i.stage i.taken (i.taken + length c.args.bytes.now) i.part c.keep.new.part i.frame c.keep.new.frame i.prop i.version
      taken c.args.bytes.now answered old begins refl c.keep.ensures.part c.keep.ensures.frame in
      moved i.stage c.next_stage-next.result (i.taken + length c.args.bytes.now) c.keep.new.part c.forget.new.part c.keep.new.frame c.forget.new.frame
      i.prop c.keep_body.new.prop i.version c.keep_body.new.version (taken ++ c.args.bytes.now) answered grown (omega (arith, begins)) whole
      (c.keep_body.ensures.version ∙ ap (λ x. version_then i.stage x i.version) c.as_slice.ensures.bytes)
      (c.keep_body.ensures.prop ∙ ap (λ x. prop_then i.stage x i.prop.bytes) c.as_slice.ensures.bytes)
      (rw c.as_slice-2.ensures.bytes at c.next_stage-next.ensures.goes_on)
      (rw c.as_slice-2.ensures.bytes at c.next_stage-next.ensures.tells)
      c.next_stage-next.ensures.answered c.next_stage-next.ensures.fresh c.next_stage-next.ensures.frame
      (ap (λ g. g.bytes) c.forget.ensures.part) c.forget.ensures.frame c.forget.ensures.cleared;
}
