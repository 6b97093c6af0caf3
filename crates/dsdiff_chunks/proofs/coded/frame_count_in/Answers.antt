-- The first rule that the fields break refuses them.
use Rattle.std.proofs.Common.{ap, sym, ◌∙◌}
use Rattle.std.proofs.lemmas.Bool.{le-ltb, lt-ltb}
use Rattle.dsdiff_spec.specs.Faults.{◌when◌}
use Rattle.dsdiff_spec.specs.declared.faults.FileFault.TheVariants.{TooManyFrames}
use Rattle.dsdiff_chunks.proofs.CodedParts.{count_in, count_left, other_id, other_rate, other_size}
use Rattle.dsdiff_chunks.proofs.coded.frame_count_in.Goals as goal
use Rattle.dsdiff_chunks.proofs.coded.frame_count_in.Goals.{then-ne-via-then-ne, then-ne-via-else-ne+then-size-ne6}
use Rattle.dsdiff_chunks.proofs.coded.frame_count_in.Goals.{then-ne-via-else-ne+else-size-ne6+then-frame_rate-ne75}

pub returns-then-ne-clause-refused : goal.returns-then-ne-clause-refused
returns-then-ne-clause-refused c = elim c.then-ne.branch [
  | then-ne-via-then-ne w ↦ other_id c.args.frte.now (sym w.if-ne.ensures)
  | then-ne-via-else-ne+then-size-ne6 w ↦ other_size c.args.frte.now (λ e. w.if-size-ne6.true (c.read_u64-size.ensures ∙ e))
  | then-ne-via-else-ne+else-size-ne6+then-frame_rate-ne75 w ↦
      other_rate c.args.frte.now (λ e. w.if-frame_rate-ne75.true (c.read_u16-frame_rate.ensures ∙ e))
]

pub returns-then-frames-gt1000000-clause-refused : goal.returns-then-frames-gt1000000-clause-refused
returns-then-frames-gt1000000-clause-refused c =
    let frames = c.read_u32-frames.ensures ∙ count_in c.args.frte.now in
    count_left c.args.frte.now (sym c.if-ne.ensures) (sym c.read_u64-size.ensures ∙ c.if-size-ne6.false)
    (sym c.read_u16-frame_rate.ensures ∙ c.if-frame_rate-ne75.false)
    ∙ ap (λ b. TooManyFrames when b) (lt-ltb 1000000 _ (rw frames at c.if-frames-gt1000000.true))

pub returns-clause-count : goal.returns-clause-count
returns-clause-count c = c.read_u32-frames.ensures ∙ count_in c.args.frte.now

pub returns-clause-accepted : goal.returns-clause-accepted
returns-clause-accepted c =
    let frames = c.read_u32-frames.ensures ∙ count_in c.args.frte.now in
    count_left c.args.frte.now (sym c.if-ne.ensures) (sym c.read_u64-size.ensures ∙ c.if-size-ne6.false)
    (sym c.read_u16-frame_rate.ensures ∙ c.if-frame_rate-ne75.false)
    ∙ ap (λ b. TooManyFrames when b) (le-ltb 1000000 _ (rw frames at c.if-frames-gt1000000.false))
