-- A head whose body would pass the end of `DST ` is one that doesn't fit.
use Rattle.std.proofs.Common.{true, ap, ◌∙◌, arith}
use Rattle.dsdiff_spec.specs.Chunks.{fits}
use Rattle.dsdiff_spec.proofs.Steps.{misfit_body}
use Rattle.dsdiff_chunks.specs.Seen.{head_seen}
use Rattle.frame_index.proofs.frames.next_head.Goals as goal

pub returns-then-head-end-clause-passes : goal.returns-then-head-end-clause-passes
returns-then-head-end-clause-passes g c fault _ xs told =
    ap (fits (λ id. true) c.args.end) (c.in-Ok.ensures.head xs told)
    ∙ misfit_body (λ id. true) c.args.end (head_seen c.in-Ok.head) (omega (arith, c.in-Ok.ensures.place))
