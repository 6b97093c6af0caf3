-- Its length and id, its size, which is all of its length, and its type.
use Rattle.std.proofs.Common.{sym, ◌∙◌, arith}
use Rattle.dsdiff_chunks.proofs.Fields.{number_behind}
use Rattle.dsdiff_chunks.proofs.Refused.{answered, other_chunk, short_cmpr, small_cmpr, uneven_cmpr, whole_cmpr}
use Rattle.dsdiff_chunks.proofs.origin.is_plain_cmpr.Goals as goal
use Rattle.dsdiff_chunks.proofs.origin.is_plain_cmpr.Goals.{then-cmpr-lt16-via-then-cmpr-lt16, then-cmpr-lt16-via-else-cmpr-lt16+then-ne}
use Rattle.dsdiff_chunks.proofs.origin.is_plain_cmpr.Goals.{then-size-lt4-via-then-size-lt4, then-size-lt4-via-else-size-lt4+then-size-long}
use Rattle.dsdiff_chunks.proofs.origin.is_plain_cmpr.Goals.{then-size-lt4-via-else-size-lt4+else-size-long+then-long-size}

pub returns-then-cmpr-lt16 : goal.returns-then-cmpr-lt16
returns-then-cmpr-lt16 c = elim c.then-cmpr-lt16.branch [
  | then-cmpr-lt16-via-then-cmpr-lt16 w ↦ short_cmpr c.args.cmpr.now w.if-cmpr-lt16.true
  | then-cmpr-lt16-via-else-cmpr-lt16+then-ne w ↦ other_chunk c.args.cmpr.now (sym w.if-ne.ensures)
]

pub returns-then-size-lt4 : goal.returns-then-size-lt4
returns-then-size-lt4 c =
    let cmpr = c.args.cmpr.now in
    let size = c.read_u64-size.ensures ∙ number_behind cmpr 4 8 in
    elim c.then-size-lt4.branch [
      | then-size-lt4-via-then-size-lt4 w ↦ small_cmpr cmpr (omega (arith, size, w.if-size-lt4.true))
      | then-size-lt4-via-else-size-lt4+then-size-long w ↦ uneven_cmpr cmpr (λ e. absurd (omega (arith, size, c.if-cmpr-lt16.false, w.if-size-long.true, e)))
      | then-size-lt4-via-else-size-lt4+else-size-long+then-long-size w ↦
          uneven_cmpr cmpr (λ e. w.if-long-size.true (omega (arith, size, c.if-cmpr-lt16.false, e)))
    ]

pub returns : goal.returns
returns c =
    let cmpr = c.args.cmpr.now in
    let size = c.read_u64-size.ensures ∙ number_behind cmpr 4 8 in
    answered _ _ _ c.eq.ensures
    (whole_cmpr cmpr c.if-cmpr-lt16.false (sym c.if-ne.ensures) (omega (arith, c.if-size-lt4.false, size))
    (omega (arith, c.if-cmpr-lt16.false, c.if-size-long.false, c.if-long-size.false, size)))
