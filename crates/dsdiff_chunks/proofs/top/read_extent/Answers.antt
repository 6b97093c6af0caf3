-- The first sixteen bytes decide whether the head of a file is refused, and else where the form ends.
use Rattle.std.proofs.Common.{◌∙◌}
use Rattle.dsdiff_chunks.proofs.Extents.{refused_by_head, extent_by_head}
use Rattle.dsdiff_chunks.proofs.top.read_extent.Goals as goal

pub returns-in-Err-clause-stops : goal.returns-in-Err-clause-stops
returns-in-Err-clause-stops g c xs told =
    let there = c.in-Ok.ensures.bytes ∙ told in
    let long = g.met.S.Source.size_is_length _ xs _ there c.in-Ok.ensures.size in
    refused_by_head xs _ c.in-Ok.size c.in-Err.fault c.if-size-lt16.false long (c.in-Ok-read_range.ensures.read xs there) c.in-Err.ensures.refused

pub returns-in-Ok-end_of_form-clause-told : goal.returns-in-Ok-end_of_form-clause-told
returns-in-Ok-end_of_form-clause-told g c xs told =
    let there = c.in-Ok.ensures.bytes ∙ told in
    let long = g.met.S.Source.size_is_length _ xs _ there c.in-Ok.ensures.size in
    extent_by_head xs _ c.in-Ok.size c.in-Ok-end_of_form.end c.if-size-lt16.false long (c.in-Ok-read_range.ensures.read xs there)
    c.in-Ok-end_of_form.ensures.accepted c.in-Ok-end_of_form.ensures.end
