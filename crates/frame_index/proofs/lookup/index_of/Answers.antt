-- The first `DSTI` is one of the form's chunks, so that its body ends where the form does at the latest.
use Rattle.std.proofs.Common.{map, sym, ap, ◌∙◌, arith}
use Rattle.dsdiff_spec.specs.Chunks.{named}
use Rattle.dsdiff_chunks.specs.Forms.{coded_seen}
use Rattle.dsdiff_chunks.specs.Seen.{head_seen}
use Rattle.frame_index.proofs.Indexed.{first_within}
use Rattle.frame_index.proofs.lookup.index_of.Goals as goal

pub returns-clause-within : goal.returns-clause-within
returns-clause-within c =
    let form = coded_seen c.args.form.now in
    let first = c.in-Some.ensures.first in
    let within =
    first_within form.end 16 form.chunks (head_seen c.in-Some.head) first.0 c.args.form.now.lawful.chunks
    (ap (λ heads. named "DSTI" (map head_seen heads)) (sym c.as_slice.ensures) ∙ first.1) in
    omega (arith, within)
