-- Several chunks `DSFK` in a form are a fault of it.
use Rattle.std.proofs.Common.{List, map, sym, ap, ◌∙◌}
use Rattle.dsdiff_spec.specs.Chunks.{named}
use Rattle.dsdiff_chunks.specs.declared.lists.ChunkHead.{ChunkHead}
use Rattle.dsdiff_chunks.specs.Forms.{coded_seen}
use Rattle.dsdiff_chunks.specs.Seen.{head_seen}
use Rattle.dst_dsf.proofs.Dsfk.{several_dsfk}
use Rattle.dst_dsf.proofs.said.read_said.Goals as goal

pub returns-in-Several-clause-stops : goal.returns-in-Several-clause-stops
returns-in-Several-clause-stops g c file told =
    several_dsfk file (coded_seen c.args.form.now) (head_seen c.in-Several.field-0) c.in-Several.ensures.0 c.in-Several.ensures.1
    (ap (λ (hs : List ChunkHead). named "DSFK" (map head_seen hs)) (sym c.as_slice.ensures) ∙ c.in-Several.ensures.2)
