-- A fault of the head or of the chunks is that of the opening; where there is none, the heads are those of the form.
use Rattle.std.proofs.Common.{sym, ◌∙◌}
use Rattle.std.proofs.lemmas.List.{length-map}
use Rattle.dsdiff_spec.specs.Chunks.{chunks_from}
use Rattle.dsdiff_spec.specs.Rules.{opening_fault}
use Rattle.dsdiff_chunks.specs.Opening.{may_lack_pad}
use Rattle.dsdiff_chunks.proofs.Extents.{opened_by_chunks, refused_by_chunks}
use Rattle.dsdiff_chunks.proofs.Stopping.{HasOpenCause-in}
use Rattle.dsdiff_chunks.proofs.top.read_chunks.Goals as goal

pub returns-in-Err-clause-stops : goal.returns-in-Err-clause-stops
returns-in-Err-clause-stops g c = c.in-Err.ensures.stops

pub returns-in-Err-read_heads-clause-stops : goal.returns-in-Err-read_heads-clause-stops
returns-in-Err-read_heads-clause-stops g c =
    HasOpenCause-in (λ xs. (chunks_from may_lack_pad xs c.in-Ok.extent.end 1024 16).fault) opening_fault (g.S.Source.bytes c.args.source.now)
    (g.S.Source.bytes c.read_extent.new.source) (g.S.Source.faults c.args.source.now) (g.S.Source.faults c.read_extent.new.source) _
    c.in-Err-read_heads.fault c.in-Ok.ensures.bytes c.in-Ok.ensures.later
    (λ xs f told refused. refused_by_chunks f (c.in-Ok.ensures.told xs told) refused)
    c.in-Err-read_heads.ensures.stops

pub returns-in-Ok-read_heads-clause-chunks : goal.returns-in-Ok-read_heads-clause-chunks
returns-in-Ok-read_heads-clause-chunks g c =
    let extent = c.in-Ok.ensures in
    let found = c.in-Ok-read_heads.ensures in
    record {
      known_size = found.source.same_size ∙ extent.known;
      least = extent.least;
      most = extent.most;
      within = extent.within;
      few = rw length-map found.few;
      tiled = found.tiled;
      whole = found.whole;
      told = λ xs told.
          let there = sym found.source.same_bytes ∙ told in
          opened_by_chunks _ (extent.told xs (sym extent.bytes ∙ there)) (found.found xs there);
    }
