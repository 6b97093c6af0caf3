-- A fault of the first rules is that of all, and what stops a read stops this step too.
use Rattle.std.proofs.Common.{ℕ, List, map, ap}
use Rattle.dsdiff_spec.specs.Faults.{◌otherwise◌}
use Rattle.dsdiff_chunks.specs.Opening.{space_fault, plain_parts_fault}
use Rattle.dst_spec.specs.Sample.{sound_bytes}
use Rattle.dsdiff_chunks.specs.Seen.{head_seen}
use Rattle.dsdiff_chunks.proofs.Stopping.{HasOpenCause-in}
use Rattle.dsdiff_chunks.proofs.plain.read_plain.Goals as goal

pub returns-in-Err-clause-stops : goal.returns-in-Err-clause-stops
returns-in-Err-clause-stops g c xs told =
    let chunks = c.args.chunks.now in
    ap (λ o. o otherwise space_fault chunks.size chunks.end (map head_seen chunks.heads.items) c.args.prop_size) c.in-Err.ensures.refused

pub returns-in-Err-read_pad-clause-stops : goal.returns-in-Err-read_pad-clause-stops
returns-in-Err-read_pad-clause-stops g c = c.in-Err-read_pad.ensures.stops _

pub returns-in-Err-read_octets-clause-stops : goal.returns-in-Err-read_octets-clause-stops
returns-in-Err-read_octets-clause-stops g c =
    let chunks = c.args.chunks.now in
    let rules = λ (xs : List ℕ). plain_parts_fault chunks.size chunks.end
    (map head_seen chunks.heads.items) c.args.prop_size c.args.sound.size c.args.channels.channels (sound_bytes c.args.channels) in
    HasOpenCause-in rules rules (g.S.Source.bytes c.args.source.now) (g.S.Source.bytes c.read_pad.new.source) (g.S.Source.faults c.args.source.now)
    (g.S.Source.faults c.read_pad.new.source) _
    c.in-Err-read_octets.fault c.in-Ok-read_pad.ensures.source.same_bytes c.in-Ok-read_pad.ensures.source.later (λ xs f told e. e)
    (c.in-Err-read_octets.ensures.stops rules)
