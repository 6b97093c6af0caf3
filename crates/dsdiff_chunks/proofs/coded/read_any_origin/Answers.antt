-- One `KEPT` alone lies before the end, and what is read of it is what the form says; several are never read.
use Rattle.std.proofs.Common.{length, map, Some, ap, sym, ◌∙◌, arith}
use Rattle.dst_spec.specs.Sample.{sound_bytes}
use Rattle.dsdiff_spec.specs.Rules.{origin_in}
use Rattle.dsdiff_chunks.specs.Opening.{are_bad_origins}
use Rattle.dsdiff_chunks.specs.Seen.{head_seen}
use Rattle.dsdiff_chunks.proofs.Only.{only_within}
use Rattle.dsdiff_chunks.proofs.coded.read_any_origin.Goals as goal

pub read_one_origin-requires-clause-known : goal.read_one_origin-requires-clause-known
read_one_origin-requires-clause-known g c =
    let within = only_within _ c.args.end (map head_seen c.args.heads.now) (head_seen c.in-One.head) c.in-One.ensures c.requires.tiled in
    (c.requires.known.0, c.requires.known.1, omega (arith, within, c.requires.known.2))

pub read_one_origin-requires-clause-most : goal.read_one_origin-requires-clause-most
read_one_origin-requires-clause-most g c =
    let within = only_within _ c.args.end (map head_seen c.args.heads.now) (head_seen c.in-One.head) c.in-One.ensures c.requires.tiled in
    omega (arith, within)

pub returns-in-Ok-clause-origin : goal.returns-in-Ok-clause-origin
returns-in-Ok-clause-origin g c xs told = ap Some (c.in-Ok.ensures.origin xs told) ∙ sym (ap (origin_in xs) c.in-One.ensures)

pub returns-in-Ok-clause-accepted : goal.returns-in-Ok-clause-accepted
returns-in-Ok-clause-accepted g c xs told =
    ap (are_bad_origins c.args.channels.channels (sound_bytes c.args.channels) c.args.frame_count xs) c.in-One.ensures ∙ c.in-Ok.ensures.accepted xs told

pub returns-in-Nothing-clause-several : goal.returns-in-Nothing-clause-several
returns-in-Nothing-clause-several g c more = absurd (omega (arith, more, ap length c.in-Nothing.ensures))

pub returns-in-Ok-clause-several : goal.returns-in-Ok-clause-several
returns-in-Ok-clause-several g c more = absurd (omega (arith, more, ap length c.in-One.ensures))

pub returns-in-Err-clause-several : goal.returns-in-Err-clause-several
returns-in-Err-clause-several g c more = absurd (omega (arith, more, ap length c.in-One.ensures))
