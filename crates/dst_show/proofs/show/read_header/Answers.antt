-- The line is that of the frame that was found, or there is none for the reason that opening or reading gives.
use Rattle.std.proofs.Common.{◌∙◌, arith}
use Rattle.dsdiff_spec.specs.Refusal.{form_refusal, refusal}
use Rattle.dsdiff_spec.specs.Words.{show_frame}
use Rattle.dst_commands.proofs.InOrder.{rules_of_show_frame, stops_as}
use Rattle.dst_show.proofs.FrameSounds.{found_at_most}
use Rattle.dst_show.proofs.ReportedLines.{header_is_found, finds_no_header}
use Rattle.dst_show.proofs.show.read_header.Goals as goal

-- ---- where it isn't opened
pub returns-in-Err-clause-bytes : goal.returns-in-Err-clause-bytes
returns-in-Err-clause-bytes g c = c.open_file.ensures.bytes

pub returns-in-Err-clause-later : goal.returns-in-Err-clause-later
returns-in-Err-clause-later g c = c.open_file.ensures.later

pub returns-in-Err-clause-no_header : goal.returns-in-Err-clause-no_header
returns-in-Err-clause-no_header g c =
    let k = c.args.number in
    stops_as (form_refusal (show_frame k)) (refusal (show_frame k)) c.in-Err.fault (g.S.Source.bytes c.args.source.now) (g.S.Source.faults c.args.source.now)
    (g.S.Source.faults c.open_file.new.source) (rules_of_show_frame k) c.in-Err.ensures.stops

pub returns-in-Err-clause-given : goal.returns-in-Err-clause-given
returns-in-Err-clause-given g c = omega (arith, c.open_file.ensures.given)

-- ---- where memory is refused
pub returns-in-Err-vec-clause-bytes : goal.returns-in-Err-vec-clause-bytes
returns-in-Err-vec-clause-bytes g c = c.open_file.ensures.bytes

pub returns-in-Err-vec-clause-later : goal.returns-in-Err-vec-clause-later
returns-in-Err-vec-clause-later g c = c.open_file.ensures.later

pub returns-in-Err-vec-clause-no_header : goal.returns-in-Err-vec-clause-no_header
returns-in-Err-vec-clause-no_header g c = tt {0}

pub returns-in-Err-vec-clause-given : goal.returns-in-Err-vec-clause-given
returns-in-Err-vec-clause-given g c = omega (arith, c.open_file.ensures.given)

-- ---- where it is read
pub returns-in-Ok-header_line-clause-bytes : goal.returns-in-Ok-header_line-clause-bytes
returns-in-Ok-header_line-clause-bytes g c = c.header_line.ensures.bytes ∙ c.open_file.ensures.bytes

pub returns-in-Ok-header_line-clause-later : goal.returns-in-Ok-header_line-clause-later
returns-in-Ok-header_line-clause-later g c = omega (arith, c.header_line.ensures.later, c.open_file.ensures.later)

pub returns-in-Ok-header_line-clause-header : goal.returns-in-Ok-header_line-clause-header
returns-in-Ok-header_line-clause-header g c file told =
    header_is_found file c.in-Ok-header_line.line.bytes c.in-Ok.found c.args.number (c.in-Ok.ensures.accepted file told) (c.in-Ok.ensures.opened file told)
    (c.in-Ok-header_line.ensures.shown file (c.in-Ok.ensures.bytes ∙ told))

pub returns-clause-bytes : goal.returns-clause-bytes
returns-clause-bytes g c = c.header_line.ensures.bytes ∙ c.open_file.ensures.bytes

pub returns-clause-later : goal.returns-clause-later
returns-clause-later g c = omega (arith, c.header_line.ensures.later, c.open_file.ensures.later)

pub returns-clause-no_header : goal.returns-clause-no_header
returns-clause-no_header g c =
    finds_no_header c.in-Ok.found c.args.number c.in-Err-header_line.fault _ _ _ _ _ c.in-Ok.ensures.bytes c.open_file.ensures.later
    c.in-Ok.ensures.accepted c.in-Ok.ensures.opened c.in-Err-header_line.ensures.unshown

pub returns-in-Ok-header_line-clause-given : goal.returns-in-Ok-header_line-clause-given
returns-in-Ok-header_line-clause-given g c = omega (arith, c.open_file.ensures.given, c.header_line.ensures.given, found_at_most c.in-Ok.found)

pub returns-clause-given : goal.returns-clause-given
returns-clause-given g c = omega (arith, c.open_file.ensures.given, c.header_line.ensures.given, found_at_most c.in-Ok.found)
