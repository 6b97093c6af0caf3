-- The line of the header is reported, or there is none.
use Rattle.std.proofs.Common.{refl, ◌∙◌, arith}
use Rattle.dst_show.proofs.ReportedLines.{report_failed, cause_as_reported, only_reported, ends_with_header, ends_without_header, cause_without_header}
use Rattle.dst_show.proofs.show.show_header.Goals as goal

-- ---- where none is found
pub returns-in-Err-clause-ends : goal.returns-in-Err-clause-ends
returns-in-Err-clause-ends g c file told =
    ends_without_header c.args.number c.in-Err.fault (g.S.Source.bytes c.args.source.now) (g.S.Source.faults c.args.source.now)
    (g.S.Source.faults c.read_header.new.source) file _ _ _ _ _ told c.in-Err.ensures.no_header

pub returns-in-Err-clause-bytes : goal.returns-in-Err-clause-bytes
returns-in-Err-clause-bytes g c = c.read_header.ensures.bytes

pub returns-in-Err-clause-later : goal.returns-in-Err-clause-later
returns-in-Err-clause-later g c = (c.read_header.ensures.later, omega arith)

pub returns-in-Err-clause-cause : goal.returns-in-Err-clause-cause
returns-in-Err-clause-cause g c =
    cause_without_header c.args.number c.in-Err.fault (g.S.Source.bytes c.args.source.now) (g.S.Source.faults c.args.source.now)
    (g.S.Source.faults c.read_header.new.source) _ _ c.in-Err.ensures.no_header

pub returns-in-Err-clause-untouched : goal.returns-in-Err-clause-untouched
returns-in-Err-clause-untouched g c fault e other = refl

pub returns-in-Err-clause-given : goal.returns-in-Err-clause-given
returns-in-Err-clause-given g c = c.read_header.ensures.given

-- ---- where one is
pub returns-clause-ends : goal.returns-clause-ends
returns-clause-ends g c file told =
    ends_with_header c.append.result c.reported.result c.args.number file c.in-Ok.header.0.bytes c.as_bytes.result.now c.in-Ok.header.1 _ _ _ _ _ _
    c.reported.ensures (c.in-Ok.ensures.header file told) (c.as_bytes.ensures.value ∙ c.deref.ensures.0) c.append.ensures.written c.append.ensures.sure
    c.append.ensures.appended

pub returns-clause-bytes : goal.returns-clause-bytes
returns-clause-bytes g c = c.read_header.ensures.bytes

pub returns-clause-later : goal.returns-clause-later
returns-clause-later g c = (c.read_header.ensures.later, omega arith)

pub returns-clause-cause : goal.returns-clause-cause
returns-clause-cause g c =
    cause_as_reported c.reported.result _ _ _ _
    (report_failed c.append.result c.reported.result c.in-Ok.header.1 _ _ c.reported.ensures c.append.ensures.cause)

pub returns-clause-untouched : goal.returns-clause-untouched
returns-clause-untouched g c fault e other =
    absurd (other (only_reported c.reported.result fault _ _
    (report_failed c.append.result c.reported.result c.in-Ok.header.1 _ _ c.reported.ensures c.append.ensures.cause) e))

pub returns-clause-given : goal.returns-clause-given
returns-clause-given g c = c.read_header.ensures.given
