-- Its one outcome is neither a refused file nor a refused frame, and the sink has room.
use Rattle.std.proofs.Common.{◌≡◌, ◌∙◌, arith, ap, refl, sym, subst, [], ◌∷◌, Err}
use Rattle.dsdiff_spec.specs.Outcome.{Answer, OfCommand, done, file_refused, frame_refused}
use Rattle.dsdiff_spec.specs.Words.{decode}
use Rattle.dst_read.specs.declared.faults.DecodeFault.TheVariants.{Source}
use Rattle.dst_tool.proofs.making.restore_whole.Goals as goal

pub unreachable-requires-in-Err-Source-File : goal.unreachable-requires-in-Err-Source-File
unreachable-requires-in-Err-Source-File g c =
    let fault = c.in-Err-Source-File.field-0-0-0 in
    let is = c.in-Err-Source-File.is ∙ ap Err (c.in-Err-Source-File.field-0-is ∙ ap Source c.in-Err-Source-File.field-0-0-is) in
    let refused = c.decode_file.ensures.file fault is c.args.coded.now c.new-source.ensures.bytes in
    let other = subst (λ q. OfCommand decode c.args.coded.now q (file_refused fault)) (sym refused) refl in
    let same : file_refused fault ≡ done c.requires.outcome.0 (c.requires.outcome.1 ∷ []) = c.requires.outcome.2.1 (file_refused fault) other in
    let status : 5 ≡ 0 = ap (λ (a : Answer). a.status) same in
    absurd (omega (arith, status))

pub unreachable-requires-in-Err-Write : goal.unreachable-requires-in-Err-Write
unreachable-requires-in-Err-Write g c =
    let is = c.in-Err-Write.is ∙ ap Err c.in-Err-Write.field-0-is in
    let o = done c.requires.outcome.0 (c.requires.outcome.1 ∷ []) in
    c.decode_file.ensures.sure is c.args.coded.now c.new-source.ensures.bytes o c.requires.outcome.2.0 c.requires.outcome.3.0 c.requires.outcome.3.1
    c.requires.outcome.3.2

pub unreachable-requires-in-Err-Frame : goal.unreachable-requires-in-Err-Frame
unreachable-requires-in-Err-Frame g c =
    let k = c.in-Err-Frame.field-0-0 in
    let fault = c.in-Err-Frame.field-0-1 in
    let stopped = c.decode_file.ensures.frame k fault (c.in-Err-Frame.is ∙ ap Err c.in-Err-Frame.field-0-is) c.args.coded.now c.new-source.ensures.bytes in
    let same : frame_refused k fault stopped.0 ≡ done c.requires.outcome.0 (c.requires.outcome.1 ∷ []) =
    c.requires.outcome.2.1 (frame_refused k fault stopped.0) stopped.1 in
    let status : 6 ≡ 0 = ap (λ (a : Answer). a.status) same in
    absurd (omega (arith, status))
