-- The file is accepted, and the sink has room.
use Rattle.std.proofs.Common.{◌≡◌, ◌≤◌, ◌∙◌, ap, sym, subst, length, Some, None, Err}
use Rattle.level_spec.specs.Picks.{level_picks}
use Rattle.dsdiff_spec.specs.Coded.{coded}
use Rattle.dsdiff_spec.specs.Rules.{accepted}
use Rattle.dst_write.specs.declared.faults.EncodeFault.TheVariants.{Source}
use Rattle.dst_tool.proofs.making.code_whole.Goals as goal

pub unreachable-requires-in-Err-Source-File : goal.unreachable-requires-in-Err-Source-File
unreachable-requires-in-Err-Source-File g c =
    let fault = c.in-Err-Source-File.field-0-0-0 in
    let is = c.in-Err-Source-File.is ∙ ap Err (c.in-Err-Source-File.field-0-is ∙ ap Source c.in-Err-Source-File.field-0-0-is) in
    let refused = c.encode_file.ensures.file fault is c.args.made.now c.new-source.ensures.bytes 2 in
    let none : None ≡ Some fault = sym c.requires.accepted ∙ refused in
    absurd cc

pub unreachable-requires-in-Err-Write : goal.unreachable-requires-in-Err-Write
unreachable-requires-in-Err-Write g c =
    let is = c.in-Err-Write.is ∙ ap Err c.in-Err-Write.field-0-is in
    let fits = subst (λ level. length (coded (level_picks level) c.args.made.now (accepted c.args.made.now)) ≤ c.requires.room.0)
    (sym c.in-Some.ensures.level) c.requires.room.2 in
    c.encode_file.ensures.sure is c.args.made.now c.new-source.ensures.bytes c.requires.room.0 c.requires.room.1 fits
