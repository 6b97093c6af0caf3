-- The frame that is read has the parts that are shown, or is refused in front of its code.
use Rattle.std.proofs.Common.{◌≡◌, ℕ, List, length, ap, refl, sym, subst, ◌∙◌, arith}
use Rattle.dsdiff_spec.specs.Bytes.{bytes_at}
use Rattle.dsdiff_spec.specs.Walk.{frame_at}
use Rattle.dst_commands.specs.declared.opened.FoundFrame.{FoundFrame}
use Rattle.frame_index.specs.Entries.{entry_seen}
use Rattle.dst_show.specs.Reporting.{IsShown}
use Rattle.dst_show.proofs.FrameSounds.{found_inside}
use Rattle.dst_show.proofs.Viewed.{view_is_shown, refuses_shown}
use Rattle.dst_show.proofs.show.header_line.Goals as goal

-- what is read is the frame
is_frame : (file : List ℕ) (found : FoundFrame) (n : ℕ) (out : List ℕ) → n ≡ found.entry.size → out ≡ bytes_at file found.entry.offset n →
    out ≡ frame_at file (entry_seen found.entry)
is_frame file found n out long read = read ∙ ap (bytes_at file found.entry.offset) long

pub returns-in-Ok-view_frame-clause-shown : goal.returns-in-Ok-view_frame-clause-shown
returns-in-Ok-view_frame-clause-shown g c file told =
    let long : length c.args.bytes.now ≡ c.args.found.now.entry.size = c.requires.long in
    let count : length c.read_range.new.out ≡ c.args.found.now.entry.size = c.read_range.auto.out ∙ long in
    let view = c.in-Ok-view_frame.ensures in
    subst (λ w. IsShown c.args.found.now.form.channels c.args.frame w c.line_of_view.result.bytes)
    (is_frame file c.args.found.now _ _ long (c.in-Ok.ensures.read file told))
    (view_is_shown c.args.found.now.form.channels c.args.frame c.from.result c.read_range.new.out c.line_of_view.result.bytes c.in-Ok-view_frame.view
    (count ∙ sym c.from.ensures) c.line_of_view.ensures
    view.plain view.plain_whole view.inside view.header view.first_bit view.range view.coded_whole)

pub returns-in-Err-clause-unshown : goal.returns-in-Err-clause-unshown
returns-in-Err-clause-unshown g c = (
  refl,
  λ file told.
      refuses_shown c.args.frame _ _ _ _ (is_frame file c.args.found.now _ _ c.requires.long (c.in-Ok.ensures.read file told)) c.in-Err.ensures.fault
      c.in-Err.ensures.reason,
)

pub read_range-requires-clause-fits : goal.read_range-requires-clause-fits
read_range-requires-clause-fits g c =
    let inside = found_inside c.args.found.now _ c.requires.long in
    omega (arith, inside, c.args.found.now.form.lawful.end)

pub read_range-requires-clause-inside : goal.read_range-requires-clause-inside
read_range-requires-clause-inside g c =
    let inside = found_inside c.args.found.now _ c.requires.long in
    (c.requires.size.0, c.requires.size.1, omega (arith, inside, c.requires.size.2))
