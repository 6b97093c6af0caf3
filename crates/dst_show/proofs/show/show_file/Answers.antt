-- Each clause from how the summary, or the header of a frame, ends.
use Rattle.dst_show.proofs.ShownFiles.{has_shown}
use Rattle.dst_show.proofs.show.show_file.Goals as goal

-- ---- of the summary
pub returns-in-None-clause-lines : goal.returns-in-None-clause-lines
returns-in-None-clause-lines g c =
    (has_shown c.show_form.result c.in-None.is (g.met.S.Source.told_are_bytes c.args.source.now) c.show_form.ensures.ends).lines

pub returns-in-None-clause-frames : goal.returns-in-None-clause-frames
returns-in-None-clause-frames g c =
    (has_shown c.show_form.result c.in-None.is (g.met.S.Source.told_are_bytes c.args.source.now) c.show_form.ensures.ends).frames

pub returns-in-None-clause-file : goal.returns-in-None-clause-file
returns-in-None-clause-file g c =
    (has_shown c.show_form.result c.in-None.is (g.met.S.Source.told_are_bytes c.args.source.now) c.show_form.ensures.ends).file

pub returns-in-None-clause-cut_short : goal.returns-in-None-clause-cut_short
returns-in-None-clause-cut_short g c =
    (has_shown c.show_form.result c.in-None.is (g.met.S.Source.told_are_bytes c.args.source.now) c.show_form.ensures.ends).cut_short

pub returns-in-None-clause-sure : goal.returns-in-None-clause-sure
returns-in-None-clause-sure g c =
    (has_shown c.show_form.result c.in-None.is (g.met.S.Source.told_are_bytes c.args.source.now) c.show_form.ensures.ends).sure

pub returns-in-None-clause-added : goal.returns-in-None-clause-added
returns-in-None-clause-added g c =
    (has_shown c.show_form.result c.in-None.is (g.met.S.Source.told_are_bytes c.args.source.now) c.show_form.ensures.ends).added

pub returns-in-None-clause-stopped : goal.returns-in-None-clause-stopped
returns-in-None-clause-stopped g c =
    (has_shown c.show_form.result c.in-None.is (g.met.S.Source.told_are_bytes c.args.source.now) c.show_form.ensures.ends).stopped

-- ---- of one frame
pub returns-in-Some-clause-lines : goal.returns-in-Some-clause-lines
returns-in-Some-clause-lines g c =
    (has_shown c.show_header.result c.in-Some.is (g.met.S.Source.told_are_bytes c.args.source.now) c.show_header.ensures.ends).lines

pub returns-in-Some-clause-frames : goal.returns-in-Some-clause-frames
returns-in-Some-clause-frames g c =
    (has_shown c.show_header.result c.in-Some.is (g.met.S.Source.told_are_bytes c.args.source.now) c.show_header.ensures.ends).frames

pub returns-in-Some-clause-file : goal.returns-in-Some-clause-file
returns-in-Some-clause-file g c =
    (has_shown c.show_header.result c.in-Some.is (g.met.S.Source.told_are_bytes c.args.source.now) c.show_header.ensures.ends).file

pub returns-in-Some-clause-frame : goal.returns-in-Some-clause-frame
returns-in-Some-clause-frame g c =
    (has_shown c.show_header.result c.in-Some.is (g.met.S.Source.told_are_bytes c.args.source.now) c.show_header.ensures.ends).frame

pub returns-in-Some-clause-cut_short : goal.returns-in-Some-clause-cut_short
returns-in-Some-clause-cut_short g c =
    (has_shown c.show_header.result c.in-Some.is (g.met.S.Source.told_are_bytes c.args.source.now) c.show_header.ensures.ends).cut_short

pub returns-in-Some-clause-sure : goal.returns-in-Some-clause-sure
returns-in-Some-clause-sure g c =
    (has_shown c.show_header.result c.in-Some.is (g.met.S.Source.told_are_bytes c.args.source.now) c.show_header.ensures.ends).sure

pub returns-in-Some-clause-added : goal.returns-in-Some-clause-added
returns-in-Some-clause-added g c =
    (has_shown c.show_header.result c.in-Some.is (g.met.S.Source.told_are_bytes c.args.source.now) c.show_header.ensures.ends).added

pub returns-in-Some-clause-stopped : goal.returns-in-Some-clause-stopped
returns-in-Some-clause-stopped g c =
    (has_shown c.show_header.result c.in-Some.is (g.met.S.Source.told_are_bytes c.args.source.now) c.show_header.ensures.ends).stopped
