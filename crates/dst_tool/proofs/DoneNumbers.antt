-- What each command answers that is done, in the words of the report.
use Rattle.dst_tool.specs.declared.answers.Numbers.{Numbers}
use Rattle.dst_write.specs.declared.faults.Encoded.{Encoded}
use Rattle.dst_read.specs.declared.faults.Decoded.{Decoded}
use Rattle.dst_read.specs.declared.faults.Checked.{Checked}
use Rattle.dst_cut.specs.declared.cut.Cut.{Cut}
use Rattle.dst_make.specs.declared.make.Made.{Made}
use Rattle.dst_ranges.specs.declared.range.RangeWritten.{RangeWritten}
use Rattle.dst_show.specs.declared.faults.FrameWritten.{FrameWritten}
use Rattle.dst_show.specs.declared.faults.Reported.{Reported}

abbrev pub of_encoded : Encoded → Numbers
of_encoded d = record { frames = d.frames; bytes = d.bytes; unread = 0; restored = 0 }

abbrev pub of_decoded : Decoded → Numbers
of_decoded d = record { frames = d.frames; bytes = d.bytes; unread = 0; restored = 0 }

abbrev pub of_cut_out : Cut → Numbers
of_cut_out d = record { frames = d.frames; bytes = 0; unread = 0; restored = 0 }

abbrev pub of_written : FrameWritten → Numbers
of_written f = record { frames = 1; bytes = f.bytes; unread = 0; restored = 0 }

abbrev pub of_ranged : RangeWritten → Numbers
of_ranged r = record { frames = 0; bytes = r.bytes; unread = 0; restored = 0 }

abbrev pub of_made : Made → Numbers
of_made d = record { frames = d.frames; bytes = 0; unread = 0; restored = 0 }

abbrev pub of_checked : Checked → Numbers
of_checked d = record { frames = d.frames; bytes = 0; unread = d.unread; restored = 0 }

abbrev pub of_reported : Reported → Numbers
of_reported d = record { frames = d.frames; bytes = 0; unread = 0; restored = 0 }
