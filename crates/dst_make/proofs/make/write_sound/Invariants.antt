-- The frames before this one are written, and the maker stands behind them.
use Rattle.std.proofs.Common.{◌≡◌, ◌≤◌, length}
use Rattle.dst_spec.specs.Sample.{sound_bytes}
use Rattle.dsdiff_spec.specs.Made.{made_sound}
use Rattle.sound_maker.specs.Making.{maker_after}
use Rattle.dst_commands.specs.Writing.{Adds}
use Rattle.dst_make.proofs.make.write_sound.Given as goal

abbrev pub invariant-loop-frame : goal.invariant-loop-frame
invariant-loop-frame g l = record {
  maker : l.maker ≡ maker_after l.start l.frame l.fn.channels;
  room : length l.sound ≡ sound_bytes l.fn.channels;
  later : g.K.Sink.faults l.initial.sink ≤ g.K.Sink.faults l.sink;
  written : Adds (made_sound l.start l.frame l.fn.channels) (g.K.Sink.written l.initial.sink) (g.K.Sink.written l.sink) (g.K.Sink.room l.initial.sink)
      (g.K.Sink.room l.sink);
}
