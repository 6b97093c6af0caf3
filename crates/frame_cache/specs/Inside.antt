-- What a reader has inside, and what holds of it.
use Rattle.std.specs.Prelude.{◌≡◌, ◌+◌, ◌*◌, length}
use Rattle.dst_spec.specs.Sample.{sound_bytes}
use Rattle.frame_cache.specs.declared.reader.RangeReader.TheInside.{Inside}
use Rattle.frame_cache.specs.Slots.{held_in, AreSlots}
use Rattle.frame_cache.specs.Reader.{Reader, HoldsTogether}

abbrev pub reader_seen : Inside → Reader
reader_seen r = record { shape = r.channels; index = r.index; size = r.size; end = r.end; capacity = r.slots.cap; held = held_in r.slots.entries }

pub record IsWhole (r : Inside) : Type 0 where
  pub together : HoldsTogether (reader_seen r)
  pub slots : AreSlots r.slots.cap (sound_bytes r.channels) r.slots.entries
  pub spare : length r.spare.items ≡ sound_bytes r.channels
  pub stored : length r.stored.items ≡ 2 * (sound_bytes r.channels + 1)
  pub scratch : r.scratch.channels ≡ r.channels
