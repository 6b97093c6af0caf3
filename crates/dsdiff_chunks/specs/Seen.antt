-- What the values of this crate are in the definitions of files.
use Rattle.std.specs.Prelude.{ℕ, ◌/◌, List, [], map, Option, None, option_map}
use Rattle.dst_spec.specs.Sample.{Shape}
use Rattle.dsdiff_spec.specs.Chunks.{Head}
use Rattle.dsdiff_spec.specs.Form as files
use Rattle.dsdiff_chunks.specs.declared.lists.ChunkHead.{ChunkHead}
use Rattle.dsdiff_chunks.specs.declared.origin.Origin.{Origin}

abbrev pub head_seen : ChunkHead → Head
head_seen h = record { id = h.id; place = h.place; size = h.size }

abbrev pub origin_seen : Origin → files.Origin
origin_seen o = record { sound = o.sound; pad = o.pad; cmpr = o.cmpr; kept = o.kept }

-- a plain form, by what it has
abbrev pub form_of_plain : Shape → ℕ → List ChunkHead → List ℕ → ChunkHead → ℕ → ℕ → List ℕ → files.Form
form_of_plain shape end heads prop sound frames pad behind = record {
  kind = files.plain;
  channels = shape.channels;
  multiple = shape.octets / 4704;
  end = end;
  chunks = map head_seen heads;
  prop = prop;
  sound = head_seen sound;
  frames = frames;
  origin = None;
  pad = pad;
  behind = behind;
}

-- a coded form, by what it has
abbrev pub form_of_coded : Shape → ℕ → List ChunkHead → List ℕ → ChunkHead → ℕ → Option Origin → files.Form
form_of_coded shape end heads prop sound frames origin = record {
  kind = files.coded;
  channels = shape.channels;
  multiple = shape.octets / 4704;
  end = end;
  chunks = map head_seen heads;
  prop = prop;
  sound = head_seen sound;
  frames = frames;
  origin = option_map origin_seen origin;
  pad = 0;
  behind = [];
}
