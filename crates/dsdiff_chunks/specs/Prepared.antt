-- What the rules on all forms leave: the parts of a form, which the rules on its kind speak of.
use Rattle.std.specs.Prelude.{◌≡◌, ℕ, ◌+◌, ◌≤◌, List, length, map, Option, Some, None}
use Rattle.dsdiff_spec.specs.Chunks.{Head}
use Rattle.dsdiff_spec.specs.Form.{shape_of}
use Rattle.dsdiff_spec.specs.Parts.{form_end, top_level, prop_head, prop, sound_head, channel_count, multiple, kind}
use Rattle.dsdiff_spec.specs.Rules.{local_fault, kind_fault, form_fault}
use Rattle.dsdiff_chunks.specs.declared.build.Parts.{Parts}
use Rattle.dsdiff_chunks.specs.Seen.{head_seen}
use Rattle.dsdiff_chunks.specs.Kinds.{kind_seen}
use Rattle.dsdiff_chunks.specs.Steps.{AreChunks, IsTheSound}

abbrev pub heads_of : Parts → List Head
heads_of p = map head_seen p.chunks.heads.items

-- a file has these parts and keeps the rules on all forms
pub record HasParts (file : List ℕ) (p : Parts) : Type 0 where
  pub left : form_fault file ≡ kind_fault (kind file) file
  pub long : length file ≡ p.chunks.size
  pub ends : form_end file ≡ p.chunks.end
  pub chunks : (top_level file).heads ≡ heads_of p
  pub prop_is : prop_head file ≡ head_seen p.prop_head
  pub body : prop file ≡ p.prop.body.items
  pub sound : sound_head file ≡ head_seen p.sound.head

-- the same of a source, which may tell no bytes
pub record AreParts (bytes : Option (List ℕ)) (known : Option ℕ) (p : Parts) : Type 0 where
  pub chunks : AreChunks bytes known p.chunks.size p.chunks.end (heads_of p)
  pub most : length p.prop.body.items ≤ 65536
  pub long : length p.prop.body.items ≡ p.prop_head.size
  pub rules : local_fault (p.prop_head.place + 12) p.prop.body.items ≡ None
  pub shape : p.prop.fields.channels ≡ shape_of (channel_count p.prop.body.items) (multiple p.prop.body.items)
  pub sound : IsTheSound (heads_of p) p.prop_head.place p.prop.fields.compression (kind_seen p.sound.kind) (head_seen p.sound.head)
  pub told : (xs : List ℕ) → bytes ≡ Some xs → HasParts xs p
