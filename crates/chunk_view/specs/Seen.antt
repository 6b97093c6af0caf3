-- What a view shows.
use Rattle.std.specs.Prelude.{ℕ, List, [], ◌∷◌, Option, Some, None}
use Rattle.chunk_view.specs.declared.view.ChunkView.{ChunkView}
use Rattle.chunk_view.specs.Placed.{PlacedChunk}

abbrev pub pad_bytes : Option ℕ → List ℕ
pad_bytes None = []
pad_bytes (Some pad) = pad ∷ []

abbrev pub seen : ChunkView → PlacedChunk
seen v = record { place = v.place; chunk = record { id = v.id; body = v.body.now; pad = pad_bytes v.pad } }
