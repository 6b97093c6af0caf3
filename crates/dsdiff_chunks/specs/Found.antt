-- What a search for chunks found.
use Rattle.std.specs.Prelude.{◌≡◌, List, [], ◌∷◌}
use Rattle.dsdiff_spec.specs.Chunks.{Head}
use Rattle.dsdiff_chunks.specs.declared.find.Finding.{Finding}
use Rattle.dsdiff_chunks.specs.declared.find.Finding.TheVariants.{Nothing, One, Several}
use Rattle.dsdiff_chunks.specs.Seen.{head_seen}

abbrev pub FoundAre : Finding → List Head → Type 0
FoundAre Nothing heads = heads ≡ []
FoundAre (One h) heads = heads ≡ head_seen h ∷ []
FoundAre (Several h) heads = (i : Head) × (more : List Head) × (heads ≡ head_seen h ∷ i ∷ more)
