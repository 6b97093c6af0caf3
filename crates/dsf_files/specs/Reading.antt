-- What is read of the sound.
use Rattle.std.specs.Prelude.{◌≡◌, ℕ, List, take, drop, Option, Some, None}
use Rattle.dsf_files.specs.declared.form.DsfForm.{DsfForm}
use Rattle.dsf_files.specs.Forms.{dsf_seen}
use Rattle.dsf_files.specs.Standing.{sound}

-- the first bytes of out are those of the sound from a place on, where the file's bytes are told
abbrev pub HoldsSound : Option (List ℕ) → DsfForm → ℕ → ℕ → List ℕ → Type 0
HoldsSound None form place count out = Unit {0}
HoldsSound (Some f) form place count out = take count out ≡ take count (drop place (sound f (dsf_seen form)))
