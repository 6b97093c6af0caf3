-- A step that stops stops the steps around it.
use Rattle.std.proofs.Common.{◌≡◌, ℕ, ◌≤◌, List, Option, Some, ◌∙◌, arith}
use Rattle.dsdiff_spec.specs.declared.faults.FileFault.{FileFault}
use Rattle.dsdiff_chunks.specs.declared.open.OpenFault.{OpenFault}
use Rattle.dsdiff_chunks.specs.declared.open.OpenFault.TheVariants.{Read, Memory, File}
use Rattle.dsdiff_chunks.specs.Opening.{HasOpenCause}

pub HasOpenCause-in : (inner outer : List ℕ → Option FileFault) (bytes there : Option (List ℕ)) (before later now : ℕ) (fault : OpenFault) →
    there ≡ bytes → before ≤ later →
    ((xs : List ℕ) (f : FileFault) → bytes ≡ Some xs → inner xs ≡ Some f → outer xs ≡ Some f) →
    HasOpenCause inner there later now fault → HasOpenCause outer bytes before now fault
HasOpenCause-in inner outer bytes there before later now Read same le step stops = omega arith
HasOpenCause-in inner outer bytes there before later now (Memory refused) same le step stops = tt
HasOpenCause-in inner outer bytes there before later now (File f) same le step stops = λ xs told. step xs f told (stops xs (same ∙ told))
