-- An index in a file: why there is none to read, what it reads as, and where another list differs from it first.
use Rattle.std.specs.Prelude.{◌≡◌, ℕ, ◌+◌, ◌<◌, Bool, false, not, ◌&&◌, ◌==◌, List, length, Option}
use Rattle.dsdiff_spec.specs.Bytes.{◌below◌, ◌above◌}
use Rattle.dsdiff_spec.specs.Chunks.{body_place, body_end}
use Rattle.dsdiff_spec.specs.Faults.{◌when◌, ◌otherwise◌}
use Rattle.dsdiff_spec.specs.Form.{Form}
use Rattle.dsdiff_spec.specs.Walk.{Entry, entry, index_heads, has_index_of, indexed, same_entry}
use Rattle.dsdiff_spec.specs.declared.faults.FileFault.{FileFault}
use Rattle.dsdiff_spec.specs.declared.faults.FileFault.TheVariants.{IndexMissing, IndexBad}

-- there is none, or it has another size than twelve bytes for each frame of the frame count, which is a fault of some entry
abbrev pub index_fault : Form → ℕ → Option FileFault
index_fault form entry =
    IndexMissing when length (index_heads form) == 0
    otherwise IndexBad entry when not (has_index_of form form.frames)

-- as many entries as the form has frames, each as the file has it
pub record IsRead (file : List ℕ) (form : Form) (es : List Entry) : Type 0 where
  pub count : length es ≡ form.frames
  pub entries : (k : ℕ) → k < form.frames → entry es k ≡ indexed file form k

-- entry k differs, and none before it
pub record DifferFirstAt (k : ℕ) (a b : List Entry) : Type 0 where
  pub within : k < length a
  pub differs : same_entry (entry a k) (entry b k) ≡ false
  pub before : (j : ℕ) → j < k → entry a j ≡ entry b j

-- an entry and the twelve bytes before it lie in `DST ` behind `FRTE`
abbrev pub lies_inside : Form → Entry → Bool
lies_inside form e = not (e.offset below body_place form.sound + 18 + 12) && not (e.offset + e.size above body_end form.sound)
