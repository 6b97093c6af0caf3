-- What holds of an index that fits a form, also of one from a source that tells no bytes.
use Rattle.std.specs.Prelude.{◌≡◌, ℕ, ◌+◌, ◌<◌, ◌≤◌, List, length}
use Rattle.dsdiff_spec.specs.Chunks.{body_place, body_end}
use Rattle.dsdiff_spec.specs.Form.{Form, longest_frame}
use Rattle.dsdiff_spec.specs.Walk.{Entry, entry}

-- an entry's head of 12 bytes and its body lie in `DST ` behind `FRTE`, and its frame isn't too long
pub record IsInside (form : Form) (e : Entry) : Type 0 where
  pub behind : body_place form.sound + 18 + 12 ≤ e.offset
  pub before : e.offset + e.size ≤ body_end form.sound
  pub short : e.size ≤ longest_frame form

-- as many entries as the form has frames, each inside, and each ends before the head of the next one
pub record IsIndexOf (form : Form) (es : List Entry) : Type 0 where
  pub count : length es ≡ form.frames
  pub inside : (k : ℕ) → k < length es → IsInside form (entry es k)
  pub order : (k : ℕ) → k + 1 < length es → (entry es k).offset + (entry es k).size + 12 ≤ (entry es (k + 1)).offset
