-- What pairs of a first group and a number of groups ask for.
use Rattle.std.specs.Prelude.{ℕ, List, [], map, sum}
use Rattle.dsdiff_spec.specs.Form.{Form}
use Rattle.dsdiff_spec.specs.Walk.{entry, entries}
use Rattle.dsdiff_spec.specs.Ranges.{wants, decoded_of}

-- how many groups, a group that is asked for twice counting twice
abbrev pub groups_asked : List (ℕ × ℕ) → ℕ
groups_asked pairs = sum (map (λ p. p.1) pairs)

-- the bytes of the frames that are read for them, where the sounds of sixteen frames are held
abbrev pub bytes_read : List ℕ → Form → List (ℕ × ℕ) → ℕ
bytes_read file form pairs = sum (map (λ k. (entry (entries file form) k).size) (decoded_of [] (map (λ w. w.frame) (wants form pairs)) 16))
