-- The parts in which pairs of a first group and a number of groups are written: one for each frame that a pair touches, in rising order.
use Rattle.std.specs.Prelude.{ℕ, ◌+◌, ◌-◌, ◌*◌, min, max, List, map, flat_map, sum}
use Rattle.dsdiff_spec.specs.Bytes.{bytes_at}
use Rattle.dsdiff_spec.specs.Ranges.{touched}

-- a frame, and the place and the number of the bytes of the sound that are written of it
pub record Part : Type 0 where
  pub frame : ℕ
  pub from : ℕ
  pub count : ℕ

abbrev pub part : ℕ → ℕ → ℕ → Part
part k from count = record { frame = k; from = from; count = count }

-- of the bytes from a up to b of a sound whose frames have n bytes each
abbrev pub parts_between : ℕ → ℕ → ℕ → List Part
parts_between n a b = map (λ k. part k (max a (k * n)) (min b ((k + 1) * n) - max a (k * n))) (touched n a b)

-- of pairs of groups of c bytes each
abbrev pub parts_of : ℕ → ℕ → List (ℕ × ℕ) → List Part
parts_of n c pairs = flat_map (λ p. parts_between n (p.0 * c) ((p.0 + p.1) * c)) pairs

abbrev pub frames_wanted : List Part → List ℕ
frames_wanted parts = map (λ p. p.frame) parts

abbrev pub counts_of : List Part → ℕ
counts_of parts = sum (map (λ p. p.count) parts)

-- the bytes of a sound in some parts, one part after the other
abbrev pub bytes_of : List ℕ → List Part → List ℕ
bytes_of sound parts = flat_map (λ p. bytes_at sound p.from p.count) parts
