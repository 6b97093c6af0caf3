-- A frame means one sound, or it means none and zeros stand for it.
use Rattle.std.proofs.Common.{◌≡◌, inl, inr, ℕ, List, length, ap, ◌∙◌}
use Rattle.std.proofs.lemmas.List.{length-replicate}
use Rattle.dst_spec.specs.Sample.{Shape, IsShape, sound_bytes}
use Rattle.dst_spec.specs.Means.{Means}
use Rattle.dst_spec.proofs.Unique.{one_meaning}
use Rattle.dsdiff_spec.specs.Ranges.{MeansOrZeros}

pub one_of_both : (f : Shape) (w a b : List ℕ) → IsShape f → Means f w a → MeansOrZeros f w b → b ≡ a
one_of_both f w a b lawful m (inl n) = one_meaning f w b a lawful n m
one_of_both f w a b lawful m (inr none) = absurd (none.0 a m)

pub long_of_both : (f : Shape) (w b : List ℕ) → MeansOrZeros f w b → length b ≡ sound_bytes f
long_of_both f w b (inl n) = n.0.long
long_of_both f w b (inr none) = ap length none.1 ∙ length-replicate (sound_bytes f) 0
