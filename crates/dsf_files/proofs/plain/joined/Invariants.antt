-- The pieces up to this one are there.
use Rattle.std.proofs.Common.{◌≡◌, flat_map, take}
use Rattle.dsf_files.proofs.plain.joined.Given as goal

abbrev pub invariant-loop-piece : goal.invariant-loop-piece
invariant-loop-piece l = l.bytes.items ≡ flat_map (λ p. p.now) (take l.piece-index l.pieces)
