-- A new reader stands before the first bit.
use Rattle.std.proofs.Common.{rules}
use Rattle.bit_io.proofs.reader.BitReader.over.Goals as goal

pub returns-clause-place : goal.returns-clause-place
returns-clause-place c = search rules
