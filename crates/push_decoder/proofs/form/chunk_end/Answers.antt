-- A chunk ends behind its pad byte, or without it at the end of its part.
use Rattle.std.proofs.Common.{rules}
use Rattle.push_decoder.proofs.form.chunk_end.Goals as goal

pub returns : goal.returns
returns c = search rules
