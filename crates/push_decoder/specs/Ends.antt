-- What a decoder is when what it lent is done with.
use Rattle.std.specs.Prelude.{⊤}
use Rattle.std.specs.Borrow.{follows_so, Fml, MutBor}
use mathlib.Core.Option.{none}
use Rattle.push_decoder.specs.declared.decoder.PushDecoder.{PushDecoder}
use Rattle.push_decoder.specs.contracts.decoder.PushDecoder.{the_row}

-- it ends at a value of which P holds
abbrev pub Ends : MutBor PushDecoder → (PushDecoder → Type 0) → Fml
Ends s P = follows_so the_row the_row s.ghost_name none (λ _ _. ⊤) P
