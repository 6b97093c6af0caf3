-- The byte 0 and the copied sound are the plain form.
use Rattle.std.proofs.Common.{◌+◌, ◌∷◌, length, ap, sym, ◌∙◌}
use Rattle.frame_store.proofs.Spelled.{plain-is}
use Rattle.frame_store.proofs.store.keep_plain.Goals as goal

pub returns : goal.returns
returns c = plain-is c.args.plain.now c.copy_from_slice.new.self (c.requires ∙ ap (λ xs. 1 + length xs) (sym c.copy_from_slice.ensures.after))
    ∙ ap (λ xs. 0 ∷ xs) c.copy_from_slice.ensures.after
