-- An id that is one of two equal ids is that id.
use Rattle.std.proofs.Common.{◌≡◌, Bool, true, false, map, refl, subst}
use Rattle.std.specs.Prelude.{◌||◌, bytes_eq}
use Rattle.std.proofs.lemmas.List.Elements.{filter_agree}
use Rattle.dsdiff_spec.specs.Chunks.{Head}
use Rattle.dsdiff_chunks.specs.Found.{FoundAre}
use Rattle.dsdiff_chunks.specs.Seen.{head_seen}
use Rattle.dsdiff_chunks.proofs.find.find.Goals as goal

or_itself : (b : Bool) → (b || b) ≡ b
or_itself true = refl
or_itself false = refl

pub returns : goal.returns
returns c =
    subst (FoundAre c.find_either.result)
    (filter_agree (λ (h : Head). bytes_eq h.id c.args.id || bytes_eq h.id c.args.id) (λ (h : Head). bytes_eq h.id c.args.id)
    (λ h. or_itself (bytes_eq h.id c.args.id)) (map head_seen c.args.heads.now))
    c.find_either.ensures
