-- One more chunk behind the first makes several, and the first stays what it is.
use Rattle.std.proofs.Common.{◌≡◌, List, [], ◌∷◌, ◌++◌, ap, subst}
use Rattle.dsdiff_spec.specs.Chunks.{Head}
use Rattle.dsdiff_chunks.specs.Found.{FoundAre}
use Rattle.dsdiff_chunks.specs.Seen.{head_seen}
use Rattle.dsdiff_chunks.proofs.find.and_then.Goals as goal

pub returns-in-One : goal.returns-in-One
returns-in-One c heads found =
    let one : heads ≡ head_seen c.in-One.first ∷ [] = subst (λ v. FoundAre v heads) c.in-One.is found in
    (head_seen c.args.head, [], ap (λ hs. hs ++ head_seen c.args.head ∷ []) one)

pub returns-in-Several : goal.returns-in-Several
returns-in-Several c heads found =
    let several : (i : Head) × (more : List Head) × (heads ≡ head_seen c.in-Several.first ∷ i ∷ more) =
    subst (λ v. FoundAre v heads) c.in-Several.is found in
    (several.0, several.1 ++ head_seen c.args.head ∷ [], ap (λ hs. hs ++ head_seen c.args.head ∷ []) several.2)
