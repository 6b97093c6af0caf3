-- A chunk with one of the ids comes behind those that were found; any other leaves them as they are.
use Rattle.std.proofs.Common.{◌≡◌, ◌+◌, ℕ, ◌<◌, Bool, true, false, cond, List, [], ◌∷◌, ◌++◌, length, get_or, map, take, sym, ap, ◌∙◌, subst, append-nil}
use Rattle.std.specs.Prelude.{◌||◌, bytes_eq, filter}
use Rattle.std.proofs.lemmas.List.{take_more, map-append}
use Rattle.std.proofs.lemmas.List.Elements.{filter-append}
use Rattle.dsdiff_spec.specs.Chunks.{Head}
use Rattle.dsdiff_chunks.specs.declared.lists.ChunkHead.{ChunkHead}
use Rattle.dsdiff_chunks.specs.Found.{FoundAre}
use Rattle.dsdiff_chunks.specs.Seen.{head_seen}
use Rattle.dsdiff_chunks.proofs.find.find_either.Goals as goal
use Rattle.dsdiff_chunks.proofs.find.find_either.Goals.{then-has_either, else-has_either}

passed_more : (p : Head → Bool) (xs : List ChunkHead) (i : ℕ) (x : ChunkHead) (b : Bool) → i < length xs → p (head_seen (get_or xs i x)) ≡ b →
    filter p (map head_seen (take (i + 1) xs)) ≡ filter p (map head_seen (take i xs)) ++ cond b (head_seen (get_or xs i x) ∷ []) []
passed_more p xs i x b lt e =
    ap (λ v. filter p (map head_seen v)) (take_more xs i x lt)
    ∙ ap (filter p) (map-append head_seen (take i xs) (get_or xs i x ∷ []))
    ∙ filter-append p (map head_seen (take i xs)) (head_seen (get_or xs i x) ∷ [])
    ∙ ap (λ b. filter p (map head_seen (take i xs)) ++ cond b (head_seen (get_or xs i x) ∷ []) []) e

abbrev none : ChunkHead
none = record { id = []; place = 0; size = 0 }

pub loop-head-preserved : goal.loop-head-preserved
loop-head-preserved c =
    let p : Head → Bool = λ h. bytes_eq h.id c.args.id || bytes_eq h.id c.args.other in
    let heads = c.args.heads.now in
    let i = c.loop-head.head-index in
    elim c.if-has_either.branch [
      | then-has_either w ↦
          subst (λ v. FoundAre v (filter p (map head_seen (take (i + 1) heads)))) (sym w.found-is)
          (subst (FoundAre w.and_then-found.result)
          (sym (passed_more p heads i none true c.loop-head-test.true (sym c.has_either.ensures ∙ w.if-has_either.true)))
          (w.and_then-found.ensures (filter p (map head_seen (take i heads))) c.loop-head.invariant))
      | else-has_either w ↦
          subst (λ v. FoundAre v (filter p (map head_seen (take (i + 1) heads)))) (sym w.found-is)
          (subst (FoundAre c.loop-head.found)
          (sym (passed_more p heads i none false c.loop-head-test.true (sym c.has_either.ensures ∙ w.if-has_either.false) ∙ append-nil _))
          c.loop-head.invariant)
    ]
