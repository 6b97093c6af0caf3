-- Entries of an index put one behind the other, and some of them behind others.
use Rattle.std.proofs.Common.{◌≡◌, ℕ, ◌+◌, ◌<◌, List, [], ◌∷◌, ◌++◌, length, take, drop, get_or, ap, sym, ◌∙◌, append-nil}
use Rattle.std.proofs.lemmas.Grind.{flat_map-append}
use Rattle.std.proofs.lemmas.List.{take_more}
use Rattle.std.proofs.Math.Seq.{take-add}
use Rattle.dsdiff_spec.specs.Walk.{Entry}
use Rattle.dsdiff_spec.proofs.ByteLists.{entry_bytes}
use Rattle.dst_cut.specs.CutLayout.{index_bytes}

pub one_more_entry : (es : List Entry) (k : ℕ) (none : Entry) (piece : List ℕ) → k < length es → piece ≡ entry_bytes (get_or es k none) →
    index_bytes (take k es) ++ piece ≡ index_bytes (take (k + 1) es)
one_more_entry es k none piece l is =
    ap (λ w. index_bytes (take k es) ++ w) (is ∙ sym (append-nil (entry_bytes (get_or es k none))))
    ∙ sym (flat_map-append entry_bytes (take k es) (get_or es k none ∷ []))
    ∙ ap index_bytes (sym (take_more es k none l))

pub more_entries : (es : List Entry) (k count : ℕ) {piece : List ℕ} → piece ≡ index_bytes (take count (drop k es)) →
    index_bytes (take k es) ++ piece ≡ index_bytes (take (k + count) es)
more_entries es k count is =
    ap (λ w. index_bytes (take k es) ++ w) is
    ∙ sym (flat_map-append entry_bytes (take k es) (take count (drop k es)))
    ∙ ap index_bytes (sym (take-add k count es))
