-- The one word of an option asks for the index.
use Rattle.std.proofs.Common.{◌≡◌, ◌<◌, ◌≤◌, true, List, [], ◌∷◌, length, map, get_or, refl, ap, sym, ◌∙◌, arith, Option, Some}
use Rattle.std.specs.Prelude.{Bool, codes, bytes_eq}
use Rattle.std.proofs.lemmas.Slice.Eq.{bytes_eq-Decides}
use Rattle.std.specs.String.{string_bytes}
use Rattle.dsdiff_spec.specs.Words.{Word}
use Rattle.dst_words.specs.RowWords.{by_index_in}
use Rattle.dst_words.proofs.slots.read_by_index.Goals as goal

asked_for : {A : Type 0} (f : A → Word) (options : List A) (x : A) → 1 ≤ length options → length options < 2 →
    bytes_eq (f (get_or options 0 x)) (codes "--by-index") ≡ true → ◌≡◌ {A = Option Bool} (Some true) (by_index_in (map f options))
asked_for f [] x least most is = absurd (omega arith)
asked_for f (o ∷ []) x least most is = let same = (bytes_eq-Decides (f o) (codes "--by-index")).0 is in rw same refl
asked_for f (o ∷ p ∷ options) x least most is = absurd (omega arith)

pub returns-in-len1 : goal.returns-in-len1
returns-in-len1 c =
    let word = c.as_str.ensures.value ∙ ap (λ s. string_bytes s) c.name-item.is in
    asked_for (λ s. string_bytes s) c.args.options.now c.name-item.result c.in-len1.len_at_least c.in-len1.len_below
    (ap (λ w. bytes_eq w (codes "--by-index")) (sym word) ∙ sym c.eq.ensures ∙ c.if-eq.true)
