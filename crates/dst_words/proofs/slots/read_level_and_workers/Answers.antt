-- Words that aren't none, an option and its value, or two, set nothing.
use Rattle.std.proofs.Common.{◌≡◌, ◌≢◌, ◌≤◌, ◌*◌, ℕ, List, [], ◌∷◌, map, length, refl, ap, sym, ◌∙◌, arith, Option, None}
use Rattle.std.proofs.lemmas.List.{length-map}
use Rattle.std.specs.Prelude.{option_map}
use Rattle.std.specs.String.{string_bytes}
use Rattle.dsdiff_spec.specs.Words.{Word}
use Rattle.words_spec.specs.Slots.{level, workers}
use Rattle.words_spec.specs.Rows.{level_of, workers_of}
use Rattle.dst_words.specs.RowWords.{level_and_workers_in}
use Rattle.dst_words.proofs.Options.{unpaired_words}
use Rattle.dst_words.proofs.slots.read_level_and_workers.Goals as goal

unpaired : {A : Type 0} (f : A → Word) (options : List A) → ((k : ℕ) → k ≤ 2 → length options ≢ 2 * k) →
    ◌≡◌ {A = Option (ℕ × ℕ)} None (level_and_workers_in (map f options))
unfolding level_and_workers_in
unpaired f options other =
    sym (ap (option_map (λ (o : List (Word × ℕ)). (level_of o, workers_of o)))
    (unpaired_words 2 (level ∷ workers ∷ []) (map f options) (refl, (refl, tt)) (λ k most same. other k most (sym (length-map options f) ∙ same))))

pub returns-in_default-clause-set : goal.returns-in_default-clause-set
returns-in_default-clause-set c =
    unpaired string_bytes c.args.options.now (λ k most same. omega (arith, c.in_default.len_at_least, c.in_default.len_below, most, same))

pub returns-in_default-2-clause-set : goal.returns-in_default-2-clause-set
returns-in_default-2-clause-set c =
    unpaired string_bytes c.args.options.now (λ k most same. omega (arith, c.in_default.len_at_least, c.in_default.len_below, most, same))

pub returns-in_default-3-clause-set : goal.returns-in_default-3-clause-set
returns-in_default-3-clause-set c =
    unpaired string_bytes c.args.options.now (λ k most same. omega (arith, c.in_default.len_at_least, most, same))
