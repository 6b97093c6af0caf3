-- Two words at a time are read as a pair.
use Rattle.std.proofs.Common.{◌≡◌, ◌+◌, ◌*◌, ◌/◌, ◌≤◌, ℕ, List, [], ◌∷◌, map, length, ap, sym, subst, ◌∙◌, arith}
use Rattle.std.proofs.lemmas.List.{length-map, length-append}
use Rattle.std.specs.String.{string_bytes}
use Rattle.dsdiff_spec.specs.Words.{Word}
use Rattle.dst_words.specs.RowWords.{number_pairs, pairs_in}
use Rattle.dst_words.proofs.Ranges.{are_pairs, are_no_pairs}
use Rattle.dst_words.proofs.PairWords.{AreReadSoFar, none_yet, one_more_read, first_is_none, second_is_none, all_are_read}
use Rattle.dst_words.proofs.slots.read_pairs.Goals as goal
use Rattle.dst_words.proofs.slots.read_pairs.Goals.{then-count-lt1-via-then-count-lt1, then-count-lt1-via-else-count-lt1+then-count-gt16}
use Rattle.dst_words.proofs.slots.read_pairs.Goals.{then-count-lt1-via-else-count-lt1+else-count-gt16+then-words-count}

pub returns-then-count-lt1-clause-pairs : goal.returns-then-count-lt1-clause-pairs
returns-then-count-lt1-clause-pairs c =
    let words : List Word = map string_bytes c.args.words.now in
    let long : length words ≡ length c.args.words.now = length-map c.args.words.now (λ s. string_bytes s) in
    sym (are_no_pairs words (λ n least most same. elim c.then-count-lt1.branch [
      | then-count-lt1-via-then-count-lt1 w ↦ omega (arith, w.if-count-lt1.true, long, same)
      | then-count-lt1-via-else-count-lt1+then-count-gt16 w ↦ omega (arith, w.if-count-gt16.true, long, same)
      | then-count-lt1-via-else-count-lt1+else-count-gt16+then-words-count w ↦ w.if-words-count.true (omega (arith, long, same))
    ]))

pub loop-k-init : goal.loop-k-init
loop-k-init c =
    let words : List Word = map string_bytes c.args.words.now in (
      ap length c.new-pairs.ensures,
      subst (AreReadSoFar words 0) (sym c.new-pairs.ensures) (none_yet words),
    )

-- words that are as many as pairs are read as such
pairs_read : {S : Type 0} (f : S → Word) (words : List S) (n : ℕ) → 1 ≤ n → n ≤ 16 → length words ≡ 2 * n → pairs_in (map f words) ≡ number_pairs (map f words)
pairs_read f words n least most is = are_pairs (map f words) n (least, most, length-map words f ∙ is)

pub loop-k-preserved : goal.loop-k-preserved
loop-k-preserved c = (
  ap length c.push.ensures ∙ length-append c.loop-k.pairs ((c.in_ok-from.from, c.in_ok-count.count) ∷ []) ∙ ap (λ n. n + 1) c.loop-k.invariant.0,
  subst (AreReadSoFar _ (c.loop-k.k + 1)) (sym c.push.ensures)
      (one_more_read _ c.args.words.now c.loop-k.k _ _ c.loop-k.pairs _ _ (omega arith) c.loop-k.invariant.1 c.index-words-k.is
      c.index-words-k-in-loop-k.is c.in_ok-from.ensures c.in_ok-count.ensures),
)

pub returns-in_err-from-clause-pairs : goal.returns-in_err-from-clause-pairs
returns-in_err-from-clause-pairs c =
    c.from_residual.ensures
    ∙ sym (pairs_read string_bytes c.args.words.now (length c.args.words.now / 2) (omega arith) (omega arith) (omega arith)
    ∙ first_is_none _ c.args.words.now c.loop-k.k c.loop-k.pairs _ (omega arith) c.loop-k.invariant.1 c.index-words-k.is c.in_err-from.ensures)

pub returns-in_err-count-clause-pairs : goal.returns-in_err-count-clause-pairs
returns-in_err-count-clause-pairs c =
    c.from_residual-in_err-count.ensures
    ∙ sym (pairs_read string_bytes c.args.words.now (length c.args.words.now / 2) (omega arith) (omega arith) (omega arith)
    ∙ second_is_none _ c.args.words.now c.loop-k.k c.loop-k.pairs _ (omega arith) c.loop-k.invariant.1 c.index-words-k-in-loop-k.is c.in_err-count.ensures)

pub returns-clause-pairs : goal.returns-clause-pairs
returns-clause-pairs c =
    sym (pairs_read string_bytes c.args.words.now (length c.args.words.now / 2) (omega arith) (omega arith) (omega arith)
    ∙ all_are_read (map string_bytes c.args.words.now) c.loop-k.k c.loop-k.pairs
    (omega (arith, length-map c.args.words.now (λ s. string_bytes s))) c.loop-k.invariant.1)
