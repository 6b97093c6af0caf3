-- A byte that isn't a digit decides; behind the last one all are.
use Rattle.std.proofs.Common.{◌+◌, List, ℕ, drop, refl, ap, sym, ◌∙◌}
use Rattle.std.specs.Prelude.{◌&&◌}
use Rattle.std.specs.List.{list_all}
use Rattle.std.proofs.lemmas.List.{drop_all}
use Rattle.words_spec.specs.Slots.{is_digit}
use Rattle.dst_words.proofs.Digits.{split_at}
use Rattle.dst_words.proofs.slots.are_digits.Goals as goal

pub loop-byte-init : goal.loop-byte-init
loop-byte-init c = refl

pub loop-byte-preserved : goal.loop-byte-preserved
loop-byte-preserved c =
    let bytes : List ℕ = c.args.bytes.now in
    let i = c.loop-byte.byte-index in
    c.loop-byte.invariant ∙ split_at bytes i c.loop-byte-test.true
    ∙ ap (λ b. b && list_all is_digit (drop (i + 1) bytes)) (sym c.is_digit.ensures ∙ c.if-not-is_digit.false)

pub returns-then-not-is_digit : goal.returns-then-not-is_digit
returns-then-not-is_digit c =
    let bytes : List ℕ = c.args.bytes.now in
    let i = c.loop-byte.byte-index in
    sym (c.loop-byte.invariant ∙ split_at bytes i c.loop-byte-test.true
    ∙ ap (λ b. b && list_all is_digit (drop (i + 1) bytes)) (sym c.is_digit.ensures ∙ c.if-not-is_digit.true))

pub returns : goal.returns
returns c = sym (c.loop-byte.invariant ∙ ap (list_all is_digit) (drop_all c.loop-byte.byte-index c.args.bytes.now c.loop-byte-test.false))
