-- The top bit of each byte is carried into the next one, and what is carried at the end is the oldest sample.
use Rattle.std.proofs.Common.{◌≡◌, ◌≢◌, ℕ, ◌+◌, ◌*◌, ◌/◌, ◌%◌, ◌<◌, [], ◌∷◌, ◌++◌, length, get_or, take, set, refl, ap, sym, ◌∙◌, rules, arith}
use Rattle.std.proofs.lemmas.List.{take_all, take_more, take_more_set, get_or-set_other, length-set}
use Rattle.dst_spec.specs.Header.{bit_of}
use Rattle.byte_predictor.specs.Samples.{samples_of}
use Rattle.byte_predictor.proofs.Bits.{bit_of-from, carry-through, shifted_more, nothing-carried}
use Rattle.byte_predictor.proofs.history.shift_in.Goals as goal

pub loop-j-init : goal.loop-j-init
loop-j-init c =
    let bit = bit_of-from c.args.sample c.from-carry.result c.from-carry.ensures in
    (nothing-carried (bit_of c.args.sample) c.from-carry.result bit.0, bit.1, λ k h. refl, omega arith, omega arith)

pub loop-j-preserved : goal.loop-j-preserved
loop-j-preserved c =
    let j = c.loop-j.j in
    let old = c.args.bytes.now in
    let now = c.loop-j.bytes in
    let byte = get_or now j 0 in
    let moved = byte % 128 * 2 + c.loop-j.carry in
    let long : length now ≡ 16 = c.loop-j.invariant.3 in
    let first : length old ≡ 16 = c.loop-j.invariant.4 in
    let small : byte < 256 = search rules in
    let same : byte ≡ get_or old j 0 = c.loop-j.invariant.2 j (omega arith) in
    let grown : take (j + 1) old ≡ take j old ++ byte ∷ [] = take_more old j 0 (omega arith) ∙ ap (λ b. take j old ++ b ∷ []) (sym same) in
    let placed : take (j + 1) (set now j moved) ≡ take j now ++ moved ∷ [] = take_more_set now j moved (omega arith) in
    let through = carry-through 7 c.loop-j.carry byte c.loop-j.invariant.1 (omega (arith, small)) in
    let further = shifted_more (bit_of c.args.sample) c.loop-j.carry byte moved (byte / 128) (take j old) (take j now) c.loop-j.invariant.0 through in
    let apart : (k : ℕ) → j + 1 < k + 1 → k ≢ j = λ k h e. omega arith in (
      ap (λ t. bit_of c.args.sample ∷ samples_of t) grown ∙ further ∙ ap (λ t. samples_of t ++ (byte / 128) ∷ []) (sym placed),
      omega arith,
      λ k h. get_or-set_other now j k moved 0 (apart k (omega arith)) ∙ c.loop-j.invariant.2 k (omega arith),
      length-set now j moved ∙ long,
      first,
    )

pub returns-clause-moved : goal.returns-clause-moved
returns-clause-moved c =
    let old : take c.loop-j.j c.args.bytes.now ≡ c.args.bytes.now = take_all c.loop-j.j c.args.bytes.now (omega arith) in
    let now : take c.loop-j.j c.loop-j.bytes ≡ c.loop-j.bytes = take_all c.loop-j.j c.loop-j.bytes (omega arith) in
    ap (λ t. bit_of c.args.sample ∷ samples_of t) (sym old) ∙ c.loop-j.invariant.0 ∙ ap (λ t. samples_of t ++ c.loop-j.carry ∷ []) now
