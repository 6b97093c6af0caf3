-- Eight bits come in at the end, and those before move up without loss.
use Rattle.std.proofs.Common.{◌≡◌, ℕ, ◌+◌, ◌-◌, ◌*◌, ◌/◌, ◌%◌, ◌^◌, ◌<◌, get_or, bit_or, ap, sym, ◌∙◌, subst, rules, arith}
use Rattle.filter_analyser.proofs.Bits.{joined, byte-behind, byte-bits}
use Rattle.filter_analyser.proofs.stretches.stretch_at.Goals as goal

pub loop-byte-preserved : goal.loop-byte-preserved
loop-byte-preserved c =
    let stretch = c.loop-byte.stretch in
    let byte = c.loop-byte.byte in
    let samples = c.from.result in
    let n = 8 * byte in
    let F : ℕ → ℕ = λ i. get_or c.args.sound.now ((c.args.first + i / 8) * c.args.channels + c.args.channel) 0 / 2 ^ (7 - i % 8) % 2 in
    let small : samples < 256 = search rules in
    let both : bit_or ((stretch * 2 ^ 8) % 2 ^ 64) samples ≡ stretch * 2 ^ 8 + samples = joined stretch samples n c.loop-byte.invariant.0 (omega arith) small in
    let e : n + 8 ≡ 8 * (byte + 1) = omega arith in
    let P : ℕ → ℕ → Type 0 = λ m w. (w < 2 ^ m) × ((i : ℕ) → i < m → w / 2 ^ (m - 1 - i) % 2 ≡ F i) in
    let step : P (n + 8) (stretch * 2 ^ 8 + samples) = (
      byte-behind stretch samples n c.loop-byte.invariant.0 small,
      λ i inside. byte-bits stretch samples n i F small c.loop-byte.invariant.1 (λ j h.
          let row : (n + j) / 8 ≡ byte = omega arith in
          let place : (n + j) % 8 ≡ j = omega arith in
          ap (λ s. s / 2 ^ (7 - j) % 2) c.from.ensures
          ∙ sym (ap (λ q. get_or c.args.sound.now ((c.args.first + q) * c.args.channels + c.args.channel) 0 / 2 ^ (7 - (n + j) % 8) % 2) row
          ∙ ap (λ r. get_or c.args.sound.now ((c.args.first + byte) * c.args.channels + c.args.channel) 0 / 2 ^ (7 - r) % 2) place)) inside,
    ) in
    subst (λ m. P m (bit_or ((stretch * 2 ^ 8) % 2 ^ 64) samples)) e (subst (P (n + 8)) (sym both) step)
