-- Shifted by its place, the bit of the sample stands in place 7, and from there it is taken as 64 or 0.
use Rattle.std.proofs.Common.{rules, ◌≡◌, ℕ, zero, suc, ◌-◌, ◌*◌, ◌/◌, ◌%◌, ◌^◌, ◌<◌, ◌==◌, if◌then◌else◌, refl, ap, ◌∙◌, arith}
use Rattle.frame_predictions.proofs.fill.mark_at.Goals as goal

-- the bit that is moved to place 7 is the one that stood so many places below it
moved_bit : (samples place : ℕ) → samples < 256 → place < 8 → samples * 2 ^ place % 65536 / 128 % 2 ≡ samples / 2 ^ (7 - place) % 2
moved_bit samples zero h lt = omega arith
moved_bit samples (suc zero) h lt = omega arith
moved_bit samples (suc (suc zero)) h lt = omega arith
moved_bit samples (suc (suc (suc zero))) h lt = omega arith
moved_bit samples (suc (suc (suc (suc zero)))) h lt = omega arith
moved_bit samples (suc (suc (suc (suc (suc zero))))) h lt = omega arith
moved_bit samples (suc (suc (suc (suc (suc (suc zero)))))) h lt = omega arith
moved_bit samples (suc (suc (suc (suc (suc (suc (suc zero))))))) h lt = omega arith
moved_bit samples (suc (suc (suc (suc (suc (suc (suc (suc place)))))))) h lt = absurd (omega arith)

-- a bit as 64 or 0
marked : (bit : ℕ) → bit < 2 → bit * 64 ≡ (if bit == 1 then 64 else 0)
marked zero lt = refl
marked (suc zero) lt = refl
marked (suc (suc bit)) lt = absurd (omega arith)

pub returns : goal.returns
returns c =
    let bit = c.args.samples / 2 ^ (7 - c.args.place) in
    let same : c.from.result * 2 ^ c.args.place % 65536 / 128 % 2 ≡ bit % 2 =
    ap (λ n. n * 2 ^ c.args.place % 65536 / 128 % 2) c.from.ensures ∙ moved_bit c.args.samples c.args.place (search rules) c.requires in
    ap (λ n. n * 64) same ∙ marked (bit % 2) (omega arith)
