-- A sample more doubles a byte's number, which is below 2 to as many samples, so that no bit is lost.
use Rattle.std.proofs.Common.{◌≡◌, ℕ, ◌+◌, ◌*◌, ◌%◌, ◌^◌, ◌<◌, ◌≤◌, List, replicate, get_or, take, refl, ap, ap₂, sym, ◌∙◌, arith}
use Rattle.std.proofs.lemmas.List.{get_or-replicate}
use Rattle.std.proofs.lemmas.Nat.{pow-add}
use Rattle.std.proofs.Math.Pow.{pow_mono}
use Rattle.std.proofs.lemmas.List.FromFn.{get_or-map-range_with_len}
use Rattle.dst_spec.specs.Bits.{number_from}
use Rattle.dst_spec.proofs.Numbers.{number_from-more}
use Rattle.dsdiff_spec.specs.Samples.{eight}
use Rattle.sound_maker.specs.Making.{Moment, moment, now, later, sample_from}
use Rattle.sound_maker.proofs.Making.{next_moment, later_by_one, sample-below}
use Rattle.sound_maker.proofs.maker.eight_samples.Goals as goal

pub loop-place-init : goal.loop-place-init
unfolding later number_from
loop-place-init c =
    let zeros : (k : ℕ) → k < c.args.count → get_or (replicate {A = ℕ} 6 0) k 0 ≡ 0 = λ k h. get_or-replicate 6 k 0 0 (omega arith) in
    (refl, c.requires.time, zeros, λ k h. omega (arith, zeros k h))

pub loop-place-preserved : goal.loop-place-preserved
loop-place-preserved c =
    let place = c.loop-place.place in
    let t = c.loop-place.time in
    let waves = take c.args.count c.loop-place.waves in
    let g = c.loop-place.generator in
    let first : Moment = moment c.args.time.now (take c.args.count c.args.waves.now) c.args.generator.now in
    let here : Moment = moment t waves g in
    let reached : here ≡ later place first = c.loop-place.invariant.0 in
    let bits : ℕ → List ℕ = λ k. eight (sample_from first) k 0 in
    let old : ℕ → ℕ = λ k. get_or c.loop-place.bytes k 0 in
    let sample : ℕ → ℕ = λ k. get_or (now here).samples k 0 in
    let small : (k : ℕ) → sample k < 2 = λ k. sample-below t 0 waves g k in
    let power : 2 ^ place ≤ 128 = pow_mono {i = place} {j = 7} (omega arith) in
    let double : 2 ^ (place + 1) ≡ 2 ^ place * 2 = pow-add 2 place 1 in
    let drawn : (k : ℕ) → get_or (bits k) (0 + place) 0 ≡ sample k = λ k.
    get_or-map-range_with_len (λ s. sample_from first k (8 * 0 + s)) 0 8 (0 + place) (0 + place) 0 (omega arith) (omega arith)
    ∙ ap (λ s. sample_from first k s) (same place)
    ∙ sym (ap (λ (m : Moment). get_or (now m).samples k 0) reached) in
    let shifted : (k : ℕ) → k < c.args.count → get_or c.sample_each.new.bytes k 0 ≡ old k % 128 * 2 + sample k = c.sample_each.ensures.bytes in
    let below : (k : ℕ) → k < c.args.count → old k < 2 ^ place = c.loop-place.invariant.3 in (
      ap₂ (moment ((t + 1) % 6400)) c.sample_each.ensures.waves c.sample_each.ensures.generator ∙ ap next_moment reached ∙ sym (later_by_one place first),
      omega arith,
      λ k h. (
          let whole : number_from (bits k) 0 (place + 1) ≡ 2 * number_from (bits k) 0 place + get_or (bits k) (0 + place) 0 =
          number_from-more (bits k) 0 place in
          let made : old k ≡ number_from (bits k) 0 place = c.loop-place.invariant.2 k h in
          omega (arith, shifted k h, below k h, drawn k)
          ),
      λ k h. omega (arith, shifted k h, below k h, small k),
    )
  where
    same : (place : ℕ) → 8 * 0 + (0 + place) ≡ place
    same place = omega arith

pub returns-clause-later : goal.returns-clause-later
returns-clause-later c =
    let all : c.loop-place.place ≡ 8 = omega arith in
    c.loop-place.invariant.0 ∙ ap (λ n. later n (moment c.args.time.now (take c.args.count c.args.waves.now) c.args.generator.now)) all

pub returns-clause-bytes : goal.returns-clause-bytes
returns-clause-bytes c = λ k h.
    let all : c.loop-place.place ≡ 8 = omega arith in
    c.loop-place.invariant.2 k h
    ∙ ap (λ n. number_from (eight (sample_from (moment c.args.time.now (take c.args.count c.args.waves.now) c.args.generator.now)) k 0) 0 n) all
