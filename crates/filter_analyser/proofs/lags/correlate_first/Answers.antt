-- The front of the array, as many stretches as the rate needs, has the samples of the channel.
use Rattle.std.proofs.Common.{◌≡◌, ℕ, ◌*◌, ◌≤◌, List, ◌++◌, subst, length, take, replicate, length-take, ap, sym, ◌∙◌, arith}
use Rattle.std.proofs.Math.Seq.{take-append_seam}
use Rattle.std.proofs.lemmas.List.{length-replicate}
use Rattle.filter_analyser.specs.Stretches.{HasSamples}
use Rattle.filter_analyser.proofs.lags.correlate_first.Goals as goal

-- as many stretches of the array as the rate has
pub front : (m : ℕ) → m ≤ 4 → length {A = ℕ} (take (588 * m) (replicate 2352 0)) ≡ 588 * m
front m h = omega (arith, length-take {A = ℕ} (588 * m) (replicate 2352 0), length-replicate {A = ℕ} 2352 0)

take-front : (n : ℕ) (xs ys : List ℕ) → length xs ≡ n → take n (xs ++ ys) ≡ xs
take-front n xs ys h = ap (λ k. take k (xs ++ ys)) (sym h) ∙ take-append_seam xs ys

pub returns-clause-lags : goal.returns-clause-lags
returns-clause-lags c = λ k h.
    let f = c.args.channels in
    let sound = c.args.sound.now in
    let ch = c.args.channel in
    let m = c.multiple-count.result in
    let long = front m c.multiple-count.ensures.most in
    let rate : f.octets ≡ 4704 * m = c.multiple-count.ensures.multiple in
    let octets : f.octets ≡ 8 * length {A = ℕ} (take (588 * m) (replicate 2352 0)) = omega arith in
    let has : HasSamples f sound ch c.pack.new.stretches = c.pack.ensures f (sym c.count.ensures.count) octets in
    let few : length c.pack.new.stretches ≡ 588 * m = omega (arith, has.long) in
    c.correlate_stretches.ensures.lags f sound ch (subst (HasSamples f sound ch) (sym (take-front (588 * m) c.pack.new.stretches _ few)) has) k h
