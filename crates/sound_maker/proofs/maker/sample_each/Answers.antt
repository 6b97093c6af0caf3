-- One channel more draws from the generator where the last one left it, and moves its own wave alone.
use Rattle.std.proofs.Common.{◌≡◌, ◌≢◌, ℕ, ◌+◌, ◌*◌, ◌%◌, ◌<◌, ◌≤◌, w32, to_z, of_z, [], ◌∷◌, ◌++◌, length, get_or, take, set, refl, ap, sym, ◌∙◌, arith}
use Rattle.std.proofs.Common.{below_more, length-take-le}
use Rattle.std.proofs.lemmas.Int.{ints}
use Rattle.std.proofs.lemmas.List.{get_or_default, get_or_append_left, get_or_push, get_or-set_same, get_or-set_other, take_more_set, length-set}
use Rattle.dsdiff_spec.specs.Made.{Wave, Made, at_time}
use Rattle.sound_maker.proofs.Making.{still, channel_added, length-samples}
use Rattle.sound_maker.proofs.maker.sample_each.Goals as goal

pub loop-channel-init : goal.loop-channel-init
unfolding at_time
loop-channel-init c = (refl, refl, λ k h. absurd (omega arith), λ k h. refl, λ k h. refl, c.told-waves, c.told-waves, c.told-bytes)

pub loop-channel-preserved : goal.loop-channel-preserved
loop-channel-preserved c =
    let t = c.args.time in
    let channel = c.loop-channel.channel in
    let before = c.args.waves.now in
    let waves = c.loop-channel.waves in
    let bytes = c.loop-channel.bytes in
    let g = c.args.generator.now in
    let past : Made = at_time t 0 (take channel before) g in
    let sample = c.next-sample.result in
    let next : Wave = c.next-sample.new.self in
    let given = get_or waves channel c.index-waves-channel.result in
    let six : length waves ≡ 6 = c.loop-channel.invariant.5 in
    let all : length before ≡ 6 = c.loop-channel.invariant.6 in
    let eight : length bytes ≡ 6 = c.loop-channel.invariant.7 in
    let here : given ≡ get_or before channel still =
    get_or_default waves channel c.index-waves-channel.result still (omega arith) ∙ c.loop-channel.invariant.3 channel (omega arith) in
    let high : to_z w32 (of_z w32 c.height.result) ≡ c.height.result = omega (arith, ints) in
    let added = channel_added t channel c.next_word-random.result sample before g c.loop-channel.generator c.next_word-random.new.self given next
    (to_z w32 (of_z w32 c.height.result)) (omega arith) here c.loop-channel.invariant.1 c.next_word-random.ensures c.next-sample.ensures.sample
    (high ∙ c.height.ensures.value) c.next-sample.ensures.later in
    let long : length past.samples ≡ channel = length-samples t 0 (take channel before) g ∙ length-take-le channel before (omega arith) in
    let byte = get_or bytes channel 0 % 128 * 2 + sample in
    let old = c.args.bytes.now in
    let earlier : (k : ℕ) → k < channel → get_or (set bytes channel byte) k 0
    ≡ get_or old k 0 % 128 * 2 + get_or (at_time t 0 (take (channel + 1) before) g).samples k 0 = λ k h.
    let apart : k ≢ channel = λ e. omega arith in
    get_or-set_other bytes channel k byte 0 apart
    ∙ c.loop-channel.invariant.2 k h
    ∙ ap (λ s. get_or old k 0 % 128 * 2 + s)
    (sym (ap (λ (m : Made). get_or m.samples k 0) added ∙ get_or_append_left past.samples (sample ∷ []) 0 k (omega arith))) in
    let now : get_or (set bytes channel byte) channel 0
    ≡ get_or old channel 0 % 128 * 2 + get_or (at_time t 0 (take (channel + 1) before) g).samples channel 0 =
    get_or-set_same bytes channel byte 0 (omega arith)
    ∙ ap (λ b. b % 128 * 2 + sample) (c.loop-channel.invariant.4 channel (omega arith))
    ∙ ap (λ s. get_or old channel 0 % 128 * 2 + s)
    (sym (ap (λ (m : Made). get_or m.samples channel 0) added ∙ get_or_push past.samples sample 0 channel long)) in
    let apart : (k : ℕ) → channel + 1 ≤ k → k ≢ channel = λ k h e. omega arith in (
      take_more_set waves channel next (omega arith) ∙ ap (λ ws. ws ++ next ∷ []) c.loop-channel.invariant.0 ∙ sym (ap (λ (m : Made). m.waves) added),
      sym (ap (λ (m : Made). m.generator) added),
      below_more _ _ earlier now,
      λ k h. get_or-set_other waves channel k next still (apart k h) ∙ c.loop-channel.invariant.3 k (omega arith),
      λ k h. get_or-set_other bytes channel k byte 0 (apart k h) ∙ c.loop-channel.invariant.4 k (omega arith),
      length-set waves channel next ∙ six,
      all,
      length-set bytes channel byte ∙ eight,
    )
