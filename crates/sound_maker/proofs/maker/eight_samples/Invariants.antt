-- Each byte is the number of its samples so far, and the moment is as many samples later.
use Rattle.std.proofs.Common.{◌≡◌, ℕ, ◌^◌, ◌<◌, get_or, take}
use Rattle.dst_spec.specs.Bits.{number_from}
use Rattle.dsdiff_spec.specs.Samples.{eight}
use Rattle.sound_maker.specs.Making.{moment, later, sample_from}
use Rattle.sound_maker.proofs.maker.eight_samples.Given as goal

abbrev pub invariant-loop-place : goal.invariant-loop-place
invariant-loop-place l =
    let m = moment l.initial.time (take l.count l.initial.waves) l.initial.generator in
    (moment l.time (take l.count l.waves) l.generator ≡ later l.place m)
    × (l.time < 6400)
    × ((c : ℕ) → c < l.count → get_or l.bytes c 0 ≡ number_from (eight (sample_from m) c 0) 0 l.place)
    × ((c : ℕ) → c < l.count → get_or l.bytes c 0 < 2 ^ l.place)
