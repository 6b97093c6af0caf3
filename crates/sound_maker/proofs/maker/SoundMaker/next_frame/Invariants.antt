-- The rows so far are written, and the maker stands behind their samples.
use Rattle.std.proofs.Common.{◌≡◌, ◌*◌, ◌<◌, ◌≤◌, take}
use Rattle.dsdiff_spec.specs.Samples.{sound_of}
use Rattle.sound_maker.specs.Making.{moment, later, sample_from}
use Rattle.sound_maker.proofs.maker.SoundMaker.next_frame.Given as goal

abbrev pub invariant-loop-octet : goal.invariant-loop-octet
invariant-loop-octet l =
    let s = l.self-inside in
    let i = l.initial.self-inside in
    (moment s.time (take s.channels s.waves) s.generator ≡ later (8 * l.octet) (moment i.time (take i.channels i.waves) i.generator))
    × (s.channels ≡ i.channels)
    × (s.octets ≡ i.octets)
    × (s.channels ≤ 6)
    × (s.octets ≤ 18816)
    × (s.time < 6400)
    × (l.row ≡ l.octet * i.channels)
    × (take l.row l.out ≡ sound_of (sample_from (moment i.time (take i.channels i.waves) i.generator)) i.channels l.octet)
