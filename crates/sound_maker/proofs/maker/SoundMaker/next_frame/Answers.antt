-- One row more has eight samples of each channel from where the last row ended, and all rows are the frame.
use Rattle.std.proofs.Common.{◌≡◌, ◌+◌, ◌*◌, ◌<◌, ℕ, ◌++◌, length, get_or, take, take_all, refl, ap, sym, ◌∙◌, arith}
use Rattle.dst_spec.specs.Bits.{number_from}
use Rattle.dsdiff_spec.specs.Samples.{eight, sound_of}
use Rattle.sound_maker.specs.Making.{Moment, Maker, moment, later, sample_from, frame_of}
use Rattle.sound_maker.proofs.Making.{row, later_still, sample_later, eight_alike, row_of_bytes, sound-more, frame-of_samples}
use Rattle.sound_maker.proofs.maker.SoundMaker.next_frame.Goals as goal

pub loop-octet-init : goal.loop-octet-init
unfolding later sound_of
loop-octet-init c = (refl, refl, refl, c.self.invariant.0, c.self.invariant.1, c.self.invariant.2, omega arith, refl)

pub loop-octet-preserved : goal.loop-octet-preserved
loop-octet-preserved c =
    let i = c.self.inside in
    let s = c.loop-octet.self-inside in
    let octet = c.loop-octet.octet in
    let so_far = c.loop-octet.invariant in
    let bytes = c.eight_samples-bytes.result in
    let first : Moment = moment i.time (take i.channels i.waves) i.generator in
    let here : Moment = moment s.time (take s.channels s.waves) s.generator in
    let reached : here ≡ later (8 * octet) first = so_far.0 in
    let further : 8 * octet + 8 ≡ 8 * (octet + 1) = omega arith in
    let six : length bytes ≡ 6 = omega arith in
    let each : (k : ℕ) → k < s.channels → get_or bytes k 0 ≡ number_from (eight (sample_from first) k octet) 0 8 = λ k h.
    c.eight_samples-bytes.ensures.bytes k h
    ∙ ap (λ xs. number_from xs 0 8) (eight_alike (sample_from here) (sample_from first) k 0 octet (λ t l. sample_later first here octet k t reached)) in
    let placed : take s.channels bytes ≡ row (sample_from first) i.channels octet =
    row_of_bytes (sample_from first) s.channels octet bytes (omega arith) each ∙ ap (λ n. row (sample_from first) n octet) so_far.1 in (
      c.eight_samples-bytes.ensures.later ∙ ap (later 8) reached ∙ sym (later_still (8 * octet) 8 first) ∙ ap (λ n. later n first) further,
      so_far.1,
      so_far.2,
      so_far.3,
      so_far.4,
      c.eight_samples-bytes.ensures.time,
      omega (arith, so_far.1, so_far.6),
      c.put_row.ensures.put
          ∙ ap (λ xs. xs ++ take s.channels bytes) so_far.7
          ∙ ap (λ xs. sound_of (sample_from first) i.channels octet ++ xs) placed
          ∙ sym (sound-more (sample_from first) i.channels octet),
    )

pub returns-clause-frame : goal.returns-clause-frame
returns-clause-frame c =
    let i = c.self.inside in
    let first : Moment = moment i.time (take i.channels i.waves) i.generator in
    let so_far = c.loop-octet.invariant in
    let all : c.loop-octet.octet ≡ i.octets = omega (arith, so_far.2) in
    let size : length c.args.out.now ≡ i.octets * i.channels = c.requires ∙ sym (ap (λ (m : Maker). m.shape.octets * m.shape.channels) c.self.view_is) in
    let whole : c.loop-octet.row ≡ i.octets * i.channels = so_far.6 ∙ ap (λ n. n * i.channels) all in
    let long : length c.loop-octet.out ≡ length c.args.out.now = omega arith in
    let maker : Maker = record { shape = record { channels = i.channels; octets = i.octets }; moment = first } in
    sym (take_all c.loop-octet.row c.loop-octet.out (omega arith))
    ∙ so_far.7
    ∙ ap (sound_of (sample_from first) i.channels) all
    ∙ sym (frame-of_samples maker)
    ∙ ap frame_of c.self.view_is
