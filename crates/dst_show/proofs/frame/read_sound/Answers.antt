-- The frame that is read means the sound that is worked.
use Rattle.std.proofs.Common.{length, ap, refl, sym, subst, ◌∙◌, arith}
use Rattle.dst_spec.specs.Offends.{Offends}
use Rattle.dsdiff_spec.specs.Walk.{frame_at}
use Rattle.frame_index.specs.Entries.{entry_seen}
use Rattle.dst_read.proofs.Framing.{lent_whole}
use Rattle.dst_show.specs.Frame.{IsSoundOf}
use Rattle.dst_show.proofs.FrameSounds.{found_inside, frame_is_read, is_sound_of}
use Rattle.dst_show.proofs.frame.read_sound.Goals as goal

pub returns-in-Ok-decode_frame-clause-sound : goal.returns-in-Ok-decode_frame-clause-sound
returns-in-Ok-decode_frame-clause-sound g c file told =
    let found = c.args.found.now in
    let f = found.form.channels in
    let read = frame_is_read file found _ _ _ c.deref_mut.result.now _ c.deref.ensures.value c.deref_mut.ensures.len c.deref_mut.ensures.value
    c.read_range.auto.out c.requires.stored (c.in-Ok.ensures.read file told) in
    let sound = lent_whole c.args.room.sound.len _ c.decode_frame.new.out c.args.room.sound.items refl
    (sym c.deref_mut-2.ensures.len ∙ ap length c.deref_mut-2.ensures.value) (c.decode_frame.auto.out ∙ ap length c.deref_mut-2.ensures.value) in
    subst (λ sound. IsSoundOf f (frame_at file (entry_seen found.entry)) sound) (sym sound)
    (subst (λ frame. IsSoundOf f frame c.decode_frame.new.out) read
    (is_sound_of f c.deref.result.now c.decode_frame.new.out c.in-Ok-decode_frame.field-0 c.requires.lawful c.in-Ok-decode_frame.ensures.sound
    c.in-Ok-decode_frame.ensures.whole))

pub returns-clause-no_sound : goal.returns-clause-no_sound
returns-clause-no_sound g c = (
  refl,
  λ file told.
      let read = frame_is_read file c.args.found.now _ _ _ c.deref_mut.result.now _ c.deref.ensures.value c.deref_mut.ensures.len c.deref_mut.ensures.value
      c.read_range.auto.out c.requires.stored (c.in-Ok.ensures.read file told) in
      subst (λ frame. Offends c.args.found.now.form.channels frame c.in-Err.fault) read c.in-Err.ensures.fault,
)

pub read_range-requires-clause-fits : goal.read_range-requires-clause-fits
read_range-requires-clause-fits g c =
    let inside = found_inside c.args.found.now _ (ap length c.deref_mut.ensures.value ∙ c.requires.stored) in
    omega (arith, inside, c.args.found.now.form.lawful.end)

pub read_range-requires-clause-inside : goal.read_range-requires-clause-inside
read_range-requires-clause-inside g c =
    let inside = found_inside c.args.found.now _ (ap length c.deref_mut.ensures.value ∙ c.requires.stored) in
    (c.requires.size.0, c.requires.size.1, omega (arith, inside, c.requires.size.2))
