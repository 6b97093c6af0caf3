-- A piece of the front, of the sound or of the back is that of the form.
use Rattle.std.proofs.Common.{◌-◌, ℕ, List, length, take, drop, subst, ◌∙◌, ap, arith}
use Rattle.dsf_files.specs.Forms.{dsf_seen}
use Rattle.dsf_files.specs.Reading.{HoldsSound}
use Rattle.dsf_files.specs.Standing.{front_size, sound_size, back_size}
use Rattle.dsf_files.proofs.Reading.{in_front, in_sound, in_back, same_place}
use Rattle.dsf_files.proofs.source.DsfSource.read_part.Goals as goal

pub returns-then-place-front-clause-read : goal.returns-then-place-front-clause-read
returns-then-place-front-clause-read g c =
    let long = ap (λ (w : List ℕ). length w) c.as_slice.ensures.value ∙ c.front_of.ensures.long in
    in_front (g.S.Source.bytes c.args.self.now.source.now) c.args.self.now.form c.as_slice.result.now c.copy_part.new.out c.args.place c.copy_part.result
    c.args.self.now.says c.front_of.ensures.shape (c.as_slice.ensures.value ∙ c.front_of.ensures.front)
    (omega (arith, long, c.copy_part.ensures.count, c.if-place-front.true, c.front_size-front.ensures.size)) c.copy_part.ensures.copied

pub returns-in-Ok-clause-read : goal.returns-in-Ok-clause-read
returns-in-Ok-clause-read g c =
    let size = c.front_size-front.ensures.size in
    in_sound (g.S.Source.bytes c.args.self.now.source.now) c.args.self.now.form c.read_sound.new.out c.args.place c.in-Ok.count
    c.args.self.now.says c.front_size-front.ensures.shape (omega (arith, size, c.if-place-front.false))
    (omega (arith, size, c.in-Ok.ensures.within))
    (subst (λ (n : ℕ). HoldsSound (g.S.Source.bytes c.args.self.now.source.now) c.args.self.now.form (c.args.place - n) c.in-Ok.count c.read_sound.new.out) size
    c.in-Ok.ensures.read)

pub returns-clause-read : goal.returns-clause-read
returns-clause-read g c =
    let form = c.args.self.now.form in
    let front = c.front_size-front.ensures.size in
    let sound = c.sound_size-sound.ensures.size in
    let back = c.back_size.ensures.size in
    let behind = c.min-behind.ensures
    ∙ same_place c.args.place c.front_size-front.result c.sound_size-sound.result c.back_size.result (front_size (dsf_seen form)) (sound_size (dsf_seen form))
    (back_size (dsf_seen form)) front sound back in
    let long = ap (λ (w : List ℕ). length w) c.as_slice-2.ensures.value ∙ c.back_of.ensures.long in
    in_back (g.S.Source.bytes c.args.self.now.source.now) form c.as_slice-2.result.now c.copy_part-2.new.out c.args.place c.copy_part-2.result
    c.args.self.now.says c.back_of.ensures.shape (c.as_slice-2.ensures.value ∙ c.back_of.ensures.back)
    (omega (arith, front, sound, c.if-place-front.false, c.if-place-front-2.false))
    (omega (arith, long, behind, c.copy_part-2.ensures.count))
    (c.copy_part-2.ensures.copied ∙ ap (λ p. take c.copy_part-2.result (drop p c.as_slice-2.result.now)) behind)
