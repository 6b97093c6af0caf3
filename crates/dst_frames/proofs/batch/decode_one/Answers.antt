-- What is decoded into the lent bytes is the sound that is held afterwards, with its answer.
use Rattle.std.proofs.Common.{◌≡◌, length, sym, subst, ◌∙◌}
use Rattle.std.proofs.lemmas.List.{with_items_is}
use Rattle.dst_frames.specs.Batch.{IsDecoded, stored_in}
use Rattle.dst_frames.proofs.batch.decode_one.Goals as goal

pub returns-clause-decoded : goal.returns-clause-decoded
returns-clause-decoded c =
    let f = c.args.channels in
    let sound = c.args.heard.now.sound in
    let out = c.decode_with-answer.new.out in
    let long : length out ≡ sound.len = c.decode_with-answer.auto.out ∙ c.as_mut_slice-sound.ensures.len in
    let e = c.decode_with-answer.ensures in
    let d : IsDecoded f c.stored.result.now out c.decode_with-answer.result =
    record { sound_is = e.sound; whole = e.whole; fault = e.fault; no_sound = e.no_sound } in
    subst (λ x. IsDecoded f (stored_in c.args.frame.now) x c.decode_with-answer.result) (sym (with_items_is sound out long)) (rw c.stored.ensures.bytes at d)
