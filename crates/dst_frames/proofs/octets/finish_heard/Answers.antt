-- What is written in the lent bytes is the frame's sound, which keeps its length.
use Rattle.std.proofs.Common.{◌≡◌, length, sym, subst, ◌∙◌}
use Rattle.std.proofs.lemmas.List.{with_items_is}
use Rattle.dst_frames.specs.Eight.{states_at, tables_at}
use Rattle.dst_frames.specs.Running.{FinishesSound}
use Rattle.dst_frames.proofs.octets.finish_heard.Goals as goal

pub returns-clause-finishes : goal.returns-clause-finishes
returns-clause-finishes c =
    let n = c.args.n in
    let sound = c.args.heard.now.sound in
    let heard = c.finish_sound.new.sound in
    let long : length heard ≡ sound.len = c.finish_sound.auto.sound ∙ c.as_mut_slice-sound.ensures.len in
    let f = rw c.as_mut_slice-sound.ensures.value at c.finish_sound.ensures.finishes in
    subst (λ x. FinishesSound c.args.byte (length c.args.rows.now) (tables_at c.args.tables.now c.args.numbers.now n) (states_at c.args.rows.now n)
    (states_at c.finish_sound.new.rows n) sound.items x) (sym (with_items_is sound heard long)) f
