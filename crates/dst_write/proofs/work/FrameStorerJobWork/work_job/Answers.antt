-- The stored bytes stand at the front of the job's frame.
use Rattle.std.proofs.Common.{◌≡◌, ℕ, List, length, take, refl, ap, sym, ◌∙◌, arith, length-take}
use Rattle.std.proofs.lemmas.List.{with_items_is}
use Rattle.dst_spec.specs.Spell.{stored}
use Rattle.dst_commands.proofs.Rooms.{room_for}
use Rattle.dst_write.specs.Jobs.{longest}
use Rattle.dst_write.proofs.work.FrameStorerJobWork.work_job.Goals as goal

pub returns-clause-done : goal.returns-clause-done
returns-clause-done g c =
    let f = c.args.self.now.channels in
    let shortest = c.stored-stored.result.now in
    let old = c.args.job.now.frame in
    let long : length c.put_at_front.new.buffer ≡ length old.items = c.put_at_front.ensures.long ∙ ap length c.deref_mut.ensures.value in
    let whole = with_items_is old c.put_at_front.new.buffer (c.put_at_front.ensures.long ∙ c.deref_mut.ensures.len) in
    let front = ap (take (length shortest)) whole ∙ c.put_at_front.ensures.front in
    let room = room_for longest c.args.job.now.size (length old.items) (length c.args.job.now.sound.items) c.args.job.now.channels f
    c.args.self.now.few c.requires.job in
    record {
      number = refl;
      frame = front ∙ c.stored-stored.ensures.stored ∙ c.store_frame.ensures.stored
          ∙ ap (λ w. stored f w (g.P.Picker.picks c.args.self.now.picker.now w f)) c.deref.ensures.value;
      size = sym (ap length front);
      short = omega (
        arith,
        long,
        room.frame_long,
        length-take (length shortest) c.put_at_front.new.buffer,
        ap (λ (w : List ℕ). length w)
            c.put_at_front.ensures.front,
      );
    }
