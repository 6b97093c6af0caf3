-- What was made holds together.
use Rattle.std.proofs.Common.{◌≡◌, ◌+◌, ◌*◌, ◌≤◌, ap, sym, subst, ◌∙◌, arith}
use Rattle.dst_spec.specs.Sample.{sound_bytes}
use Rattle.dsdiff_spec.specs.Form.{sound_bytes_of}
use Rattle.dsdiff_chunks.specs.Forms.{coded_seen}
use Rattle.dsdiff_chunks.proofs.LawfulForms.{sound_inside}
use Rattle.frame_cache.specs.Slots.{AreSlots}
use Rattle.frame_cache.proofs.reader.RangeReader.new.Goals as goal

pub invariant_of-result : goal.invariant_of-result
invariant_of-result c =
    let form = coded_seen c.args.form.now in
    let shaped : sound_bytes_of form ≡ sound_bytes c.args.form.now.channels = ap sound_bytes c.args.form.now.shape in
    let bytes = c.sound_bytes-bytes.ensures.bytes in
    let capacity = c.in_ok-slots.ensures.capacity in
    let index = c.requires.index in
    let end = sound_inside form c.args.form.now.lawful in
    record {
      together = record {
        some = omega (arith, capacity, c.requires.least);
        few = omega (arith, c.length-frames.ensures.length, c.length-frames.ensures.most);
        end_most = c.args.form.now.lawful.end;
        inside = λ k l. let inside = index.inside k l in omega (arith, inside.before, end);
        short = λ k l. let inside = index.inside k l in omega (arith, inside.short, shaped);
        size_most = subst (λ n. c.sound_size-size.result ≤ n * sound_bytes c.args.form.now.channels) (sym index.count) c.sound_size-size.ensures.most;
      };
      slots = subst (λ n. AreSlots n (sound_bytes c.args.form.now.channels) c.in_ok-slots.slots.entries) (sym capacity)
          (subst (λ n. AreSlots c.args.capacity n c.in_ok-slots.slots.entries) bytes c.in_ok-slots.ensures.slots);
      spare = sym c.in_ok-spare.spare.ok.0 ∙ c.in_ok-spare.ensures.len ∙ bytes;
      stored = sym c.in_ok-stored.stored.ok.0 ∙ c.in_ok-stored.ensures.len ∙ ap (λ n. 2 * (n + 1)) bytes;
      scratch = c.in_ok-scratch.ensures;
    }
