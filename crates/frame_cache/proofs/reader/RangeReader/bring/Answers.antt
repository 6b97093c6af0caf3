-- A frame that is held moves to the front; one that isn't is decoded in the spare room and put there.
use Rattle.std.proofs.Common.{◌≡◌, [], ◌∷◌, length, take, ap, sym, subst, ◌∙◌, arith}
use Rattle.std.specs.Vec.{with_items}
use Rattle.std.proofs.lemmas.List.{with_items_is}
use Rattle.dst_spec.specs.Sample.{sound_bytes}
use Rattle.dst_spec.specs.Means.{Means}
use Rattle.dsdiff_spec.specs.Ranges.{is_held}
use Rattle.dsdiff_spec.specs.Walk.{frame_at}
use Rattle.frame_cache.specs.Inside.{reader_seen}
use Rattle.frame_cache.specs.Slots.{held, held_in, moved, AreSlots}
use Rattle.frame_cache.specs.Reader.{Reader, order, frame_in}
use Rattle.frame_cache.specs.Reads.{HasWanted}
use Rattle.frame_cache.proofs.Orders.{held_is_found}
use Rattle.frame_cache.proofs.Bringing.{seen_with, wanted_of_held, wanted_of_decoded, moved_none, together_with, length-written}
use Rattle.frame_cache.proofs.reader.RangeReader.bring.Goals as goal

pub overflow_cast-number : goal.overflow_cast-number
overflow_cast-number g c =
    let index = ap (λ (r : Reader). length r.index) c.self.view_is in
    omega (arith, c.requires.frame, index, c.length-frames.ensures.length, c.length-frames.ensures.most)

pub invariant_of-self : goal.invariant_of-self
invariant_of-self g c =
    let r = reader_seen c.self.inside in
    record {
      together = together_with r c.move_to_front.new.slots.cap (held_in c.move_to_front.new.slots.entries) c.move_to_front.ensures.capacity
          c.self.invariant.together;
      slots = subst (λ n. AreSlots n (sound_bytes c.self.inside.channels) c.move_to_front.new.slots.entries) (sym c.move_to_front.ensures.capacity)
          (c.move_to_front.ensures.slots _ _ c.self.invariant.slots);
      spare = c.self.invariant.spare;
      stored = c.self.invariant.stored;
      scratch = c.self.invariant.scratch;
    }

pub returns-then-move_to_front-clause-wanted : goal.returns-then-move_to_front-clause-wanted
returns-then-move_to_front-clause-wanted g c =
    let r = reader_seen c.self.inside in
    let there = sym c.move_to_front.ensures.found ∙ c.if-move_to_front.true in
    let new = c.move_to_front.new.slots in
    let given = g.S.Source.given c.args.source.now in
    let now : Reader = record r { capacity = new.cap; held = held_in new.entries } in
    subst (λ (r : Reader). HasWanted r now (c.args.frame ∷ []) 0 (g.S.Source.bytes c.args.source.now) given given) c.self.view_is
    (wanted_of_held r now c.args.frame (g.S.Source.bytes c.args.source.now) given there
    (seen_with r new.cap (held_in new.entries) (moved r.held c.args.frame) c.move_to_front.ensures.capacity c.move_to_front.ensures.held))

pub invariant_of-self-in-Err : goal.invariant_of-self-in-Err
invariant_of-self-in-Err g c =
    let r = reader_seen c.self.inside in
    record {
      together = together_with r c.move_to_front.new.slots.cap (held_in c.move_to_front.new.slots.entries) c.move_to_front.ensures.capacity
          c.self.invariant.together;
      slots = subst (λ n. AreSlots n (sound_bytes c.self.inside.channels) c.move_to_front.new.slots.entries) (sym c.move_to_front.ensures.capacity)
          (c.move_to_front.ensures.slots _ _ c.self.invariant.slots);
      spare = length-written c.self.inside.spare _ c.decode_entry.new.sound _ c.deref_mut-2.ensures.value c.deref_mut-2.ensures.len c.decode_entry.auto.sound
          c.self.invariant.spare;
      stored = length-written c.self.inside.stored _ c.decode_entry.new.stored _ c.deref_mut.ensures.value c.deref_mut.ensures.len c.decode_entry.auto.stored
          c.self.invariant.stored;
      scratch = c.in-Err.ensures.scratch ∙ c.self.invariant.scratch;
    }

pub returns-in-Err-clause-not_held : goal.returns-in-Err-clause-not_held
returns-in-Err-clause-not_held g c =
    let r = reader_seen c.self.inside in
    let none = sym c.move_to_front.ensures.found ∙ c.if-move_to_front.false in
    subst (λ (r : Reader). is_held (order r) c.args.frame ≡ _) c.self.view_is (held_is_found r.held c.args.frame ∙ none)

pub renew_last-requires : goal.renew_last-requires
renew_last-requires g c =
    let slots : AreSlots c.self.inside.slots.cap (sound_bytes c.self.inside.channels) c.move_to_front.new.slots.entries =
    c.move_to_front.ensures.slots _ _ c.self.invariant.slots in
    record { some = omega (arith, slots.count_is, c.self.invariant.together.some) }

pub invariant_of-self-2 : goal.invariant_of-self-2
invariant_of-self-2 g c =
    let r = reader_seen c.self.inside in
    let bytes = sound_bytes c.self.inside.channels in
    let slots : AreSlots c.self.inside.slots.cap bytes c.move_to_front.new.slots.entries = c.move_to_front.ensures.slots _ _ c.self.invariant.slots in
    let capacity = c.renew_last.ensures.capacity ∙ c.move_to_front.ensures.capacity in
    let spare = length-written c.self.inside.spare _ c.decode_entry.new.sound bytes c.deref_mut-2.ensures.value c.deref_mut-2.ensures.len
    c.decode_entry.auto.sound c.self.invariant.spare in
    record {
      together = together_with r c.renew_last.new.slots.cap (held_in c.renew_last.new.slots.entries) capacity c.self.invariant.together;
      slots = subst (λ n. AreSlots n bytes c.renew_last.new.slots.entries) (sym capacity) (c.renew_last.ensures.slots _ bytes slots spare);
      spare = c.renew_last.ensures.spare _ bytes slots;
      stored = length-written c.self.inside.stored _ c.decode_entry.new.stored _ c.deref_mut.ensures.value c.deref_mut.ensures.len c.decode_entry.auto.stored
          c.self.invariant.stored;
      scratch = c.in-Ok.ensures.scratch ∙ c.self.invariant.scratch;
    }

pub returns-clause-wanted : goal.returns-clause-wanted
returns-clause-wanted g c =
    let r = reader_seen c.self.inside in
    let k = c.args.frame in
    let count = sound_bytes c.self.inside.channels in
    let none = sym c.move_to_front.ensures.found ∙ c.if-move_to_front.false in
    let slots : AreSlots c.self.inside.slots.cap count c.move_to_front.new.slots.entries = c.move_to_front.ensures.slots _ _ c.self.invariant.slots in
    let spare = with_items c.self.inside.spare c.decode_entry.new.sound in
    let sound_is : spare.items ≡ c.decode_entry.new.sound =
    with_items_is c.self.inside.spare c.decode_entry.new.sound (c.decode_entry.auto.sound ∙ c.deref_mut-2.ensures.len) in
    let unmoved : held_in c.move_to_front.new.slots.entries ≡ r.held = c.move_to_front.ensures.held ∙ moved_none r.held k none in
    let now : held_in c.renew_last.new.slots.entries ≡ take r.capacity (held k spare.items ∷ r.held) =
    c.renew_last.ensures.held _ count slots ∙ ap (λ ks. take r.capacity (held k spare.items ∷ ks)) unmoved in
    let entry = c.entry-entry.ensures in
    let new = c.renew_last.new.slots in
    let bytes = g.S.Source.bytes c.args.source.now in
    let before = g.S.Source.given c.args.source.now in
    let after = g.S.Source.given c.decode_entry.new.source in
    let r' : Reader = record r { capacity = new.cap; held = held_in new.entries } in
    subst (λ (r : Reader). HasWanted r r' (k ∷ []) 1 bytes before after) c.self.view_is
    (wanted_of_decoded r r' k spare.items bytes before after none
    (seen_with r new.cap (held_in new.entries) (take r.capacity (held k spare.items ∷ r.held))
    (c.renew_last.ensures.capacity ∙ c.move_to_front.ensures.capacity) now)
    (λ small. let more = c.in-Ok.ensures.given small in omega (arith, more, ap (λ e. e.size) entry))
    (λ file told. subst (λ s. Means r.shape (frame_in file r k) s) (sym sound_is)
    (subst (λ e. Means r.shape (frame_at file e) c.decode_entry.new.sound) entry (c.in-Ok.ensures.means file told))))
