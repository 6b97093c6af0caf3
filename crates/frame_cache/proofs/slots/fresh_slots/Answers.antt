-- One slot more is made.
use Rattle.std.proofs.Common.{◌≡◌, ◌+◌, ◌-◌, ◌≤◌, ◌∷◌, length, nat_eq, None, refl, ap, sym, ◌∙◌, arith, subst}
use Rattle.std.proofs.lemmas.List.{take_all}
use Rattle.lru.specs.LruCache.{put_entries}
use Rattle.frame_cache.specs.declared.slots.Slot.{Slot}
use Rattle.frame_cache.proofs.Renewing.{AreMade, none_above, one_more}
use Rattle.frame_cache.proofs.slots.fresh_slots.Goals as goal

pub loop-number-preserved : goal.loop-number-preserved
loop-number-preserved c =
    let n = c.loop-number.number in
    let es = c.loop-number.slots.entries in
    let made = c.loop-number.invariant.made in
    let below = c.loop-number-test.true in
    let slot : Slot = record { frame = None; sound = c.in_ok-sound.sound } in
    let none = none_above n es made.keys in
    let fits : length es ≤ c.loop-number.slots.cap - 1 = omega (arith, made.slots.count_is, c.loop-number.invariant.capacity, below) in
    let put : put_entries nat_eq c.loop-number.slots n slot ≡ (n, slot) ∷ es = rw none (ap (λ l. (n, slot) ∷ l) (take_all _ es fits)) in
    record {
      capacity = ap (λ l. l.cap) c.in_ok-put.ensures.entries ∙ c.loop-number.invariant.capacity;
      made = subst (AreMade (n + 1) c.args.bytes) (sym (ap (λ l. l.entries) c.in_ok-put.ensures.entries ∙ put))
          (one_more n c.args.bytes es slot made refl (sym c.in_ok-sound.sound.ok.0 ∙ c.in_ok-sound.ensures.len));
    }
