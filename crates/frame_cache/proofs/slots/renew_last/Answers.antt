-- The last slot is found by its number, and comes to the front with the spare sound.
use Rattle.std.proofs.Common.{rules, ◌≡◌, ℕ, List, ◌∷◌, length, take, nat_eq, Some, option_map, refl, sym, ap, subst, ◌∙◌}
use Rattle.std.specs.Map.{set_value}
use Rattle.std.specs.Map.Iter.{deref_pair}
use Rattle.lru.specs.LruCache.{promoted}
use Rattle.frame_cache.specs.declared.slots.Slot.{Slot}
use Rattle.frame_cache.specs.Slots.{held, held_in, AreSlots}
use Rattle.frame_cache.proofs.Renewing.{IsLast, is_last, renewed, held-renewed, slots-renewed, last_is_long}
use Rattle.frame_cache.proofs.slots.renew_last.Goals as goal

pub renew-requires : goal.renew-requires
renew-requires c =
    let h : IsLast c.args.slots.now.entries (c.in-Some.number.now, c.in-Some.field-0-1.now) =
    is_last _ _ c.len-count.ensures.valid.0 c.requires.some (sym c.peek_lru.ensures ∙ ap (option_map deref_pair) c.in-Some.is) in
    record { there = rw h.looked (search rules) }

-- the slot that was said to be the last one is, behind the others
last : (c : goal.After-renew) → IsLast c.args.slots.now.entries (c.in-Some.number.now, c.in-Some.field-0-1.now)
last c = is_last _ _ c.len-count.ensures.valid.0 c.requires.some (sym c.peek_lru.ensures ∙ ap (option_map deref_pair) c.in-Some.is)

-- the entries that are left
renewed_to : {es new : List (ℕ × Slot)} {x : ℕ × Slot} {slot : Slot} (h : IsLast es x) → new ≡ set_value (nat_eq x.0) (promoted (nat_eq x.0) es) slot →
    new ≡ (x.0, slot) ∷ h.front
renewed_to {es} {new} {x} {slot} h is =
    is ∙ ap (λ l. set_value (nat_eq x.0) (promoted (nat_eq x.0) l) slot) h.parts ∙ renewed h.front x slot h.found

pub returns-clause-held : goal.returns-clause-held
returns-clause-held c count bytes slots =
    let slot : Slot = record { frame = Some c.args.frame; sound = c.args.spare.now } in
    let h = last c in
    ap held_in (renewed_to h c.renew.ensures.entries)
    ∙ held-renewed count bytes h.front _ slot c.args.frame (subst (AreSlots count bytes) h.parts slots) refl
    ∙ ap (λ l. take count (held c.args.frame c.args.spare.now.items ∷ held_in l)) (sym h.parts)

pub returns-clause-slots : goal.returns-clause-slots
returns-clause-slots c count bytes slots long =
    let h = last c in
    subst (AreSlots count bytes) (sym (renewed_to h c.renew.ensures.entries))
    (slots-renewed count bytes h.front _ _ c.args.frame (subst (AreSlots count bytes) h.parts slots) refl long)

pub returns-clause-spare : goal.returns-clause-spare
returns-clause-spare c count bytes slots =
    let h = last c in
    let same = rw h.looked at c.renew.ensures.spare in
    ap (λ v. length v.items) same ∙ last_is_long bytes h.front _ (subst (AreSlots count bytes) h.parts slots).long
