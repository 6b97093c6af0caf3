-- The slot that holds the frame moves to the front; where there is none, the frame isn't held.
use Rattle.std.proofs.Common.{nat_eq, is_some, option_map, refl, sym, ap, ◌∙◌}
use Rattle.lru.proofs.Pairs.{lookup-lookup_entry}
use Rattle.frame_cache.specs.Slots.{held_in}
use Rattle.frame_cache.proofs.Holding.{found_at, not_found, held-promoted, slots-promoted}
use Rattle.frame_cache.proofs.slots.move_to_front.Goals as goal

pub returns-in-Some-clause-found : goal.returns-in-Some-clause-found
returns-in-Some-clause-found c =
    let es = c.args.slots.now.entries in
    let h = found_at es c.args.frame c.in-Some.number (sym c.slot_of.ensures ∙ c.in-Some.is) c.len-count.ensures.valid.0 in
    c.promote.ensures.value
    ∙ ap is_some (sym (lookup-lookup_entry (nat_eq c.in-Some.number) es) ∙ ap (option_map (λ e. e.1)) h.looked)
    ∙ sym (ap is_some h.found_is)

pub returns-in-Some-clause-held : goal.returns-in-Some-clause-held
returns-in-Some-clause-held c =
    let h = found_at c.args.slots.now.entries c.args.frame c.in-Some.number (sym c.slot_of.ensures ∙ c.in-Some.is) c.len-count.ensures.valid.0 in
    ap (λ l. held_in l.entries) c.promote.ensures.entries ∙ held-promoted c.args.slots.now.entries c.args.frame c.in-Some.number h

pub returns-in-Some-clause-slots : goal.returns-in-Some-clause-slots
returns-in-Some-clause-slots c n bytes slots =
    let h = found_at c.args.slots.now.entries c.args.frame c.in-Some.number (sym c.slot_of.ensures ∙ c.in-Some.is) c.len-count.ensures.valid.0 in
    rw c.promote.ensures.entries (slots-promoted n bytes c.args.slots.now.entries c.args.frame c.in-Some.number h slots)

pub returns-in-None-clause-found : goal.returns-in-None-clause-found
returns-in-None-clause-found c =
    let none = not_found c.args.slots.now.entries c.args.frame (sym c.slot_of.ensures ∙ c.in-None.is) in
    rw none refl

pub returns-in-None-clause-held : goal.returns-in-None-clause-held
returns-in-None-clause-held c =
    let none = not_found c.args.slots.now.entries c.args.frame (sym c.slot_of.ensures ∙ c.in-None.is) in
    rw none refl
