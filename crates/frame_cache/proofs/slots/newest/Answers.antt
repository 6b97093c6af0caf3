-- The first slot holds the frame in front, since behind one that holds none no other does.
use Rattle.std.proofs.Common.{length, ap, sym, ◌∙◌, option_map}
use Rattle.std.specs.Map.Iter.{deref_pair}
use Rattle.frame_cache.proofs.Holding.{none_first, sound_first, first_is_long}
use Rattle.frame_cache.proofs.slots.newest.Goals as goal

pub unreachable-requires : goal.unreachable-requires
unreachable-requires c =
    none_first c.args.slots.now.entries c.requires.some.0 c.requires.some.1 (sym c.peek_mru.ensures ∙ ap (option_map deref_pair) c.in_default.is)
    c.requires.some.2

pub returns-clause-sound : goal.returns-clause-sound
returns-clause-sound c x xs is =
    c.as_slice.ensures.value
    ∙ sound_first c.args.slots.now.entries (c.in-Some.field-0-0.now, c.in-Some.slot.now) x xs c.requires.slots.2.filled
    (sym c.peek_mru.ensures ∙ ap (option_map deref_pair) c.in-Some.is) is

pub returns-clause-long : goal.returns-clause-long
returns-clause-long c count bytes slots =
    let long = first_is_long bytes c.args.slots.now.entries (c.in-Some.field-0-0.now, c.in-Some.slot.now) slots.long
    (sym c.peek_mru.ensures ∙ ap (option_map deref_pair) c.in-Some.is) in
    ap length c.as_slice.ensures.value ∙ long
