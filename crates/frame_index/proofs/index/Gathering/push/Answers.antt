-- The entry stands behind the others, in the room that is left.
use Rattle.std.proofs.Common.{◌≡◌, ◌∷◌, [], ◌++◌, length, ap, ◌∙◌, arith, append_assoc}
use Rattle.byteorder.specs.Endian.{big_bytes}
use Rattle.dsdiff_spec.specs.Walk.{Entry}
use Rattle.frame_index.specs.Entries.{Gathered, entries_in}
use Rattle.frame_index.proofs.Entries.{length-entries_in}
use Rattle.frame_index.proofs.OneMore.{length_more, entries_more}
use Rattle.frame_index.proofs.index.Gathering.push.Goals as goal

pub push_bytes-requires : goal.push_bytes-requires
push_bytes-requires c =
    let count = length-entries_in c.self.inside.bytes.items c.self.inside.frames c.self.invariant.0 in
    let count_is : length (entries_in c.self.inside.bytes.items) ≡ length c.args.self.now.entries = ap (λ (g : Gathered). length g.entries) c.self.view_is in
    let room : c.self.inside.room ≡ c.args.self.now.room = ap (λ (g : Gathered). g.room) c.self.view_is in
    record { room = omega (arith, c.self.invariant.0, c.self.invariant.3, count, count_is, room, c.requires.room) }

pub invariant_of-self : goal.invariant_of-self
invariant_of-self c =
    let bytes = c.self.inside.bytes.items in
    let count = length-entries_in bytes c.self.inside.frames c.self.invariant.0 in
    let count_is : length (entries_in bytes) ≡ length c.args.self.now.entries = ap (λ (g : Gathered). length g.entries) c.self.view_is in
    let room : c.self.inside.room ≡ c.args.self.now.room = ap (λ (g : Gathered). g.room) c.self.view_is in
    let pushed = c.push_bytes.ensures.pushed ∙ append_assoc bytes (big_bytes 8 c.args.offset) (big_bytes 4 c.args.size) in (
      ap length pushed ∙ length_more bytes c.self.inside.frames c.args.offset c.args.size c.self.invariant.0,
      omega (arith, count, count_is, c.requires.few),
      omega (arith, count, count_is, room, c.requires.room),
      omega (arith, c.self.invariant.3, c.push_bytes.ensures.capacity),
    )

pub returns : goal.returns
returns c =
    let bytes = c.self.inside.bytes.items in
    let one : Entry = record { offset = c.args.offset; size = c.args.size } in
    let pushed = c.push_bytes.ensures.pushed ∙ append_assoc bytes (big_bytes 8 c.args.offset) (big_bytes 4 c.args.size) in
    let more : entries_in c.push_bytes.new.bytes.items ≡ entries_in bytes ++ one ∷ [] =
    ap entries_in pushed
    ∙ entries_more bytes c.self.inside.frames c.args.offset c.args.size c.self.invariant.0 (omega (arith, c.ranges.offset.fits))
    (omega (arith, c.ranges.size.fits)) in
    ap {B = Gathered} (λ es. record { entries = es; room = c.self.inside.room }) more
    ∙ ap (λ (g : Gathered). record { entries = g.entries ++ one ∷ []; room = g.room }) c.self.view_is
