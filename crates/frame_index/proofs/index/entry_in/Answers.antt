-- The bytes from the place on begin with eight of the offset and four of the size.
use Rattle.std.proofs.Common.{◌≡◌, ◌-◌, ◌*◌, ap, ◌∙◌, refl, length, take, drop}
use Rattle.byteorder.specs.Endian.{big_number}
use Rattle.chunk_view.proofs.InParts.{number_behind_place, number_behind_both}
use Rattle.chunk_view.proofs.Reading.{from_place_is}
use Rattle.frame_index.proofs.index.entry_in.Goals as goal

pub returns : goal.returns
returns c =
    let bytes = c.args.bytes.now in
    let at = 12 * c.args.k in
    let there = from_place_is bytes at in
    let o : c.in-Some.offset ≡ big_number 8 (take (length bytes - at) (drop at bytes)) = c.in-Some.ensures.offset in
    let s : c.in-Some.size ≡ big_number 4 (drop 8 (take (length bytes - at) (drop at bytes))) = c.in-Some.ensures.length in
    let offset = o ∙ ap (λ w. big_number 8 w) there ∙ number_behind_place bytes at 8 in
    let size = s ∙ ap (λ w. big_number 4 (drop 8 w)) there ∙ number_behind_both bytes at 4 8 in
    rw (offset, size) refl
