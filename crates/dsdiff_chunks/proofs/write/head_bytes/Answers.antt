-- The size is put behind the four bytes of the id, which stay.
use Rattle.std.proofs.Common.{refl, ◌∙◌}
use Rattle.std.proofs.lemmas.List.{drop_at}
use Rattle.dsdiff_chunks.proofs.Pieces.{put_behind}
use Rattle.dsdiff_chunks.proofs.write.head_bytes.Goals as goal

pub returns : goal.returns
returns c =
    let size = rw (drop_at c.copy_from_slice.new.self _ 4 c.copy_from_slice.ensures.len) at c.write_u64.ensures in
    put_behind c.copy_from_slice.new.self _ c.write_u64.new.buf 4 8 c.copy_from_slice.ensures.len refl
    ∙ rw (c.copy_from_slice.ensures.after, size) refl
