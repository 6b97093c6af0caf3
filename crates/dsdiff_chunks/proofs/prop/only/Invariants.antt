-- The chunks with the id are the one that was found, if any, and those with it that are left.
use Rattle.std.proofs.Common.{◌≡◌, ◌++◌, filter, bytes_eq, map, option_to_list}
use Rattle.chunk_view.specs.Seen.{seen}
use Rattle.dsdiff_chunks.proofs.prop.only.Given as goal

-- the chunk that was found, and those that are left
abbrev pub invariant-loop-view : goal.invariant-loop-view
invariant-loop-view l =
    filter (λ p. bytes_eq p.chunk.id l.id) l.fn.chunks
    ≡ map seen (option_to_list l.found) ++ filter (λ p. bytes_eq p.chunk.id l.id) l.view-iterator
