-- The piece lies in the sound, and the sound in the source.
use Rattle.std.proofs.Common.{◌≡◌, ◌+◌, ◌*◌, ◌-◌, ◌≤◌, ◌++◌, length, drop, replicate, ap, sym, ◌∙◌, arith}
use Rattle.std.proofs.lemmas.List.{length-append, length-drop, length-take, take_at}
use Rattle.dst_spec.specs.Sample.{sound_bytes}
use Rattle.dsdiff_spec.specs.Bytes.{bytes_at}
use Rattle.dsdiff_spec.specs.Chunks.{body_of}
use Rattle.dsdiff_chunks.specs.Seen.{head_seen}
use Rattle.dst_write.specs.Feeding.{piece_of}
use Rattle.dst_write.proofs.Cutting.{lies_in, piece_read}
use Rattle.dst_write.proofs.feed.read_piece.Goals as goal

pub overflow_mul-place : goal.overflow_mul-place
overflow_mul-place g c =
    let at = lies_in c.args.form.now (length c.args.sound.now) c.from.result c.requires.room (omega (arith, c.from.ensures, c.requires.within)) in
    omega (arith, at.begins, at.ends, at.small)

pub overflow_sub-left : goal.overflow_sub-left
overflow_sub-left g c =
    let at = lies_in c.args.form.now (length c.args.sound.now) c.from.result c.requires.room (omega (arith, c.from.ensures, c.requires.within)) in
    omega (arith, at.begins)

pub overflow_add-from-2 : goal.overflow_add-from-2
overflow_add-from-2 g c =
    let at = lies_in c.args.form.now (length c.args.sound.now) c.from.result c.requires.room (omega (arith, c.from.ensures, c.requires.within)) in
    omega (arith, at.begins, at.ends, at.small)

pub read_range-requires-clause-fits : goal.read_range-requires-clause-fits
read_range-requires-clause-fits g c =
    let at = lies_in c.args.form.now (length c.args.sound.now) c.from.result c.requires.room (omega (arith, c.from.ensures, c.requires.within)) in
    omega (arith, at.begins, at.ends, at.small, length-take c.min-count.result c.args.sound.now, c.min-count.ensures)

pub read_range-requires-clause-inside : goal.read_range-requires-clause-inside
read_range-requires-clause-inside g c =
    let at = lies_in c.args.form.now (length c.args.sound.now) c.from.result c.requires.room (omega (arith, c.from.ensures, c.requires.within)) in
    let size = c.requires.size in
    (size.0, size.1, omega (arith, at.begins, at.ends, size.2, length-take c.min-count.result c.args.sound.now, c.min-count.ensures))

pub returns-clause-piece : goal.returns-clause-piece
returns-clause-piece g c = λ file told.
    let n = length c.args.sound.now in
    let f = c.args.form.now in
    let k = c.from.result in
    let count = c.min-count.result in
    let at = lies_in f n k c.requires.room (omega (arith, c.from.ensures, c.requires.within)) in
    let size = c.requires.size in
    let place = f.sound.place + 12 in
    let taken = length-take count c.args.sound.now in
    let within : count ≤ n = omega (arith, c.min-count.ensures) in
    let whole : length file ≡ size.0 = sym (g.met.S.Source.size_is_length c.args.source.now file size.0 told size.1) in
    let out = c.read_range.new.out in
    let long : length out ≡ count = omega (arith, c.read_range.auto.out, taken, within) in
    let after = drop count c.args.sound.now in
    let all : length (out ++ after) ≡ n = omega (arith, long, within, length-append out after, length-drop count c.args.sound.now) in
    let read : out ≡ bytes_at file (place + k * n) count = c.in-Ok.ensures.read file told ∙ ap (bytes_at file (place + k * n)) (omega (arith, taken, within)) in
    c.fill_from.ensures
    ∙ ap (λ w. w ++ replicate (length (out ++ after) - count) 0x69) (take_at out after count long ∙ read)
    ∙ ap (λ m. bytes_at file (place + k * n) count ++ replicate (m - count) 0x69) all
    ∙ piece_read n f.sound.size place k count file (omega (arith, at.begins)) (omega (arith, whole, at.ends, size.2)) c.min-count.ensures
    ∙ ap (λ n. piece_of n (body_of file (head_seen f.sound)) k) c.requires.room
    ∙ ap (piece_of (sound_bytes f.channels) (body_of file (head_seen f.sound))) c.from.ensures

pub returns-in-Err-clause-given : goal.returns-in-Err-clause-given
returns-in-Err-clause-given g c =
    let place = ap (λ k. k * length c.args.sound.now) c.from.ensures in
    omega (arith, c.read_range.ensures.given, length-take c.min-count.result c.args.sound.now, c.min-count.ensures, place)

pub returns-clause-given : goal.returns-clause-given
returns-clause-given g c =
    let place = ap (λ k. k * length c.args.sound.now) c.from.ensures in
    omega (arith, c.read_range.ensures.given, length-take c.min-count.result c.args.sound.now, c.min-count.ensures, place)
