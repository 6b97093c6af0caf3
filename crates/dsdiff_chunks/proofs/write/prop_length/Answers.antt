-- The bytes are those of the pieces that are written.
use Rattle.std.proofs.Common.{◌≡◌, ◌+◌, ◌-◌, ◌++◌, ℕ, List, [], length, take, drop, refl, ap, arith, length-append, length-drop}
use Rattle.std.proofs.lemmas.List.{length-take}
use Rattle.std.specs.Prelude.{codes}
use Rattle.byteorder.specs.Endian.{big_bytes}
use Rattle.byteorder.specs.Numbers.{length-bytes_high_first}
use Rattle.dsdiff_chunks.proofs.Exchange.{pieces_are}
use Rattle.dsdiff_chunks.proofs.write.prop_length.Goals as goal

length-pieces : (head front cmpr back : List ℕ) → length (head ++ (front ++ (cmpr ++ (back ++ [])))) ≡ length head + length front + length cmpr + length back
length-pieces head front cmpr back = omega (
  arith,
  length-append head (front ++ (cmpr ++ (back ++ []))),
  length-append front (cmpr ++ (back ++ [])),
  length-append cmpr (back ++ []),
  length-append {A = ℕ} back [],
)

pub returns-clause-length : goal.returns-clause-length
returns-clause-length c =
    let prop = c.args.prop.now in
    let cmpr = c.args.cmpr.now in
    let place = c.place_of_cmpr-place.result.0 in
    let end = c.place_of_cmpr-place.result.1 in
    let size = length prop - (end - place) + length cmpr in
    let head = codes "PROP" ++ big_bytes 8 size in
    let front = take place prop in
    let back = take (length prop - end) (drop end prop) in
    let whole = pieces_are prop cmpr place end head c.requires.prop c.requires.cmpr c.place_of_cmpr-place.ensures.place c.place_of_cmpr-place.ensures.end
    refl in
    omega (
      arith,
      ap length whole,
      length-pieces head front cmpr back,
      length-append (codes "PROP") (big_bytes 8 size),
      length-bytes_high_first 8 size,
      length-take place prop,
      length-take (length prop - end) (drop end prop),
      length-drop end prop,
    )
