-- What is chosen by masks is the part of the symbol, and it is doubled until it is a range again.
use Rattle.std.proofs.Common.{◌≡◌, ℕ, ◌+◌, Bool, true, false, if◌then◌else◌, refl, arith}
use Rattle.arith_encoder.proofs.Narrowing.{narrow_is, shifts}
use Rattle.arith_encoder.proofs.narrow.narrow.Goals as goal

doublings_is : (symbol : Bool) (shift last : ℕ) → (if symbol then last else (shift + last)) ≡ shifts symbol shift + last
doublings_is true shift last = omega arith
doublings_is false shift last = refl

pub returns : goal.returns
returns c =
    let n = narrow_is c.args.range c.args.p c.args.symbol c.args.scaling c.scale-scale.result c.select-part.result c.select.result
    (shifts c.args.symbol c.args.scaling.shift) c.requires.range
    c.requires.least c.requires.most c.requires.scaling c.scale-scale.ensures.scale c.select-part.ensures c.select.ensures refl in
    rw (c.select-2.ensures, c.select-3.ensures, c.from-last.ensures, doublings_is c.args.symbol c.args.scaling.shift)
    (record { narrowed = n.narrowed_is; range = n.in_range; few = n.few; within = n.within })
