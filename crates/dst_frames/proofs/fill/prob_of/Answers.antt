-- The place is an eighth of the prediction's size, at most the last one, and what stands there is 1 to 128.
use Rattle.std.proofs.Common.{◌-◌, ◌/◌, ◌≤◌, min, pos, nat_abs, length, map, get_or, ap, ◌∙◌, w32, arith}
use Rattle.std.proofs.lemmas.Int.{to_z-of_z}
use Rattle.std.proofs.lemmas.List.{length-map}
use Rattle.channel_params.proofs.Probs.{prob_in_range}
use Rattle.dst_frames.proofs.fill.prob_of.Goals as goal

pub returns : goal.returns
returns c =
    let probs = c.args.probs.now in
    let read_back = to_z-of_z w32 c.args.prediction c.ranges.prediction in
    let place = c.min.ensures ∙ ap (λ n. min (n / 8) (length probs - 1)) (c.unsigned_abs.ensures.value ∙ ap nat_abs read_back) in
    let long = length-map probs (λ x. pos x) in
    let some : 1 ≤ length (map pos probs) = c.requires.least in
    let at = c.min.ensures in
    let range = prob_in_range probs c.min.result c.requires (omega (arith, at)) in
    record { value = ap (λ i. get_or probs i 0) place; least = range.0; most = range.1 }
