-- The samples with the probability 128 at the beginning of a channel.
use Rattle.std.proofs.Common.{◌≡◌, ℕ, ◌&&◌, nat_lt, Bool, true, false, if◌then◌else◌, ap, ◌∙◌, arith, le-ltb}

pub at_the_start : (half_prob : Bool) (t early long : ℕ) → early ≡ (if half_prob then long else 0) → nat_lt t early ≡ (half_prob && nat_lt t long)
at_the_start true t early long is = ap (nat_lt t) is
at_the_start false t early long is = ap (nat_lt t) is ∙ le-ltb t 0 (omega arith)
