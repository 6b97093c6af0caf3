-- The samples with the probability 128 at the beginning of a channel.
use Rattle.std.proofs.Common.{◌≡◌, ℕ, ◌+◌, ◌*◌, ◌≤◌, ◌&&◌, nat_lt, Bool, true, false, if◌then◌else◌, refl, sym, arith, le-ltb}
use Rattle.channel_params.proofs.Early.{at_the_start}

behind_it : (half_prob : Bool) (t long : ℕ) → long ≤ t → false ≡ (half_prob && nat_lt t long)
behind_it true t long le = sym (le-ltb t long le)
behind_it false t long le = refl

pub early_is : (half_prob start : Bool) (byte place early long : ℕ) → early ≡ (if half_prob then long else 0) → long ≤ 128 → (start ≡ false → 16 ≤ byte) →
    (start && nat_lt (8 * byte + place) early) ≡ (half_prob && nat_lt (8 * byte + place) long)
early_is half_prob true byte place early long is short behind = at_the_start half_prob (8 * byte + place) early long is
early_is half_prob false byte place early long is short behind =
    let le = behind refl in
    behind_it half_prob (8 * byte + place) long (omega arith)
