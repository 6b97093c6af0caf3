-- A decoder's fields before a symbol, refilled where that is needed, and behind it.
use Rattle.std.proofs.Common.{◌≡◌, ℕ, ◌+◌, ◌-◌, ◌*◌, ◌/◌, ◌%◌, ◌^◌, ◌<◌, ◌≤◌, Bool, List, [], ◌∷◌, ◌++◌, length, arith}
use Rattle.std.specs.Int.{trailing_zeros, w64}
use Rattle.dst_spec.specs.Bits.{bits}
use Rattle.dst_spec.proofs.Numbers.{AreBits-bits}
use Rattle.arith_decoder.specs.Decoding.{Decoding, StandsFor}
use Rattle.arith_decoder.specs.Registers.{IsValue, IsStep, AreRegisters}
use Rattle.arith_decoder.proofs.Registers.{offset_of, zeros_of, few_zeros}
use Rattle.arith_decoder.proofs.Standing.{StandsFor-next}
use Rattle.arith_decoder.proofs.Stepping.{stepped, decoding}
use Rattle.arith_core.specs.Range.{IsRange}

-- the registers hold enough bits for a symbol
pub record IsReady (bytes : List ℕ) (first used place value range : ℕ) : Type 0 where
  pub below : value < range * 2 ^ 52
  pub holds : IsValue (bits bytes) (first + used) place (value / 2 ^ 52) value
  pub enough : 8 ≤ holds.ahead

pub ready_as_it_is : (bytes : List ℕ) (first used place value range : ℕ) → AreRegisters bytes first used place value range → (value % 4294967296 ≡ 0 → ⊥) →
    IsReady bytes first used place value range
ready_as_it_is bytes first used place value range r h =
    let few = few_zeros (bits bytes) (first + used) place (value / 2 ^ 52) value r.holds h in
    record { below = r.below; holds = r.holds; enough = omega (arith, r.holds.full) }

pub ready_refilled : (bytes : List ℕ) (first used place value range more : ℕ) → AreRegisters bytes first used place value range →
    IsValue (bits bytes) (first + used) (place + 32) (value / 2 ^ 52) more → (more / 2 ^ 52 ≡ value / 2 ^ 52) × IsReady bytes first used (place + 32) more range
ready_refilled bytes first used place value range more r v =
    let offset = offset_of (bits bytes) (first + used) (place + 32) (value / 2 ^ 52) more (AreBits-bits bytes) v in
    let reach = v.reach in
    let full = v.full in
    let was = r.holds.reach in
    let were = r.holds.full in
    let below = r.below in
    (offset, record { below = omega arith; holds = rw offset v; enough = omega arith })

-- behind a symbol
pub record IsBehind (bytes : List ℕ) (first used place : ℕ) (before after : Decoding) (p : ℕ) (symbol : Bool) (value range : ℕ) : Type 0 where
  pub doublings : ℕ
  pub few : doublings ≤ 8
  pub used_is : place + trailing_zeros w64 value - 51 - first ≡ used + doublings
  pub registers : AreRegisters bytes first (place + trailing_zeros w64 value - 51 - first) place value range
  pub stands : (pairs : List (Bool × ℕ)) → StandsFor before pairs → StandsFor after (pairs ++ (symbol, p) ∷ [])

pub behind : (bytes : List ℕ) (first used place value range p : ℕ) (symbol : Bool) (value_after range_after : ℕ) →
    length bytes ≤ 2 ^ 50 → first < 2 ^ 61 → 13 ≤ used → used ≤ 2 ^ 40 → value_after < 18446744073709551616 → IsRange range →
    IsReady bytes first used place value range →
    IsStep p value range symbol value_after range_after →
    IsBehind bytes first used place (decoding bytes first range value used)
    (record { bytes = bytes; first = first; range = range_after; offset = value_after / 2 ^ 52; used = place + trailing_zeros w64 value_after - 51 - first })
    p symbol value_after range_after
behind bytes first used place value range p symbol value_after range_after short early some small fits in_range r s =
    let t = stepped bytes first used place value range p symbol value_after range_after in_range r.holds r.enough s in
    let k = t.doublings in
    let v = t.holds in
    let zeros = zeros_of (bits bytes) (first + (used + k)) place (value_after / 2 ^ 52) value_after fits v in
    let full = v.full in
    let reach = v.reach in
    let used_is : place + trailing_zeros w64 value_after - 51 - first ≡ used + k = omega arith in
    let after = s.after in
    record {
      doublings = k;
      few = t.few;
      used_is = used_is;
      registers = rw used_is (record {
        short = short;
        early = early;
        near = omega (arith, t.few);
        some = omega arith;
        in_range = after;
        below = s.below;
        holds = v;
      });
      stands = λ pairs st. rw used_is (StandsFor-next (decoding bytes first range value used) p symbol k
          (decoding bytes first range_after value_after (used + k)) t.next pairs st);
    }
