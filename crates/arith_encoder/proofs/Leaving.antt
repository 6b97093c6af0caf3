-- What leaves into a writer, and what is held back.
use Rattle.std.proofs.Common.{◌≡◌, ℕ, ◌+◌, ◌-◌, ◌*◌, ◌%◌, ◌^◌, ◌<◌, ◌≤◌, Bool, true, false, if◌then◌else◌, List, ◌++◌, length, take, drop, ◌⊎◌, inl}
use Rattle.std.proofs.Common.{inr, refl, ap, ◌∙◌, arith, length-append}
use Rattle.std.proofs.lemmas.Nat.{pow-add, pow_pos, mul-le}
use lib.Dec.{leb}
use Rattle.std.proofs.lemmas.Bool.{leb-true, leb-false}
use Rattle.std.proofs.lemmas.List.{take-append-le, drop-append-le}
use Rattle.dst_spec.specs.Bits.{low_bits, number_from}
use Rattle.dst_spec.proofs.Numbers.{AreBits-append, AreBits-low_bits, length-low_bits}
use Rattle.arith_encoder.specs.Leaving.{written, with_held, IsHeld}
use Rattle.arith_encoder.proofs.Joining.{written-append}
use Rattle.arith_encoder.proofs.Carrying.{turned, turned-below}

-- nothing yet
pub none_written : (xs : List ℕ) → with_held (written xs (length xs)) 1 0 0 ≡ 0
unfolding number_from
none_written xs =
    let none : length xs - length xs ≡ 0 = omega arith in
    rw none refl

-- one block of ones more
pub held-more : (w width block run : ℕ) → with_held w width block (run + 1) ≡ with_held w width block run * 4294967296 + 4294967295
held-more w width block run =
    let more : 32 * (run + 1) ≡ 32 * run + 32 = omega arith in
    let power : 2 ^ (32 * (run + 1)) ≡ 2 ^ (32 * run) * 4294967296 = ap (λ k. 2 ^ k) more ∙ pow-add 2 (32 * run) 32 in
    rw power (go (w * 2 ^ width + block) (2 ^ (32 * run)) (pow_pos (32 * run)))
  where
    go : (a n : ℕ) → 0 < n → (a + 1) * (n * 4294967296) - 1 ≡ ((a + 1) * n - 1) * 4294967296 + 4294967295
    go a n h =
        let some = mul-le 1 n (a + 1) n (omega arith) (omega arith) in
        omega arith

-- all that was held written, and a block held
pub held-turned : (w width block run next : ℕ) (carry : Bool) →
    with_held (w * 2 ^ (width + 32 * run) + turned carry block run) 32 next 0 ≡ with_held w width block run * 4294967296 +
    ((if carry then 4294967296 else 0) + next)
held-turned w width block run next carry =
    let power = pow-add 2 width (32 * run) in
    rw power (go w (2 ^ width) block (2 ^ (32 * run)) carry (pow_pos (32 * run)))
  where
    go : (w p block n : ℕ) (c : Bool) → 0 < n →
        ((w * (p * n) + ((block + 1) * n - (if c then 0 else 1))) * 4294967296 + next + 1) * 1 - 1 ≡ ((w * p + block + 1) * n - 1) * 4294967296 +
        ((if c then 4294967296 else 0) + next)
    go w p block n true h =
        let some = mul-le 1 n (block + 1) n (omega arith) (omega arith) in
        omega arith
    go w p block n false h =
        let some = mul-le 1 n (block + 1) n (omega arith) (omega arith) in
        omega arith

-- what there is when all that was held is let go
pub record IsLetGo (old now : List ℕ) (room_now first k next : ℕ) : Type 0 where
  pub count : length now - first ≡ length old - first + k
  pub before : take first now ≡ take first old
  pub held : IsHeld now room_now first next 32 0

pub let_go_is : (old now : List ℕ) (room room_now first block width run next x : ℕ) → IsHeld old room first block width run →
    now ≡ old ++ low_bits (width + 32 * run) x →
    room_now + (width + 32 * run) ≡ room → width + 32 * run + 32 ≤ room → next + 1 < 4294967296 → IsLetGo old now room_now first (width + 32 * run) next
let_go_is old now room room_now first block width run next x h is left enough free =
    let k = width + 32 * run in
    let long : length now ≡ length old + k = ap length is ∙ length-append old (low_bits k x) ∙ ap (λ n. length old + n) (length-low_bits k x) in
    let within = h.within in
    let small = h.small in
    record {
      count = omega arith;
      before = rw is (take-append-le first old (low_bits k x) within);
      held = record {
        within = omega arith;
        are_bits = rw (is, drop-append-le first old (low_bits k x) within) (AreBits-append (drop first old) (low_bits k x) h.are_bits (AreBits-low_bits k x));
        some = omega arith;
        most = omega arith;
        free = omega arith;
        fits = omega arith;
        small = omega arith;
      };
    }

-- the number behind a carry or none
pub number_let_go : (old now : List ℕ) (room first block width run next : ℕ) (carry : Bool) → IsHeld old room first block width run →
    now ≡ old ++ low_bits (width + 32 * run) (turned carry block run) →
    with_held (written now first) 32 next 0 ≡ with_held (written old first) width block run * 4294967296 + ((if carry then 4294967296 else 0) + next)
number_let_go old now room first block width run next carry h is =
    let k = width + 32 * run in
    let number = ap (λ ys. written ys first) is ∙ written-append old first k (turned carry block run) h.within (turned-below carry block width run h.free) in
    rw number (held-turned (written old first) width block run next carry)

-- a number of 32 bits and a carry
pub with_carry : (x : ℕ) → x < 8589934592 → x ≡ (if leb 4294967296 x then 4294967296 else 0) + x % 4294967296
with_carry x h = go (leb 4294967296 x) refl
  where
    go : (b : Bool) → leb 4294967296 x ≡ b → x ≡ (if b then 4294967296 else 0) + x % 4294967296
    go true e =
        let le : 4294967296 ≤ x = leb-true 4294967296 x e in
        omega arith
    go false e =
        let lt : x < 4294967296 = leb-false 4294967296 x e in
        omega arith

-- a block that isn't all ones, or has a carry above it
pub not_all_ones : (x : ℕ) → x + 1 < 8589934592 → (x < 4294967296 × (x % 4294967296 ≡ 4294967295 → ⊥)) ⊎ (4294967296 ≤ x) → x % 4294967296 + 1 < 4294967296
not_all_ones x h (inl f) =
    let other = f.1 in
    omega arith
not_all_ones x h (inr f) = omega arith
