-- Where the bytes of a row's sound stand in its blocks: each at a place of its own.
use Rattle.std.proofs.Common.{◌≡◌, ℕ, ◌+◌, ◌*◌, ◌/◌, ◌%◌, ◌<◌, List, take, sym, ap₂, ◌∙◌, arith}
use Rattle.std.proofs.lemmas.List.{get_or-take}
use Rattle.std.proofs.Math.Nat.{div-add-mod, mod-lt}
use Rattle.dsf_files.proofs.Reading.{quotient_below}
use Rattle.dsf_files.proofs.RowBytes.{place_of_byte}
use Rattle.dst_dsf.specs.Rows.{place_in, HasRow}

pub octet_below : (n p : ℕ) → p < 4096 * n → p / n < 4096
octet_below n p under = quotient_below p n 4096 under

pub place_at : (n octet channel p : ℕ) → octet * n + channel ≡ p → channel < n → place_in n p ≡ 4096 * channel + octet
place_at n octet channel p there below =
    let parts = place_of_byte octet n channel p there below in
    ap₂ (λ a b. 4096 * a + b) parts.0 parts.1

same_parts : (x y a b : ℕ) → a < 4096 → b < 4096 → 4096 * x + a ≡ 4096 * y + b → (x ≡ y) × (a ≡ b)
same_parts x y a b small little e = (omega arith, omega arith)

pub place_apart : (n p q : ℕ) → p < 4096 * n → q < 4096 * n → (p ≡ q → ⊥) → place_in n p ≡ place_in n q → ⊥
place_apart n p q below other apart same =
    let parts = same_parts (p % n) (q % n) (p / n) (q / n) (octet_below n p below) (octet_below n q other) same in
    apart (sym (div-add-mod p n) ∙ ap₂ (λ a b. n * a + b) parts.1 parts.0 ∙ div-add-mod q n)

-- they all stand in the row
pub place_within : (n p : ℕ) → p < 4096 * n → place_in n p < 4096 * n
place_within n p below =
    let octet = octet_below n p below in
    let channel : p % n < n = mod-lt p (omega (arith, below)) in
    omega (arith, octet, channel)

pub front_row : (n : ℕ) (sound : List ℕ) (number : ℕ) (row : List ℕ) (count : ℕ) → count ≡ 4096 * n → HasRow n sound number row →
    HasRow n sound number (take count row)
front_row n sound number row count is has p below =
    get_or-take count row (place_in n p) 0 (omega (arith, is, place_within n p below)) ∙ has p below
