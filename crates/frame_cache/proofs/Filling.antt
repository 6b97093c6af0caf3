-- A buffer that is filled with a part of a sound, frame by frame.
use Rattle.std.proofs.Common.{◌≡◌, ℕ, ◌+◌, ◌-◌, ◌<◌, ◌≤◌, List, ◌++◌, length, take, drop, sym, ap, ◌∙◌, arith}
use Rattle.std.specs.Prelude.{min, max}
use Rattle.std.proofs.Math.Seq.{take-add}
use Rattle.std.proofs.lemmas.List.{drop-drop}
use Rattle.dsdiff_spec.specs.Bytes.{bytes_at, between}

bytes_at-add : (xs : List ℕ) (from a m : ℕ) → bytes_at xs from (a + m) ≡ bytes_at xs from a ++ bytes_at xs (from + a) m
bytes_at-add xs from a m = take-add a m (drop from xs) ∙ ap (λ l. take a (drop from xs) ++ take m l) (drop-drop a from xs)

-- the bytes up to the end of frame k, where those up to its beginning are there
pub part_more : (sound out out' s : List ℕ) (n from end p : ℕ) → from < end → p < end → from < p + n → length s ≡ n →
    take (min end p - from) out ≡ bytes_at sound from (min end p - from) →
    take (min end (p + length s) - from) out' ≡ take (max from p - from) out ++ between s (max from p - p) (min end (p + length s) - p) →
    ((i m : ℕ) → i + m ≤ n → p + i + m ≤ end → bytes_at sound (p + i) m ≡ bytes_at s i m) →
    take (min end (p + n) - from) out' ≡ bytes_at sound from (min end (p + n) - from)
part_more sound out out' s n from end p some begins ends long before copied part =
    let first = max from p in
    let last = min end (p + n) in
    let i = first - p in
    let m = last - first in
    let a = first - from in
    let last_is : min end (p + length s) ≡ last = ap (λ k. min end (p + k)) long in
    let done : min end p - from ≡ a = omega arith in
    let there : p + i ≡ from + a = omega arith in
    let whole : last - from ≡ a + m = omega arith in
    let rest : last - p - i ≡ m = omega arith in
    let front : take a out ≡ bytes_at sound from a = ap (λ k. take k out) (sym done) ∙ before ∙ ap (bytes_at sound from) done in
    let back : between s i (min end (p + length s) - p) ≡ bytes_at sound (from + a) m =
    ap (λ k. bytes_at s i (k - p - i)) last_is ∙ ap (bytes_at s i) rest
    ∙ sym (part i m (omega arith) (omega arith)) ∙ ap (λ k. bytes_at sound k m) there in
    ap (λ k. take (k - from) out') (sym last_is) ∙ copied ∙ ap (λ l. l ++ between s i (min end (p + length s) - p)) front
    ∙ ap (λ l. bytes_at sound from a ++ l) back ∙ sym (bytes_at-add sound from a m) ∙ ap (bytes_at sound from) (sym whole)
