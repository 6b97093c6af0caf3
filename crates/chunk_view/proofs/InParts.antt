-- Bytes and numbers in a part of a file are bytes and numbers of the file.
use Rattle.std.proofs.Common.{◌≡◌, ℕ, ◌+◌, ◌-◌, ◌≤◌, List, take, drop, ap, sym, ◌∙◌, arith, add-zero}
use Rattle.std.proofs.lemmas.List.{drop-take, take-take, drop-drop}
use Rattle.byteorder.specs.Endian.{big_from}
use Rattle.byteorder.specs.Numbers.{big_from-take}
use Rattle.dsdiff_spec.specs.Bytes.{bytes_at, number_at}
use Rattle.dsdiff_spec.specs.Chunks.{head_at}
use Rattle.dsdiff_spec.proofs.Tiling.{same_head}
use Rattle.chunk_view.proofs.Reading.{big_from-drop}

pub bytes_in_part : (xs : List ℕ) (from n i k : ℕ) → i + k ≤ n → bytes_at (bytes_at xs from n) i k ≡ bytes_at xs (from + i) k
bytes_in_part xs from n i k le =
    let e : n ≡ i + (n - i) = omega arith in
    ap (λ m. take k (drop i (take m (drop from xs)))) e
    ∙ ap (take k) (drop-take i (n - i) (drop from xs))
    ∙ take-take k (n - i) (drop i (drop from xs)) (omega arith)
    ∙ ap (take k) (drop-drop i from xs)

pub number_in_part : (xs : List ℕ) (from n i k : ℕ) → i + k ≤ n → number_at (bytes_at xs from n) i k ≡ number_at xs (from + i) k
number_in_part xs from n i k le = big_from-take i k n (drop from xs) le ∙ big_from-drop from i k xs

pub head_in_part : (xs w : List ℕ) (place : ℕ) → w ≡ bytes_at xs place 12 → head_at xs place ≡ record { id = take 4 w; place = place; size = number_at w 4 8 }
head_in_part xs w place is =
    let id : bytes_at (bytes_at xs place 12) 0 4 ≡ bytes_at xs (place + 0) 4 = bytes_in_part xs place 12 0 4 (omega arith) in
    same_head _ _ place _ _
    (sym (ap (λ v. take 4 v) is ∙ id ∙ ap (λ i. bytes_at xs i 4) (add-zero place)))
    (sym (ap (λ v. number_at v 4 8) is ∙ number_in_part xs place 12 4 8 (omega arith)))

-- a number behind a place, from its own place on
pub number_behind_place : (xs : List ℕ) (k n : ℕ) → big_from 0 n (drop k xs) ≡ big_from k n xs
number_behind_place xs k n = big_from-drop k 0 n xs ∙ ap (λ i. big_from i n xs) (add-zero k)

pub number_behind_both : (xs : List ℕ) (k n m : ℕ) → big_from 0 n (drop m (drop k xs)) ≡ big_from (k + m) n xs
number_behind_both xs k n m = number_behind_place (drop k xs) m n ∙ big_from-drop k m n xs
