-- The codes of a row, one by one.
use Rattle.std.proofs.Common.{◌≡◌, ℕ, ◌<◌, ◌+◌, ◌==◌, ℤ, pos, Bool, true, false, not, cond, if◌then◌else◌, List, length, get_or, ◌∙◌, arith}
use Rattle.std.proofs.lemmas.List.{get_or_default}
use Rattle.std.specs.Int.{is_negative}
use Rattle.std.proofs.lemmas.List.FromFn.{length-map-range_with_len, get_or-map-range_with_len, fill_by_all}
use Rattle.dst_spec.specs.Sample.{Shape, sample, samples}
use Rattle.dst_spec.specs.Guess.{sum_before}
use Rattle.frame_predictions.specs.Codes.{place_of, code_of, code_at, codes}

pub code-small : (z : ℤ) (one : Bool) → code_of z one < 128
code-small z one = go (if is_negative z then not one else one)
  where
    go : (b : Bool) → place_of z + cond b 0 64 < 128
    go true = omega arith
    go false = omega arith

pub codes-length : (f : Shape) (sound : List ℕ) (c : ℕ) (filter : List ℤ) → length (codes f sound c filter) ≡ samples f
unfolding codes
codes-length f sound c filter = length-map-range_with_len (code_at f sound c filter) 0 (samples f)

pub codes-at : (f : Shape) (sound : List ℕ) (c : ℕ) (filter : List ℤ) (t : ℕ) → t < samples f → get_or (codes f sound c filter) t 0 ≡ code_at f sound c filter t
unfolding codes
codes-at f sound c filter t lt = get_or-map-range_with_len (code_at f sound c filter) 0 (samples f) t t 0 lt (omega arith)

pub codes-whole : (f : Shape) (sound : List ℕ) (c : ℕ) (filter : List ℤ) (xs : List ℕ) → length xs ≡ samples f →
    ((t : ℕ) → t < samples f → get_or xs t 0 ≡ code_at f sound c filter t) → xs ≡ codes f sound c filter
unfolding codes
codes-whole f sound c filter xs long each = fill_by_all (code_at f sound c filter) xs (samples f) 0 long each

-- a code has seven bits
pub codes-small : (f : Shape) (sound : List ℕ) (c : ℕ) (filter : List ℤ) (k d : ℕ) → k < length (codes f sound c filter) →
    get_or (codes f sound c filter) k d < 128
codes-small f sound c filter k d lt =
    let long = codes-length f sound c filter in
    let at = get_or_default (codes f sound c filter) k d 0 lt ∙ codes-at f sound c filter k (omega arith) in
    let small = code-small (sum_before f sound c filter (pos k)) (sample f sound c (pos k) == 1) in
    omega arith
