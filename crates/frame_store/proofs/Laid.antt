-- Steps laid side by side.
use Rattle.std.proofs.Common.{◌≡◌, ◌≢◌, ◌⊎◌, inl, inr, ℕ, zero, suc, ◌+◌, ◌<◌, ◌≤◌, Bool, false, List, [], ◌∷◌, ◌++◌, length, get_or, set, take}
use Rattle.std.proofs.Common.{replicate, refl, ap, sym, ◌∙◌, arith, get_or-set_same, get_or-set_other, length-set}
use Rattle.std.proofs.lemmas.Bool.{cases_eq}
use Rattle.dst_spec.specs.Interval.{whole, interval_from, interval}
use Rattle.dst_spec.proofs.Intervals.{interval_from-append}
use Rattle.dst_spec.specs.Spell.{code_spelling}
use Rattle.dst_spec.proofs.CodeLengths.{code_bits}
use Rattle.arith_encoder.specs.Lanes.{IsStep, AreSteps, Leaves}
use Rattle.frame_store.specs.Measured.{IsMeasured}

abbrev pub with_lane : List (List ℕ) → ℕ → ℕ → ℕ → List (List ℕ)
with_lane steps k lane x = set steps k (set (get_or steps k []) lane x)

pub lane-same : (steps : List (List ℕ)) (k lane x : ℕ) → k < length steps → lane < length (get_or steps k []) →
    get_or (get_or (with_lane steps k lane x) k []) lane 0 ≡ x
lane-same steps k lane x lt h = ap (λ r. get_or r lane 0) (get_or-set_same steps k (set (get_or steps k []) lane x) [] lt)
    ∙ get_or-set_same (get_or steps k []) lane x 0 h

pub lane-row : (steps : List (List ℕ)) (k j lane x : ℕ) → j ≢ k → get_or (get_or (with_lane steps k lane x) j []) lane 0 ≡ get_or (get_or steps j []) lane 0
lane-row steps k j lane x ne = ap (λ r. get_or r lane 0) (get_or-set_other steps k j (set (get_or steps k []) lane x) [] ne)

pub lane-other : (steps : List (List ℕ)) (k j lane other x : ℕ) → k < length steps → other ≢ lane →
    get_or (get_or (with_lane steps k lane x) j []) other 0 ≡ get_or (get_or steps j []) other 0
lane-other steps k j lane other x lt ne = at (cases_eq j k)
  where
    at : (j ≡ k) ⊎ (j ≡ k → ⊥) → get_or (get_or (with_lane steps k lane x) j []) other 0 ≡ get_or (get_or steps j []) other 0
    at (inl is) =
        ap (λ i. get_or (get_or (with_lane steps k lane x) i []) other 0) is
        ∙ ap (λ r. get_or r other 0) (get_or-set_same steps k (set (get_or steps k []) lane x) [] lt)
        ∙ get_or-set_other (get_or steps k []) lane other x 0 ne ∙ ap (λ i. get_or (get_or steps i []) other 0) (sym is)
    at (inr nor) = ap (λ r. get_or r other 0) (get_or-set_other steps k j (set (get_or steps k []) lane x) [] nor)

pub lane-eights : (steps : List (List ℕ)) (k lane x : ℕ) → k < length steps → ((j : ℕ) → j < length steps → length (get_or steps j []) ≡ 8) →
    (j : ℕ) → j < length (with_lane steps k lane x) → length (get_or (with_lane steps k lane x) j []) ≡ 8
lane-eights steps k lane x lt eights j h = at (cases_eq j k)
  where
    at : (j ≡ k) ⊎ (j ≡ k → ⊥) → length (get_or (with_lane steps k lane x) j []) ≡ 8
    at (inl is) =
        ap (λ i. length (get_or (with_lane steps k lane x) i [])) is ∙ ap length (get_or-set_same steps k (set (get_or steps k []) lane x) [] lt)
        ∙ length-set (get_or steps k []) lane x ∙ eights k lt
    at (inr nor) =
        let long = length-set steps k (set (get_or steps k []) lane x) in
        ap length (get_or-set_other steps k j (set (get_or steps k []) lane x) [] nor) ∙ eights j (omega arith)

-- ---- part after part
pub measured-more : (before behind : List (Bool × ℕ)) (range bits after more bits_after : ℕ) → IsMeasured before range bits →
    Leaves range behind after more → bits_after ≡ bits + more →
    IsMeasured (before ++ behind) after bits_after
measured-more before behind range bits after more bits_after h next is =
    let all = interval_from-append whole before behind in
    let a = next.alike (interval before) h.alike.0 in
    let old = h.bits_are in
    record {
      doublings = h.doublings + more;
      in_range = next.in_range;
      alike = (ap (λ i. i.range) all ∙ a.0, ap (λ i. i.doublings) all ∙ a.1 ∙ ap (λ n. n + more) h.alike.1);
      bits_are = omega arith;
    }

pub none-measured : (range bits : ℕ) → range ≡ 4095 → bits ≡ 13 → IsMeasured [] range bits
unfolding interval_from
none-measured range bits r b = rw (r, b)
    (record { doublings = 0; in_range = record { least = omega arith; most = omega arith }; alike = (refl, refl); bits_are = refl })

pub all-measured : (pairs : List (Bool × ℕ)) (range bits : ℕ) → IsMeasured pairs range bits → bits ≡ length (code_spelling pairs)
all-measured pairs range bits h = let is = h.bits_are in omega (arith, code_bits pairs, h.alike.1)

pub first-step : (lane p : ℕ) (steps : List (List ℕ)) (first : List ℕ) → 0 < length steps → IsStep false p (get_or first lane 0) →
    AreSteps lane (take 1 (set steps 0 first)) ((false, p) ∷ [])
first-step lane p [] first some is = absurd (omega arith)
first-step lane p (s ∷ rest) first some is = record { long = refl; each = at }
  where
    at : (k : ℕ) → k < 1 → IsStep (get_or {A = Bool × ℕ} ((false, p) ∷ []) k (false, 0)).0 (get_or {A = Bool × ℕ} ((false, p) ∷ []) k (false, 0)).1
        (get_or (get_or (first ∷ []) k []) lane 0)
    at zero lt = is
    at (suc k) lt = absurd (omega arith)

pub same-at_most : (n v i : ℕ) → get_or (replicate n v) i 0 ≤ v
same-at_most zero v i = omega arith
same-at_most (suc n) v zero = omega arith
same-at_most (suc n) v (suc i) = same-at_most n v i

pub same-at : (n v i : ℕ) → i < n → get_or (replicate n v) i 0 ≡ v
same-at zero v i lt = absurd (omega arith)
same-at (suc n) v zero lt = refl
same-at (suc n) v (suc i) lt = same-at n v i (omega arith)
