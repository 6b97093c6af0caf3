-- A frame begins in a lane: the chances of the others, and tables that are narrow.
use Rattle.std.proofs.Common.{◌≡◌, ◌≢◌, ℕ, ◌+◌, ◌%◌, ◌<◌, ℤ, pos, [], ◌∷◌, Bool, true, false, nat_eq, List, length, get_or, set, get_or-set_same}
use Rattle.std.proofs.Common.{get_or-set_other, length-set}
use Rattle.std.proofs.Common.{refl, ap, sym, subst, arith}
use Rattle.std.proofs.lemmas.Bool.{eqb-true, eqb-false}
use Rattle.arith_lanes.specs.Chances.{IsChance}
use Rattle.byte_predictor.specs.Upward.{size_sum}
use Rattle.dst_frames.specs.Eight.{state_in}
use Rattle.dst_frames.specs.Batch.{IsChanceOf}
use Rattle.dst_frames.specs.Running.{AreNarrow, AreChances}
use Rattle.dst_frames.specs.declared.tables.ChannelTables.{ChannelTables}
use Rattle.dst_frames.specs.declared.state.ChannelState.{ChannelState}
use Rattle.dst_frames.specs.declared.eight.EightStates.{EightStates}

pub chances_begun : (n c : ℕ) (was : EightStates) (rows : List EightStates) (row : EightStates) → c < length rows → AreChances rows n →
    IsChanceOf (state_in row n).next (get_or row.chances n 0) → ((m : ℕ) → m ≢ n → state_in row m ≡ state_in (get_or rows c was) m) →
    ((m : ℕ) → m ≢ n → get_or row.chances m 0 ≡ get_or (get_or rows c was).chances m 0) → AreChances (set rows c row) n
chances_begun n c was rows row lt are own states chances = record {
  some = λ m d other h k. some_at m d other h (omega (arith, length-set rows c row)) (nat_eq d c) refl;
  next = λ m d other h k. next_at m d other h (omega (arith, length-set rows c row)) (nat_eq d c) refl;
}
  where
    here : (m : ℕ) → m < 8 → (b : Bool) → nat_eq m n ≡ b → (p : ℕ) × IsChance p (get_or row.chances m 0)
    here m h true e =
        let is = eqb-true m n e in
        ((state_in row n).next % 128 + 1, rw is own.prob)
    here m h false e =
        let s = are.some m c was h lt in
        (s.0, subst (IsChance s.0) (sym (chances m (eqb-false m n e))) s.1)

    some_at : (m d : ℕ) (other : EightStates) → m < 8 → d < length rows → (b : Bool) → nat_eq d c ≡ b →
        (p : ℕ) × IsChance p (get_or (get_or (set rows c row) d other).chances m 0)
    some_at m d other h k true e =
        let is = eqb-true d c e in
        rw (is, get_or-set_same rows c row other lt) (here m h (nat_eq m n) refl)
    some_at m d other h k false e = rw (get_or-set_other rows c d row other (eqb-false d c e)) (are.some m d other h k)

    next_at : (m d : ℕ) (other : EightStates) → m < n → d < length rows → (b : Bool) → nat_eq d c ≡ b →
        IsChanceOf (state_in (get_or (set rows c row) d other) m).next (get_or (get_or (set rows c row) d other).chances m 0)
    next_at m d other h k true e =
        let is = eqb-true d c e in
        let ne : m ≢ n = omega arith in
        let same : (state_in row m).next ≡ (state_in (get_or rows c was) m).next = ap (λ (s : ChannelState). s.next) (states m ne) in
        let moved : IsChanceOf (state_in row m).next (get_or row.chances m 0) = rw (same, chances m ne) (are.next m c was h lt) in
        rw (is, get_or-set_same rows c row other lt) moved
    next_at m d other h k false e = rw (get_or-set_other rows c d row other (eqb-false d c e)) (are.next m d other h k)

-- one table in the place of another
pub narrow_set : (tables : List ChannelTables) (k : ℕ) (one : ChannelTables) → AreNarrow tables → k < length tables → size_sum one.filter < 32768 →
    AreNarrow (set tables k one)
narrow_set tables k one are lt narrow = λ j other h. at j other (omega (arith, length-set tables k one)) (nat_eq j k) refl
  where
    at : (j : ℕ) (other : ChannelTables) → j < length tables → (b : Bool) → nat_eq j k ≡ b → size_sum (get_or (set tables k one) j other).filter < 32768
    at j other h true e =
        let is = eqb-true j k e in
        rw (is, get_or-set_same tables k one other lt) narrow
    at j other h false e = rw (get_or-set_other tables k j one other (eqb-false j k e)) (are j other h)

-- the coefficient 0 alone
pub none_narrow : (filter : List ℤ) → filter ≡ pos 0 ∷ [] → size_sum filter < 32768
unfolding size_sum
none_narrow filter is = subst (λ f. size_sum f < 32768) (sym is) (omega arith)
