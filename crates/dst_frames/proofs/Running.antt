-- A batch on its way: its lanes and its chances.
use Rattle.std.proofs.Common.{◌≡◌, ℕ, zero, suc, ◌+◌, ◌<◌, ◌≤◌, nat_eq, nat_lt, Bool, true, false, List, [], ◌∷◌, length}
use Rattle.std.proofs.Common.{get_or, set}
use Rattle.std.proofs.Common.{get_or-set_same, get_or-set_other, length-set, refl, ap, sym, ◌∙◌, subst, arith, ltb-true, ltb-false}
use Rattle.std.proofs.lemmas.Bool.{eqb-true, eqb-false}
use Rattle.arith_decoder.specs.Decoding.{Decoding}
use Rattle.arith_lanes.specs.Chances.{IsChance}
use Rattle.arith_lanes.specs.Lanes.{IsLane, IsUnchanged, decoding_at, used_at}
use Rattle.arith_lanes.specs.declared.lanes.ArithLanes.{ArithLanes}
use Rattle.dst_frames.specs.Eight.{state_in}
use Rattle.dst_frames.specs.Batch.{IsChanceOf, HasEnough, IsLaneFurther, AreLanes, stored_in, code_at}
use Rattle.dst_frames.specs.Running.{AreChances, LaneDecoded}
use Rattle.dst_frames.specs.declared.tables.ChannelTables.{ChannelTables}
use Rattle.dst_frames.specs.declared.state.ChannelState.{ChannelState}
use Rattle.dst_frames.specs.declared.eight.EightStates.{EightStates}
use Rattle.dst_frames.specs.declared.stored.StoredFrame.{StoredFrame}

-- ---- the bytes of a lane
pub code_of : (frames : List StoredFrame) (n : ℕ) (other : StoredFrame) → n < length frames → stored_in (get_or frames n other) ≡ code_at frames n
unfolding code_at
code_of [] n other h = absurd (omega arith)
code_of (x ∷ xs) zero other h = refl
code_of (x ∷ xs) (suc n) other h = code_of xs n other (omega arith)

pub no_code : (frames : List StoredFrame) (n : ℕ) → length frames ≤ n → ◌≡◌ {A = List ℕ} [] (code_at frames n)
unfolding code_at
no_code [] n h = refl
no_code (x ∷ xs) zero h = absurd (omega arith)
no_code (x ∷ xs) (suc n) h = no_code xs n (omega arith)

-- ---- lanes that are as they were
pub unchanged_none : (s : ArithLanes) (n : ℕ) → IsUnchanged s s n
unchanged_none s n = record { lane = λ bytes lane. lane; same = λ bytes. refl; ahead = refl }

pub unchanged_more : (s t u : ArithLanes) (n : ℕ) → IsUnchanged s t n → IsUnchanged t u n → IsUnchanged s u n
unchanged_more s t u n a b = record {
  lane = λ bytes lane. b.lane bytes (a.lane bytes lane);
  same = λ bytes. b.same bytes ∙ a.same bytes;
  ahead = b.ahead ∙ a.ahead;
}

pub enough_still : (s t u : ArithLanes) (n : ℕ) (bytes : List ℕ) → HasEnough s t n bytes → IsUnchanged t u n → HasEnough s u n bytes
enough_still s t u n bytes a b = record {
  lane = b.lane bytes a.lane;
  same = b.same bytes ∙ a.same;
  ahead = rw b.ahead a.ahead;
}

pub used_still : (s t : ArithLanes) (n : ℕ) (bytes : List ℕ) → decoding_at t n bytes ≡ decoding_at s n bytes → used_at t n ≡ used_at s n
used_still s t n bytes same = ap (λ (d : Decoding). d.used) same

-- ---- lanes that go on
pub lane_still : (s : ArithLanes) (n : ℕ) (bytes : List ℕ) → IsLane s n bytes → IsLaneFurther s s n bytes 0
lane_still s n bytes lane = record { lane = lane; first = refl; used = omega arith }

pub lane_on : (s t u v : ArithLanes) (n : ℕ) (bytes : List ℕ) (a b most : ℕ) → IsLaneFurther s t n bytes a → HasEnough t u n bytes →
    IsLaneFurther u v n bytes b → a + b ≤ most → IsLaneFurther s v n bytes most
lane_on s t u v n bytes a b most x y z h =
    let used = ap (λ (d : Decoding). d.used) y.same in
    let first = ap (λ (d : Decoding). d.first) y.same in
    record { lane = z.lane; first = z.first ∙ first ∙ x.first; used = omega (arith, x.used, z.used, used) }

pub lane_more : (s t u : ArithLanes) (n : ℕ) (bytes : List ℕ) (a b most : ℕ) → IsLaneFurther s t n bytes a → IsLaneFurther t u n bytes b → a + b ≤ most →
    IsLaneFurther s u n bytes most
lane_more s t u n bytes a b most x z h = record { lane = z.lane; first = z.first ∙ x.first; used = omega (arith, x.used, z.used) }

pub lanes_on : (s t : ArithLanes) (codes : ℕ → List ℕ) (most more all : ℕ) → AreLanes s codes most → ((n : ℕ) → n < 8 → IsLaneFurther s t n (codes n) more) →
    most + more ≤ all → AreLanes t codes all
lanes_on s t codes most more all are further h = record {
  lane = λ n l. (further n l).lane;
  used = λ n l. omega (arith, are.used n l, (further n l).used);
}

-- ---- the chances
-- behind a step of one channel
pub chances_on : (c count : ℕ) (rows : List EightStates) (row : EightStates) → count ≤ 8 → c < length rows → AreChances rows count →
    ((n : ℕ) → n < count → IsChanceOf (state_in row n).next (get_or row.chances n 0)) →
    ((n : ℕ) (other : EightStates) → count ≤ n → get_or row.chances n 0 ≡ get_or (get_or rows c other).chances n 0) → AreChances (set rows c row) count
chances_on c count rows row few inside are live idle = record {
  some = λ n d other h k. some_at n d other h (omega (arith, length-set rows c row)) (nat_eq d c) refl;
  next = λ n d other h k. next_at n d other h (omega (arith, length-set rows c row)) (nat_eq d c) refl;
}
  where
    here : (n : ℕ) (other : EightStates) → n < 8 → (b : Bool) → nat_lt n count ≡ b → (p : ℕ) × IsChance p (get_or row.chances n 0)
    here n other h true e = (_, (live n (ltb-true n count e)).prob)
    here n other h false e =
        let s = are.some n c other h inside in
        (s.0, subst (IsChance s.0) (sym (idle n other (ltb-false n count e))) s.1)

    some_at : (n d : ℕ) (other : EightStates) → n < 8 → d < length rows → (b : Bool) → nat_eq d c ≡ b →
        (p : ℕ) × IsChance p (get_or (get_or (set rows c row) d other).chances n 0)
    some_at n d other h k true e =
        let is = eqb-true d c e in
        rw (is, get_or-set_same rows c row other inside) (here n other h (nat_lt n count) refl)
    some_at n d other h k false e = rw (get_or-set_other rows c d row other (eqb-false d c e)) (are.some n d other h k)

    next_at : (n d : ℕ) (other : EightStates) → n < count → d < length rows → (b : Bool) → nat_eq d c ≡ b →
        IsChanceOf (state_in (get_or (set rows c row) d other) n).next (get_or (get_or (set rows c row) d other).chances n 0)
    next_at n d other h k true e =
        let is = eqb-true d c e in
        rw (is, get_or-set_same rows c row other inside) (live n h)
    next_at n d other h k false e = rw (get_or-set_other rows c d row other (eqb-false d c e)) (are.next n d other h k)

-- chances that are as they were
pub chances_same : (count : ℕ) (rows new : List EightStates) → AreChances rows count → length new ≡ length rows →
    ((c : ℕ) (row : EightStates) → (get_or new c row).chances ≡ (get_or rows c row).chances) → AreChances new count
chances_same count rows new are long same = record {
  some = λ n c row h k. rw (same c row) (are.some n c row h (omega arith));
  next = λ n c row h k. rw (same c row) (are.next n c row h (omega arith));
}

-- ---- behind a byte
-- one byte of each channel more
pub lane_decoded_on : (n m : ℕ) (bytes : List ℕ) (old mid new : ArithLanes) (tables : List ChannelTables) (before between after : List ChannelState)
    (sound half heard : List ℕ) → LaneDecoded n 0 m bytes old mid tables before between sound half →
    LaneDecoded n m (m + 1) bytes mid new tables between after half heard → LaneDecoded n 0 (m + 1) bytes old new tables before after sound heard
lane_decoded_on n m bytes old mid new tables before between after sound half heard a b = λ f P reserved count built start.
    b f P reserved count built (a f P reserved count built start)
