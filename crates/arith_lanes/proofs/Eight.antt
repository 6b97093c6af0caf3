-- One lane of eight, written and read.
use Rattle.std.proofs.Common.{◌≡◌, ◌≢◌, ℕ, ◌<◌, length, get_or, set, get_or-set_same, get_or-set_other, length-set, refl, ap, arith}
use Rattle.arith_lanes.specs.Lanes.{registers_at, range_at, offset_at, used_at, first_at, ahead_at, IsUnchanged}
use Rattle.arith_lanes.specs.declared.lane.Registers.{Registers}
use Rattle.arith_lanes.specs.declared.lanes.ArithLanes.{ArithLanes}

-- there are eight of each register
pub record AreEight (s : ArithLanes) : Type 0 where
  pub range : length s.range ≡ 8
  pub offset : length s.offset ≡ 8
  pub high : length s.high ≡ 8
  pub middle : length s.middle ≡ 8
  pub low : length s.low ≡ 8

-- with other registers in one lane
abbrev pub with_registers : ArithLanes → ℕ → Registers → ArithLanes
with_registers s n r = record s {
  range = set s.range n r.range;
  offset = set s.offset n r.offset;
  high = set s.high n r.high;
  middle = set s.middle n r.middle;
  low = set s.low n r.low;
}

pub eight_with : (s : ArithLanes) (n : ℕ) (r : Registers) → AreEight s → AreEight (with_registers s n r)
eight_with s n r e = record {
  range = simp length-set e.range;
  offset = simp length-set e.offset;
  high = simp length-set e.high;
  middle = simp length-set e.middle;
  low = simp length-set e.low;
}

pub registers_same : (s : ArithLanes) (n : ℕ) (r : Registers) → AreEight s → n < 8 → registers_at (with_registers s n r) n ≡ r
registers_same s n r e h =
    let range = e.range in
    let offset = e.offset in
    let high = e.high in
    let middle = e.middle in
    let low = e.low in
    rw (
      get_or-set_same s.range n r.range 0 (omega arith),
      get_or-set_same s.offset n r.offset 0 (omega arith),
      get_or-set_same s.high n r.high 0 (omega arith),
      get_or-set_same s.middle n r.middle 0 (omega arith),
      get_or-set_same s.low n r.low 0 (omega arith),
    ) refl

pub registers_other : (s : ArithLanes) (n m : ℕ) (r : Registers) → m ≢ n → registers_at (with_registers s n r) m ≡ registers_at s m
registers_other s n m r h =
    rw (
      get_or-set_other s.range n m r.range 0 h,
      get_or-set_other s.offset n m r.offset 0 h,
      get_or-set_other s.high n m r.high 0 h,
      get_or-set_other s.middle n m r.middle 0 h,
      get_or-set_other s.low n m r.low 0 h,
    ) refl

-- a lane whose registers and places are the same
pub unchanged : (old new : ArithLanes) (n : ℕ) → registers_at new n ≡ registers_at old n → get_or new.first n 0 ≡ get_or old.first n 0 →
    get_or new.place n 0 ≡ get_or old.place n 0 → IsUnchanged old new n
unfolding range_at offset_at used_at first_at ahead_at
unchanged old new n r f p =
    let range : get_or new.range n 0 ≡ get_or old.range n 0 = ap (λ (q : Registers). q.range) r in
    let offset : get_or new.offset n 0 ≡ get_or old.offset n 0 = ap (λ (q : Registers). q.offset) r in
    let high : get_or new.high n 0 ≡ get_or old.high n 0 = ap (λ (q : Registers). q.high) r in
    let middle : get_or new.middle n 0 ≡ get_or old.middle n 0 = ap (λ (q : Registers). q.middle) r in
    let low : get_or new.low n 0 ≡ get_or old.low n 0 = ap (λ (q : Registers). q.low) r in
    record {
      lane = λ bytes lane. record { registers = rw (range, offset, high, middle, low, f, p) lane.registers };
      same = λ bytes. rw (range, offset, high, middle, low, f, p) refl;
      ahead = rw (offset, high, middle, low) refl;
    }
