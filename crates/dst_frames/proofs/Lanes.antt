-- A sample of a frame whose code is decoded in a lane.
use Rattle.std.proofs.Common.{◌≡◌, ℕ, ◌+◌, ◌/◌, ◌%◌, ◌<◌, ◌≤◌, ◌&&◌, nat_eq, nat_lt, Bool, true, false, not, if◌then◌else◌, List, [], ◌∷◌, ◌++◌, length, get_or}
use Rattle.std.proofs.Common.{refl, ap, sym, ◌∙◌, subst, arith, ltb-true, ltb-false}
use lib.Dec.{leb}
use mathlib.Core.Bool.{beq}
use Rattle.arith_decoder.specs.Decoding.{Decoding, StandsFor}
use Rattle.arith_lanes.specs.Chances.{IsChance}
use Rattle.arith_lanes.specs.Lanes.{TakesSymbol, given_of}
use Rattle.arith_lanes.specs.declared.lanes.ArithLanes.{ArithLanes}
use Rattle.dst_frames.specs.Tables.{symbol_after}
use Rattle.dst_frames.specs.Batch.{IsChanceOf, LaneTakes, LaneSteps, IsLaneFurther}
use Rattle.dst_frames.specs.declared.tables.ChannelTables.{ChannelTables}
use Rattle.dst_frames.specs.declared.state.ChannelState.{ChannelState}
use Rattle.dst_frames.proofs.Symbols.{symbol_is, high_is}

-- the sample that is given for a symbol
sample_given : (s : Bool) (e chance given : ℕ) → chance / 128 % 2 ≡ e / 128 → given ≡ given_of chance s → beq s (leb 128 e) ≡ nat_eq (given % 2) 1
sample_given s e chance given mark is = ap (beq s) (high_is e) ∙ go s (nat_lt e 128) refl is
  where
    go : (s low : Bool) → nat_lt e 128 ≡ low → given ≡ given_of chance s → beq s (not low) ≡ nat_eq (given % 2) 1
    go true true h is =
        let lt = ltb-true e 128 h in
        let none : given ≡ 0 = omega arith in
        rw none refl
    go true false h is =
        let le = ltb-false e 128 h in
        let one : given ≡ 1 = omega arith in
        rw one refl
    go false true h is =
        let lt = ltb-true e 128 h in
        let one : given ≡ 1 = omega arith in
        rw one refl
    go false false h is =
        let le = ltb-false e 128 h in
        let none : given ≡ 0 = omega arith in
        rw none refl

prob_now : (early : Bool) (e : ℕ) → (if early then 128 else e % 128 + 1) ≡ (if early then 127 else e % 128) + 1
prob_now true e = refl
prob_now false e = refl

pub lane_steps : (place : ℕ) (early : Bool) (table : ChannelTables) (before after : ChannelState) (old new : Decoding) (given next chance now : ℕ) →
    LaneTakes place given table before after next → IsChanceOf before.next chance → now / 128 % 2 ≡ chance / 128 % 2 →
    ((s : Bool) × (given ≡ given_of now s)
    × ((pairs : List (Bool × ℕ)) → StandsFor old pairs → StandsFor new (pairs ++ (s, (if early then 128 else before.next % 128 + 1)) ∷ []))) →
    LaneSteps place early table before after old new next
lane_steps place early table before after old new given next chance now taken is same d =
    let e = before.next in
    let mark : now / 128 % 2 ≡ e / 128 = same ∙ is.mark in
    let sample = sample_given d.0 e now given mark d.1 in
    record {
      sample = nat_eq (given % 2) 1;
      next = record {
        ready = taken.takes;
        symbol = λ filter probs samples pairs ready stands.
            let pair = symbol_is filter probs samples early d.0 e (if early then 127 else e % 128)
            (if early then 128 else e % 128 + 1) ready.next refl (prob_now early e) in
            let whole : ◌≡◌ {A = Bool × ℕ} (d.0, (if early then 128 else e % 128 + 1)) (symbol_after filter probs early samples (nat_eq (given % 2) 1)) =
            pair ∙ ap (symbol_after filter probs early samples) sample in
            subst (λ q. StandsFor new (pairs ++ q ∷ [])) whole (d.2 pairs stands);
      };
      next_chance = taken.next_chance;
    }

pub further_by : (s t : ArithLanes) (n : ℕ) (bytes : List ℕ) (p : ℕ) (symbol : Bool) → TakesSymbol s t n bytes p symbol → IsLaneFurther s t n bytes 8
further_by s t n bytes p symbol k = record { lane = k.lane; first = k.first; used = k.used }

-- an element of a list with enough of them
pub one_of : {A : Type 0} (xs : List A) (n : ℕ) → n < length xs → A
one_of [] n h = absurd (omega arith)
one_of (x ∷ xs) n h = x

-- each chance for now has some probability
pub some_chance : (early : ℕ → ℕ) (chances now : List ℕ) (count t : ℕ) (start : Bool) (n p : ℕ) →
    ((n p : ℕ) → n < count → IsChance p (get_or chances n 0) →
    IsChance (if (start && nat_lt t (early n)) then 128 else p) (get_or now n 0)) →
    ((n : ℕ) → count ≤ n → get_or now n 0 ≡ get_or chances n 0) → IsChance p (get_or chances n 0) → (q : ℕ) × IsChance q (get_or now n 0)
some_chance early chances now count t start n p live idle chance = go (nat_lt n count) refl
  where
    go : (b : Bool) → nat_lt n count ≡ b → (q : ℕ) × IsChance q (get_or now n 0)
    go true e = (_, live n p (ltb-true n count e) chance)
    go false e = (p, subst (IsChance p) (sym (idle n (ltb-false n count e))) chance)
