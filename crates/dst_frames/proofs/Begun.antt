-- Lanes whose codes begin, and a frame that is decoded in one.
use Rattle.std.proofs.Common.{◌≡◌, ℕ, ◌^◌, ◌<◌, ◌≤◌, nat_lt, Bool, true, false, List, [], length, get_or, set, get_or-set_same, get_or-set_other}
use Rattle.std.proofs.Common.{nat_eq, refl, ap, sym, subst, ◌∙◌, arith, Result, Ok, ltb-true, ltb-false}
use Rattle.std.proofs.lemmas.Bool.{eqb-true, eqb-false}
use Rattle.dst_spec.specs.Bits.{bits}
use Rattle.dst_spec.specs.Sample.{Shape, IsShape}
use Rattle.dst_spec.specs.Symbols.{reserved_probability, symbols}
use Rattle.dst_spec.specs.Interval.{IsCodeOf}
use Rattle.dst_spec.specs.Means.{MeansWithTail}
use Rattle.dst_spec.specs.declared.faults.FrameFault.{FrameFault}
use Rattle.dst_spec.proofs.Meaning.{meaning_is_no_fault}
use Rattle.dst_spec.proofs.Unique.{meaning_of_tail}
use Rattle.arith_decoder.specs.Decoding.{Decoding, StandsFor}
use Rattle.arith_lanes.specs.Chances.{IsChance}
use Rattle.arith_lanes.specs.Lanes.{IsLane, IsUnchanged, Begins, TakesSymbol, given_of, decoding_at, first_at, used_at, ahead_at}
use Rattle.arith_lanes.specs.declared.lanes.ArithLanes.{ArithLanes}
use Rattle.dst_frames.specs.Coded.{IsCodeOfSound}
use Rattle.dst_frames.specs.Eight.{states_at, tables_at}
use Rattle.dst_frames.specs.Batch.{HasBegun, IsDecoded, AreLanes, stored_in, code_at}
use Rattle.dst_frames.specs.Running.{LaneDecoded}
use Rattle.dst_frames.specs.declared.tables.ChannelTables.{ChannelTables}
use Rattle.dst_frames.specs.declared.state.ChannelState.{ChannelState}
use Rattle.dst_frames.specs.declared.eight.TableNumbers.{TableNumbers}
use Rattle.dst_frames.specs.declared.eight.EightStates.{EightStates}
use Rattle.dst_frames.specs.declared.stored.StoredFrame.{StoredFrame}
use Rattle.dst_frames.specs.declared.stored.DecodedFrame.{DecodedFrame}
use Rattle.dst_frames.proofs.Lanes.{one_of}
use Rattle.dst_frames.proofs.Running.{code_of, no_code}
use Rattle.dst_frames.proofs.Whole.{frame_begins, frame_ends}

pub begins_still : (s t : ArithLanes) (n : ℕ) (bytes : List ℕ) (place : ℕ) → Begins s n bytes place → IsUnchanged s t n → Begins t n bytes place
begins_still s t n bytes place b k =
    let same = k.same bytes in
    record {
      lane = k.lane bytes b.lane;
      first_is = ap (λ (d : Decoding). d.first) same ∙ b.first_is;
      used_is = ap (λ (d : Decoding). d.used) same ∙ b.used_is;
      ahead = k.ahead ∙ b.ahead;
      stands = subst (λ d. StandsFor d []) (sym same) b.stands;
    }

pub begun_still : (f : Shape) (s t : ArithLanes) (n : ℕ) (bytes : List ℕ) (tables : List ChannelTables) (states : List ChannelState) (chance : ℕ) →
    HasBegun f s n bytes tables states chance → IsUnchanged s t n → HasBegun f t n bytes tables states chance
begun_still f s t n bytes tables states chance b k = record {
  params = b.params;
  place = b.place;
  begins = begins_still s t n bytes b.place b.begins k;
  inside = b.inside;
  header = b.header;
  first_bit = b.first_bit;
  reserved = b.reserved;
  built = b.built;
  fresh = b.fresh;
}

-- the code of a frame that is decoded
pub code_in_lane : ((d : Decoding) (pairs : List (Bool × ℕ)) → StandsFor d pairs → IsCodeOf (bits d.bytes) d.first pairs) →
    (f : Shape) (s t u : ArithLanes) (n : ℕ) (bytes : List ℕ) (tables : List ChannelTables) (states after : List ChannelState)
    (chance octets : ℕ) (symbol : Bool) (sound heard : List ℕ) →
    (b : HasBegun f s n bytes tables states chance) → TakesSymbol s t n bytes (reserved_probability b.params) symbol →
    f.channels ≡ length tables → f.octets ≡ octets → LaneDecoded n 0 octets bytes t u tables states after sound heard → first_at u n ≡ first_at t n →
    IsCodeOfSound f b.params (bits bytes) b.place heard (used_at u n)
code_in_lane law f s t u n bytes tables states after chance octets symbol sound heard b taken channels all decoded first =
    let P = b.params in
    let begins = frame_begins f P symbol (reserved_probability P) sound (decoding_at t n bytes) states refl
    (taken.stands [] b.begins.stands) b.fresh in
    let whole = decoded f P symbol channels b.built begins in
    let stands = frame_ends f P symbol octets heard (decoding_at u n bytes) after all whole in
    let place : first_at u n ≡ b.place = first ∙ taken.first ∙ b.begins.first_is in
    record {
      reserved = symbol;
      code = subst (λ i. IsCodeOf (bits bytes) i (symbols f P heard symbol)) place (law (decoding_at u n bytes) (symbols f P heard symbol) stands);
      used_are = stands.used;
    }

-- the answer of a frame that means a sound
pub answered : (f : Shape) (frame sound : List ℕ) (answer : Result ℕ FrameFault) (tail : ℕ) → IsShape f → answer ≡ Ok tail → MeansWithTail f frame sound tail →
    IsDecoded f frame sound answer
answered f frame sound answer tail shape is means = rw is (record {
  sound_is = means;
  whole = λ fault o. meaning_is_no_fault f frame sound fault shape (meaning_of_tail f frame sound tail means) o;
  fault = tt;
  no_sound = tt;
})

-- the lanes behind their reserved symbols
pub begun_lanes : (f : Shape) (s t : ArithLanes) (frames : List StoredFrame) (tables : List ChannelTables) (numbers : List TableNumbers)
    (rows : List EightStates) (chances given : List ℕ) →
    length frames ≤ 8 →
    ((n : ℕ) (frame : StoredFrame) → n < length frames →
    HasBegun f s n (stored_in (get_or frames n frame)) (tables_at tables numbers n) (states_at rows n) (get_or chances n 0)) →
    ((n : ℕ) → length frames ≤ n → n < 8 → Begins s n [] 0 × IsChance 1 (get_or chances n 0)) →
    ((n p : ℕ) (bytes : List ℕ) → n < 8 → IsLane s n bytes → IsChance p (get_or chances n 0) → 8 ≤ ahead_at s n → used_at s n ≤ 2 ^ 40 →
    (symbol : Bool) × (get_or given n 0 ≡ given_of (get_or chances n 0) symbol) × TakesSymbol s t n bytes p symbol) → AreLanes t (code_at frames) (2 ^ 30)
begun_lanes f s t frames tables numbers rows chances given few begun empty taken = record {
  lane = λ n h. (at n h (nat_lt n (length frames)) refl).0;
  used = λ n h. (at n h (nat_lt n (length frames)) refl).1;
}
  where
    at : (n : ℕ) → n < 8 → (b : Bool) → nat_lt n (length frames) ≡ b → IsLane t n (code_at frames n) × (used_at t n ≤ 2 ^ 30)
    at n h true e =
        let lt = ltb-true n (length frames) e in
        let frame = one_of frames n lt in
        let b = begun n frame lt in
        let k = taken n _ (stored_in (get_or frames n frame)) h b.begins.lane b.reserved (omega (arith, b.begins.ahead)) (omega (arith, b.begins.used_is)) in
        (subst (IsLane t n) (code_of frames n frame lt) k.2.lane, omega (arith, k.2.used, b.begins.used_is))
    at n h false e =
        let le = ltb-false n (length frames) e in
        let b = empty n le h in
        let k = taken n 1 [] h b.0.lane b.1 (omega (arith, b.0.ahead)) (omega (arith, b.0.used_is)) in
        (subst (IsLane t n) (no_code frames n le) k.2.lane, omega (arith, k.2.used, b.0.used_is))

-- sounds of one length, one of them written
pub long_set : (heard : List DecodedFrame) (i m k : ℕ) (x other : DecodedFrame) → i < length heard → length x.sound.items ≡ k →
    length (get_or heard m other).sound.items ≡ k → length (get_or (set heard i x) m other).sound.items ≡ k
long_set heard i m k x other lt new was = go (nat_eq m i) refl
  where
    go : (b : Bool) → nat_eq m i ≡ b → length (get_or (set heard i x) m other).sound.items ≡ k
    go true e = let is = eqb-true m i e in rw (is, get_or-set_same heard i x other lt) new
    go false e = rw (get_or-set_other heard i m x other (eqb-false m i e)) was
