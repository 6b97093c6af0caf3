-- Sound that is gathered into rows: what a row has when bytes are put into it, and what is written when it is full.
use Rattle.std.proofs.Common.{◌≡◌, ◌⊎◌, inl, inr, ℕ, zero, suc, ◌+◌, ◌-◌, ◌*◌, ◌/◌, ◌%◌, ◌^◌, ◌<◌, ◌≤◌, List, [], ◌++◌, map, length, take, drop}
use Rattle.std.proofs.Common.{get_or, replicate, Option, Result, Ok, Err, take-append-drop}
use Rattle.std.proofs.Common.{refl, sym, ap, ap₂, subst, ◌∙◌, arith, length-append, append_assoc, append-nil}
use Rattle.std.specs.Prelude.{◌==◌, if◌then◌else◌, reverse, min, MatchResult, OnOk}
use Rattle.std.specs.List.{flat_map, range_with_len}
use Rattle.std.proofs.lemmas.Bool.{cases_lt}
use Rattle.std.proofs.lemmas.List.{get_or_past, get_or-append_right, take_all}
use Rattle.std.proofs.lemmas.Nat.{div-mul-add, mul-le}
use Rattle.std.proofs.Math.ListN.{get_or-append}
use Rattle.std.proofs.Math.Seq.{take-add}
use Rattle.std.proofs.Math.Nat.{div-add-mod, zero-div, mul-div-mul_right}
use Rattle.dst_spec.specs.Bits.{number_from}
use Rattle.dst_spec.proofs.Lists.{place-below, get_or-zeros}
use Rattle.dsdiff_spec.specs.Bytes.{◌below◌}
use Rattle.dsdiff_spec.specs.Dsf.{Dsf, dsf_byte, dsf_row, octets, rows}
use Rattle.dsf_files.specs.declared.form.DsfForm.{DsfForm}
use Rattle.dsf_files.specs.Forms.{dsf_seen}
use Rattle.dsf_laws.proofs.Alike.{map_alike, flat_alike}
use Rattle.dst_commands.specs.Writing.{Adds, Stops}
use Rattle.dst_commands.proofs.Writing.{adds_nothing, adds_same, adds_then, stops_same, stops_then}
use Rattle.dst_dsf.specs.declared.rows.RowWriter.{RowWriter}
use Rattle.dst_dsf.specs.Rows.{place_in, samples_of, rows_of, HasRow}
use Rattle.dst_dsf.specs.Gathering.{HasTaken, FailsAtRow}

-- ---- a row without sound, and one into which bytes are put
pub empty_row : (n : ℕ) (sound : List ℕ) (number : ℕ) (row : List ℕ) → row ≡ replicate 24576 0 → length sound ≤ number * (4096 * n) → HasRow n sound number row
empty_row n sound number row zeros few p mine =
    ap (λ w. get_or w (place_in n p) 0) zeros
    ∙ get_or-zeros 24576 (place_in n p)
    ∙ sym (get_or_past sound (number * (4096 * n) + p) 0 (omega (arith, few)))

pub put_row : (n : ℕ) (sound part : List ℕ) (number filled : ℕ) (old new : List ℕ) → number * (4096 * n) + filled ≡ length sound →
    ((k : ℕ) → k < length part → get_or new (place_in n (filled + k)) 0 ≡ get_or part k 0) →
    ((p : ℕ) → p < 4096 * n → (p < filled) ⊎ (filled + length part ≤ p) → get_or new (place_in n p) 0 ≡ get_or old (place_in n p) 0) →
    HasRow n sound number old → HasRow n (sound ++ part) number new
put_row n sound part number filled old new count put others has p mine = elim (cases_lt p filled) [
  | inl l ↦ others p mine (inl l) ∙ has p mine ∙ sym (get_or-append sound part 0 (number * (4096 * n) + p) (omega (arith, count, l)))
  | inr m ↦ elim (cases_lt p (filled + length part)) [
    | inl l ↦
        let k = p - filled in
        let there : filled + k ≡ p = omega arith in
        let here : number * (4096 * n) + p - length sound ≡ k = omega (arith, count, m) in
        ap (λ q. get_or new (place_in n q) 0) (sym there)
        ∙ put k (omega arith)
        ∙ ap (λ q. get_or part q 0) (sym here)
        ∙ sym (get_or-append_right sound part (length sound) (number * (4096 * n) + p) 0 refl (omega (arith, count, m)))
    | inr far ↦
        let both = length-append sound part in
        others p mine (inr far)
        ∙ has p mine
        ∙ get_or_past sound (number * (4096 * n) + p) 0 (omega (arith, count, far))
        ∙ sym (get_or_past (sound ++ part) (number * (4096 * n) + p) 0 (omega (arith, count, both, far)))
  ]
]

-- ---- rows of a sound
flat_more : (f : ℕ → List ℕ) (a n : ℕ) → flat_map f (range_with_len a (suc n)) ≡ flat_map f (range_with_len a n) ++ f (a + n)
flat_more f a zero =
    let same : a ≡ a + 0 = omega arith in
    append-nil (f a) ∙ ap f same
flat_more f a (suc n) =
    let same : a + 1 + n ≡ a + suc n = omega arith in
    ap (λ w. f a ++ w) (flat_more f (a + 1) n ∙ ap (λ k. flat_map f (range_with_len (a + 1) n) ++ f k) same)
    ∙ sym (append_assoc (f a) (flat_map f (range_with_len (a + 1) n)) (f (a + suc n)))

pub one_more_row : (d : Dsf) (sound : List ℕ) (n : ℕ) → rows_of d sound (n + 1) ≡ rows_of d sound n ++ dsf_row d (samples_of d sound) n
unfolding rows_of
one_more_row d sound n =
    let next : n + 1 ≡ suc n = omega arith in
    let here : 0 + n ≡ n = omega arith in
    ap (λ k. flat_map (dsf_row d (samples_of d sound)) (range_with_len 0 k)) next
    ∙ flat_more (dsf_row d (samples_of d sound)) 0 n
    ∙ ap (λ k. flat_map (dsf_row d (samples_of d sound)) (range_with_len 0 n) ++ dsf_row d (samples_of d sound) k) here

-- what comes behind changes no row that is whole
byte_before : (d : Dsf) (sound more : List ℕ) (c i : ℕ) → i * d.channels + c < length sound →
    dsf_byte d (samples_of d sound) c i ≡ dsf_byte d (samples_of d (sound ++ more)) c i
byte_before d sound more c i inside =
    ap (λ w. number_from (if d.bits == 1 then reverse w else w) 0 8)
    (map_alike (λ s. samples_of d sound c (8 * i + s)) (λ s. samples_of d (sound ++ more) c (8 * i + s)) 0 8
    (λ s l.
    let octet : (8 * i + s) / 8 ≡ i = omega (arith, l) in
    let here : (8 * i + s) / 8 * d.channels + c < length sound = subst (λ o. o * d.channels + c < length sound) (sym octet) inside in
    ap (λ b. if (8 * i + s) below d.samples then b / 2 ^ (7 - (8 * i + s) % 8) % 2 else 0)
    (sym (get_or-append sound more 0 ((8 * i + s) / 8 * d.channels + c) here))))

pub rows_before : (d : Dsf) (sound more : List ℕ) (n : ℕ) → n * (4096 * d.channels) ≤ length sound → rows_of d sound n ≡ rows_of d (sound ++ more) n
unfolding rows_of
rows_before d sound more n whole =
    flat_alike (dsf_row d (samples_of d sound)) (dsf_row d (samples_of d (sound ++ more))) 0 n (λ r l.
    flat_alike (λ c. map (λ j. dsf_byte d (samples_of d sound) c (4096 * r + j)) (range_with_len 0 4096))
    (λ c. map (λ j. dsf_byte d (samples_of d (sound ++ more)) c (4096 * r + j)) (range_with_len 0 4096)) 0 d.channels
    (λ c k. map_alike (λ j. dsf_byte d (samples_of d sound) c (4096 * r + j)) (λ j. dsf_byte d (samples_of d (sound ++ more)) c (4096 * r + j)) 0 4096
    (λ j m. byte_before d sound more c (4096 * r + j)
    (let there = place-below (4096 * r + j) c d.channels (4096 * n) (omega (arith, k)) (omega (arith, l, m)) in
    let all : 4096 * n * d.channels ≡ n * (4096 * d.channels) = omega arith in
    omega (arith, there, all, whole)))))

-- ---- how far a count of bytes is
pub within_row : (a r : ℕ) → a / r * r + a % r ≡ a
within_row a r =
    let turned : r * (a / r) ≡ a / r * r = omega arith in
    sym (ap (λ x. x + a % r) turned) ∙ div-add-mod a r

pub row_is_full : (a m r : ℕ) → 0 < r → a % r + m ≤ r → ((a + m) / r ≡ a / r → ⊥) → (a + m ≡ (a / r + 1) * r) × ((a + m) / r ≡ a / r + 1)
row_is_full a m r some within other =
    let there = within_row a r in
    elim (cases_lt (a % r + m) r) [
      | inl l ↦
          let sum : a / r * r + (a % r + m) ≡ a + m = omega (arith, there) in
          absurd (other (ap (λ x. x / r) (sym sum) ∙ div-mul-add (a / r) r (a % r + m) l))
      | inr more ↦
          let full : a % r + m ≡ r = omega arith in
          let sum : a + m ≡ (a / r + 1) * r = omega (arith, there, full) in
          let whole : (a / r + 1) * r + 0 ≡ a + m = omega (arith, sum) in
          (sum, ap (λ x. x / r) (sym whole) ∙ div-mul-add (a / r + 1) r 0 some)
    ]

no_rows : (d : Dsf) (old : Option (List ℕ)) (before : Option ℕ) → Adds (rows_of d [] 0) old old before before
unfolding rows_of
no_rows d old before = adds_nothing old before

-- ---- the sound that is taken
module _ {K : Type 0} (written : K → Option (List ℕ)) (room : K → Option ℕ)
  where
    pub begins : (s : RowWriter K) (old : Option (List ℕ)) (before : Option ℕ) → s.row.taken ≡ 0 → s.row.bytes ≡ replicate 24576 0 →
        written s.sink.now ≡ old → room s.sink.now ≡ before → HasTaken written room [] old before s
    begins s old before none zeros told sure =
        let number : s.row.taken / (4096 * s.row.form.channels.channels) ≡ 0 = ap (λ n. n / (4096 * s.row.form.channels.channels)) none
        ∙ zero-div (4096 * s.row.form.channels.channels) in
        record {
          count = none;
          row = empty_row s.row.form.channels.channels [] (s.row.taken / (4096 * s.row.form.channels.channels)) s.row.bytes zeros (omega arith);
          adds = subst (λ n. Adds (rows_of (dsf_seen s.row.form) [] n) old (written s.sink.now) before (room s.sink.now)) (sym number)
              (subst (λ w. Adds (rows_of (dsf_seen s.row.form) [] 0) old w before (room s.sink.now)) (sym told)
              (subst (λ r. Adds (rows_of (dsf_seen s.row.form) [] 0) old old before r) (sym sure) (no_rows (dsf_seen s.row.form) old before)));
        }

    -- what is known of a part that is put into the row
    pub record IsPut (s t : RowWriter K) (part : List ℕ) : Type 0 where
      pub some : 1 ≤ s.row.form.channels.channels
      pub form_is : t.row.form ≡ s.row.form
      pub taken : t.row.taken ≡ s.row.taken + length part
      pub inside : s.row.taken % (4096 * s.row.form.channels.channels) + length part ≤ 4096 * s.row.form.channels.channels

    -- the row isn't full
    pub goes_on : (s t : RowWriter K) (part sound : List ℕ) (old : Option (List ℕ)) (before : Option ℕ) → IsPut s t part →
        t.row.taken / (4096 * s.row.form.channels.channels) ≡ s.row.taken / (4096 * s.row.form.channels.channels) →
        HasRow s.row.form.channels.channels (sound ++ part) (s.row.taken / (4096 * s.row.form.channels.channels)) t.row.bytes →
        written t.sink.now ≡ written s.sink.now → room t.sink.now ≡ room s.sink.now →
        HasTaken written room sound old before s → HasTaken written room (sound ++ part) old before t
    goes_on s t part sound old before put same row told sure h =
        let c = s.row.form.channels.channels in
        let q = s.row.taken / (4096 * c) in
        let d = dsf_seen s.row.form in
        let whole : q * (4096 * c) ≤ length sound = omega (arith, within_row s.row.taken (4096 * c), h.count) in
        let channels : t.row.form.channels.channels ≡ c = ap (λ (f : DsfForm). f.channels.channels) put.form_is in
        let there : t.row.taken / (4096 * t.row.form.channels.channels) ≡ q = ap (λ k. t.row.taken / (4096 * k)) channels ∙ same in
        record {
          count = omega (arith, put.taken, h.count, length-append sound part);
          row = subst (λ k. HasRow k (sound ++ part) (t.row.taken / (4096 * t.row.form.channels.channels)) t.row.bytes) (sym channels)
              (subst (λ n. HasRow c (sound ++ part) n t.row.bytes) (sym there) row);
          adds = subst (λ n. Adds (rows_of (dsf_seen t.row.form) (sound ++ part) n) old (written t.sink.now) before (room t.sink.now)) (sym there)
              (subst (λ (f : DsfForm). Adds (rows_of (dsf_seen f) (sound ++ part) q) old (written t.sink.now) before (room t.sink.now)) (sym put.form_is)
              (subst (λ w. Adds (rows_of d (sound ++ part) q) old w before (room t.sink.now)) (sym told)
              (subst (λ r. Adds (rows_of d (sound ++ part) q) old (written s.sink.now) before r) (sym sure)
              (adds_same (rows_of d sound q) (rows_of d (sound ++ part) q) old (written s.sink.now) before (room s.sink.now)
              (rows_before d sound part q whole) h.adds))));
        }

    -- it is full and written
    pub is_written : (s t : RowWriter K) (part sound : List ℕ) (old : Option (List ℕ)) (before : Option ℕ) → IsPut s t part →
        (t.row.taken / (4096 * s.row.form.channels.channels) ≡ s.row.taken / (4096 * s.row.form.channels.channels) → ⊥) →
        t.row.bytes ≡ replicate 24576 0 →
        Adds (dsf_row (dsf_seen s.row.form) (samples_of (dsf_seen s.row.form) (sound ++ part)) (s.row.taken / (4096 * s.row.form.channels.channels)))
        (written s.sink.now) (written t.sink.now) (room s.sink.now) (room t.sink.now) →
        HasTaken written room sound old before s → HasTaken written room (sound ++ part) old before t
    is_written s t part sound old before put other empty row h =
        let c = s.row.form.channels.channels in
        let r = 4096 * c in
        let q = s.row.taken / r in
        let d = dsf_seen s.row.form in
        let long = length-append sound part in
        let whole : q * r ≤ length sound = omega (arith, within_row s.row.taken r, h.count) in
        let full = row_is_full s.row.taken (length part) r (omega (arith, put.some)) put.inside (λ e. other (ap (λ n. n / r) put.taken ∙ e)) in
        let channels : t.row.form.channels.channels ≡ c = ap (λ (f : DsfForm). f.channels.channels) put.form_is in
        let there : t.row.taken / (4096 * t.row.form.channels.channels) ≡ q + 1 = ap₂ (λ n k. n / (4096 * k)) put.taken channels ∙ full.1 in
        record {
          count = omega (arith, put.taken, h.count, long);
          row = subst (λ n. HasRow t.row.form.channels.channels (sound ++ part) n t.row.bytes) (sym there)
              (subst (λ k. HasRow k (sound ++ part) (q + 1) t.row.bytes) (sym channels)
              (empty_row c (sound ++ part) (q + 1) t.row.bytes empty (omega (arith, long, full.0, h.count))));
          adds = subst (λ n. Adds (rows_of (dsf_seen t.row.form) (sound ++ part) n) old (written t.sink.now) before (room t.sink.now)) (sym there)
              (subst (λ (f : DsfForm). Adds (rows_of (dsf_seen f) (sound ++ part) (q + 1)) old (written t.sink.now) before (room t.sink.now)) (sym put.form_is)
              (adds_same (rows_of d (sound ++ part) q ++ dsf_row d (samples_of d (sound ++ part)) q) (rows_of d (sound ++ part) (q + 1)) old
              (written t.sink.now) before
              (room t.sink.now) (sym (one_more_row d (sound ++ part) q))
              (adds_then (rows_of d (sound ++ part) q) (dsf_row d (samples_of d (sound ++ part)) q) old (written s.sink.now) (written t.sink.now)
              before (room s.sink.now)
              (room t.sink.now)
              (adds_same (rows_of d sound q) (rows_of d (sound ++ part) q) old (written s.sink.now) before (room s.sink.now)
              (rows_before d sound part q whole) h.adds)
              row)));
        }

    -- or the sink fails at it
    pub is_stopped : (s t : RowWriter K) (part sound : List ℕ) (old : Option (List ℕ)) (before : Option ℕ) → IsPut s t part →
        (t.row.taken / (4096 * s.row.form.channels.channels) ≡ s.row.taken / (4096 * s.row.form.channels.channels) → ⊥) →
        Stops (Unit {0}) (dsf_row (dsf_seen s.row.form) (samples_of (dsf_seen s.row.form) (sound ++ part))
        (s.row.taken / (4096 * s.row.form.channels.channels)))
        (written s.sink.now) (written t.sink.now) (room s.sink.now) →
        HasTaken written room sound old before s → FailsAtRow (dsf_seen s.row.form) (sound ++ part) old (written t.sink.now) before
    is_stopped s t part sound old before put other row h =
        let c = s.row.form.channels.channels in
        let r = 4096 * c in
        let q = s.row.taken / r in
        let d = dsf_seen s.row.form in
        let whole : q * r ≤ length sound = omega (arith, within_row s.row.taken r, h.count) in
        let full = row_is_full s.row.taken (length part) r (omega (arith, put.some)) put.inside (λ e. other (ap (λ n. n / r) put.taken ∙ e)) in
        record {
          rows = q + 1;
          within = omega (arith, length-append sound part, full.0, h.count);
          stops = stops_same (Unit {0}) (rows_of d (sound ++ part) q ++ dsf_row d (samples_of d (sound ++ part)) q) (rows_of d (sound ++ part) (q + 1)) old
              (written t.sink.now) before (sym (one_more_row d (sound ++ part) q))
              (stops_then (Unit {0}) (rows_of d (sound ++ part) q) (dsf_row d (samples_of d (sound ++ part)) q) old (written s.sink.now)
              (written t.sink.now) before
              (room s.sink.now)
              (adds_same (rows_of d sound q) (rows_of d (sound ++ part) q) old (written s.sink.now) before (room s.sink.now)
              (rows_before d sound part q whole) h.adds)
              row);
        }

-- a sink that fails at a row of a sound fails at that row of a longer one
pub fails_within : (d : Dsf) (sound more : List ℕ) (old new : Option (List ℕ)) (before : Option ℕ) → FailsAtRow d sound old new before →
    FailsAtRow d (sound ++ more) old new before
fails_within d sound more old new before h = record {
  rows = h.rows;
  within = omega (arith, h.within, length-append sound more);
  stops = stops_same (Unit {0}) (rows_of d sound h.rows) (rows_of d (sound ++ more) h.rows) old new before (rows_before d sound more h.rows h.within) h.stops;
}

-- ---- behind the last byte
pub all_rows : (d : Dsf) (size : ℕ) → 1 ≤ d.channels → size ≡ octets d * d.channels →
    (size % (4096 * d.channels) ≡ 0 → rows d ≡ size / (4096 * d.channels)) × ((size % (4096 * d.channels) ≡ 0 → ⊥) → rows d ≡ size / (4096 * d.channels) + 1)
all_rows d size some whole =
    let quotient : size / (4096 * d.channels) ≡ octets d / 4096 = ap (λ n. n / (4096 * d.channels)) whole ∙ mul-div-mul_right (octets d) 4096 some in
    let there = within_row size (4096 * d.channels) in
    let parts : octets d / 4096 * 4096 + octets d % 4096 ≡ octets d = within_row (octets d) 4096 in
    let spread : octets d * d.channels ≡ octets d / 4096 * (4096 * d.channels) + octets d % 4096 * d.channels =
    ap (λ n. n * d.channels) (sym parts) ∙ omega arith in
    let left : size % (4096 * d.channels) ≡ octets d % 4096 * d.channels =
    omega (arith, there, whole, spread, ap (λ q. q * (4096 * d.channels)) quotient) in (
      (λ none. count_whole d.samples (octets d % 4096) d.channels refl (omega (arith, left, none)) some ∙ sym quotient),
      (λ rest. count_part d.samples (octets d % 4096) refl (λ e. rest (left ∙ ap (λ n. n * d.channels) e ∙ nothing d.channels))
          ∙ ap (λ q. q + 1) (sym quotient)),
    )
  where
    nothing : (c : ℕ) → 0 * c ≡ 0
    nothing c = omega arith

    count_whole : (n rest c : ℕ) → rest ≡ (n + 7) / 8 % 4096 → rest * c ≡ 0 → 1 ≤ c → (n + 32767) / 32768 ≡ (n + 7) / 8 / 4096
    count_whole n zero c e none l = omega arith
    count_whole n (suc rest) c e none l = absurd (omega (arith, mul-le 1 1 (suc rest) c (omega arith) l))

    count_part : (n rest : ℕ) → rest ≡ (n + 7) / 8 % 4096 → (rest ≡ 0 → ⊥) → (n + 32767) / 32768 ≡ (n + 7) / 8 / 4096 + 1
    count_part n zero e some = absurd (some refl)
    count_part n (suc rest) e some = omega arith

module _ {K : Type 0} (written : K → Option (List ℕ)) (room : K → Option ℕ)
  where
    -- what is known when all of the sound is taken
    pub record IsAll (s : RowWriter K) : Type 0 where
      pub some : 1 ≤ s.row.form.channels.channels
      pub whole : s.row.size ≡ octets (dsf_seen s.row.form) * s.row.form.channels.channels
      pub all : s.row.taken ≡ s.row.size

    pub ends_with_row : (s : RowWriter K) (sound : List ℕ) (old : Option (List ℕ)) (before : Option ℕ) → IsAll s →
        s.row.taken % (4096 * s.row.form.channels.channels) ≡ 0 → HasTaken written room sound old before s →
        Adds (rows_of (dsf_seen s.row.form) sound (rows (dsf_seen s.row.form))) old (written s.sink.now) before (room s.sink.now)
    ends_with_row s sound old before k none h =
        let count = (all_rows (dsf_seen s.row.form) s.row.taken k.some (k.all ∙ k.whole)).0 none in
        subst (λ n. Adds (rows_of (dsf_seen s.row.form) sound n) old (written s.sink.now) before (room s.sink.now)) (sym count) h.adds

    -- the row in which it ends has a number, behind the rows that are written
    pub last_number : (s : RowWriter K) → IsAll s → (s.row.taken % (4096 * s.row.form.channels.channels) ≡ 0 → ⊥) →
        rows (dsf_seen s.row.form) ≡ s.row.taken / (4096 * s.row.form.channels.channels) + 1
    last_number s k some = (all_rows (dsf_seen s.row.form) s.row.taken k.some (k.all ∙ k.whole)).1 some

    pub ends_in_row : {T E : Type 0} (result : Result T E) (s : RowWriter K) (sound : List ℕ) (q : ℕ) (old new : Option (List ℕ))
        (before left : Option ℕ) → IsAll s →
        (s.row.taken % (4096 * s.row.form.channels.channels) ≡ 0 → ⊥) → q ≡ s.row.taken / (4096 * s.row.form.channels.channels) →
        MatchResult result
        (λ _. Adds (dsf_row (dsf_seen s.row.form) (samples_of (dsf_seen s.row.form) sound) q) (written s.sink.now) new (room s.sink.now) left)
        (λ _. Stops (Unit {0}) (dsf_row (dsf_seen s.row.form) (samples_of (dsf_seen s.row.form) sound) q) (written s.sink.now) new (room s.sink.now)) →
        HasTaken written room sound old before s → MatchResult result
        (λ _. Adds (rows_of (dsf_seen s.row.form) sound (rows (dsf_seen s.row.form))) old new before left)
        (λ _. Stops (Unit {0}) (rows_of (dsf_seen s.row.form) sound (rows (dsf_seen s.row.form))) old new before)
    ends_in_row (Ok u) s sound q old new before left k some at row h =
        let d = dsf_seen s.row.form in
        adds_same (rows_of d sound q ++ dsf_row d (samples_of d sound) q) (rows_of d sound (rows d)) old new before left
        (sym (one_more_row d sound q) ∙ ap (rows_of d sound) (ap (λ n. n + 1) at ∙ sym (last_number s k some)))
        (adds_then (rows_of d sound q) (dsf_row d (samples_of d sound) q) old (written s.sink.now) new before (room s.sink.now) left
        (subst (λ n. Adds (rows_of d sound n) old (written s.sink.now) before (room s.sink.now)) (sym at) h.adds) row)
    ends_in_row (Err fault) s sound q old new before left k some at row h =
        let d = dsf_seen s.row.form in
        stops_same (Unit {0}) (rows_of d sound q ++ dsf_row d (samples_of d sound) q) (rows_of d sound (rows d)) old new before
        (sym (one_more_row d sound q) ∙ ap (rows_of d sound) (ap (λ n. n + 1) at ∙ sym (last_number s k some)))
        (stops_then (Unit {0}) (rows_of d sound q) (dsf_row d (samples_of d sound) q) old (written s.sink.now) new before (room s.sink.now)
        (subst (λ n. Adds (rows_of d sound n) old (written s.sink.now) before (room s.sink.now)) (sym at) h.adds) row)

    -- a full row is written, or the sink fails at it
    abbrev pub IsDrained : {T E : Type 0} → Result T E → DsfForm → List ℕ → ℕ → (old new : Option (List ℕ)) → (before left : Option ℕ) → Type 0
    IsDrained result f sound q old new before left = MatchResult result
        (λ _. Adds (dsf_row (dsf_seen f) (samples_of (dsf_seen f) sound) q) old new before left)
        (λ _. Stops (Unit {0}) (dsf_row (dsf_seen f) (samples_of (dsf_seen f) sound) q) old new before)

    drained : {T E : Type 0} (result : Result T E) (s t : RowWriter K) (part sound : List ℕ) (old : Option (List ℕ)) (before : Option ℕ) →
        IsPut written room s t part →
        (t.row.taken / (4096 * s.row.form.channels.channels) ≡ s.row.taken / (4096 * s.row.form.channels.channels) → ⊥) →
        OnOk result (t.row.bytes ≡ replicate 24576 0) →
        IsDrained result s.row.form (sound ++ part) (s.row.taken / (4096 * s.row.form.channels.channels)) (written s.sink.now) (written t.sink.now)
        (room s.sink.now)
        (room t.sink.now) →
        HasTaken written room sound old before s → MatchResult result
        (λ _. HasTaken written room (sound ++ part) old before t)
        (λ _. FailsAtRow (dsf_seen s.row.form) (sound ++ part) old (written t.sink.now) before)
    drained (Ok u) s t part sound old before put other empty row h = is_written written room s t part sound old before put other empty row h
    drained (Err fault) s t part sound old before put other empty row h = is_stopped written room s t part sound old before put other row h

    pub row_is_drained : {T E : Type 0} (result : Result T E) (s t : RowWriter K) (f : DsfForm) (q : ℕ) (part sound : List ℕ) (old : Option (List ℕ))
        (before : Option ℕ) →
        IsPut written room s t part →
        (t.row.taken / (4096 * s.row.form.channels.channels) ≡ s.row.taken / (4096 * s.row.form.channels.channels) → ⊥) →
        f ≡ s.row.form → q ≡ s.row.taken / (4096 * s.row.form.channels.channels) →
        OnOk result (t.row.bytes ≡ replicate 24576 0) →
        IsDrained result f (sound ++ part) q (written s.sink.now) (written t.sink.now) (room s.sink.now) (room t.sink.now) →
        HasTaken written room sound old before s → MatchResult result
        (λ _. HasTaken written room (sound ++ part) old before t)
        (λ _. FailsAtRow (dsf_seen s.row.form) (sound ++ part) old (written t.sink.now) before)
    row_is_drained result s t f q part sound old before put other same at empty row h =
        drained result s t part sound old before put other empty
        (subst (λ n. IsDrained result s.row.form (sound ++ part) n (written s.sink.now) (written t.sink.now) (room s.sink.now) (room t.sink.now)) at
        (subst (λ (g : DsfForm). IsDrained result g (sound ++ part) q (written s.sink.now) (written t.sink.now) (room s.sink.now) (room t.sink.now)) same row))
        h

-- a row of some form and number
pub row_by : (f g : DsfForm) (q n : ℕ) (sound row : List ℕ) → f ≡ g → q ≡ n → HasRow g.channels.channels sound n row → HasRow f.channels.channels sound q row
row_by f g q n sound row same at has =
    subst (λ (h : DsfForm). HasRow h.channels.channels sound q row) (sym same) (subst (λ k. HasRow g.channels.channels sound k row) (sym at) has)

-- ---- a piece that is taken part by part
pub front_then : (sound piece : List ℕ) (place count : ℕ) →
    (sound ++ take place piece) ++ take (place + count - place) (drop place piece) ≡ sound ++ take (place + count) piece
front_then sound piece place count =
    let same : place + count - place ≡ count = omega arith in
    append_assoc sound (take place piece) (take (place + count - place) (drop place piece))
    ∙ ap (λ w. sound ++ w) (ap (λ n. take place piece ++ take n (drop place piece)) same ∙ sym (take-add place count piece))

pub front_and_rest : (sound piece : List ℕ) (n : ℕ) → (sound ++ take n piece) ++ drop n piece ≡ sound ++ piece
front_and_rest sound piece n = append_assoc sound (take n piece) (drop n piece) ∙ ap (λ w. sound ++ w) (take-append-drop n piece)

pub take_least : {A : Type 0} (n left : ℕ) (xs : List A) → n ≡ min left (length xs) → take n xs ≡ take left xs
take_least n left xs least = elim (cases_lt left (length xs)) [
  | inl l ↦ ap (λ m. take m xs) (least ∙ omega arith)
  | inr m ↦ take_all n xs (omega (arith, least)) ∙ sym (take_all left xs m)
]
