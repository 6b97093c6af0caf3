-- A row of blocks as it is read, and the sound in it.
use Rattle.std.proofs.Common.{◌≡◌, ◌⊎◌, inl, inr, ℕ, ◌+◌, ◌-◌, ◌*◌, ◌/◌, ◌%◌, ◌^◌, ◌<◌, ◌≤◌, true, List, drop}
use Rattle.std.proofs.Common.{get_or, refl, sym, ap, ap₂, subst, ◌∙◌, arith, Option, Some, None}
use Rattle.std.proofs.lemmas.Bool.{leb-true, cases_order}
use Rattle.std.proofs.lemmas.List.{get_or-take, get_or-drop}
use Rattle.std.proofs.lemmas.Nat.{div-mul-add}
use Rattle.std.proofs.Math.Nat.{mul-le-mul_right, mul-add-mod_self_right, mod-eq_of_lt}
use Rattle.dst_spec.specs.Bits.{AreBytes}
use Rattle.dsdiff_spec.specs.Bytes.{bytes_at}
use Rattle.dsdiff_spec.specs.Dsf.{dsf_of, rows, bytes_of_blocks}
use Rattle.dsdiff_spec.proofs.ByteLists.{byte_at_place}
use Rattle.dsf_files.specs.declared.form.DsfForm.{DsfForm}
use Rattle.dsf_files.specs.Forms.{dsf_seen, has_blocks, is_order}
use Rattle.dsf_files.specs.Rows.{in_order, cleared, sound_byte, IsRowOf, IsCleared}
use Rattle.dsf_files.proofs.SoundBytes.{block_byte, whole_byte, part_byte}

-- ---- where a row stands
pub row_within : (known : Option ℕ) (form : DsfForm) (number : ℕ) → has_blocks known form ≡ true → number < rows (dsf_seen form) →
    (n : ℕ) × (known ≡ Some n) × (92 + number * (4096 * form.channels.channels) + 4096 * form.channels.channels ≤ n)
row_within None form number h below = absurd cc
row_within (Some n) form number h below =
    let c = form.channels.channels in
    let room = leb-true (92 + bytes_of_blocks (dsf_seen form)) n h in
    let more : (number + 1) * (4096 * c) ≤ rows (dsf_seen form) * (4096 * c) = mul-le-mul_right (4096 * c) (omega arith) in
    let next : (number + 1) * (4096 * c) ≡ number * (4096 * c) + 4096 * c = omega arith in
    (n, refl, omega arith)

-- ---- the bytes in it
byte_in_row : (f row : List ℕ) (number n c j : ℕ) → row ≡ bytes_at f (92 + number * (4096 * n)) (4096 * n) → n ≡ (dsf_of f).channels → c < n → j < 4096 →
    get_or row (4096 * c + j) 0 ≡ block_byte f c (4096 * number + j)
byte_in_row f row number n c j read channels below small =
    let within : 4096 * c + j < 4096 * n = omega arith in
    let r : (4096 * number + j) / 4096 ≡ number = omega arith in
    let p : (4096 * number + j) % 4096 ≡ j = omega arith in
    let there : 92 + number * (4096 * n) + (4096 * c + j) ≡ 92 + (number * n + c) * 4096 + j = omega arith in
    ap (λ w. get_or w (4096 * c + j) 0) read
    ∙ get_or-take (4096 * n) (drop (92 + number * (4096 * n)) f) (4096 * c + j) 0 within
    ∙ get_or-drop (92 + number * (4096 * n)) f (4096 * c + j) 0
    ∙ ap (λ i. get_or f i 0) (there ∙ ap₂ (λ x y. 92 + (x * n + c) * 4096 + y) (sym r) (sym p)
    ∙ ap (λ m. 92 + ((4096 * number + j) / 4096 * m + c) * 4096 + (4096 * number + j) % 4096) channels)

-- what is known of a row that was read and put in order
pub record IsOrdered (f raw row : List ℕ) (number n order : ℕ) : Type 0 where
  pub bytes : AreBytes f
  pub lawful : is_order order ≡ true
  pub order_is : order ≡ (dsf_of f).bits
  pub channels : n ≡ (dsf_of f).channels
  pub read : raw ≡ bytes_at f (92 + number * (4096 * n)) (4096 * n)
  pub ordered : (k : ℕ) → k < 4096 * n → get_or row k 0 ≡ in_order order (get_or raw k 0)

ordered_byte : (f raw row : List ℕ) (number n order : ℕ) → IsOrdered f raw row number n order → (c j : ℕ) → c < n → j < 4096 →
    get_or row (4096 * c + j) 0 ≡ in_order (dsf_of f).bits (block_byte f c (4096 * number + j))
ordered_byte f raw row number n order h c j below small =
    h.ordered (4096 * c + j) (omega arith)
    ∙ ap₂ in_order h.order_is (byte_in_row f raw number n c j h.read h.channels below small)

lawful_order : (f raw row : List ℕ) (number n order : ℕ) → IsOrdered f raw row number n order → is_order (dsf_of f).bits ≡ true
lawful_order f raw row number n order h = ap is_order (sym h.order_is) ∙ h.lawful

whole_one : (f raw row : List ℕ) (number n order : ℕ) → IsOrdered f raw row number n order → (c j : ℕ) → c < (dsf_of f).channels → j < 4096 →
    8 * (4096 * number + j) + 8 ≤ (dsf_of f).samples → get_or row (4096 * c + j) 0 ≡ sound_byte f c (4096 * number + j)
whole_one f raw row number n order h c j below small all =
    ordered_byte f raw row number n order h c j (subst (λ m. c < m) (sym h.channels) below) small
    ∙ sym (whole_byte f c (4096 * number + j) (lawful_order f raw row number n order h) (byte_at_place f _ h.bytes) all)

-- no byte of it is begun and not whole
pub row_is_whole : (f raw row : List ℕ) (number n order : ℕ) → IsOrdered f raw row number n order →
    ((dsf_of f).samples % 8 ≡ 0) ⊎ ((dsf_of f).samples / 32768 ≡ number → ⊥) → IsRowOf f number row
row_is_whole f raw row number n order h none c j below small within =
    whole_one f raw row number n order h c j below small (all (dsf_of f).samples number j none within small)
  where
    all : (s r p : ℕ) → (s % 8 ≡ 0) ⊎ (s / 32768 ≡ r → ⊥) → 4096 * r + p < (s + 7) / 8 → p < 4096 → 8 * (4096 * r + p) + 8 ≤ s
    all s r p (inl even) l m = omega arith
    all s r p (inr other) l m = elim (cases_order (s / 32768) r) [
      | inl e ↦ absurd (other e)
      | inr (inl l') ↦ absurd (omega arith)
      | inr (inr l') ↦ omega arith
    ]

-- one byte of each channel is begun and not whole, and what isn't there is cleared
pub row_is_cleared : (f raw row new : List ℕ) (number n order octet past : ℕ) → IsOrdered f raw row number n order →
    (past ≡ 0 → ⊥) → past ≡ (dsf_of f).samples % 8 → (dsf_of f).samples / 32768 ≡ number → octet ≡ (dsf_of f).samples % 32768 / 8 →
    IsCleared row new n octet (8 - past) → IsRowOf f number new
row_is_cleared f raw row new number n order octet past h some past_is here octet_is cleared c j below small within = elim (cases_order j octet) [
  | inl e ↦
      let count : (dsf_of f).samples ≡ 8 * (4096 * number + octet) + past = split (dsf_of f).samples number octet past past_is here octet_is in
      let mine : c < n = subst (λ m. c < m) (sym h.channels) below in
      ap (λ k. get_or new (4096 * c + k) 0) e
      ∙ cleared.0 c mine
      ∙ ap (λ b. cleared_by b) (ordered_byte f raw row number n order h c octet mine (omega arith))
      ∙ sym (part_byte f c (4096 * number + octet) past (lawful_order f raw row number n order h) (byte_at_place f _ h.bytes) count (omega arith) (omega arith))
      ∙ ap (λ k. sound_byte f c (4096 * number + k)) (sym e)
  | inr other ↦
      let mine : c < n = subst (λ m. c < m) (sym h.channels) below in
      cleared.1 c j mine small (apart j octet other)
      ∙ whole_one f raw row number n order h c j below small (all (dsf_of f).samples number j octet past past_is here octet_is other within small)
]
  where
    cleared_by : ℕ → ℕ
    cleared_by b = b / 2 ^ (8 - past) * 2 ^ (8 - past)

    apart : (a b : ℕ) → (a < b) ⊎ (b < a) → a ≡ b → ⊥
    apart a b (inl l) e = absurd (omega arith)
    apart a b (inr l) e = absurd (omega arith)

    split : (s r o p : ℕ) → p ≡ s % 8 → s / 32768 ≡ r → o ≡ s % 32768 / 8 → s ≡ 8 * (4096 * r + o) + p
    split s r o p a b d = omega arith

    all : (s r k o p : ℕ) → p ≡ s % 8 → s / 32768 ≡ r → o ≡ s % 32768 / 8 → (k < o) ⊎ (o < k) → 4096 * r + k < (s + 7) / 8 → k < 4096 →
        8 * (4096 * r + k) + 8 ≤ s
    all s r k o p a b d (inl l) e m = omega arith
    all s r k o p a b d (inr l) e m = absurd (omega arith)

-- ---- the place of a byte of sound, by its channel and its octet
pub place_of_byte : (octet n channel place : ℕ) → octet * n + channel ≡ place → channel < n → (place % n ≡ channel) × (place / n ≡ octet)
place_of_byte octet n channel place there below = (
  ap (λ k. k % n) (sym there) ∙ mul-add-mod_self_right octet n channel ∙ mod-eq_of_lt below,
  ap (λ k. k / n) (sym there) ∙ div-mul-add octet n channel below,
)
