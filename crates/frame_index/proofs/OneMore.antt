-- One entry more behind others, as bytes.
use Rattle.std.proofs.Common.{◌≡◌, ℕ, zero, suc, ◌+◌, ◌*◌, ◌/◌, ◌^◌, ◌<◌, ◌≤◌, List, [], ◌∷◌, ◌++◌, length, drop, map, refl, sym, ap, ◌∙◌, arith, length-append}
use Rattle.std.proofs.Common.{zero-add}
use Rattle.std.specs.List.{range_with_len}
use Rattle.std.proofs.lemmas.List.{append-nil, take_at, drop_at}
use Rattle.std.proofs.lemmas.List.FromFn.{map-range_with_len_more}
use Rattle.byteorder.specs.Endian.{big_from, big_bytes}
use Rattle.byteorder.specs.Numbers.{big_from-take, big_number-reads_back, length-bytes_high_first}
use Rattle.dsdiff_spec.specs.Walk.{Entry}
use Rattle.frame_index.specs.Entries.{entries_in, entry_at}
use Rattle.chunk_view.proofs.InParts.{number_behind_place, number_behind_both}
use Rattle.frame_index.proofs.Entries.{count_of_entries}

abbrev pub bytes_of_entry : ℕ → ℕ → List ℕ
bytes_of_entry offset size = big_bytes 8 offset ++ big_bytes 4 size

length-bytes_of_entry : (offset size : ℕ) → length (bytes_of_entry offset size) ≡ 12
length-bytes_of_entry offset size =
    omega (arith, length-append (big_bytes 8 offset) (big_bytes 4 size), length-bytes_high_first 8 offset, length-bytes_high_first 4 size)

pub length_more : (bytes : List ℕ) (n offset size : ℕ) → length bytes ≡ 12 * n →
    length (bytes ++ bytes_of_entry offset size) ≡ 12 * (n + 1)
length_more bytes n offset size long =
    omega (arith, length-append bytes (bytes_of_entry offset size), length-bytes_of_entry offset size)

abbrev entry_with : ℕ → ℕ → Entry
entry_with offset size = record { offset = offset; size = size }

same_entry : (a b m n : ℕ) → a ≡ b → m ≡ n → entry_with a m ≡ entry_with b n
same_entry a b m n p q = rw (p, q) refl

-- the entries before stay as they are
number_before : (bytes more : List ℕ) (i n : ℕ) → i + n ≤ length bytes → big_from i n (bytes ++ more) ≡ big_from i n bytes
number_before bytes more i n le =
    sym (big_from-take i n (length bytes) (bytes ++ more) le) ∙ ap (big_from i n) (take_at bytes more (length bytes) refl)

entry_before : (bytes more : List ℕ) (k : ℕ) → 12 * k + 12 ≤ length bytes → entry_at (bytes ++ more) k ≡ entry_at bytes k
entry_before bytes more k le =
    same_entry _ _ _ _ (number_before bytes more (12 * k) 8 (omega (arith, le))) (number_before bytes more (12 * k + 8) 4 (omega (arith, le)))

-- the last entry is the one of the last twelve bytes
last_entry : (bytes : List ℕ) (n offset size : ℕ) → length bytes ≡ 12 * n → offset < 256 ^ 8 → size < 256 ^ 4 →
    entry_at (bytes ++ bytes_of_entry offset size) n ≡ entry_with offset size
last_entry bytes n offset size long o s =
    let w = bytes ++ bytes_of_entry offset size in
    let last : drop (12 * n) w ≡ bytes_of_entry offset size = drop_at bytes (bytes_of_entry offset size) (12 * n) long in
    same_entry _ _ _ _
    (sym (number_behind_place w (12 * n) 8) ∙ ap (λ v. big_from 0 8 v) last ∙ big_number-reads_back 8 offset (big_bytes 4 size) o)
    (sym (number_behind_both w (12 * n) 4 8)
    ∙ ap (λ v. big_from 0 4 (drop 8 v)) last
    ∙ ap (λ v. big_from 0 4 v) (drop_at (big_bytes 8 offset) (big_bytes 4 size) 8 (length-bytes_high_first 8 offset) ∙ sym (append-nil (big_bytes 4 size)))
    ∙ big_number-reads_back 4 size [] s)

same_up_to : {X : Type 0} (f g : ℕ → X) (a n : ℕ) → ((k : ℕ) → a ≤ k → k < a + n → f k ≡ g k) →
    map f (range_with_len a n) ≡ map g (range_with_len a n)
same_up_to f g a zero same = refl
same_up_to f g a (suc n) same =
    ap (λ x. x ∷ map f (range_with_len (a + 1) n)) (same a (omega arith) (omega arith))
    ∙ ap (λ xs. g a ∷ xs) (same_up_to f g (a + 1) n (λ k le lt. same k (omega (arith, le)) (omega (arith, lt))))

pub entries_more : (bytes : List ℕ) (n offset size : ℕ) → length bytes ≡ 12 * n → offset < 256 ^ 8 → size < 256 ^ 4 →
    entries_in (bytes ++ bytes_of_entry offset size) ≡ entries_in bytes ++ entry_with offset size ∷ []
entries_more bytes n offset size long o s =
    let more = bytes_of_entry offset size in
    let w = bytes ++ more in
    let all : length w / 12 ≡ n + 1 = count_of_entries w (n + 1) (length_more bytes n offset size long) in
    let before : length bytes / 12 ≡ n = count_of_entries bytes n long in
    ap (λ m. map (entry_at w) (range_with_len 0 m)) all
    ∙ map-range_with_len_more (entry_at w) 0 n n (zero-add n)
    ∙ ap (λ es. es ++ entry_at w n ∷ [])
    (same_up_to (entry_at w) (entry_at bytes) 0 n (λ k le lt. entry_before bytes more k (omega (arith, long, lt)))
    ∙ ap (λ m. map (entry_at bytes) (range_with_len 0 m)) (sym before))
    ∙ ap (λ e. entries_in bytes ++ e ∷ []) (last_entry bytes n offset size long o s)
