-- The words of each row by its name, and words that have none of these names.
use Rattle.std.proofs.Common.{◌≡◌, ℕ, zero, suc, ◌+◌, ◌<◌, ◌≤◌, Bool, true, false, if◌then◌else◌, List, [], ◌∷◌, length, map, get_or, refl, arith, Option}
use Rattle.std.proofs.Common.{Some, None}
use Rattle.std.specs.Prelude.{codes, bytes_eq}
use Rattle.std.specs.List.{AllByRecursion, range_with_len}
use Rattle.std.proofs.lemmas.Slice.Eq.{bytes_eq-Decides}
use Prim.Native.String.{String}
use Rattle.dsdiff_spec.specs.Faults.{first_some}
use Rattle.dsdiff_spec.specs.Words.{Word, Task, show}
use Rattle.words_spec.specs.Slots.{file, number, read_slots}
use Rattle.words_spec.specs.Rows.{Row, range_row, row_task, task_behind, show_frame_of, rows, task_of}
use Rattle.dst_words.specs.RowWords.{decode_words, frame_words, check_words, show_words, index_words, decode_dsf_words, of_slots, of_settings}
use Rattle.dst_words.proofs.Options.{or_none, same_or_none}
use Rattle.dst_words.proofs.Making.{or_else}

pub decode_row : (words : List Word) → task_of (codes "decode" ∷ words) ≡ decode_words words
unfolding task_of
decode_row words = same_or_none (decode_words words)

pub frame_row : (words : List Word) → task_of (codes "frame" ∷ words) ≡ frame_words words
unfolding task_of
frame_row words = same_or_none (frame_words words)

pub check_row : (words : List Word) → task_of (codes "check" ∷ words) ≡ check_words words
unfolding task_of
check_row words = same_or_none (check_words words)

pub index_row : (words : List Word) → task_of (codes "index" ∷ words) ≡ index_words words
unfolding task_of
index_row words = same_or_none (index_words words)

pub decode_dsf_row : (words : List Word) → task_of (codes "decode-dsf" ∷ words) ≡ decode_dsf_words words
unfolding task_of
decode_dsf_row words = same_or_none (decode_dsf_words words)

-- of the two rows of this name the second reads what the first doesn't
second_or_none : (a b : Option Task) → or_else a (or_none b) ≡ or_else a b
second_or_none (Some t) b = refl
second_or_none None b = same_or_none b

pub show_row : (words : List Word) → task_of (codes "show" ∷ words) ≡ show_words words
unfolding task_of
show_row words =
    second_or_none (of_slots (file ∷ []) (λ n. of_settings [] (λ o. Some show)) words)
    (of_slots (file ∷ number ∷ []) (λ n. of_settings [] (λ o. show_frame_of n)) words)

-- ---- other words
pub no_words_are : {A : Type 0} (f : A → Word) (words : List A) → length words < 1 → task_of (map f words) ≡ None
unfolding task_of
no_words_are f [] h = refl
no_words_are f (w ∷ ws) h = absurd (omega arith)

abbrev IsNamed : Word → Row → Type 0
IsNamed name row = bytes_eq name (codes row.name) ≡ false

none_named : (name : Word) (words : List Word) (rows : List Row) → AllByRecursion (IsNamed name) rows → first_some (row_task (name ∷ words)) rows ≡ None
none_named name words [] h = refl
none_named name words (r ∷ rs) h =
    go (bytes_eq name (codes r.name)) (elim (read_slots r.slots words) [ None ↦ None | Some read ↦ task_behind r read ]) h.0 (none_named name words rs h.1)
  where
    go : (b : Bool) (t : Option Task) → b ≡ false → first_some (row_task (name ∷ words)) rs ≡ None →
        or_else (if b then t else None) (first_some (row_task (name ∷ words)) rs) ≡ None
    go true t e later = absurd cc
    go false t e later = later

not_named : (name : Word) (text : String) → (name ≡ codes text → ⊥) → bytes_eq name (codes text) ≡ false
not_named name text h = go (bytes_eq name (codes text)) refl
  where
    go : (b : Bool) → bytes_eq name (codes text) ≡ b → b ≡ false
    go true e = absurd (h ((bytes_eq-Decides name (codes text)).0 e))
    go false e = refl

parts_named : (name : Word) (k n : ℕ) → bytes_eq name (codes "range") ≡ false → AllByRecursion (IsNamed name) (map range_row (range_with_len k n))
parts_named name k zero e = tt
parts_named name k (suc n) e = (e, parts_named name (k + 1) n e)

pub other_name : (name : Word) (words : List Word) → (name ≡ codes "encode" → ⊥) → (name ≡ codes "decode" → ⊥) → (name ≡ codes "cut" → ⊥)
    → (name ≡ codes "frame" → ⊥) → (name ≡ codes "check" → ⊥) → (name ≡ codes "show" → ⊥) → (name ≡ codes "index" → ⊥)
    → (name ≡ codes "make" → ⊥) → (name ≡ codes "encode-dsf" → ⊥) → (name ≡ codes "decode-dsf" → ⊥) → (name ≡ codes "range" → ⊥) → task_of (name ∷ words) ≡ None
unfolding task_of
other_name name words encode decode cut frame check shows index make encode_dsf decode_dsf range =
    let named_show = not_named name "show" shows in
    let named_make = not_named name "make" make in
    none_named name words rows (
      not_named name "encode" encode,
      (
        not_named name "decode" decode,
        (
          not_named name "cut" cut,
          (
            not_named name "frame" frame,
            (
              not_named name "check" check,
              (
                named_show,
                (
                  named_show,
                  (
                    not_named name "index" index,
                    (
                      named_make,
                      (
                        named_make,
                        (
                          not_named name "encode-dsf" encode_dsf,
                          (not_named name "decode-dsf" decode_dsf, parts_named name 1 16 (not_named name "range" range)),
                        ),
                      ),
                    ),
                  ),
                ),
              ),
            ),
          ),
        ),
      ),
    )

-- words behind the first one
pub other_words : {A : Type 0} (f : A → Word) (words : List A) (x : A) → 1 ≤ length words →
    ((rest : List Word) → task_of (f (get_or words 0 x) ∷ rest) ≡ None) →
    task_of (map f words) ≡ None
other_words f [] x long h = absurd (omega arith)
other_words f (w ∷ ws) x long h = h (map f ws)
