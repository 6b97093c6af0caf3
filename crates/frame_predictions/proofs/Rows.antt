-- Rows made and moved.
use Rattle.std.proofs.Common.{◌≡◌, ◌⊎◌, inl, inr, ℕ, ◌+◌, ◌<◌, ◌≤◌, max, List, [], ◌∷◌, ◌++◌, length, get_or, set, take, drop, map, suc, ap, ap₂, sym, subst}
use Rattle.std.proofs.Common.{◌∙◌, arith, get_or-set_same, get_or-set_other, length-set, length-take-le, get_or-take}
use Rattle.std.specs.List.{SwappedAt}
use Rattle.std.proofs.lemmas.Bool.{cases_eq, cases_lt}
use Rattle.std.proofs.lemmas.List.{get_or-map, length-map}
use Rattle.std.proofs.Math.Seq.{take-append_seam}
use Rattle.std.proofs.lemmas.List.Elements.{All-set}
use Rattle.dst_spec.specs.Sample.{Shape, samples}
use Rattle.frame_predictions.specs.Codes.{codes}
use Rattle.frame_predictions.specs.Predicting.{Predicted}
use Rattle.frame_predictions.specs.Rows.{predicted, AreFilled}
use Rattle.frame_predictions.specs.declared.row.Row.{Row}
use Rattle.frame_predictions.proofs.Elements.{codes-length}

abbrev pub IsRight : Shape → List ℕ → Row → Type 0
IsRight f sound row = row.codes.items ≡ codes f sound row.channel row.filter

right-long : (f : Shape) (sound : List ℕ) (row : Row) → IsRight f sound row → length row.codes.items ≡ samples f
right-long f sound row is = ap length is ∙ codes-length f sound row.channel row.filter

pub filled-made : (f : Shape) (sound : List ℕ) (rows : List Row) (filled place : ℕ) (new : Row) → AreFilled f sound rows filled →
    place < length rows → place ≤ filled → IsRight f sound new →
    AreFilled f sound (set rows place new) (max filled (place + 1))
filled-made f sound rows filled place new h inside next right =
    let long = length-set rows place new in
    let within = h.within in
    record {
      within = omega arith;
      long = All-set (λ row. length row.codes.items ≡ samples f) rows place new (right-long f sound new right) h.long;
      are = λ k other lt. at k other lt (cases_eq k place);
    }
  where
    at : (k : ℕ) (other : Row) → k < max filled (place + 1) → (k ≡ place) ⊎ (k ≡ place → ⊥) → IsRight f sound (get_or (set rows place new) k other)
    at k other lt (inl is) = subst (IsRight f sound)
        (sym (ap (λ n. get_or (set rows place new) n other) is ∙ get_or-set_same rows place new other inside)) right
    at k other lt (inr ne) = subst (IsRight f sound) (sym (get_or-set_other rows place k new other ne)) (h.are k other (omega arith))

-- what holds of each place before holds of each place of rows two of which are exchanged
swapped-all : (P : Row → Type 0) (xs ys : List Row) (a b n : ℕ) → SwappedAt xs ys a b → a < n → b < n →
    ((k : ℕ) (other : Row) → k < n → P (get_or xs k other)) → (k : ℕ) (other : Row) → k < n → P (get_or ys k other)
swapped-all P xs ys a b n s la lb h k other lt = at (cases_eq k a) (cases_eq k b)
  where
    at : (k ≡ a) ⊎ (k ≡ a → ⊥) → (k ≡ b) ⊎ (k ≡ b → ⊥) → P (get_or ys k other)
    at (inl is) q = subst P (sym (ap (λ i. get_or ys i other) is ∙ s.0 other)) (h b other lb)
    at (inr ne) (inl is) = subst P (sym (ap (λ i. get_or ys i other) is ∙ s.1 other)) (h a other la)
    at (inr ne) (inr nor) = subst P (sym (s.2 k other ne nor)) (h k other lt)

pub filled-swapped : (f : Shape) (sound : List ℕ) (rows new : List Row) (filled a b : ℕ) → AreFilled f sound rows filled → SwappedAt rows new a b →
    length new ≡ length rows → a < filled → b < filled → AreFilled f sound new filled
filled-swapped f sound rows new filled a b h s long la lb =
    let within = h.within in
    record {
      within = omega arith;
      long = λ k other lt. swapped-all (λ row. length row.codes.items ≡ samples f) rows new a b (length rows) s (omega arith) (omega arith)
          (λ i o l. h.long i o l) k other (omega arith);
      are = swapped-all (IsRight f sound) rows new a b filled s la lb h.are;
    }

-- the rows that are seen
pub seen-length : (rows : List Row) (held : ℕ) → held ≤ length rows → length (map predicted (take held rows)) ≡ held
seen-length rows held le = length-map (take held rows) predicted ∙ length-take-le held rows le

pub seen-at : (rows : List Row) (held k : ℕ) (row : Row) (other : Predicted) → held ≤ length rows → k < held →
    get_or (map predicted (take held rows)) k other ≡ predicted (get_or rows k row)
seen-at rows held k row other le lt =
    let inside : k < length (take held rows) = omega (arith, length-take-le held rows le) in
    get_or-map predicted (take held rows) k row other inside ∙ ap predicted (get_or-take held rows k row lt)

-- what is written back to a vector of as many rows
pub written-back : (old new : List Row) (n : ℕ) → length new ≡ n → take n (new ++ drop (length new) old) ≡ new
written-back old new n long = subst (λ m. take m (new ++ drop (length new) old) ≡ new) long (take-append_seam new (drop (length new) old))

pub first-of : (rows : List Row) → 0 < length rows → Row
first-of [] lt = absurd (omega arith)
first-of (row ∷ rows) lt = row

-- a place in front of the next one is held
pub held-before : (held most next place : ℕ) → (held < most → next ≡ held) → (most ≤ held → next ≡ 0) → place < next → (held < most) × (next ≡ held)
held-before held most next place behind first lt = at (cases_lt held most)
  where
    at : (held < most) ⊎ (most ≤ held) → (held < most) × (next ≡ held)
    at (inl h) = (h, behind h)
    at (inr h) = let none = first h in absurd (omega arith)

-- rows behind which one more stands
pub one-more : (old new : List Predicted) (r : Predicted) → length new ≡ length old + 1 →
    ((k : ℕ) (other : Predicted) → k < length old → get_or new k other ≡ get_or old k other) →
    ((other : Predicted) → get_or new (length old) other ≡ r) → new ≡ old ++ r ∷ []
one-more [] [] r long same last = absurd (omega (arith, long))
one-more [] (x ∷ []) r long same last = ap (λ y. y ∷ []) (last r)
one-more [] (x ∷ y ∷ ys) r long same last = absurd (omega (arith, long))
one-more (x ∷ xs) [] r long same last = absurd (omega (arith, long))
one-more (x ∷ xs) (y ∷ ys) r long same last =
    ap₂ (λ a b. a ∷ b) (same 0 x (omega arith))
    (one-more xs ys r (omega (arith, long)) (λ k other lt. same (suc k) other (omega (arith, lt))) last)
