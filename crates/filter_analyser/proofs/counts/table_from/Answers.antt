-- The table of the counts: up to the last place that a sample has.
use Rattle.std.proofs.Common.{◌≡◌, ℕ, ◌+◌, ◌<◌, ◌≤◌, ◌≢◌, max, pos, cond, nat_lt, List, length, map, get_or, take, length-take, length-set}
use Rattle.std.proofs.Common.{get_or-set_other, get_or-set_same, below_more, refl, ap, sym, ◌∙◌, subst, arith}
use Rattle.std.proofs.lemmas.List.{ext_get_or, get_or-take}
use Rattle.std.proofs.lemmas.List.FromFn.{length-map-range_with_len, get_or-map-range_with_len}
use Rattle.std.specs.List.{range_with_len}
use Rattle.dst_spec.specs.Table.{prob_kind, IsTable}
use Rattle.level_spec.specs.Scale.{last_place}
use Rattle.level_spec.specs.Counts.{entry, table_of}
use Rattle.level_spec.proofs.Tables.{last_place-most, IsTable-table_of}
use Rattle.filter_refiner.proofs.Lengths.{test-true, test-false, last-next}
use Rattle.filter_analyser.proofs.counts.table_from.Goals as goal
use Rattle.filter_analyser.proofs.counts.table_from.Goals.{After-loop-place, then-total-gt0, else-total-gt0}

-- how many samples each place has, and how many of them are guessed wrong
abbrev totals : List ℕ → ℕ → ℕ
totals counts p = get_or counts p 0 + get_or counts (p + 64) 0

abbrev wrongs : List ℕ → ℕ → ℕ
wrongs counts p = get_or counts (p + 64) 0

pub loop-place-init : goal.loop-place-init
unfolding last_place
loop-place-init c = (refl, refl, λ p h. absurd (omega arith))

pub loop-place-preserved : goal.loop-place-preserved
loop-place-preserved c =
    let total = totals c.args.counts.now in
    let test = λ (p : ℕ). nat_lt 0 (total p) in
    let place = c.loop-place.place in
    let next = last-next test place in
    let inside : place < length c.loop-place.entries = omega (arith, c.loop-place.invariant.0) in (
      omega (arith, length-set {A = ℕ}, c.loop-place.invariant.0),
      elim c.if-total-gt0.branch [
        | then-total-gt0 w ↦ w.length-is ∙ sym (next ∙ ap (λ b. cond b (place + 1) (last_place test place)) (test-true 0 (total place) w.if-total-gt0.true))
        | else-total-gt0 w ↦ w.length-is ∙ c.loop-place.invariant.1
            ∙ sym (next ∙ ap (λ b. cond b (place + 1) (last_place test place)) (test-false 0 (total place) w.if-total-gt0.false))
      ],
      below_more _ _
          (λ k h. let ne : k ≢ place = omega arith in rw get_or-set_other (c.loop-place.invariant.2 k h))
          (rw get_or-set_same c.entry-part.ensures),
    )

-- the entries up to the last place, and at least two, are the table
cut : (c : After-loop-place) (n : ℕ) → n ≡ max c.loop-place.length 2 →
    (take n c.loop-place.entries ≡ table_of (totals c.args.counts.now) (wrongs c.args.counts.now)) × (n ≤ 64)
cut c n e =
    let entries = c.loop-place.entries in
    let total = totals c.args.counts.now in
    let G : ℕ → ℕ = λ p. entry (total p) (wrongs c.args.counts.now p) in
    let m = max 2 (last_place (λ p. nat_lt 0 (total p)) 64) in
    let whole : c.loop-place.place ≡ 64 = omega arith in
    let long = c.loop-place.invariant.0 in
    let same : c.loop-place.length ≡ last_place (λ p. nat_lt 0 (total p)) 64 =
    c.loop-place.invariant.1 ∙ ap (last_place (λ p. nat_lt 0 (total p))) whole in
    let most = last_place-most (λ p. nat_lt 0 (total p)) 64 in
    let is : n ≡ m = omega arith in
    let front = length-take n entries in
    let many = length-map-range_with_len G 0 m in (
      ext_get_or 0 (take n entries) (map G (range_with_len 0 m)) (omega arith) (λ k h.
          get_or-take n entries k 0 (omega arith) ∙ c.loop-place.invariant.2 k (omega arith)
          ∙ sym (get_or-map-range_with_len G 0 m k k 0 (omega arith) (omega arith))),
      omega arith,
    )

pub slice_bounds-entries-end : goal.slice_bounds-entries-end
slice_bounds-entries-end c =
    let table = cut c.before.before c.max.result c.max.ensures in
    omega (arith, table.1, c.loop-place.invariant.0)

pub slice_bounds-new-end : goal.slice_bounds-new-end
slice_bounds-new-end c =
    let table = cut c.before.before c.max.result c.max.ensures in
    omega (arith, table.1, c.loop-place.invariant.0, length-take c.max.result c.loop-place.entries)

pub unreachable-requires : goal.unreachable-requires
unreachable-requires c =
    let table = cut c.before.before.before.before c.max.result c.max.ensures in
    c.in-None.ensures.none (subst (λ t. IsTable prob_kind (map pos t)) (sym table.0)
    (IsTable-table_of (totals c.args.counts.now) (wrongs c.args.counts.now)))

pub returns : goal.returns
returns c =
    c.in-Some.ensures.entries ∙ (cut c.before.before.before.before c.max.result c.max.ensures).0
