-- The row is one of those that are held, or is put at the next place.
use Rattle.std.proofs.Common.{◌≡◌, ℕ, List, ◌∷◌, ◌+◌, ◌*◌, ◌<◌, ◌≤◌, ◌++◌, [], length, get_or, map, take, drop, ap, sym, subst, subst₂, ◌∙◌, arith}
use Rattle.std.specs.List.{SwappedAt, Contains}
use Rattle.std.proofs.lemmas.List.Elements.{Contains-get_or}
use Rattle.std.proofs.lemmas.List.Edits.{length-swap}
use Rattle.frame_predictions.specs.Predicting.{Predicted}
use Rattle.frame_predictions.specs.Rows.{predicted, AreFilled}
use Rattle.frame_predictions.proofs.Rows.{seen-length, seen-at, filled-swapped, written-back, first-of, held-before, one-more}
use Rattle.frame_predictions.proofs.predictions.Predictions.row.Goals as goal

-- ---- a row that is there already
-- its place stands in front of the next one, so that the next one stands behind all rows that are held
found : (c : goal.Then-place-held) →
    (length c.provide-place.new.rows ≡ c.self.inside.rows.len) × (c.self.inside.held < length c.provide-place.new.rows)
    × (c.provide-place.result < c.self.inside.held)
found c =
    let p = c.self.inside in
    let within = c.self.invariant.are_filled.within in
    let same = ap length c.as_mut_slice.ensures.value in
    let all : length c.provide-place.new.rows ≡ p.rows.len = c.provide-place.ensures.long ∙ c.as_mut_slice.ensures.len in
    let next = held-before p.held c.len.result c.next_place-held.result c.provide-place.result c.next_place-held.ensures.behind
    c.next_place-held.ensures.first c.if-place-held.true in
    (all, omega (arith, next.0), omega (arith, next.1))

-- the rows that are held stay
found-stay : (c : goal.Then-place-held) →
    map predicted (take c.self.inside.held
    (take c.self.inside.rows.len (c.provide-place.new.rows ++ drop (length c.provide-place.new.rows) c.self.inside.rows.items))) ≡ c.args.self.now.rows
found-stay c =
    let p = c.self.inside in
    let order = c.self.invariant.in_order in
    let f = found c in
    let is = c.provide-place.ensures.behind p.held (omega (arith, f.2)) order (omega (arith, f.1)) ∙ c.as_mut_slice.ensures.value in
    ap (λ xs. map predicted (take p.held xs)) (written-back p.rows.items c.provide-place.new.rows p.rows.len f.0 ∙ is) ∙ ap (λ w. w.rows) c.self.view_is

pub returns-then-place-held-clause-is : goal.returns-then-place-held-clause-is
returns-then-place-held-clause-is c = λ other.
    let p = c.self.inside in
    let rows = c.provide-place.new.rows in
    let f = found c in
    let row = first-of rows (omega (arith, f.1)) in
    subst (λ xs. get_or (map predicted (take p.held xs)) c.provide-place.result other ≡ record { channel = c.args.channel; filter = c.args.filter.now })
    (sym (written-back p.rows.items rows p.rows.len f.0))
    (seen-at rows p.held c.provide-place.result row other (omega (arith, f.1)) f.2 ∙ c.provide-place.ensures.is row)

pub returns-then-place-held-clause-stay : goal.returns-then-place-held-clause-stay
returns-then-place-held-clause-stay c = λ room k other lt. ap (λ xs. get_or xs k other) (found-stay c)

pub returns-then-place-held-clause-there : goal.returns-then-place-held-clause-there
returns-then-place-held-clause-there c = λ room there. found-stay c

pub returns-then-place-held-clause-made : goal.returns-then-place-held-clause-made
returns-then-place-held-clause-made c = λ room absent.
    let p = c.self.inside in
    let old = c.args.self.now.rows in
    let place = c.provide-place.result in
    let within = c.self.invariant.are_filled.within in
    let order = c.self.invariant.in_order in
    let f = found c in
    let asked : Predicted = record { channel = c.args.channel; filter = c.args.filter.now } in
    let seen : length old ≡ p.held = ap (λ w. length w.rows) (sym c.self.view_is) ∙ seen-length p.rows.items p.held (omega arith) in
    let here : get_or old place asked ≡ asked = ap (λ xs. get_or xs place asked) (sym (found-stay c)) ∙ returns-then-place-held-clause-is c asked in
    absurd (absent (subst (Contains old) here (Contains-get_or old place asked (omega (arith, seen, f.2)))))

-- ---- a row that is put at the next place
put : (c : goal.After-self-3-1) →
    (length c.swap.new.self.items ≡ length c.provide-place.new.rows)
    × SwappedAt c.provide-place.new.rows c.swap.new.self.items c.provide-place.result c.next_place-held.result
    × (length c.args.self.now.rows ≡ c.self.inside.held) × (length c.provide-place.new.rows ≡ c.self.inside.rows.len)
    × (c.self.inside.held ≤ length c.self.inside.rows.items) × (c.next_place-held.result < length c.swap.new.self.items)
put c =
    let p = c.self.inside in
    let v = c.self.invariant in
    let order = v.in_order in
    let within = v.are_filled.within in
    let many = v.many in
    let rows = c.provide-place.new.rows in
    let place = c.provide-place.result in
    let next = c.next_place-held.result in
    let new = c.swap.new.self.items in
    let all : length rows ≡ p.rows.len = c.provide-place.ensures.long ∙ c.as_mut_slice.ensures.len in
    let same = ap length c.as_mut_slice.ensures.value in
    let back = written-back p.rows.items rows p.rows.len all in
    let long : length new ≡ length rows = ap length c.swap.ensures.items ∙ length-swap _ place next ∙ ap length back in (
      long,
      subst (λ xs. SwappedAt xs new place next) back c.swap.ensures.by_index,
      ap (λ w. length w.rows) (sym c.self.view_is) ∙ seen-length p.rows.items p.held (omega arith),
      all,
      omega arith,
      omega arith,
    )

pub invariant_of-self-2 : goal.invariant_of-self-2
invariant_of-self-2 c =
    let p = c.self.inside in
    let v = c.self.invariant in
    let order = v.in_order in
    let many = v.many in
    let q = put c in
    let filled : AreFilled p.channels p.sound.items c.provide-place.new.rows c.max-self-inside.result =
    subst₂ (λ xs n. AreFilled p.channels xs c.provide-place.new.rows n) c.as_slice.ensures.value (sym c.max-self-inside.ensures)
    c.provide-place.ensures.filled in
    record {
      is_shape = v.is_shape;
      whole = v.whole;
      many = omega (arith, q.0, q.3);
      in_order = omega (arith, q.0, q.3, q.5);
      are_filled = filled-swapped p.channels p.sound.items c.provide-place.new.rows c.swap.new.self.items c.max-self-inside.result c.provide-place.result
          c.next_place-held.result filled q.1 q.0 (omega (arith, q.4)) (omega (arith, q.4));
    }

-- where there is room, it stands behind the rows that are held
next-behind : (c : goal.After-self-3-1) → length c.args.self.now.rows < 8 * c.args.self.now.channels.channels → c.next_place-held.result ≡ c.self.inside.held
next-behind c room =
    let many = c.self.invariant.many in
    let shape = ap (λ w. w.channels.channels) c.self.view_is in
    let q = put c in
    c.next_place-held.ensures.behind (omega (arith, room, q.2))

pub returns-clause-is : goal.returns-clause-is
returns-clause-is c = λ other.
    let rows = c.provide-place.new.rows in
    let next = c.next_place-held.result in
    let q = put c in
    let row = first-of rows (omega (arith, q.0, q.5)) in
    seen-at c.swap.new.self.items (next + 1) next row other (omega (arith, q.5)) (omega arith) ∙ ap predicted (q.1.1 row)
    ∙ c.provide-place.ensures.is row

pub returns-clause-stay : goal.returns-clause-stay
returns-clause-stay c = λ room k other lt.
    let p = c.self.inside in
    let rows = c.provide-place.new.rows in
    let next = c.next_place-held.result in
    let q = put c in
    let here = next-behind c room in
    let row = first-of rows (omega (arith, q.0, q.5)) in
    seen-at c.swap.new.self.items (next + 1) k row other (omega (arith, q.5)) (omega (arith, lt, q.2, here))
    ∙ ap predicted (q.1.2 k row (omega (arith, lt, q.2, here)) (omega (arith, lt, q.2, here))
    ∙ c.provide-place.ensures.others k row (omega (arith, lt, q.2, here)) ∙ ap (λ xs. get_or xs k row) c.as_mut_slice.ensures.value)
    ∙ sym (seen-at p.rows.items p.held k row other q.4 (omega (arith, lt, q.2))) ∙ ap (λ w. get_or w.rows k other) c.self.view_is

pub returns-clause-there : goal.returns-clause-there
returns-clause-there c = λ room there.
    let p = c.self.inside in
    let q = put c in
    let here = next-behind c room in
    let asked : Predicted = record { channel = c.args.channel; filter = c.args.filter.now } in
    let row = first-of c.provide-place.new.rows (omega (arith, q.0, q.5)) in
    let k = there.0 in
    let lt = there.1 in
    let is : predicted (get_or c.as_mut_slice.result.now k row) ≡ asked =
    ap (λ xs. predicted (get_or xs k row)) c.as_mut_slice.ensures.value
    ∙ sym (seen-at p.rows.items p.held k row asked q.4 (omega (arith, lt, q.2))) ∙ ap (λ w. get_or w.rows k asked) c.self.view_is ∙ there.2 in
    absurd (c.provide-place.ensures.first k row (omega (arith, lt, q.2, here)) is)

-- rows that stay, as many as are in front of the next place, have the one that is asked for behind them
one-behind : (c : goal.After-self-3-1) (old : List Predicted) → length old ≡ c.next_place-held.result →
    let new = map predicted (take (c.next_place-held.result + 1) c.swap.new.self.items) in
    ((k : ℕ) (other : Predicted) → k < length old → get_or new k other ≡ get_or old k other) →
    new ≡ old ++ record { channel = c.args.channel; filter = c.args.filter.now } ∷ []
one-behind c old long stay =
    let new = map predicted (take (c.next_place-held.result + 1) c.swap.new.self.items) in
    let more = seen-length c.swap.new.self.items (c.next_place-held.result + 1) (omega (arith, (put c).5)) in
    one-more old new (record { channel = c.args.channel; filter = c.args.filter.now }) (omega (arith, more, long)) stay
    (λ other. ap (λ n. get_or new n other) long ∙ returns-clause-is c other)

pub returns-clause-made : goal.returns-clause-made
returns-clause-made c = λ room absent.
    one-behind c c.args.self.now.rows ((put c).2 ∙ sym (next-behind c room)) (λ k other lt. returns-clause-stay c room k other lt)

pub returns-clause-full : goal.returns-clause-full
returns-clause-full c = λ full.
    let many = c.self.invariant.many in
    let shape = ap (λ w. w.channels.channels) c.self.view_is in
    let none : c.len.result ≤ c.self.inside.held = omega (arith, full, (put c).2) in
    one-behind c [] (sym (c.next_place-held.ensures.first none)) (λ k other lt. absurd (omega (arith, lt)))
