-- A table is cut behind the last place where its entries change.
use Rattle.std.proofs.Common.{◌≡◌, ◌+◌, ◌-◌, ◌≢◌, ◌≤◌, ℕ, max, not, cond, ◌==◌, Bool, true, false, pos, List, length, map, get_or, take, length-take}
use Rattle.std.proofs.Common.{ap, sym, ◌∙◌, subst, arith}
use Rattle.std.proofs.lemmas.Bool.Decides.{nat_tests}
use Rattle.dst_spec.specs.Table.{prob_kind, IsTable}
use Rattle.level_spec.specs.Scale.{last_place}
use Rattle.level_spec.specs.Size.{shortened}
use Rattle.level_spec.proofs.Tables.{last_place-most}
use Rattle.level_spec.proofs.Refined.{IsTable-shortened}
use Rattle.filter_refiner.proofs.Lengths.{last-next}
use Rattle.filter_refiner.proofs.sizes.shorten.Goals as goal
use Rattle.filter_refiner.proofs.sizes.shorten.Goals.{then-entries-place, else-entries-place}

abbrev changes : List ℕ → ℕ → Bool
changes entries p = not (get_or entries p 0 == get_or entries (p - 1) 0)

at-two : (test : ℕ → Bool) → max 2 (last_place test 2) ≡ 2
at-two test = let most = last_place-most test 2 in omega arith

pub loop-place-init : goal.loop-place-init
loop-place-init c = sym (at-two (changes c.entries-entries.result.now))

differ : (a b : ℕ) → a ≢ b → not (a == b) ≡ true
differ a b h = grind (arith, nat_tests)

equal : (a b : ℕ) → a ≡ b → not (a == b) ≡ false
equal a b h = grind (arith, nat_tests)

pub loop-place-preserved : goal.loop-place-preserved
loop-place-preserved c =
    let entries = c.entries-entries.result.now in
    let place = c.loop-place.place in
    let next = last-next (changes entries) place in
    let least = c.loop-place.auto.place in
    elim c.if-entries-place.branch [
      | then-entries-place w ↦
          let is : last_place (changes entries) (place + 1) ≡ place + 1 =
          next ∙ ap (λ b. cond b (place + 1) (last_place (changes entries) place)) (differ (get_or entries place 0) (get_or entries (place - 1) 0)
          w.if-entries-place.true) in
          w.length-is ∙ omega arith
      | else-entries-place w ↦
          let is : last_place (changes entries) (place + 1) ≡ last_place (changes entries) place =
          next ∙ ap (λ b. cond b (place + 1) (last_place (changes entries) place)) (equal (get_or entries place 0) (get_or entries (place - 1) 0)
          w.if-entries-place.false) in
          w.length-is ∙ c.loop-place.invariant ∙ ap (max 2) (sym is)
    ]

-- as many entries as the shortened table has
front : (c : goal.After-loop-place) → (c.loop-place.length ≤ length c.entries-entries.result.now)
    × (take c.loop-place.length c.entries-entries.result.now ≡ shortened c.args.table.now)
unfolding shortened
front c =
    let entries = c.entries-entries.result.now in
    let same = c.entries-entries.ensures.entries in
    let long = ap length same in
    let within = c.loop-place.auto.place-end (omega (arith, long, c.requires)) in
    let all : c.loop-place.place ≡ length entries = omega arith in
    let most = last_place-most (changes entries) c.loop-place.place in (
      omega (arith, long, c.requires, c.loop-place.invariant),
      ap (λ k. take k entries) (c.loop-place.invariant ∙ ap (λ p. max 2 (last_place (changes entries) p)) all)
          ∙ ap (λ t. take (max 2 (last_place (changes t) (length t))) t) same,
    )

pub slice_bounds-new-end : goal.slice_bounds-new-end
slice_bounds-new-end c =
    omega (arith, (front c).0, length-take c.loop-place.length c.entries-entries.result.now)

pub unreachable-requires : goal.unreachable-requires
unreachable-requires c =
    c.in-None.ensures.none (subst (λ t. IsTable prob_kind (map pos t)) (sym (front c.before.before).1) (IsTable-shortened c.args.table.now c.requires
    c.entries-entries.ensures.table))

pub returns : goal.returns
returns c =
    c.in-Some.ensures.entries ∙ (front c.before.before).1
