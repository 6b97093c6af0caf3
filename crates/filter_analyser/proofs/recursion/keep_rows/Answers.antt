-- There is one row more, with as many values as rows before it; where the run stops, later steps leave it as it is.
use Rattle.std.proofs.Common.{◌≡◌, ℕ, ◌+◌, ◌-◌, ◌^◌, ◌<◌, ◌≤◌, min, ℤ, pos, nat_abs, suc, to_z, of_z, List, [], ◌∷◌, ◌++◌, length, map, take, get_or, refl, ap}
use Rattle.std.proofs.Common.{sym, ◌∙◌, subst, arith}
use mir.Syntax.{w64}
use Rattle.std.proofs.lemmas.Int.{ints}
use Rattle.std.proofs.lemmas.List.FromFn.{length-map-range_with_len, map-range_with_len_more}
use Rattle.std.specs.List.{range_with_len}
use Rattle.level_spec.specs.Recursion.{State}
use Rattle.level_spec.specs.Rows.{first_row, row_after, next_row, rows, row_solution}
use Rattle.level_spec.proofs.RowSteps.{row_after-stop, IsRow-after}
use Rattle.filter_refiner.proofs.Numbers.{each-most}
use Rattle.filter_analyser.specs.Run.{padded}
use Rattle.filter_analyser.proofs.recursion.keep_rows.Goals as goal
use Rattle.filter_analyser.proofs.recursion.keep_rows.Goals.{else-loop-step-test, then-loop-step-test+then-not-row_step}

pub loop-step-init : goal.loop-step-init
unfolding row_after first_row
loop-step-init c = record { rows = c.new-rows.ensures; run = c.begin_with_ridge-run.ensures; long = refl }

pub push-requires-clause-long : goal.push-requires-clause-long
push-requires-clause-long c =
    let n = c.loop-step._step in
    let seen : length (take c.run.inside.steps c.run.inside.values) ≡ n = ap (λ s. length s.values) (c.run.view_is ∙ c.loop-step.invariant.run)
    ∙ c.loop-step.invariant.long in
    seen ∙ sym (ap length c.loop-step.invariant.rows ∙ length-map-range_with_len (row_after c.args.lags.now) 0 n)

pub push-requires-clause-room : goal.push-requires-clause-room
push-requires-clause-room c =
    let n = c.loop-step._step in
    omega (arith, ap length c.loop-step.invariant.rows ∙ length-map-range_with_len (row_after c.args.lags.now) 0 n)

pub push-requires-clause-small : goal.push-requires-clause-small
push-requires-clause-small c = λ j.
    let n = c.loop-step._step in
    let row = IsRow-after c.args.lags.now n c.requires.least in
    let is : take c.run.inside.steps c.run.inside.values ≡ (row_after c.args.lags.now n).values =
    ap (λ s. s.values) (c.run.view_is ∙ c.loop-step.invariant.run) in
    subst (λ v. nat_abs (get_or v j (pos 0)) ≤ 2 ^ 32) (sym is) (each-most (row_after c.args.lags.now n).values (2 ^ 32) j row.values)

-- the rows with one more
pub more : (lags : List ℤ) (n : ℕ) (states : List State) (error : ℤ) (s : State) → states ≡ map (row_after lags) (range_with_len 0 n) → s ≡ row_after lags n
    → error ≡ s.error →
    states ++ record { error = error; values = s.values } ∷ [] ≡ map (row_after lags) (range_with_len 0 (n + 1))
more lags n states error s a b e =
    ap (λ r. r ++ record { error = error; values = s.values } ∷ []) a
    ∙ ap (λ z. map (row_after lags) (range_with_len 0 n) ++ record { error = z; values = s.values } ∷ []) e
    ∙ ap (λ t. map (row_after lags) (range_with_len 0 n) ++ t ∷ []) b
    ∙ sym (map-range_with_len_more (row_after lags) 0 n n (omega arith))

one_more_row : (lags : List ℤ) (n : ℕ) → next_row lags (row_after lags n) ≡ row_after lags (n + 1)
unfolding row_after
one_more_row lags n = let e : n + 1 ≡ suc n = omega arith in ap (row_after lags) (sym e)

pub loop-step-preserved : goal.loop-step-preserved
loop-step-preserved c =
    let lags = c.args.lags.now in
    let n = c.loop-step._step in
    let inner : State = record { error = c.run.inside.error; values = take c.run.inside.steps c.run.inside.values } in
    let is : inner ≡ row_after lags n = c.run.view_is ∙ c.loop-step.invariant.run in
    let held : to_z w64 (of_z w64 c.run.inside.error) ≡ c.run.inside.error = omega (arith, ints, c.run.invariant.1.most, c.run.invariant.1.positive) in
    let next : c.row_step.new.self ≡ row_after lags (n + 1) = c.row_step.ensures.state ∙ ap (next_row lags) c.loop-step.invariant.run ∙ one_more_row lags n in
    record {
      rows = c.push.ensures ∙ more lags n c.loop-step.rows (to_z w64 (of_z w64 c.run.inside.error)) inner c.loop-step.invariant.rows is held;
      run = next;
      long = sym (ap (λ s. length s.values) next) ∙ c.row_step.ensures.made c.if-not-row_step.false
          ∙ ap (λ s. length s.values + 1) c.loop-step.invariant.run ∙ ap (λ k. k + 1) c.loop-step.invariant.long;
    }

-- all rows, and the last values
finish : (lags : List ℤ) (n : ℕ) (states : List State) (s : State) → states ≡ map (row_after lags) (range_with_len 0 n) → s ≡ row_after lags 128 →
    n ≡ min 128 (length (row_after lags 128).values + 1) → (states ≡ rows lags 128) × (padded s.values ≡ row_solution lags 128)
unfolding rows row_solution
finish lags n states s a b e = (a ∙ ap (λ k. map (row_after lags) (range_with_len 0 k)) e, ap (λ t. padded t.values) b)

pub returns : goal.returns
returns c =
    let lags = c.args.lags.now in
    elim c.loop-step-test.branch [
      | else-loop-step-test w ↦
          let all : c.loop-step._step ≡ 128 = omega (arith, w.loop-step-test.false) in
          let end : c.loop-step.run ≡ row_after lags 128 = c.loop-step.invariant.run ∙ ap (row_after lags) all in
          let long : length (row_after lags 128).values ≡ 128 = ap (λ n. length (row_after lags n).values) (sym all) ∙ c.loop-step.invariant.long ∙ all in
          let done = finish lags c.loop-step._step c.loop-step-test.rows c.loop-step-test.run (w.rows-is ∙ c.loop-step.invariant.rows) (w.run-is ∙ end)
          (omega arith) in
          record { rows = done.0; solution = c.padded.ensures ∙ done.1 }
      | then-loop-step-test+then-not-row_step w ↦
          let n = c.loop-step._step in
          let inner : State = record { error = w.run.inside.error; values = take w.run.inside.steps w.run.inside.values } in
          let is : inner ≡ row_after lags n = w.run.view_is ∙ c.loop-step.invariant.run in
          let held : to_z w64 (of_z w64 w.run.inside.error) ≡ w.run.inside.error = omega (arith, ints, w.run.invariant.1.most, w.run.invariant.1.positive) in
          let stays : w.row_step.new.self ≡ c.loop-step.run = w.row_step.ensures.stop w.if-not-row_step.true in
          let stop : next_row lags (row_after lags n) ≡ row_after lags n = ap (next_row lags) (sym c.loop-step.invariant.run) ∙ sym w.row_step.ensures.state
          ∙ stays
          ∙ c.loop-step.invariant.run in
          let less : n < 128 = omega (arith, w.loop-step-test.true) in
          let whole : n + (128 - n) ≡ 128 = omega arith in
          let end : row_after lags 128 ≡ row_after lags n = ap (row_after lags) (sym whole) ∙ row_after-stop lags n (128 - n) stop in
          let long : length (row_after lags 128).values ≡ n = ap (λ s. length s.values) end ∙ c.loop-step.invariant.long in
          let done = finish lags (n + 1) c.loop-step-test.rows c.loop-step-test.run
          (w.rows-is ∙ w.push.ensures ∙ more lags n c.loop-step.rows (to_z w64 (of_z w64 w.run.inside.error)) inner c.loop-step.invariant.rows is held)
          (w.run-is ∙ stays ∙ c.loop-step.invariant.run ∙ sym end) (omega arith) in
          record { rows = done.0; solution = c.padded.ensures ∙ done.1 }
    ]
