-- Cells of half bytes: what is added to them, and what is read from them.
use Rattle.std.proofs.Common.{◌≡◌, ◌≢◌, ℕ, ◌+◌, ◌-◌, ◌*◌, ◌/◌, ◌%◌, ◌<◌, ◌≤◌, ◌==◌, cond, ℤ, pos, ◌+ℤ◌, nat_abs, true, false}
use Rattle.std.proofs.Common.{List, length, get_or, set, get_or-set_other, get_or-set_same, inl, inr, refl, ap, sym, ◌∙◌, arith}
use Rattle.std.proofs.lemmas.Int.{ints}
use Rattle.std.proofs.lemmas.Bool.{cases_lt}
use Rattle.std.proofs.lemmas.Bool.Decides.{nat_tests}
use Rattle.filter_refiner.specs.Cells.{half, taken, in_cell}

pub same-test : (a b : ℕ) → a ≡ b → (a == b) ≡ true
same-test a b h = grind (arith, nat_tests)

pub other-test : (a b : ℕ) → a ≢ b → (a == b) ≡ false
other-test a b h = grind (arith, nat_tests)

pub other-cell : (cells : List (List ℤ)) (at cell lane : ℕ) (new : List ℤ) → cell ≢ at → in_cell (set cells at new) cell lane ≡ in_cell cells cell lane
other-cell cells at cell lane new ne = rw get_or-set_other refl

pub same-cell : (cells : List (List ℤ)) (at lane : ℕ) (new : List ℤ) → at < length cells → in_cell (set cells at new) at lane ≡ get_or new lane (pos 0)
same-cell cells at lane new inside = rw get_or-set_same refl

-- the cell of a half byte's value takes the samples, and its other cells nothing
pub after-add : (cells : List (List ℤ)) (bytes : List ℕ) (m k h cell lane : ℕ) (new samples : List ℤ) → h < 16 → h ≡ half bytes m k →
    16 * k + h < length cells →
    cell < 16 * (k + 1) → 16 * k ≤ cell → ((lane : ℕ) → get_or new lane (pos 0) ≡ in_cell cells (16 * k + h) lane +ℤ get_or samples lane (pos 0)) →
    in_cell (set cells (16 * k + h) new) cell lane ≡ in_cell cells cell lane +ℤ taken bytes m cell (get_or samples lane (pos 0))
after-add cells bytes m k h cell lane new samples small is inside most least added =
    let byte : cell / 16 ≡ k = omega arith in
    let rest : cell % 16 ≡ cell - 16 * k = omega arith in
    let e = get_or samples lane (pos 0) in
    let tested : taken bytes m cell e ≡ cond (h == cell % 16) e (pos 0) =
    ap (λ j. cond (half bytes m j == cell % 16) e (pos 0)) byte ∙ ap (λ x. cond (x == cell % 16) e (pos 0)) (sym is) in
    elim (cases_lt cell (16 * k + h)) [
      | inl less ↦
          let ne : cell ≢ 16 * k + h = omega arith in
          let no : h ≢ cell % 16 = omega arith in
          let nothing : taken bytes m cell e ≡ pos 0 = tested ∙ ap (λ b. cond b e (pos 0)) (other-test h (cell % 16) no) in
          other-cell cells (16 * k + h) cell lane new ne ∙ omega (arith, ints)
      | inr more ↦ elim (cases_lt (16 * k + h) cell) [
        | inl past ↦
            let ne : cell ≢ 16 * k + h = omega arith in
            let no : h ≢ cell % 16 = omega arith in
            let nothing : taken bytes m cell e ≡ pos 0 = tested ∙ ap (λ b. cond b e (pos 0)) (other-test h (cell % 16) no) in
            other-cell cells (16 * k + h) cell lane new ne ∙ omega (arith, ints)
        | inr at ↦
            let here : cell ≡ 16 * k + h = omega arith in
            let yes : h ≡ cell % 16 = omega arith in
            let all : taken bytes m cell e ≡ e = tested ∙ ap (λ b. cond b e (pos 0)) (same-test h (cell % 16) yes) in
            ap (λ q. in_cell (set cells (16 * k + h) new) q lane) here ∙ same-cell cells (16 * k + h) lane new inside ∙ added lane
            ∙ ap (λ q. in_cell cells q lane +ℤ e) (sym here) ∙ ap (λ z. in_cell cells cell lane +ℤ z) (sym all)
      ]
    ]

pub taken-most : (bytes : List ℕ) (m cell n : ℕ) (e : ℤ) → nat_abs e ≤ n → nat_abs (taken bytes m cell e) ≤ n
taken-most bytes m cell n e h = elim (half bytes m (cell / 16) == cell % 16) as (λ b. nat_abs (cond b e (pos 0)) ≤ n) [ true ↦ h | false ↦ omega arith ]
