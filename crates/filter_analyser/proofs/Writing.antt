-- Lists stay small where small numbers are written into them.
use Rattle.std.proofs.Common.{ℕ, ◌<◌, ◌≤◌, ℤ, pos, nat_abs, List, length, get_or, set, get_or-set_other, get_or-set_same, inl, inr, sym, subst}
use Rattle.std.proofs.lemmas.Bool.{cases_eq}

pub set-most : (xs : List ℤ) (i m : ℕ) (v : ℤ) → i < length xs → ((k : ℕ) → nat_abs (get_or xs k (pos 0)) ≤ m) → nat_abs v ≤ m → (k : ℕ)
    → nat_abs (get_or (set xs i v) k (pos 0)) ≤ m
set-most xs i m v inside small new k = elim (cases_eq k i) [
  | inl e ↦
      let stored : nat_abs (get_or (set xs i v) i (pos 0)) ≤ m = rw get_or-set_same new in
      subst (λ q. nat_abs (get_or (set xs i v) q (pos 0)) ≤ m) (sym e) stored
  | inr ne ↦ rw get_or-set_other (small k)
]
