-- A filter's size is at most 32,768, so it fits sixteen bits; no sum upward is above it.
use Rattle.std.proofs.Common.{◌≤◌, ◌≡◌, ℕ, ℤ, List, length, subst, ap, ◌∙◌, arith}
use Rattle.dst_spec.specs.Table.{filter_kind, IsTable}
use Rattle.byte_predictor.specs.Upward.{size_sum}
use Rattle.byte_predictor.proofs.Upward.{signed_sum-is, upward_sum-size, size_sum-below}
use Rattle.byte_predictor.proofs.known.KnownFilter.size.Goals as goal

-- the size, which is a number of sixteen bits
in-range : (size : ℕ) (coefs filter : List ℤ) → coefs ≡ filter → size ≡ size_sum coefs → IsTable filter_kind coefs →
    (size ≡ size_sum filter) × (size_sum filter ≤ 32768)
in-range size coefs filter same is table =
    let of_table : IsTable filter_kind filter = subst (IsTable filter_kind) same table in
    let most : length filter ≤ 128 = of_table.most in
    (is ∙ ap size_sum same, omega (arith, size_sum-below filter of_table.each))

pub overflow_cast-result : goal.overflow_cast-result
overflow_cast-result c =
    let s = in-range _ _ _ c.self.view_is c.self.invariant.sizes c.self.invariant.table in
    omega (arith, s.0, s.1)

pub returns-clause-size : goal.returns-clause-size
returns-clause-size c =
    let s = in-range _ _ _ c.self.view_is c.self.invariant.sizes c.self.invariant.table in
    omega (arith, s.0, s.1)

pub returns-clause-most : goal.returns-clause-most
returns-clause-most c =
    let s = in-range _ _ _ c.self.view_is c.self.invariant.sizes c.self.invariant.table in
    omega (arith, s.0, s.1)

pub returns-clause-upward : goal.returns-clause-upward
returns-clause-upward c = λ samples.
    let s = in-range _ _ _ c.self.view_is c.self.invariant.sizes c.self.invariant.table in
    omega (arith, s.0, s.1, upward_sum-size c.args.self.now samples)

pub returns-clause-signed : goal.returns-clause-signed
returns-clause-signed c = λ samples h.
    let table : IsTable filter_kind c.args.self.now = subst (IsTable filter_kind) c.self.view_is c.self.invariant.table in
    let most : length c.args.self.now ≤ 128 = table.most in
    signed_sum-is c.args.self.now samples (omega arith)
