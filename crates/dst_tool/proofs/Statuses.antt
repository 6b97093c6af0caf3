-- The answer that a status tells.
use Rattle.std.proofs.Common.{◌≡◌, ℕ, ◌<◌, ◌≤◌, Result, Ok, Err, refl, subst, arith, zero, suc}
use Rattle.std.specs.declared.alloc.AllocError.{AllocError}
use Rattle.dst_spec.specs.declared.faults.FrameFault.{FrameFault}
use Rattle.dsdiff_spec.specs.declared.faults.FileFault.{FileFault}
use Rattle.dst_tool.specs.declared.answers.Numbers.{Numbers}
use Rattle.dst_tool.specs.declared.answers.Fault.{Fault}
use Rattle.dst_tool.specs.declared.answers.Fault.TheVariants.{Read, Write, Memory, Report, File, Frame}
use Rattle.dst_tool.specs.Answers.{status_of}

-- what a status tells of the answer
abbrev Tells : ℕ → Result Numbers Fault → Type 0
Tells zero r = (s : Numbers) × (r ≡ Ok s)
Tells (suc zero) r = ⊥
Tells (suc (suc zero)) r = r ≡ Err Read
Tells (suc (suc (suc zero))) r = r ≡ Err Write
Tells (suc (suc (suc (suc zero)))) r = (refused : AllocError) × (r ≡ Err (Memory refused))
Tells (suc (suc (suc (suc (suc zero))))) r = (fault : FileFault) × (r ≡ Err (File fault))
Tells (suc (suc (suc (suc (suc (suc zero)))))) r = (k : ℕ) × (fault : FrameFault) × (r ≡ Err (Frame k fault))
Tells n r = r ≡ Err Report

own_status_tells : (r : Result Numbers Fault) → Tells (status_of r) r
own_status_tells (Ok s) = (s, refl)
own_status_tells (Err Read) = refl
own_status_tells (Err Write) = refl
own_status_tells (Err (Memory refused)) = (refused, refl)
own_status_tells (Err (File fault)) = (fault, refl)
own_status_tells (Err (Frame k fault)) = (k, fault, refl)
own_status_tells (Err Report) = refl

status_tells : (r : Result Numbers Fault) (n : ℕ) → status_of r ≡ n → Tells n r
status_tells r n e = subst (λ m. Tells m r) e (own_status_tells r)

pub status_is_done : (r : Result Numbers Fault) → status_of r ≡ 0 → (s : Numbers) × (r ≡ Ok s)
status_is_done r e = status_tells r 0 e

pub status_is_read : (r : Result Numbers Fault) → status_of r ≡ 2 → r ≡ Err Read
status_is_read r e = status_tells r 2 e

pub status_is_write : (r : Result Numbers Fault) → status_of r ≡ 3 → r ≡ Err Write
status_is_write r e = status_tells r 3 e

pub status_is_memory : (r : Result Numbers Fault) → status_of r ≡ 4 → (refused : AllocError) × (r ≡ Err (Memory refused))
status_is_memory r e = status_tells r 4 e

pub status_is_file : (r : Result Numbers Fault) → status_of r ≡ 5 → (fault : FileFault) × (r ≡ Err (File fault))
status_is_file r e = status_tells r 5 e

pub status_is_frame : (r : Result Numbers Fault) → status_of r ≡ 6 → (k : ℕ) × (fault : FrameFault) × (r ≡ Err (Frame k fault))
status_is_frame r e = status_tells r 6 e

pub status_is_not_words : (r : Result Numbers Fault) → status_of r ≡ 1 → ⊥
status_is_not_words r e = status_tells r 1 e

pub status_is_at_most : (r : Result Numbers Fault) → status_of r ≤ 7
status_is_at_most (Ok s) = omega arith
status_is_at_most (Err Read) = omega arith
status_is_at_most (Err Write) = omega arith
status_is_at_most (Err (Memory refused)) = omega arith
status_is_at_most (Err (File fault)) = omega arith
status_is_at_most (Err (Frame k fault)) = omega arith
status_is_at_most (Err Report) = omega arith

pub status_is_below : (r : Result Numbers Fault) → (r ≡ Err Report → ⊥) → status_of r < 7
status_is_below r h =
    let most = status_is_at_most r in
    let other : status_of r ≡ 7 → ⊥ = λ e. h (status_tells r 7 e) in
    omega (arith, other)
