-- The only chunk that passes a test is one of the chunks.
use Rattle.std.proofs.Common.{◌≡◌, ℕ, suc, ◌≤◌, List, [], ◌∷◌, Bool, true, false, refl, arith}
use Rattle.std.specs.Prelude.{filter}
use Rattle.std.specs.List.{Contains}
use Rattle.dsdiff_spec.specs.Chunks.{Head, body_end}
use Rattle.dsdiff_chunks.specs.Lawful.{TileTo}
use Rattle.dsdiff_chunks.proofs.TopLevel.{body_within}

pub passed_is_there : (p : Head → Bool) (heads : List Head) (h : Head) (more : List Head) → filter p heads ≡ h ∷ more → Contains heads h
passed_is_there p [] h more e = absurd cc
passed_is_there p (i ∷ rest) h more e = at (p i) refl (λ q. passed_is_there p rest h more q)
  where
    at : (b : Bool) → p i ≡ b → (filter p rest ≡ h ∷ more → Contains rest h) → Contains (i ∷ rest) h
    at true q there =
        let both : i ∷ filter p rest ≡ h ∷ more = rw q at e in
        let same : i ≡ h = cc in
        (0, omega arith, same)
    at false q there =
        let c : Contains rest h = there (rw q at e) in
        (suc c.0, omega (arith, c.1), c.2)

pub only_within : (p : Head → Bool) (end : ℕ) (heads : List Head) (h : Head) → filter p heads ≡ h ∷ [] → TileTo end 16 heads → body_end h ≤ end
only_within p end heads h only tiled = body_within end 16 heads h tiled (passed_is_there p heads h [] only)
