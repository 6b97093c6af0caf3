-- Buffers that have the number of a shape have room for its frames.
use Rattle.std.proofs.Common.{◌≡◌, ℕ, ◌<◌, ◌≤◌, Bool, true, false, refl, ap, ap₂, ◌∙◌, arith}
use Rattle.std.specs.Prelude.{if◌then◌else◌}
use Rattle.std.proofs.lemmas.Bool.{and_parts, eqb-true, ltb-true, ltb-false, not-true}
use Rattle.dst_spec.specs.Sample.{Shape, IsShape, sound_bytes}
use Rattle.dst_commands.specs.Rooms.{shape_number, has_room, room_number}

pub record HasRoom (longest : Shape → ℕ) (size frame sound : ℕ) (f g : Shape) : Type 0 where
  pub same : f ≡ g
  pub short : size ≤ frame
  pub frame_long : frame ≡ longest g
  pub sound_long : sound ≡ sound_bytes g

-- one number, one shape
pub same_shape : (f g : Shape) → f.channels < 8 → g.channels < 8 → shape_number f ≡ shape_number g → f ≡ g
same_shape f g p q e = ap₂ {A = ℕ} {B = ℕ} {C = Shape} (λ c o. record { channels = c; octets = o }) (omega (arith, p, q, e)) (omega (arith, p, q, e))

pub room_for : (longest : Shape → ℕ) (size frame sound : ℕ) (f g : Shape) → g.channels < 8 → room_number longest size frame sound f ≡ shape_number g →
    HasRoom longest size frame sound f g
room_for longest size frame sound f g small e = go (has_room longest size frame sound f) refl e
  where
    go : (b : Bool) → has_room longest size frame sound f ≡ b → (if b then shape_number f else 0) ≡ shape_number g → HasRoom longest size frame sound f g
    go false h n = absurd (omega (arith, n))
    go true h n =
        let r = and_parts _ _ h in
        let q = and_parts _ _ r.0 in
        let p = and_parts _ _ q.0 in
        let same = same_shape f g (ltb-true f.channels 8 p.0) small n in
        record {
          same = same;
          short = ltb-false frame size (not-true _ p.1);
          frame_long = eqb-true frame (longest f) q.1 ∙ ap longest same;
          sound_long = eqb-true sound (sound_bytes f) r.1 ∙ ap sound_bytes same;
        }

-- a number that no buffers have
pub never_one : (longest : Shape → ℕ) (size frame sound : ℕ) (f : Shape) → room_number longest size frame sound f ≡ 1 → ⊥
never_one longest size frame sound f e = go (has_room longest size frame sound f) e
  where
    go : (b : Bool) → (if b then shape_number f else 0) ≡ 1 → ⊥
    go true n = omega (arith, n)
    go false n = omega (arith, n)

pub few_channels : (f : Shape) → IsShape f → f.channels < 8
few_channels f lawful = omega (arith, lawful.most)
