-- A feed that has a job's number has the form, and the job room for its pieces.
use Rattle.std.proofs.Common.{◌≡◌, ℕ, ◌≤◌, Bool, true, false, Option, Some, None, refl, ap, ◌∙◌}
use Rattle.std.specs.Prelude.{◌&&◌, not, if◌then◌else◌}
use Rattle.std.proofs.lemmas.Bool.{and_parts, and_from, le-ltb, lt-ltb, ltb-true, ltb-false, not-true}
use Rattle.dst_spec.specs.Sample.{Shape, IsShape}
use Rattle.dsdiff_spec.specs.Bytes.{◌below◌, ◌above◌}
use Rattle.dst_commands.specs.Rooms.{shape_number, room_number}
use Rattle.dst_commands.proofs.Rooms.{HasRoom, room_for, never_one, few_channels}
use Rattle.dst_write.specs.Jobs.{longest}
use Rattle.dst_write.specs.Feeding.{feed_shape}

pub record CanFill (known : Option ℕ) (end : ℕ) (size frame sound : ℕ) (f g : Shape) : Type 0 where
  pub bytes : ℕ
  pub known_is : known ≡ Some bytes
  pub inside : end ≤ bytes
  pub room : HasRoom longest size frame sound f g

pub can_fill : (known : Option ℕ) (end size frame sound : ℕ) (f g : Shape) → room_number longest size frame sound f ≡ feed_shape known end g →
    CanFill known end size frame sound f g
can_fill None end size frame sound f g e = absurd (never_one longest size frame sound f e)
can_fill (Some bytes) end size frame sound f g e = go (g.channels below 8 && not (end above bytes)) refl e
  where
    go : (b : Bool) → (g.channels below 8 && not (end above bytes)) ≡ b → room_number longest size frame sound f ≡ (if b then shape_number g else 1) →
        CanFill (Some bytes) end size frame sound f g
    go false h n = absurd (never_one longest size frame sound f n)
    go true h n =
        let p = and_parts _ _ h in
        record {
          bytes = bytes;
          known_is = refl;
          inside = ltb-false bytes end (not-true _ p.1);
          room = room_for longest size frame sound f g (ltb-true g.channels 8 p.0) n;
        }

-- the shape of a feed of a source that has the form
pub ready_shape : (known : Option ℕ) (end : ℕ) (f : Shape) → (n : ℕ) × (known ≡ Some n) × (end ≤ n) → IsShape f → feed_shape known end f ≡ shape_number f
ready_shape known end f size lawful =
    let both = and_from _ _ (lt-ltb f.channels 8 (few_channels f lawful)) (ap not (le-ltb size.0 end size.2)) in
    ap (λ n. feed_shape n end f) size.1 ∙ ap (λ b. if b then shape_number f else 1) both
