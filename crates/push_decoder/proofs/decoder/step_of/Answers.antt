-- A frame within a piece is what was taken of it from a place on, and a head tells the same channels and rate.
use Rattle.std.proofs.Common.{ℕ, ◌*◌, ◌≡◌, ◌+◌, ◌-◌, take, drop, Some, ◌∙◌, ap, sym, arith}
use Rattle.std.proofs.lemmas.List.{drop-take}
use Rattle.push_decoder.specs.Events.{frame_came}
use Rattle.push_decoder.specs.Told.{TellsEvent}
use Rattle.push_decoder.specs.declared.reading.Answer.TheVariants.{Within, Head}
use Rattle.dst_spec.specs.Sample.{Shape}
use Rattle.dsdiff_spec.specs.Form.{shape_of}
use Rattle.push_decoder.proofs.decoder.step_of.Goals as goal

pub returns-in-Within : goal.returns-in-Within
returns-in-Within c answered event tells =
    let here : TellsEvent (Within c.in-Within.number c.in-Within.from) c.args.piece.now c.args.count c.args.frame.now answered event =
    rw c.in-Within.is at tells in
    let sum : c.args.count ≡ c.in-Within.from + (c.args.count - c.in-Within.from) = omega (arith, here.2) in (
      here.0
          ∙ ap (λ n. Some (frame_came (drop c.in-Within.from (take n c.args.piece.now)))) sum
          ∙ ap (λ b. Some (frame_came b)) (drop-take c.in-Within.from (c.args.count - c.in-Within.from) c.args.piece.now),
      here.1,
    )

same_shape : (s : Shape) (channels multiple : ℕ) → channels ≡ s.channels → s.octets ≡ 4704 * multiple → shape_of channels multiple ≡ s
same_shape s channels multiple p q =
    ap (λ n. shape_of n multiple) p ∙ ap (λ n. record { channels = s.channels; octets = n }) (sym q)

pub returns-in-Head : goal.returns-in-Head
returns-in-Head c answered event tells =
    let here : TellsEvent (Head c.in-Head.channels c.in-Head.frames) c.args.piece.now c.args.count c.args.frame.now answered event =
    rw c.in-Head.is at tells in
    (here.0, here.1, same_shape c.in-Head.channels _ _ c.count.ensures.count c.multiple.ensures.multiple ∙ here.2, here.3)
