-- The byte that is put stands at a place of its own.
use Rattle.std.proofs.Common.{◌≡◌, ℕ, ◌+◌, ◌*◌, ◌<◌, ◌≤◌, ◌⊎◌, inl, inr, length, get_or, set, sym, ap, ◌∙◌, arith, below_more}
use Rattle.std.proofs.lemmas.List.{get_or-set_other, get_or-set_same, length-set}
use Rattle.dst_dsf.specs.Rows.{place_in}
use Rattle.dst_dsf.proofs.RowPlaces.{octet_below, place_at, place_apart}
use Rattle.dsf_files.proofs.RowBytes.{place_of_byte}
use Rattle.dst_dsf.proofs.row.put_sound.Goals as goal
use Rattle.dst_dsf.proofs.row.put_sound.Goals.{then-channel-channels, else-channel-channels}

pub loop-byte-preserved : goal.loop-byte-preserved
loop-byte-preserved c =
    let i = c.loop-byte.byte-index in
    let n = c.args.channels in
    let q = c.args.place + i in
    let row = c.loop-byte.row in
    let at = 4096 * c.loop-byte.channel + c.loop-byte.octet in
    let b = get_or c.args.piece.now i 0 in
    let v = c.loop-byte.invariant in
    let here : place_in n q ≡ at = place_at n c.loop-byte.octet c.loop-byte.channel q v.next v.below in
    let parts = place_of_byte c.loop-byte.octet n c.loop-byte.channel q v.next v.below in
    let below : q < 4096 * n = omega (arith, c.requires.inside, c.loop-byte-test.true) in
    let octet : c.loop-byte.octet < 4096 = omega (arith, octet_below n q below, parts.1) in
    let within : at < length row = omega (arith, octet, v.below, v.long, c.requires.long) in
    record {
      next = elim c.if-channel-channels.branch [
        | then-channel-channels w ↦
            let more : c.if-channel-channels.octet * c.args.channels ≡ c.loop-byte.octet * c.args.channels + c.args.channels =
            ap (λ o. o * c.args.channels) w.octet-is ∙ omega arith in
            omega (arith, more, w.channel-is, w.if-channel-channels.true, c.loop-byte.invariant.next)
        | else-channel-channels w ↦
            let same : c.if-channel-channels.octet * c.args.channels ≡ c.loop-byte.octet * c.args.channels = ap (λ o. o * c.args.channels) w.octet-is in
            omega (arith, same, w.channel-is, c.loop-byte.invariant.next)
      ];
      below = elim c.if-channel-channels.branch [
        | then-channel-channels w ↦ omega (arith, w.channel-is, c.requires.channels)
        | else-channel-channels w ↦ omega (arith, w.channel-is, w.if-channel-channels.false, c.loop-byte.invariant.below)
      ];
      long = length-set row at b ∙ v.long;
      put = below_more _ _
          (λ k h.
          get_or-set_other row at (place_in n (c.args.place + k)) b 0
          (λ e. place_apart n (c.args.place + k) q (omega (arith, h, below)) below (λ same. omega (arith, same, h)) (e ∙ sym here))
          ∙ v.put k h)
          (ap (λ w. get_or (set row at b) w 0) here ∙ get_or-set_same row at b 0 within);
      others = λ p l far.
          get_or-set_other row at (place_in n p) b 0 (λ e. place_apart n p q l below (apart p c.args.place i far) (e ∙ sym here))
          ∙ v.others p l (before p c.args.place i far);
    }
  where
    apart : (p place i : ℕ) → (p < place) ⊎ (place + (i + 1) ≤ p) → p ≡ place + i → ⊥
    apart p place i (inl l) e = absurd (omega arith)
    apart p place i (inr l) e = absurd (omega arith)

    before : (p place i : ℕ) → (p < place) ⊎ (place + (i + 1) ≤ p) → (p < place) ⊎ (place + i ≤ p)
    before p place i (inl l) = inl l
    before p place i (inr l) = inr (omega arith)
