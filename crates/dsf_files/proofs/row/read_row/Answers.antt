-- What is read is a row in its order, and at the end of the sound a part of a byte is cleared.
use Rattle.std.proofs.Common.{◌-◌, ◌/◌, ◌%◌, ap, ap₂, sym, subst, ◌∙◌, inl, inr, arith}
use Rattle.dsdiff_spec.specs.Bytes.{bytes_at}
use Rattle.dsdiff_spec.specs.Dsf.{Dsf}
use Rattle.dsf_files.specs.Rows.{IsCleared}
use Rattle.dsf_files.proofs.RowBytes.{IsOrdered, row_within, row_is_whole, row_is_cleared}
use Rattle.dsf_files.proofs.row.read_row.Goals as goal
use Rattle.dsf_files.proofs.row.read_row.Goals.{else-past-ne0-via-then-past-ne0+else-form-number, else-past-ne0-via-else-past-ne0}

pub read_range-requires-clause-inside : goal.read_range-requires-clause-inside
read_range-requires-clause-inside g c =
    let there = row_within _ c.args.form.now c.args.number c.requires.blocks c.requires.number in
    (there.0, there.1, omega (arith, there.2, c.requires.long, c.row_place-place.ensures.place))

pub returns-then-form-number-clause-row : goal.returns-then-form-number-clause-row
returns-then-form-number-clause-row g c f told says =
    let n = c.args.form.now.channels.channels in
    let ordered : IsOrdered f c.read_range.new.out c.order_bytes.new.bytes c.args.number n c.args.form.now.bits = record {
      bytes = g.met.S.Source.told_are_bytes _ f told;
      lawful = c.requires.order;
      order_is = ap (λ (d : Dsf). d.bits) (sym says);
      channels = ap (λ (d : Dsf). d.channels) (sym says);
      read = c.in-Ok.ensures.read f told ∙ ap₂ (bytes_at f) c.row_place-place.ensures.place c.requires.long;
      ordered = λ k l. c.order_bytes.ensures.ordered k (omega (arith, c.requires.long, c.read_range.auto.out));
    } in
    row_is_cleared f c.read_range.new.out c.order_bytes.new.bytes c.clear_past.new.row c.args.number n c.args.form.now.bits
    (c.args.form.now.samples % 32768 / 8) (c.args.form.now.samples % 8) ordered c.if-past-ne0.true
    (ap (λ (d : Dsf). d.samples % 8) (sym says))
    (ap (λ (d : Dsf). d.samples / 32768) says ∙ c.if-form-number.true)
    (ap (λ (d : Dsf). d.samples % 32768 / 8) (sym says))
    (subst (λ m. IsCleared c.order_bytes.new.bytes c.clear_past.new.row m (c.args.form.now.samples % 32768 / 8) (8 - c.args.form.now.samples % 8))
    c.count-channels.ensures.count c.clear_past.ensures.cleared)

pub returns-else-past-ne0-clause-row : goal.returns-else-past-ne0-clause-row
returns-else-past-ne0-clause-row g c f told says =
    let n = c.args.form.now.channels.channels in
    let ordered : IsOrdered f c.read_range.new.out c.order_bytes.new.bytes c.args.number n c.args.form.now.bits = record {
      bytes = g.met.S.Source.told_are_bytes _ f told;
      lawful = c.requires.order;
      order_is = ap (λ (d : Dsf). d.bits) (sym says);
      channels = ap (λ (d : Dsf). d.channels) (sym says);
      read = c.in-Ok.ensures.read f told ∙ ap₂ (bytes_at f) c.row_place-place.ensures.place c.requires.long;
      ordered = λ k l. c.order_bytes.ensures.ordered k (omega (arith, c.requires.long, c.read_range.auto.out));
    } in
    row_is_whole f c.read_range.new.out c.order_bytes.new.bytes c.args.number n c.args.form.now.bits ordered (elim c.else-past-ne0.branch [
      | else-past-ne0-via-then-past-ne0+else-form-number w ↦ inr (λ e. w.if-form-number.false (ap (λ (d : Dsf). d.samples / 32768) (sym says) ∙ e))
      | else-past-ne0-via-else-past-ne0 w ↦ inl (ap (λ (d : Dsf). d.samples % 8) says ∙ w.if-past-ne0.false)
    ])
