-- What is read is the chunk that the definitions read.
use Rattle.std.proofs.Common.{◌+◌, ◌%◌, ℕ, ap, sym, ◌∙◌}
use Rattle.chunk_view.specs.Seen.{pad_bytes}
use Rattle.chunk_view.proofs.Reading.{size_here, is_cut_by_size, is_cut_by_pad, id_here, body_here, no_pad_here, pad_here, same_parts}
use Rattle.chunk_view.proofs.view.chunk_at.Goals as goal
use Rattle.chunk_view.proofs.view.chunk_at.Goals.{in-0-default, in_default-Some}

pub returns-then-size-here-clause-passes : goal.returns-then-size-here-clause-passes
returns-then-size-here-clause-passes c =
    let size = size_here c.args.bytes.now c.args.place c.read_u64-size.result c.read_u64-size.ensures in
    is_cut_by_size c.args.bytes.now c.args.place c.read_u64-size.result c.if-size-here.true c.requires size

pub returns-in_default-None-clause-passes : goal.returns-in_default-None-clause-passes
returns-in_default-None-clause-passes c =
    let size = size_here c.args.bytes.now c.args.place c.read_u64-size.result c.read_u64-size.ensures in
    is_cut_by_pad c.args.bytes.now c.args.place c.read_u64-size.result c.split_at.result.1.now c.split_at.ensures.back
    c.in_default-None.ensures.item.3 (λ even. c.in_default-None.is-0.1 (ap (λ (n : ℕ). n % 2) c.split_at.ensures.front_len ∙ even)) size

pub returns-clause-next : goal.returns-clause-next
returns-clause-next c =
    let size = size_here c.args.bytes.now c.args.place c.read_u64-size.result c.read_u64-size.ensures in
    ap (λ n. c.args.place + 12 + n + n % 2) (c.split_at.ensures.front_len ∙ size)

pub returns-clause-view : goal.returns-clause-view
returns-clause-view c =
    let size = size_here c.args.bytes.now c.args.place c.read_u64-size.result c.read_u64-size.ensures in
    let id = id_here c.args.bytes.now c.args.place c.if-here-lt12.false in
    let body = body_here c.args.bytes.now c.args.place c.read_u64-size.result c.split_at.result.0.now c.split_at.ensures.front size in
    same_parts c.args.place _ _ _ _ _ _ id body
    (elim c.match-body-rem2.branch [
      | in-0-default w ↦
          ap pad_bytes w.pad-is
          ∙ no_pad_here c.args.bytes.now c.args.place c.read_u64-size.result
          (ap (λ (n : ℕ). n % 2) (sym c.split_at.ensures.front_len) ∙ w.in-0-default.is-0) size
      | in_default-Some w ↦
          ap pad_bytes w.pad-is
          ∙ pad_here c.args.bytes.now c.args.place c.read_u64-size.result c.split_at.result.1.now w.in_default-Some.byte.now c.split_at.ensures.back
          (λ even. w.in_default-Some.is-0.1 (ap (λ (n : ℕ). n % 2) c.split_at.ensures.front_len ∙ even)) size
          w.in_default-Some.ensures.item.3.0 (w.in_default-Some.ensures.item.1)
    ])
