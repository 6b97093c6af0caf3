-- The filter and the entries are built, and only with the half probability there are early samples.
use Rattle.std.proofs.Common.{◌≡◌, ℕ, ◌≤◌, List, ℤ, length, ap, sym, subst₂, ◌∙◌, if◌then◌else◌}
use Rattle.byte_predictor.specs.Samples.{signed_sum}
use Rattle.byte_predictor.specs.Upward.{upward_sum}
use Rattle.dst_frames.specs.Tables.{IsEntry}
use Rattle.dst_frames.specs.Entries.{entry_for}
use Rattle.dst_frames.proofs.tables.ChannelTables.take.Goals as goal
use Rattle.dst_frames.proofs.tables.ChannelTables.take.Goals.{then-half_prob, else-half_prob}

pub returns : goal.returns
returns c =
    let filter = c.args.filter.now in
    let probs = c.args.probs.now in
    let P : List ℤ → List ℕ → Type 0 = λ coefs table. (samples : List ℕ) → 128 ≤ length samples →
    IsEntry (signed_sum coefs samples) table (entry_for c.fill_table.new.table (upward_sum coefs samples)) in
    let coefs_are = c.coefs-length.ensures.coefs in
    let early : c.if-half_prob.self ≡ (if c.args.half_prob then length filter else 0) =
    elim c.if-half_prob.branch [
      | then-half_prob w ↦ w.self-is ∙ ap length coefs_are ∙ sym (ap (λ b. if b then length filter else 0) w.if-half_prob.true)
      | else-half_prob w ↦ w.self-is ∙ sym (ap (λ b. if b then length filter else 0) w.if-half_prob.false)
    ] in
    record {
      filter_is = c.build.ensures;
      short = c.coefs-length.ensures.table.most;
      entries = subst₂ P c.build.ensures c.entries.ensures.entries c.fill_table.ensures;
      early = early;
    }
