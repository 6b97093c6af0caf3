-- The pieces are the header.
use Rattle.std.proofs.Common.{◌≡◌, ℕ, ◌+◌, ◌*◌, ◌/◌, List, MatchResult, ap, subst, ◌∙◌, arith}
use Rattle.byteorder.specs.Endian.{little_bytes}
use Rattle.dst_streams.specs.Told.{IsCutShort, and_then}
use Rattle.dsf_files.specs.Forms.{dsf_seen}
use Rattle.dsf_files.proofs.Written.{header_in_pieces}
use Rattle.dsf_files.proofs.header.write_dsf_head.Goals as goal

pub returns-clause-written : goal.returns-clause-written
returns-clause-written g c =
    let times : c.multiple.result ≡ c.args.form.now.channels.octets / 4704 = omega (arith, c.multiple.ensures.multiple) in
    let pieces = header_in_pieces (dsf_seen c.args.form.now) _ _ _ _ _ _ _
    (c.to_le_bytes.ensures ∙ ap (λ n. little_bytes 8 (92 + n)) c.block_bytes-size.ensures.bytes)
    c.to_le_bytes-2.ensures
    (c.to_le_bytes-3.ensures ∙ ap (little_bytes 4) c.count-channels.ensures.count)
    (c.to_le_bytes-4.ensures ∙ ap (λ n. little_bytes 4 (2822400 * n)) times)
    (c.to_le_bytes-5.ensures ∙ ap (little_bytes 4) c.from.ensures)
    c.to_le_bytes-6.ensures
    (c.to_le_bytes-7.ensures ∙ ap (λ n. little_bytes 8 (12 + n)) c.block_bytes-size.ensures.bytes) in
    subst (λ (w : List ℕ). MatchResult c.append_all.result (λ _. g.K.Sink.written c.append_all.new.sink ≡ and_then (g.K.Sink.written c.args.sink.now) w)
    (λ _. IsCutShort (g.K.Sink.written c.args.sink.now) w (g.K.Sink.written c.append_all.new.sink))) pieces c.append_all.ensures.written
