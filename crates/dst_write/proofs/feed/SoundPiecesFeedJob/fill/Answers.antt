-- The source has the form, and the job has room for the next piece.
use Rattle.std.proofs.Common.{◌≡◌, length, refl, ap, ◌∙◌, arith}
use Rattle.std.proofs.lemmas.List.{with_items_is}
use Rattle.dst_spec.specs.Sample.{sound_bytes}
use Rattle.dst_write.proofs.Feeding.{piece_once}
use Rattle.dst_write.proofs.Shapes.{CanFill, can_fill}
use Rattle.dst_write.proofs.feed.SoundPiecesFeedJob.fill.Given.{Over}
use Rattle.dst_write.proofs.feed.SoundPiecesFeedJob.fill.Goals as goal
use Rattle.dst_write.proofs.feed.SoundPiecesFeedJob.fill.Goals.{After-deref_mut}

-- the source has the form, and the job room for a piece
able : (g : Over) (c : After-deref_mut g) → CanFill (g.S.Source.known c.args.self.now.source.now) c.args.self.now.form.now.end c.args.job.now.size
    (length c.args.job.now.frame.items) (length c.args.job.now.sound.items) c.args.job.now.channels c.args.self.now.form.now.channels
able g c = can_fill _ _ _ _ _ _ _ c.requires

-- a piece fills the job's buffer
piece_long : (g : Over) (c : After-deref_mut g) → length c.deref_mut.result.now ≡ sound_bytes c.args.self.now.form.now.channels
piece_long g c = ap length c.deref_mut.ensures.value ∙ (able g c).room.sound_long

pub read_piece-requires-clause-size : goal.read_piece-requires-clause-size
read_piece-requires-clause-size g c = let can = able g c in (can.bytes, can.known_is, can.inside)

pub read_piece-requires-clause-room : goal.read_piece-requires-clause-room
read_piece-requires-clause-room g c = piece_long g c

pub returns-clause-given : goal.returns-clause-given
returns-clause-given g c =
    let self = c.args.self.now in
    let whole = with_items_is c.args.job.now.sound c.read_piece.new.sound (c.read_piece.ensures.long ∙ c.deref_mut.ensures.len) in
    let room = piece_long g c.before.before.before.before in
    λ given. record {
      same = record {
        lent = refl;
        form_is = refl;
        bytes_are = c.read_piece.ensures.bytes;
        size_is = c.read_piece.ensures.stays;
        loan_is = c.read_piece.ensures.loan;
        later = c.read_piece.ensures.cause.later;
        once = piece_once (g.S.Source.given self.source.now) (g.S.Source.given c.read_piece.new.source) self.form.now.sound.size self.next _ _ room
            c.read_piece.ensures.given;
      };
      next = refl;
      within = omega (arith, c.if-self.false);
      number = refl;
      piece = λ file told. whole ∙ c.in-Ok.ensures.piece file told;
    }

pub returns-in-Err-clause-fault : goal.returns-in-Err-clause-fault
returns-in-Err-clause-fault g c =
    let self = c.args.self.now in
    let room = piece_long g c.before.before.before in
    record {
      same = record {
        lent = refl;
        form_is = refl;
        bytes_are = c.read_piece.ensures.bytes;
        size_is = c.read_piece.ensures.stays;
        loan_is = c.read_piece.ensures.loan;
        later = c.read_piece.ensures.cause.later;
        once = piece_once (g.S.Source.given self.source.now) (g.S.Source.given c.read_piece.new.source) self.form.now.sound.size self.next _ _ room
            c.read_piece.ensures.given;
      };
      rose = c.in-Err.ensures.cause.failed;
    }
