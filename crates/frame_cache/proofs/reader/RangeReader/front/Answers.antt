-- Each sound that is held has the bytes of a frame.
use Rattle.frame_cache.proofs.reader.RangeReader.front.Goals as goal

pub returns-clause-long : goal.returns-clause-long
returns-clause-long c = rw (← c.self.view_is) (c.newest.ensures.long _ _ c.self.invariant.slots)
