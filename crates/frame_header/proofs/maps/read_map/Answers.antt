-- What is read keeps the rules of a map, so there always is a map of these numbers.
use Rattle.std.proofs.Common.{subst, sym}
use Rattle.dst_num.specs.Map.{IsChannelMap}
use Rattle.frame_header.proofs.Stepping.{there_unless}
use Rattle.frame_header.proofs.ReadMaps.{is_map}
use Rattle.frame_header.proofs.maps.read_map.Goals as goal

pub unwrap-requires : goal.unwrap-requires
unwrap-requires c =
    let items = c.in_ok-elements.elements.items in
    let is = is_map c.args.channels c.args.reader.now c.read_elements.new.reader items c.requires.least c.requires.most c.in_ok-elements.ensures.read in
    there_unless c.new.result (IsChannelMap c.as_slice.result.now) c.new.ensures.none (subst IsChannelMap (sym c.as_slice.ensures.value) is)
