use Rattle.std.proofs.Common.{◌+◌, string_bytes}
use Rattle.svg.proofs.Growing.{grew_by_both}
use Rattle.svg.specs.Forests.{beside}
use Rattle.picture.specs.Lanes.{band_tree, bands_tree}
use Rattle.picture.specs.declared.band.Band.TheVariants.{Server, Key, Agent}
use Rattle.picture.proofs.lanes.push_bands.Goals as goal

pub returns : goal.returns
unfolding bands_tree
returns c =
    let end = c.args.frame.end in
    let lane = c.args.lane in
    let y = c.args.y in
    let sights = c.args.sights.now in
    grew_by_both (string_bytes c.args.out.now) (string_bytes c.push_band-2.new.out) (string_bytes c.push_band-3.new.out)
    (beside (band_tree end Server lane (y + 18) 14 sights) (band_tree end Key lane (y + 34) 6 sights))
    (band_tree end Agent lane (y + 42) 6 sights)
    (grew_by_both (string_bytes c.args.out.now) (string_bytes c.push_band.new.out)
    (string_bytes c.push_band-2.new.out) (band_tree end Server lane (y + 18) 14 sights)
    (band_tree end Key lane (y + 34) 6 sights) c.in_ok-push_band.ensures c.in_ok-push_band-2.ensures)
    c.in_ok-push_band-3.ensures
