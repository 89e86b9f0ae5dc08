-- Lanes.
use Rattle.std.specs.Prelude.{ℕ, ◌+◌, ◌*◌, List, [], ◌∷◌, Option, Some, None, codes}
use Rattle.pat_base.specs.Name.{name_bytes}
use Rattle.pat_base.specs.declared.name.Name.{Name}
use Rattle.run_reading.specs.Runs.{SightText}
use Rattle.svg.specs.Forests.{Forest, beside}
use Rattle.svg.specs.Shapes.{group_tree, label_tree, rect_tree}
use Rattle.svg.specs.declared.paint.Paint.TheVariants as paints
use Rattle.picture.specs.Bars.{bars_tree}
use Rattle.picture.specs.Marks.{marks_tree, no_labels}
use Rattle.picture.specs.declared.band.Band.{Band}
use Rattle.picture.specs.declared.band.Band.TheVariants as bands
use Rattle.picture.specs.declared.frame.TheConstants.{AXIS, LEFT}
use Rattle.picture.specs.declared.lanes.TheConstants.{LANE, TOP}

-- the ground of a lane and its name
unfoldable pub ground_tree : ℕ → List ℕ → Forest
ground_tree y name =
    beside (rect_tree (record { x = LEFT; y = y + 16; width = AXIS; height = 34 }) paints.Ground name)
    (label_tree (record { x = 8; y = y + 30 }) paints.Heading name)

-- the bars of a band in a lane
unfoldable pub band_tree : ℕ → Band → Option ℕ → ℕ → ℕ → List SightText → Forest
band_tree end band lane y height sights =
    bars_tree end (record { band = band; lane = lane; y = y; height = height }) sights

-- the bars of server, key and agent
unfoldable pub bands_tree : ℕ → Option ℕ → ℕ → List SightText → Forest
bands_tree end lane y sights =
    beside (beside (band_tree end bands.Server lane (y + 18) 14 sights)
    (band_tree end bands.Key lane (y + 34) 6 sights))
    (band_tree end bands.Agent lane (y + 42) 6 sights)

-- the marks of a lane
unfoldable pub lane_marks : ℕ → Option ℕ → ℕ → List SightText → Forest
lane_marks end lane y sights = marks_tree end lane y no_labels sights

-- a lane: its ground and its name, its bars and its marks
unfoldable pub lane_tree : ℕ → Option ℕ → ℕ → List ℕ → List SightText → Forest
lane_tree end lane y name sights =
    group_tree (beside (beside (ground_tree y name) (bands_tree end lane y sights)) (lane_marks end lane y sights))

-- where the lane of this number begins, in pixels
abbrev pub lane_y : ℕ → ℕ
lane_y place = TOP + place * LANE

-- a lane for each member from this number on, and one for the commits
abbrev pub lanes_tree : ℕ → ℕ → List Name → List SightText → Forest
lanes_tree end place [] sights = lane_tree end None (lane_y place) (codes "commits") sights
lanes_tree end place (name ∷ names) sights =
    beside (lane_tree end (Some place) (lane_y place) (name_bytes name) sights)
    (lanes_tree end (place + 1) names sights)
