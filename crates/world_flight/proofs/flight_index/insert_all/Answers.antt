use Rattle.std.proofs.Common.{◌∙◌, take, get_or}
use Rattle.std.specs.BTreeMap.{is_at}
use Rattle.std.specs.Ordering.{nat_cmp}
use Rattle.std.proofs.lemmas.List.Folds.{list_any_more}
use Rattle.world_flight.specs.FlightIndex.{is_among}
use Rattle.world_flight.proofs.Indexing.{added-out, flip-false, or-false}
use Rattle.world_flight.proofs.flight_index.insert_all.Goals as goal

pub loop-number-preserved : goal.loop-number-preserved
loop-number-preserved c =
    let number = get_or c.args.numbers.now c.loop-number.number-index 0 in
    record {
      grows = λ n none. c.loop-number.invariant.grows n
          (added-out (is_at (nat_cmp number) n) (is_among c.loop-number.moving.keys n)
          (is_among c.insert.new.self.keys n) (c.in_ok-insert.ensures.updates.0 n) none).before;
      all = λ n none.
          let out = added-out (is_at (nat_cmp number) n) (is_among c.loop-number.moving.keys n)
          (is_among c.insert.new.self.keys n) (c.in_ok-insert.ensures.updates.0 n) none in
          list_any_more (is_at (nat_cmp n)) c.args.numbers.now c.loop-number.number-index 0 c.loop-number-test.true
          ∙ or-false (is_among (take c.loop-number.number-index c.args.numbers.now) n)
          (is_at (nat_cmp n) number) (c.loop-number.invariant.all n out.before) (flip-false number n out.other);
    }
